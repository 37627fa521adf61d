-- The text of an input.
use Rattle.std.specs.Prelude.{◌≡◌, ℕ, suc, ◌==◌, Bool, not, ◌||◌, if◌then◌else◌, nat_lt, length, List, [], ◌∷◌, ◌++◌, ℤ, pos, negsuc, ◌≤ℤ◌}
use Rattle.std.specs.List.{filter}
use Rattle.std.specs.Str.Parse.{IsNumeral, without_leading_sign, signed_digits_value}
use Rattle.sched_text.specs.declared.input_reader.InputFault.{InputFault}
use Rattle.sched_text.specs.declared.input_reader.InputFault.TheVariants.{NoMemory, BadNumber}

-- space, tab, line feed and carriage return
abbrev pub is_blank : ℕ → Bool
is_blank byte = byte == 32 || byte == 9 || byte == 10 || byte == 13

-- a byte of a word
abbrev pub is_in_word : ℕ → Bool
is_in_word byte = not (is_blank byte)

-- the bytes of a word or of another piece of a text, and the byte at which it begins
pub record Word : Type 0 where
  pub start : ℕ
  pub bytes : List ℕ

-- the pieces of a text that begins with a byte of its first piece, from those of the rest
abbrev pub with_byte : ℕ → ℕ → List Word → List Word
with_byte start byte [] = []
with_byte start byte (piece ∷ more) = record { start = start; bytes = byte ∷ piece.bytes } ∷ more

-- the pieces that the blanks of a text leave, where the text begins at byte `start`
abbrev pub pieces : ℕ → List ℕ → List Word
pieces start [] = record { start = start; bytes = [] } ∷ []
pieces start (byte ∷ rest) =
    if is_in_word byte then with_byte start byte (pieces (suc start) rest)
    else record { start = start; bytes = [] } ∷ pieces (suc start) rest

abbrev pub has_bytes : Word → Bool
has_bytes piece = nat_lt 0 (length piece.bytes)

-- the words of a text that begins at byte `start`: the pieces that are not empty
abbrev pub words_from : ℕ → List ℕ → List Word
words_from start text = filter has_bytes (pieces start text)

abbrev pub words : List ℕ → List Word
words text = words_from 0 text

-- an optional sign and one digit or more, which write a value of 32 bits
pub record IsNumber (word : List ℕ) (value : ℤ) : Type 0 where
  pub digits : IsNumeral 10 (without_leading_sign word)
  pub writes : value ≡ signed_digits_value 10 word
  pub low : negsuc 2147483647 ≤ℤ value
  pub high : value ≤ℤ pos 2147483647

abbrev pub IsMalformedWord : List ℕ → Type 0
IsMalformedWord word = (value : ℤ) → IsNumber word value → ⊥

-- each word writes the value at its place
abbrev pub AreNumbers : List Word → List ℤ → Type 0
AreNumbers [] [] = Unit {0}
AreNumbers [] (value ∷ values) = ⊥
AreNumbers (word ∷ words) [] = ⊥
AreNumbers (word ∷ words) (value ∷ values) = IsNumber word.bytes value × AreNumbers words values

-- a text is read as these values
abbrev pub SpellsInput : List ℕ → List ℤ → Type 0
SpellsInput text values = AreNumbers (words text) values

-- the first malformed word begins at byte `start`
pub record IsFirstBadWord (text : List ℕ) (start : ℕ) : Type 0 where
  pub good : List Word
  pub values : List ℤ
  pub bad : Word
  pub more : List Word
  pub words : words text ≡ good ++ bad ∷ more
  pub numbers : AreNumbers good values
  pub malformed : IsMalformedWord bad.bytes
  pub begins : start ≡ bad.start

-- why a text of an input is not read
abbrev pub ExplainsInputFault : List ℕ → InputFault → Type 0
ExplainsInputFault text NoMemory = Unit {0}
ExplainsInputFault text (BadNumber start) = IsFirstBadWord text start
