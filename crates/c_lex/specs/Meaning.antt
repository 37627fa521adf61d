use Rattle.std.specs.Prelude.{ℕ, ◌+◌, ◌-◌, ◌*◌, Bool, false, not, ◌&&◌, eqb, leb, if◌then◌else◌, pos, List, [], ◌∷◌, map}
use Rattle.std.specs.List.{list_all}
use Rattle.std.specs.Char.{is_ascii_digit}
use Rattle.cfix_base.specs.Words.{is_word_text}
use Rattle.c_lex.specs.declared.token.Kind.{Kind}
use Rattle.c_lex.specs.declared.token.Kind.TheVariants.{Name, Word, Number, Quoted, Sign}
use Rattle.c_lex.specs.declared.fault.Refusal.{Refusal}
use Rattle.c_lex.specs.declared.fault.Refusal.TheVariants.{BadByte, OpenComment, BadString, BadNumber}
use Rattle.c_lex.specs.Pieces.{Character, Plain, Escape, Piece, Blank, LineComment, ClosedComment, UnclosedComment, Identifier, Numeral, Literal, Punctuator, Stray}

-- the byte that stands for a character: `\n` is a line feed and `\t` a tab
-- (6.4.4.4 of ISO/IEC 9899:2011)
abbrev pub character_value : Character → ℕ
character_value (Plain byte) = byte
character_value (Escape byte) = (if eqb byte 110 then 10 else (if eqb byte 116 then 9 else byte))

-- the number that decimal digits write behind those of `front` (6.4.4.1 of ISO/IEC 9899:2011)
abbrev pub decimal_after : ℕ → List ℕ → ℕ
decimal_after front [] = front
decimal_after front (digit ∷ rest) = decimal_after (10 * front + (digit - 48)) rest

-- the number that decimal digits write
abbrev pub decimal : List ℕ → ℕ
decimal text = decimal_after 0 text

-- a 0 leads further digits
abbrev pub has_leading_zero : List ℕ → Bool
has_leading_zero [] = false
has_leading_zero (digit ∷ []) = false
has_leading_zero (digit ∷ next ∷ rest) = eqb digit 48

-- decimal digits alone, of a value of at most 2147483647
abbrev pub is_value : List ℕ → Bool
is_value text = list_all is_ascii_digit text && leb (decimal text) 2147483647

-- a number that is read: no 0 leads other digits
abbrev pub is_number : List ℕ → Bool
is_number text = not (has_leading_zero text) && is_value text

-- what a piece says: nothing, a token, or why it is refused
pub data Verdict : Type 0 where
  Between : Verdict
  Counts : Kind → Verdict
  Refuses : Refusal → Verdict

-- an unclosed comment, a number that is not read and a byte that begins nothing are refused; where
-- that byte is a `"`, no string stands at it
abbrev pub verdict : Piece → Verdict
verdict (Blank byte) = Between
verdict (LineComment body) = Between
verdict (ClosedComment body) = Between
verdict (UnclosedComment body) = Refuses OpenComment
verdict (Identifier text) = Counts (if is_word_text text then Word text else Name text)
verdict (Numeral text) = (if is_number text then Counts (Number (pos (decimal text))) else Refuses BadNumber)
verdict (Literal characters) = Counts (Quoted (map character_value characters))
verdict (Punctuator text) = Counts (Sign text)
verdict (Stray byte) = Refuses (if eqb byte 34 then BadString else BadByte)
