-- Strings as they are written and read.
use Rattle.std.proofs.Common.{◌≡◌, ℕ, eqb, Bool, true, false, List, [], ◌∷◌, ◌++◌, map, refl, ap, sym, ◌∙◌, arith, if◌then◌else◌}
use Rattle.std.proofs.lemmas.Bool.{and_parts, eqb-true}
use Rattle.std.proofs.lemmas.Bool.Decides.{nat_tests}
use Rattle.std.specs.List.{list_all}
use Rattle.c_lex.specs.Bytes.{is_plain}
use Rattle.c_lex.specs.Pieces.{Character, Plain, Escape, characters_spelled, is_character}
use Rattle.c_lex.specs.Meaning.{character_value}
use Rattle.c_prog.specs.Order.{joined}
use Rattle.c_prog.specs.Valid.Strings.{is_string_byte, is_string}
use Rattle.c_print.specs.Text.Pieces.{escaped}
use Rattle.print_law.proofs.Apart.{both}

-- the character that a byte is written as
abbrev character_by : Bool → Bool → Bool → Bool → ℕ → Character
character_by true tab slash quote byte = Escape 110
character_by false true slash quote byte = Escape 116
character_by false false true quote byte = Escape 92
character_by false false false true byte = Escape 34
character_by false false false false byte = Plain byte

abbrev character_of : ℕ → Character
character_of byte = character_by (eqb byte 10) (eqb byte 9) (eqb byte 92) (eqb byte 34) byte

abbrev pub characters_of : List ℕ → List Character
characters_of bytes = map character_of bytes

spelled-by : (feed tab slash quote : Bool) (byte : ℕ)
    → (if feed then 92 ∷ 110 ∷ [] else (if tab then 92 ∷ 116 ∷ [] else (if slash then 92 ∷ 92 ∷ [] else (if quote then 92 ∷ 34 ∷ [] else byte ∷ []))))
    ≡ characters_spelled (character_by feed tab slash quote byte ∷ [])
spelled-by true tab slash quote byte = refl
spelled-by false true slash quote byte = refl
spelled-by false false true quote byte = refl
spelled-by false false false true byte = refl
spelled-by false false false false byte = refl

one-more : (c : Character) (cs : List Character) → characters_spelled (c ∷ cs) ≡ characters_spelled (c ∷ []) ++ characters_spelled cs
one-more (Plain byte) cs = refl
one-more (Escape byte) cs = refl

pub quote-spelled : (bytes : List ℕ) → joined (map escaped bytes) ≡ characters_spelled (characters_of bytes)
quote-spelled [] = refl
quote-spelled (byte ∷ more) =
    ap (λ z. z ++ joined (map escaped more)) (spelled-by (eqb byte 10) (eqb byte 9) (eqb byte 92) (eqb byte 34) byte)
    ∙ ap (λ z. characters_spelled (character_of byte ∷ []) ++ z) (quote-spelled more)
    ∙ sym (one-more (character_of byte) (characters_of more))

plain-rest : (byte : ℕ) → is_string_byte byte ≡ true → eqb byte 10 ≡ false → eqb byte 9 ≡ false → eqb byte 92 ≡ false → eqb byte 34 ≡ false → is_plain byte ≡ true
plain-rest byte h a b c d = grind (arith, nat_tests)

known-by : (feed tab slash quote : Bool) (byte : ℕ) → is_string_byte byte ≡ true → eqb byte 10 ≡ feed → eqb byte 9 ≡ tab → eqb byte 92 ≡ slash → eqb byte 34 ≡ quote
    → is_character (character_by feed tab slash quote byte) ≡ true
known-by true tab slash quote byte h a b c d = refl
known-by false true slash quote byte h a b c d = refl
known-by false false true quote byte h a b c d = refl
known-by false false false true byte h a b c d = refl
known-by false false false false byte h a b c d = plain-rest byte h a b c d

pub quote-known : (bytes : List ℕ) → is_string bytes ≡ true → list_all is_character (characters_of bytes) ≡ true
quote-known [] h = refl
quote-known (byte ∷ more) h =
    let hs = and_parts (is_string_byte byte) (is_string more) h in
    both _ _ (known-by (eqb byte 10) (eqb byte 9) (eqb byte 92) (eqb byte 34) byte hs.0 refl refl refl refl) (quote-known more hs.1)

value-by : (feed tab slash quote : Bool) (byte : ℕ) → eqb byte 10 ≡ feed → eqb byte 9 ≡ tab → eqb byte 92 ≡ slash → eqb byte 34 ≡ quote
    → character_value (character_by feed tab slash quote byte) ≡ byte
value-by true tab slash quote byte a b c d = sym (eqb-true byte 10 a)
value-by false true slash quote byte a b c d = sym (eqb-true byte 9 b)
value-by false false true quote byte a b c d = sym (eqb-true byte 92 c)
value-by false false false true byte a b c d = sym (eqb-true byte 34 d)
value-by false false false false byte a b c d = refl

pub quote-value : (bytes : List ℕ) → map character_value (characters_of bytes) ≡ bytes
quote-value [] = refl
quote-value (byte ∷ more) =
    ap (λ z. z ∷ map character_value (characters_of more)) (value-by (eqb byte 10) (eqb byte 9) (eqb byte 92) (eqb byte 34) byte refl refl refl refl)
    ∙ ap (λ z. byte ∷ z) (quote-value more)
