-- The characters of a string are those that are spelled, and no others.
use Rattle.std.proofs.Common.{◌≡◌, ℕ, Bool, true, false, eqb, if◌then◌else◌, List, [], ◌∷◌, ◌++◌, refl, ap, ◌∙◌, subst, Some, None, Option, arith}
use Rattle.std.proofs.lemmas.Bool.{and_parts, and_from, eqb-true}
use Rattle.std.proofs.lemmas.Bool.Decides.{nat_tests}
use Rattle.std.specs.List.{list_all}
use Rattle.std.specs.Option.{option_map}
use Rattle.c_lex.specs.declared.literal.Part.{Part}
use Rattle.c_lex.specs.declared.literal.Part.TheVariants.{Close, Backslash, Value, Bad}
use Rattle.c_lex.specs.Bytes.{is_plain, is_escape}
use Rattle.c_lex.specs.Pieces.{Character, Plain, Escape, characters_spelled, is_character}
use Rattle.c_lex.specs.Reading.{part_at, value_at, characters_by, characters_at}

plain_no_quote : (byte : ℕ) → is_plain byte ≡ true → eqb byte 34 ≡ false
plain_no_quote byte h = grind (arith, nat_tests)

plain_no_backslash : (byte : ℕ) → is_plain byte ≡ true → eqb byte 92 ≡ false
plain_no_backslash byte h = grind (arith, nat_tests)

third : (quote backslash plain : Bool) (part : Part) → quote ≡ false → backslash ≡ false → plain ≡ true
    → (if quote then Close else (if backslash then Backslash else (if plain then part else Bad))) ≡ part
third quote backslash plain part a b c = rw (a, b, c) refl

part_plain : (byte : ℕ) → is_plain byte ≡ true → part_at false byte ≡ Value byte
part_plain byte h = third (eqb byte 34) (eqb byte 92) (is_plain byte) (Value byte) (plain_no_quote byte h) (plain_no_backslash byte h) h

part_escape : (byte : ℕ) → is_escape byte ≡ true → part_at true byte ≡ value_at true byte
part_escape byte h = rw h refl

-- characters that are spelled and closed are read
pub characters_at-spelled : (characters : List Character) (after : List ℕ) → list_all is_character characters ≡ true
    → characters_at false (characters_spelled characters ++ 34 ∷ after) ≡ Some characters
characters_at-spelled [] after h = refl
characters_at-spelled (Plain byte ∷ characters) after h =
    let hs = and_parts (is_plain byte) (list_all is_character characters) h in
    ap (λ (p : Part). characters_by p (Plain byte) (λ next. characters_at next (characters_spelled characters ++ 34 ∷ after))) (part_plain byte hs.0)
    ∙ ap (option_map (λ more. Plain byte ∷ more)) (characters_at-spelled characters after hs.1)
characters_at-spelled (Escape byte ∷ characters) after h =
    let hs = and_parts (is_escape byte) (list_all is_character characters) h in
    ap (λ (p : Part). characters_by p (Escape byte) (λ next. characters_at next (characters_spelled characters ++ 34 ∷ after))) (part_escape byte hs.0)
    ∙ ap (option_map (λ more. Escape byte ∷ more)) (characters_at-spelled characters after hs.1)

abbrev pub lead : Bool → List ℕ
lead true = 92 ∷ []
lead false = []

-- what is read is spelled, and closed
pub record Spelled (escaped : Bool) (text : List ℕ) (characters : List Character) : Type 0 where
  pub tail : List ℕ
  pub parts : lead escaped ++ text ≡ characters_spelled characters ++ 34 ∷ tail
  pub known : list_all is_character characters ≡ true

abbrev Sound : Bool → List ℕ → Type 0
Sound escaped text = (characters : List Character) → characters_at escaped text ≡ Some characters → Spelled escaped text characters

more_escape : (byte : ℕ) (rest : List ℕ) (characters : List Character) → is_escape byte ≡ true → Spelled false rest characters → Spelled true (byte ∷ rest) (Escape byte ∷ characters)
more_escape byte rest characters e s = record {
  tail = s.tail;
  parts = ap (λ (z : List ℕ). 92 ∷ byte ∷ z) s.parts;
  known = and_from (is_escape byte) (list_all is_character characters) e s.known;
}

more_plain : (byte : ℕ) (rest : List ℕ) (characters : List Character) → is_plain byte ≡ true → Spelled false rest characters → Spelled false (byte ∷ rest) (Plain byte ∷ characters)
more_plain byte rest characters e s = record {
  tail = s.tail;
  parts = ap (λ (z : List ℕ). byte ∷ z) s.parts;
  known = and_from (is_plain byte) (list_all is_character characters) e s.known;
}

more_backslash : (byte : ℕ) (rest : List ℕ) (characters : List Character) → eqb byte 92 ≡ true → Spelled true rest characters → Spelled false (byte ∷ rest) characters
more_backslash byte rest characters e s = record {
  tail = s.tail;
  parts = ap (λ (b : ℕ). b ∷ rest) (eqb-true byte 92 e) ∙ s.parts;
  known = s.known;
}

closed : (byte : ℕ) (rest : List ℕ) → eqb byte 34 ≡ true → Spelled false (byte ∷ rest) []
closed byte rest e = record { tail = rest; parts = ap (λ (b : ℕ). b ∷ rest) (eqb-true byte 34 e); known = refl }

after_found : (made : Character) (escaped : Bool) (byte : ℕ) (rest : List ℕ) (o : Option (List Character)) → characters_at false rest ≡ o → (characters : List Character)
    → ((more : List Character) → characters_at false rest ≡ Some more → Spelled escaped (byte ∷ rest) (made ∷ more))
    → option_map (λ more. made ∷ more) o ≡ Some characters → Spelled escaped (byte ∷ rest) characters
after_found made escaped byte rest None e characters make g = cc
after_found made escaped byte rest (Some more) e characters make g =
    let same : made ∷ more ≡ characters = cc in
    subst (λ (z : List Character). Spelled escaped (byte ∷ rest) z) same (make more e)

escape_case : (byte : ℕ) (rest : List ℕ) (test : Bool) → is_escape byte ≡ test → Sound false rest → (characters : List Character)
    → characters_by (if test then value_at true byte else Bad) (Escape byte) (λ next. characters_at next rest) ≡ Some characters → Spelled true (byte ∷ rest) characters
escape_case byte rest true e more characters h =
    after_found (Escape byte) true byte rest (characters_at false rest) refl characters (λ cs g. more_escape byte rest cs e (more cs g)) h
escape_case byte rest false e more characters h = cc

plain_case : (byte : ℕ) (rest : List ℕ) (quote backslash plain : Bool) → eqb byte 34 ≡ quote → eqb byte 92 ≡ backslash → is_plain byte ≡ plain
    → Sound false rest → Sound true rest → (characters : List Character)
    → characters_by (if quote then Close else (if backslash then Backslash else (if plain then value_at false byte else Bad))) (Plain byte) (λ next. characters_at next rest) ≡ Some characters
    → Spelled false (byte ∷ rest) characters
plain_case byte rest true backslash plain q b p more behind characters h =
    let same : [] ≡ characters = cc in
    subst (λ (z : List Character). Spelled false (byte ∷ rest) z) same (closed byte rest q)
plain_case byte rest false true plain q b p more behind characters h = more_backslash byte rest characters b (behind characters h)
plain_case byte rest false false true q b p more behind characters h =
    after_found (Plain byte) false byte rest (characters_at false rest) refl characters (λ cs g. more_plain byte rest cs p (more cs g)) h
plain_case byte rest false false false q b p more behind characters h = cc

pub characters_sound : (text : List ℕ) (escaped : Bool) → Sound escaped text
characters_sound [] escaped characters h = cc
characters_sound (byte ∷ rest) true characters h =
    escape_case byte rest (is_escape byte) refl (characters_sound rest false) characters h
characters_sound (byte ∷ rest) false characters h =
    plain_case byte rest (eqb byte 34) (eqb byte 92) (is_plain byte) refl refl refl (characters_sound rest false) (characters_sound rest true) characters h
