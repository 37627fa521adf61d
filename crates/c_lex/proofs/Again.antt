-- A piece that is spelled in front of a text is found again, where the text does not go on with it:
-- what a printer of tokens rests on.
use Rattle.std.proofs.Common.{◌≡◌, ℕ, Bool, true, false, not, ◌||◌, eqb, if◌then◌else◌, List, [], ◌∷◌, ◌++◌, refl, sym, ap, ◌∙◌, append_assoc}
use Rattle.std.proofs.lemmas.Bool.{and_parts, or_parts, eqb-true}
use Rattle.std.proofs.lemmas.List.{append-nil}
use Rattle.std.specs.List.{list_all}
use Rattle.std.specs.Char.{is_ascii_digit}
use Rattle.cfix_base.specs.Words.{is_name_start, is_name_byte, is_identifier}
use Rattle.c_lex.specs.Bytes.{is_blank, is_sign, is_numeral}
use Rattle.c_lex.specs.Pieces.{Character, Piece, Blank, Identifier, Numeral, Literal, Punctuator, spelling, is_piece, is_character, characters_spelled}
use Rattle.c_lex.specs.Reading.{characters_at, literal_at, single_at, pair_at, sign_at, slash_at, piece_at, pieces_at}
use Rattle.c_lex.proofs.Classes.{is_other, is_no_comment, sign_form, Other, other}
use Rattle.c_lex.proofs.Runs.{run, run-append, run-no}
use Rattle.c_lex.proofs.Strings.{characters_at-spelled}
use Rattle.c_lex.proofs.Fronts.{at_name, at_digit}
use Rattle.c_lex.proofs.Longest.{first, third, at_other, no_slash}
use Rattle.c_lex.proofs.Divisions.{one_turn}

-- the piece is the first of the text
abbrev pub IsFirst : Piece → List ℕ → Type 0
IsFirst piece [] = ⊥
IsFirst piece (byte ∷ rest) = piece_at byte rest ≡ piece

again_by : (piece : Piece) (text rest : List ℕ) → text ≡ spelling piece ++ rest → is_piece piece ≡ true → IsFirst piece text → pieces_at 0 text ≡ piece ∷ pieces_at 0 rest
again_by piece [] rest e known f = absurd f
again_by piece (byte ∷ tail) rest e known f = sym (one_turn byte tail piece (pieces_at 0 rest) rest (record { known = known; front = e }) (sym f) refl)

-- the pieces of a text that begins with a piece
pub again : (piece : Piece) (rest : List ℕ) → is_piece piece ≡ true → IsFirst piece (spelling piece ++ rest) → pieces_at 0 (spelling piece ++ rest) ≡ piece ∷ pieces_at 0 rest
again piece rest known f = again_by piece (spelling piece ++ rest) rest refl known f

pub blank_first : (byte : ℕ) (rest : List ℕ) → is_blank byte ≡ true → IsFirst (Blank byte) (byte ∷ rest)
blank_first byte rest e = first (is_blank byte) _ _ e

abbrev pub begins_by : (ℕ → Bool) → List ℕ → Bool
begins_by p [] = false
begins_by p (byte ∷ rest) = p byte

run_none : (p : ℕ → Bool) (rest : List ℕ) → begins_by p rest ≡ false → run p rest ≡ []
run_none p [] h = refl
run_none p (byte ∷ rest) h = run-no p byte rest h

run_stops : (p : ℕ → Bool) (body rest : List ℕ) → list_all p body ≡ true → begins_by p rest ≡ false → run p (body ++ rest) ≡ body
run_stops p body rest h g = run-append p body rest h ∙ ap (λ (z : List ℕ). body ++ z) (run_none p rest g) ∙ append-nil body

pub identifier_first : (text rest : List ℕ) → is_identifier text ≡ true → begins_by is_name_byte rest ≡ false → IsFirst (Identifier text) (text ++ rest)
identifier_first [] rest h g = cc
identifier_first (byte ∷ body) rest h g =
    let hs = and_parts (is_name_start byte) (list_all is_name_byte body) h in
    at_name byte (body ++ rest) hs.0 ∙ ap (λ (z : List ℕ). Identifier (byte ∷ z)) (run_stops is_name_byte body rest hs.1 g)

pub numeral_first : (text rest : List ℕ) → is_numeral text ≡ true → begins_by is_name_byte rest ≡ false → IsFirst (Numeral text) (text ++ rest)
numeral_first [] rest h g = cc
numeral_first (byte ∷ body) rest h g =
    let hs = and_parts (is_ascii_digit byte) (list_all is_name_byte body) h in
    at_digit byte (body ++ rest) hs.0 ∙ ap (λ (z : List ℕ). Numeral (byte ∷ z)) (run_stops is_name_byte body rest hs.1 g)

pub literal_first : (characters : List Character) (rest : List ℕ) → list_all is_character characters ≡ true → IsFirst (Literal characters) (spelling (Literal characters) ++ rest)
literal_first characters rest h =
    let text = append_assoc (characters_spelled characters) (34 ∷ []) rest in
    ap (λ (z : List ℕ). literal_at (characters_at false z)) text ∙ ap literal_at (characters_at-spelled characters rest h)

by_slash : (byte next : ℕ) (rest : List ℕ) (test : Bool) → eqb byte 47 ≡ test → is_no_comment byte next ≡ true
    → (if test then slash_at (next ∷ rest) else sign_at byte (next ∷ rest)) ≡ pair_at byte next
by_slash byte next rest true e n =
    let none = no_slash byte next n e in
    third (eqb next 47) (eqb next 42) _ _ _ none.0 none.1 ∙ ap (λ (b : ℕ). pair_at b next) (sym (eqb-true byte 47 e))
by_slash byte next rest false e n = refl

pair_first : (byte next : ℕ) (rest : List ℕ) → Other byte → is_no_comment byte next ≡ true → piece_at byte (next ∷ rest) ≡ pair_at byte next
pair_first byte next rest o n = at_other byte (next ∷ rest) o ∙ by_slash byte next rest (eqb byte 47) refl n

-- a sign of two bytes stands whatever follows it
pub two_first : (byte next : ℕ) (rest : List ℕ) → is_sign (byte ∷ next ∷ []) ≡ true → IsFirst (Punctuator (byte ∷ next ∷ [])) (byte ∷ next ∷ rest)
two_first byte next rest s =
    let form = and_parts (is_other byte) (is_no_comment byte next) (sign_form (byte ∷ next ∷ []) s) in
    pair_first byte next rest (other byte form.0) form.1 ∙ first (is_sign (byte ∷ next ∷ [])) _ _ s

-- the text goes on with a longer sign, or makes a comment of a `/`
abbrev pub goes_on : ℕ → List ℕ → Bool
goes_on byte [] = false
goes_on byte (next ∷ rest) = is_sign (byte ∷ next ∷ []) || not (is_no_comment byte next)

alone : (byte : ℕ) (test : Bool) → eqb byte 47 ≡ test → (if test then slash_at [] else sign_at byte []) ≡ single_at byte
alone byte true e = ap single_at (sym (eqb-true byte 47 e))
alone byte false e = refl

not_false : (b : Bool) → not b ≡ false → b ≡ true
not_false true e = refl
not_false false e = cc

else_part : (test : Bool) (x y : Piece) → test ≡ false → (if test then x else y) ≡ y
else_part test x y e = rw e refl

pub one_first : (byte : ℕ) (rest : List ℕ) → is_sign (byte ∷ []) ≡ true → goes_on byte rest ≡ false → IsFirst (Punctuator (byte ∷ [])) (byte ∷ rest)
one_first byte [] s g = at_other byte [] (other byte (sign_form (byte ∷ []) s)) ∙ alone byte (eqb byte 47) refl ∙ first (is_sign (byte ∷ [])) _ _ s
one_first byte (next ∷ rest) s g =
    let parts = or_parts (is_sign (byte ∷ next ∷ [])) (not (is_no_comment byte next)) g in
    pair_first byte next rest (other byte (sign_form (byte ∷ []) s)) (not_false (is_no_comment byte next) parts.1)
    ∙ else_part (is_sign (byte ∷ next ∷ [])) _ _ parts.0 ∙ first (is_sign (byte ∷ [])) _ _ s
