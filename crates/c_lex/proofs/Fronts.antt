-- The piece that is found first stands there.
use Rattle.std.proofs.Common.{◌≡◌, ℕ, ◌-◌, Bool, true, false, not, ◌||◌, eqb, if◌then◌else◌, List, [], ◌∷◌, ◌++◌, length, take, drop, refl, sym, ap, ◌∙◌, subst, append_assoc, Some, None, Option, arith}
use Rattle.std.proofs.Math.Seq.{drop-append_seam}
use Rattle.std.proofs.lemmas.Bool.{and_from, eqb-true}
use Rattle.std.proofs.lemmas.List.{take-append-drop, append-nil}
use Rattle.std.specs.List.{prefix_len}
use Rattle.std.specs.Char.{is_ascii_digit}
use Rattle.cfix_base.specs.Words.{is_name_start, is_name_byte}
use Rattle.c_lex.specs.Bytes.{is_blank, is_line_byte, is_sign}
use Rattle.c_lex.specs.Pieces.{Character, Piece, Blank, LineComment, ClosedComment, UnclosedComment, Identifier, Numeral, Literal, Punctuator, Stray, spelling, is_piece, characters_spelled}
use Rattle.c_lex.specs.Division.{Stands}
use Rattle.c_lex.specs.Reading.{close_at, characters_at, literal_at, comment_at, single_at, pair_at, sign_at, slash_at, piece_at}
use Rattle.c_lex.proofs.Classes.{blank_begins, blank_digit, name_digit}
use Rattle.c_lex.proofs.Runs.{run, run_passes}
use Rattle.c_lex.proofs.Comments.{closes_at, unclosed}
use Rattle.c_lex.proofs.Strings.{characters_sound}

-- the piece stands at the front of a byte and what follows it
abbrev pub Fronts : ℕ → List ℕ → Piece → Type 0
Fronts byte rest piece = Stands piece (byte ∷ rest) (drop (length (spelling piece) - 1) rest) × ((body : List ℕ) × (spelling piece ≡ byte ∷ body))

drop_body : (byte : ℕ) (body tail : List ℕ) → drop (length (byte ∷ body) - 1) (body ++ tail) ≡ tail
drop_body byte body tail = let e : length (byte ∷ body) - 1 ≡ length body = omega arith in rw e (drop-append_seam body tail)

-- a piece of these bytes, where the text goes on with them
fronts : (piece : Piece) (byte : ℕ) (body rest tail : List ℕ) → is_piece piece ≡ true → spelling piece ≡ byte ∷ body → rest ≡ body ++ tail → Fronts byte rest piece
fronts piece byte body rest tail k s r =
    let behind : drop (length (spelling piece) - 1) rest ≡ tail = rw (s, r) (drop_body byte body tail) in
    let parts : byte ∷ rest ≡ spelling piece ++ drop (length (spelling piece) - 1) rest =
    ap (λ (z : List ℕ). byte ∷ z) r ∙ sym (ap (λ (z : List ℕ). z ++ tail) s) ∙ ap (λ (z : List ℕ). spelling piece ++ z) (sym behind) in
    (record { known = k; front = parts }, (body, s))

run_parts : (p : ℕ → Bool) (rest : List ℕ) → rest ≡ run p rest ++ drop (prefix_len p rest) rest
run_parts p rest = sym (take-append-drop (prefix_len p rest) rest)

pub choose : (test : Bool) (P : Piece → Type 0) (x y : Piece) → (test ≡ true → P x) → (test ≡ false → P y) → P (if test then x else y)
choose true P x y f g = f refl
choose false P x y f g = g refl

fronts_literal : (rest : List ℕ) (found : Option (List Character)) → characters_at false rest ≡ found → Fronts 34 rest (literal_at found)
fronts_literal rest None e = fronts (Stray 34) 34 [] rest rest refl refl refl
fronts_literal rest (Some characters) e =
    let s = characters_sound rest false characters e in
    fronts (Literal characters) 34 (characters_spelled characters ++ 34 ∷ []) rest s.tail s.known refl
    (s.parts ∙ sym (append_assoc (characters_spelled characters) (34 ∷ []) s.tail))

fronts_comment : (rest : List ℕ) (found : Option ℕ) → close_at rest ≡ found → Fronts 47 (42 ∷ rest) (comment_at rest found)
fronts_comment rest None e =
    fronts (UnclosedComment rest) 47 (42 ∷ rest) (42 ∷ rest) [] (ap not (unclosed rest e)) refl (sym (append-nil (42 ∷ rest)))
fronts_comment rest (Some n) e =
    let c = closes_at rest n e in
    fronts (ClosedComment (take n rest)) 47 (42 ∷ (take n rest ++ 42 ∷ 47 ∷ [])) (42 ∷ rest) c.tail (ap not c.none) refl
    (ap (λ (z : List ℕ). 42 ∷ z) (c.parts ∙ sym (append_assoc (take n rest) (42 ∷ 47 ∷ []) c.tail)))

fronts_single : (byte : ℕ) (rest : List ℕ) → (is_sign (byte ∷ []) ≡ false → is_piece (Stray byte) ≡ true) → Fronts byte rest (single_at byte)
fronts_single byte rest stray =
    choose (is_sign (byte ∷ [])) (Fronts byte rest) (Punctuator (byte ∷ [])) (Stray byte)
    (λ e. fronts (Punctuator (byte ∷ [])) byte [] rest rest e refl refl)
    (λ e. fronts (Stray byte) byte [] rest rest (stray e) refl refl)

fronts_pair : (byte next : ℕ) (rest : List ℕ) → (is_sign (byte ∷ []) ≡ false → is_piece (Stray byte) ≡ true) → Fronts byte (next ∷ rest) (pair_at byte next)
fronts_pair byte next rest stray =
    choose (is_sign (byte ∷ next ∷ [])) (Fronts byte (next ∷ rest)) (Punctuator (byte ∷ next ∷ [])) (single_at byte)
    (λ e. fronts (Punctuator (byte ∷ next ∷ [])) byte (next ∷ []) (next ∷ rest) rest e refl refl)
    (λ e. fronts_single byte (next ∷ rest) stray)

fronts_sign : (byte : ℕ) (rest : List ℕ) → (is_sign (byte ∷ []) ≡ false → is_piece (Stray byte) ≡ true) → Fronts byte rest (sign_at byte rest)
fronts_sign byte [] stray = fronts_single byte [] stray
fronts_sign byte (next ∷ rest) stray = fronts_pair byte next rest stray

fronts_line : (rest : List ℕ) → Fronts 47 (47 ∷ rest) (LineComment (run is_line_byte rest))
fronts_line rest =
    fronts (LineComment (run is_line_byte rest)) 47 (47 ∷ run is_line_byte rest) (47 ∷ rest) (drop (prefix_len is_line_byte rest) rest)
    (run_passes is_line_byte rest) refl (ap (λ (z : List ℕ). 47 ∷ z) (run_parts is_line_byte rest))

slash_is_sign : is_sign (47 ∷ []) ≡ false → is_piece (Stray 47) ≡ true
slash_is_sign e = cc

fronts_slash : (rest : List ℕ) → Fronts 47 rest (slash_at rest)
fronts_slash [] = fronts_single 47 [] slash_is_sign
fronts_slash (next ∷ rest) =
    choose (eqb next 47) (Fronts 47 (next ∷ rest)) _ _
    (λ e. subst (λ (b : ℕ). Fronts 47 (b ∷ rest) (LineComment (run is_line_byte rest))) (sym (eqb-true next 47 e)) (fronts_line rest))
    (λ no. choose (eqb next 42) (Fronts 47 (next ∷ rest)) _ _
    (λ e. subst (λ (b : ℕ). Fronts 47 (b ∷ rest) (comment_at rest (close_at rest))) (sym (eqb-true next 42 e)) (fronts_comment rest (close_at rest) refl))
    (λ other. fronts_pair 47 next rest slash_is_sign))

fronts_run : (make : List ℕ → Piece) (byte : ℕ) (rest : List ℕ) → ((text : List ℕ) → spelling (make text) ≡ text)
    → is_piece (make (byte ∷ run is_name_byte rest)) ≡ true → Fronts byte rest (make (byte ∷ run is_name_byte rest))
fronts_run make byte rest same known =
    fronts (make (byte ∷ run is_name_byte rest)) byte (run is_name_byte rest) rest (drop (prefix_len is_name_byte rest) rest)
    known (same (byte ∷ run is_name_byte rest)) (run_parts is_name_byte rest)

no_piece : (blank name digit sign : Bool) → blank ≡ false → name ≡ false → digit ≡ false → sign ≡ false → not (((blank || name) || digit) || sign) ≡ true
no_piece blank name digit sign a b c d = rw (a, b, c, d) refl

pub piece_fronts : (byte : ℕ) (rest : List ℕ) → Fronts byte rest (piece_at byte rest)
piece_fronts byte rest =
    choose (is_blank byte) (Fronts byte rest) _ _
    (λ e. fronts (Blank byte) byte [] rest rest e refl refl)
    (λ blank. choose (is_name_start byte) (Fronts byte rest) _ _
    (λ e. fronts_run Identifier byte rest (λ text. refl) (and_from (is_name_start byte) _ e (run_passes is_name_byte rest)))
    (λ name. choose (is_ascii_digit byte) (Fronts byte rest) _ _
    (λ e. fronts_run Numeral byte rest (λ text. refl) (and_from (is_ascii_digit byte) _ e (run_passes is_name_byte rest)))
    (λ digit. choose (eqb byte 34) (Fronts byte rest) _ _
    (λ e. subst (λ (b : ℕ). Fronts b rest (literal_at (characters_at false rest))) (sym (eqb-true byte 34 e)) (fronts_literal rest (characters_at false rest) refl))
    (λ quote. choose (eqb byte 47) (Fronts byte rest) _ _
    (λ e. subst (λ (b : ℕ). Fronts b rest (slash_at rest)) (sym (eqb-true byte 47 e)) (fronts_slash rest))
    (λ slash. fronts_sign byte rest (λ sign. no_piece _ _ _ _ blank name digit sign))))))

-- `piece_at` by its tests
second : (a b : Bool) (x y z : Piece) → a ≡ false → b ≡ true → (if a then x else (if b then y else z)) ≡ y
second a b x y z p q = rw (p, q) refl

third : (a b c : Bool) (w x y z : Piece) → a ≡ false → b ≡ false → c ≡ true → (if a then w else (if b then x else (if c then y else z))) ≡ y
third a b c w x y z p q r = rw (p, q, r) refl

pub at_name : (byte : ℕ) (rest : List ℕ) → is_name_start byte ≡ true → piece_at byte rest ≡ Identifier (byte ∷ run is_name_byte rest)
at_name byte rest e = second (is_blank byte) (is_name_start byte) _ _ _ (blank_begins byte e) e

pub at_digit : (byte : ℕ) (rest : List ℕ) → is_ascii_digit byte ≡ true → piece_at byte rest ≡ Numeral (byte ∷ run is_name_byte rest)
at_digit byte rest e = third (is_blank byte) (is_name_start byte) (is_ascii_digit byte) _ _ _ _ (blank_digit byte e) (name_digit byte e) e
