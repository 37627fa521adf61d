-- A piece that stands at the front of a text is the one that is found first, or shorter than it.
use Rattle.std.proofs.Common.{◌≡◌, ℕ, ◌+◌, ◌<◌, ◌≤◌, Bool, true, false, ◌&&◌, ◌||◌, inl, inr, ◌⊎◌, eqb, if◌then◌else◌, List, [], ◌∷◌, ◌++◌, length, length-append, take, refl, sym, ap, ◌∙◌, subst, append_assoc, Some, None, Option, arith}
use Rattle.std.proofs.Math.Seq.{take-append_seam}
use Rattle.std.proofs.lemmas.Bool.{and_parts, or_parts, not-true, eqb-true, true≢false}
use Rattle.std.proofs.lemmas.List.{length-take-le}
use Rattle.std.specs.List.{list_all}
use Rattle.std.specs.Char.{is_ascii_digit}
use Rattle.cfix_base.specs.Words.{is_name_start, is_name_byte}
use Rattle.c_lex.specs.Bytes.{is_blank, is_line_byte, is_sign, holds_close}
use Rattle.c_lex.specs.Pieces.{Character, Piece, Blank, LineComment, ClosedComment, UnclosedComment, Identifier, Numeral, Literal, Punctuator, Stray, spelling, is_piece, characters_spelled}
use Rattle.c_lex.specs.Reading.{close_at, characters_at, literal_at, comment_at, single_at, pair_at, sign_at, slash_at, piece_at}
use Rattle.c_lex.proofs.Classes.{is_other, is_no_comment, sign_form, Other, other}
use Rattle.c_lex.proofs.Runs.{run, run_or_longer, longer}
use Rattle.c_lex.proofs.Comments.{close_at-body, close_at-late, close_at-room}
use Rattle.c_lex.proofs.Strings.{characters_at-spelled}
use Rattle.c_lex.proofs.Fronts.{choose, at_name, at_digit}

-- the other piece is this one, or longer
abbrev pub Yields : Piece → Piece → Type 0
Yields piece found = (piece ≡ found) ⊎ (length (spelling piece) < length (spelling found))

abbrev pub YieldsAt : Piece → List ℕ → Type 0
YieldsAt piece [] = ⊥
YieldsAt piece (byte ∷ rest) = Yields piece (piece_at byte rest)

pub first : (a : Bool) (x y : Piece) → a ≡ true → (if a then x else y) ≡ x
first a x y p = rw p refl

yields_blank : (byte : ℕ) (rest : List ℕ) → is_blank byte ≡ true → Yields (Blank byte) (piece_at byte rest)
yields_blank byte rest e = inl (sym (first (is_blank byte) _ _ e))

yields_line : (body rest : List ℕ) → list_all is_line_byte body ≡ true → Yields (LineComment body) (LineComment (run is_line_byte (body ++ rest)))
yields_line body rest h = elim (run_or_longer is_line_byte body rest h) [ inl same ↦ inl (ap LineComment same) | inr less ↦ inr (omega arith) ]

yields_closed : (body rest : List ℕ) → holds_close body ≡ false → Yields (ClosedComment body) (piece_at 47 (42 ∷ ((body ++ 42 ∷ 47 ∷ []) ++ rest)))
yields_closed body rest h =
    let text : (body ++ 42 ∷ 47 ∷ []) ++ rest ≡ body ++ 42 ∷ 47 ∷ rest = append_assoc body (42 ∷ 47 ∷ []) rest in
    let found : comment_at (body ++ 42 ∷ 47 ∷ rest) (close_at (body ++ 42 ∷ 47 ∷ rest)) ≡ ClosedComment body =
    ap (λ (o : Option ℕ). comment_at (body ++ 42 ∷ 47 ∷ rest) o) (close_at-body body rest h) ∙ ap ClosedComment (take-append_seam body (42 ∷ 47 ∷ rest)) in
    inl (sym (ap (λ (z : List ℕ). comment_at z (close_at z)) text ∙ found))

yields_unclosed : (body rest : List ℕ) (found : Option ℕ) → holds_close body ≡ false → close_at (body ++ rest) ≡ found → Yields (UnclosedComment body) (comment_at (body ++ rest) found)
yields_unclosed body rest None h e = elim (longer body rest) [ inl same ↦ inl (ap UnclosedComment same) | inr less ↦ inr (omega arith) ]
yields_unclosed body rest (Some n) h e =
    let room = close_at-room (body ++ rest) n e in
    let within : n ≤ length (body ++ rest) = omega (arith, room) in
    let late = close_at-late body rest n h e in
    let size : length (take n (body ++ rest) ++ 42 ∷ 47 ∷ []) ≡ n + 2 = length-append (take n (body ++ rest)) (42 ∷ 47 ∷ []) ∙ rw (length-take-le n (body ++ rest) within) refl in
    inr (omega (arith, size, late))

yields_run : (make : List ℕ → Piece) (byte : ℕ) (body rest : List ℕ) → ((text : List ℕ) → spelling (make text) ≡ text) → list_all is_name_byte body ≡ true
    → Yields (make (byte ∷ body)) (make (byte ∷ run is_name_byte (body ++ rest)))
yields_run make byte body rest same h =
    let sizes = λ (text : List ℕ). ap (λ (z : List ℕ). length z) (same text) in
    elim (run_or_longer is_name_byte body rest h) [
      | inl e ↦ inl (ap (λ (z : List ℕ). make (byte ∷ z)) e)
      | inr less ↦ inr (omega (arith, sizes (byte ∷ body), sizes (byte ∷ run is_name_byte (body ++ rest))))
    ]

yields_literal : (characters : List Character) (rest : List ℕ) → is_piece (Literal characters) ≡ true
    → Yields (Literal characters) (piece_at 34 ((characters_spelled characters ++ 34 ∷ []) ++ rest))
yields_literal characters rest h =
    let text = append_assoc (characters_spelled characters) (34 ∷ []) rest in
    inl (sym (ap (λ (z : List ℕ). literal_at (characters_at false z)) text ∙ ap literal_at (characters_at-spelled characters rest h)))

fifth : (a b c d e : Bool) (u v w x y z : Piece) → a ≡ false → b ≡ false → c ≡ false → d ≡ false
    → (if a then u else (if b then v else (if c then w else (if d then x else (if e then y else z))))) ≡ (if e then y else z)
fifth a b c d e u v w x y z p q r s = rw (p, q, r, s) refl

pub at_other : (byte : ℕ) (rest : List ℕ) → Other byte → piece_at byte rest ≡ (if eqb byte 47 then slash_at rest else sign_at byte rest)
at_other byte rest o = fifth (is_blank byte) (is_name_start byte) (is_ascii_digit byte) (eqb byte 34) (eqb byte 47) _ _ _ _ _ _ o.blank o.name o.digit o.quote

along : (piece x y : Piece) → x ≡ y → Yields piece y → Yields piece x
along piece x y e h = subst (λ (z : Piece). Yields piece z) (sym e) h

-- a sign of one byte
yields_single : (byte : ℕ) → is_sign (byte ∷ []) ≡ true → Yields (Punctuator (byte ∷ [])) (single_at byte)
yields_single byte s = inl (sym (first (is_sign (byte ∷ [])) _ _ s))

yields_pair : (byte next : ℕ) → is_sign (byte ∷ []) ≡ true → Yields (Punctuator (byte ∷ [])) (pair_at byte next)
yields_pair byte next s =
    choose (is_sign (byte ∷ next ∷ [])) (Yields (Punctuator (byte ∷ []))) _ _ (λ e. inr (omega arith)) (λ e. yields_single byte s)

yields_sign : (byte : ℕ) (rest : List ℕ) → is_sign (byte ∷ []) ≡ true → Yields (Punctuator (byte ∷ [])) (sign_at byte rest)
yields_sign byte [] s = yields_single byte s
yields_sign byte (next ∷ rest) s = yields_pair byte next s

long_comment : (body : List ℕ) (found : Option ℕ) → 1 < length (spelling (comment_at body found))
long_comment body None = omega arith
long_comment body (Some n) = omega arith

yields_slash : (rest : List ℕ) → Yields (Punctuator (47 ∷ [])) (slash_at rest)
yields_slash [] = inl refl
yields_slash (next ∷ rest) =
    choose (eqb next 47) (Yields (Punctuator (47 ∷ []))) _ _ (λ e. inr (omega arith))
    (λ no. choose (eqb next 42) (Yields (Punctuator (47 ∷ []))) _ _ (λ e. inr (long_comment rest (close_at rest))) (λ none. yields_pair 47 next refl))

yields_one : (byte : ℕ) (rest : List ℕ) → is_sign (byte ∷ []) ≡ true → Other byte → Yields (Punctuator (byte ∷ [])) (piece_at byte rest)
yields_one byte rest s o =
    along _ _ _ (at_other byte rest o)
    (choose (eqb byte 47) (Yields (Punctuator (byte ∷ []))) _ _
    (λ e. subst (λ (b : ℕ). Yields (Punctuator (b ∷ [])) (slash_at rest)) (sym (eqb-true byte 47 e)) (yields_slash rest))
    (λ no. yields_sign byte rest s))

-- a sign of two bytes
pair_is : (byte next : ℕ) → is_sign (byte ∷ next ∷ []) ≡ true → Yields (Punctuator (byte ∷ next ∷ [])) (pair_at byte next)
pair_is byte next s = inl (sym (first (is_sign (byte ∷ next ∷ [])) _ _ s))

pub no_slash : (byte next : ℕ) → is_no_comment byte next ≡ true → eqb byte 47 ≡ true → (eqb next 47 ≡ false) × (eqb next 42 ≡ false)
no_slash byte next n e =
    let none : (eqb byte 47 && (eqb next 47 || eqb next 42)) ≡ false = not-true _ n in
    let rest : (eqb next 47 || eqb next 42) ≡ false = rw e at none in
    or_parts (eqb next 47) (eqb next 42) rest

pub third : (a b : Bool) (x y z : Piece) → a ≡ false → b ≡ false → (if a then x else (if b then y else z)) ≡ z
third a b x y z p q = rw (p, q) refl

yields_two : (byte next : ℕ) (rest : List ℕ) → is_sign (byte ∷ next ∷ []) ≡ true → Other byte → is_no_comment byte next ≡ true
    → Yields (Punctuator (byte ∷ next ∷ [])) (piece_at byte (next ∷ rest))
yields_two byte next rest s o n =
    along _ _ _ (at_other byte (next ∷ rest) o)
    (choose (eqb byte 47) (Yields (Punctuator (byte ∷ next ∷ []))) _ _
    (λ e. let none = no_slash byte next n e in
    along _ _ _ (third (eqb next 47) (eqb next 42) _ _ _ none.0 none.1)
    (subst (λ (b : ℕ). Yields (Punctuator (byte ∷ next ∷ [])) (pair_at b next)) (eqb-true byte 47 e) (pair_is byte next s)))
    (λ no. pair_is byte next s))

yields_punctuator : (text rest : List ℕ) → is_sign text ≡ true → YieldsAt (Punctuator text) (text ++ rest)
yields_punctuator [] rest s = let none : false ≡ true = s in cc
yields_punctuator (byte ∷ []) rest s = yields_one byte rest s (other byte (sign_form (byte ∷ []) s))
yields_punctuator (byte ∷ next ∷ []) rest s =
    let form = and_parts (is_other byte) (is_no_comment byte next) (sign_form (byte ∷ next ∷ []) s) in
    yields_two byte next rest s (other byte form.0) form.1
yields_punctuator (byte ∷ next ∷ last ∷ text) rest s = let none : false ≡ true = sign_form (byte ∷ next ∷ last ∷ text) s in cc

-- a byte that begins nothing
yields_bare : (byte : ℕ) → is_sign (byte ∷ []) ≡ false → Yields (Stray byte) (single_at byte)
yields_bare byte s = choose (is_sign (byte ∷ [])) (Yields (Stray byte)) _ _ (λ e. absurd (true≢false (sym e ∙ s))) (λ e. inl refl)

bare_pair : (byte next : ℕ) → is_sign (byte ∷ []) ≡ false → Yields (Stray byte) (pair_at byte next)
bare_pair byte next s = choose (is_sign (byte ∷ next ∷ [])) (Yields (Stray byte)) _ _ (λ e. inr (omega arith)) (λ e. yields_bare byte s)

bare_sign : (byte : ℕ) (rest : List ℕ) → is_sign (byte ∷ []) ≡ false → Yields (Stray byte) (sign_at byte rest)
bare_sign byte [] s = yields_bare byte s
bare_sign byte (next ∷ rest) s = bare_pair byte next s

bare_quote : (found : Option (List Character)) → Yields (Stray 34) (literal_at found)
bare_quote None = inl refl
bare_quote (Some characters) = inr (omega (arith, length-append (characters_spelled characters) (34 ∷ [])))

fourth : (a b c : Bool) (w x y z : Piece) → a ≡ false → b ≡ false → c ≡ false → (if a then w else (if b then x else (if c then y else z))) ≡ z
fourth a b c w x y z p q r = rw (p, q, r) refl

slash_stays : (byte : ℕ) → eqb byte 47 ≡ true → is_sign (byte ∷ []) ≡ false → ⊥
slash_stays byte e s = let slash : is_sign (47 ∷ []) ≡ false = subst (λ (b : ℕ). is_sign (b ∷ []) ≡ false) (eqb-true byte 47 e) s in cc

yields_stray : (byte : ℕ) (rest : List ℕ) → is_piece (Stray byte) ≡ true → Yields (Stray byte) (piece_at byte rest)
yields_stray byte rest h =
    let a = or_parts ((is_blank byte || is_name_start byte) || is_ascii_digit byte) (is_sign (byte ∷ [])) (not-true _ h) in
    let b = or_parts (is_blank byte || is_name_start byte) (is_ascii_digit byte) a.0 in
    let c = or_parts (is_blank byte) (is_name_start byte) b.0 in
    along _ _ _ (fourth (is_blank byte) (is_name_start byte) (is_ascii_digit byte) _ _ _ _ c.0 c.1 b.1)
    (choose (eqb byte 34) (Yields (Stray byte)) _ _
    (λ e. subst (λ (x : ℕ). Yields (Stray x) (literal_at (characters_at false rest))) (sym (eqb-true byte 34 e)) (bare_quote (characters_at false rest)))
    (λ no. choose (eqb byte 47) (Yields (Stray byte)) _ _ (λ e. absurd (slash_stays byte e a.1)) (λ none. bare_sign byte rest a.1)))

yields_identifier : (text rest : List ℕ) → is_piece (Identifier text) ≡ true → YieldsAt (Identifier text) (text ++ rest)
yields_identifier [] rest h = cc
yields_identifier (byte ∷ body) rest h =
    let hs = and_parts (is_name_start byte) (list_all is_name_byte body) h in
    along _ _ _ (at_name byte (body ++ rest) hs.0) (yields_run Identifier byte body rest (λ text. refl) hs.1)

yields_numeral : (text rest : List ℕ) → is_piece (Numeral text) ≡ true → YieldsAt (Numeral text) (text ++ rest)
yields_numeral [] rest h = cc
yields_numeral (byte ∷ body) rest h =
    let hs = and_parts (is_ascii_digit byte) (list_all is_name_byte body) h in
    along _ _ _ (at_digit byte (body ++ rest) hs.0) (yields_run Numeral byte body rest (λ text. refl) hs.1)

pub yields : (piece : Piece) (rest : List ℕ) → is_piece piece ≡ true → YieldsAt piece (spelling piece ++ rest)
yields (Blank byte) rest h = yields_blank byte rest h
yields (LineComment body) rest h = yields_line body rest h
yields (ClosedComment body) rest h = yields_closed body rest (not-true _ h)
yields (UnclosedComment body) rest h = yields_unclosed body rest (close_at (body ++ rest)) (not-true _ h) refl
yields (Identifier text) rest h = yields_identifier text rest h
yields (Numeral text) rest h = yields_numeral text rest h
yields (Literal characters) rest h = yields_literal characters rest h
yields (Punctuator text) rest h = yields_punctuator text rest h
yields (Stray byte) rest h = yields_stray byte rest h
