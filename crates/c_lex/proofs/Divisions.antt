-- A text divides in one way, which is that of `pieces_at`.
use Rattle.std.proofs.Common.{◌≡◌, ℕ, zero, suc, ◌-◌, inl, inr, List, [], ◌∷◌, ◌++◌, length, drop, refl, sym, ap, ◌∙◌, subst, arith}
use Rattle.std.proofs.lemmas.List.{append_cancel_left}
use Rattle.c_lex.specs.Pieces.{Piece, spelling}
use Rattle.c_lex.specs.Division.{Stands, IsLongest, Divides, HasOneDivision}
use Rattle.c_lex.specs.Reading.{piece_at, pieces_at}
use Rattle.c_lex.proofs.Fronts.{piece_fronts}
use Rattle.c_lex.proofs.Longest.{Yields, YieldsAt, yields}

pub pieces_at-drop : (n : ℕ) (text : List ℕ) → pieces_at n text ≡ pieces_at 0 (drop n text)
unfolding pieces_at
pieces_at-drop zero text = refl
pieces_at-drop (suc n) [] = refl
pieces_at-drop (suc n) (byte ∷ rest) = pieces_at-drop n rest

yields_here : (byte : ℕ) (rest : List ℕ) (other : Piece) (tail : List ℕ) → Stands other (byte ∷ rest) tail → Yields other (piece_at byte rest)
yields_here byte rest other tail s = subst (λ (z : List ℕ). YieldsAt other z) (sym s.front) (yields other tail s.known)

pub piece_longest : (byte : ℕ) (rest : List ℕ) → IsLongest (piece_at byte rest) (byte ∷ rest)
piece_longest byte rest other tail s = elim (yields_here byte rest other tail s) [
  | inl same ↦ (let e = ap (λ (p : Piece). length (spelling p)) same in omega (arith, e))
  | inr less ↦ omega arith
]

pub divides : (n : ℕ) (text : List ℕ) → Divides (pieces_at n text) (drop n text)
unfolding pieces_at
divides zero [] = refl
divides (suc n) [] = refl
divides (suc n) (byte ∷ rest) = divides n rest
divides zero (byte ∷ rest) =
    let n = length (spelling (piece_at byte rest)) - 1 in
    (drop n rest, ((piece_fronts byte rest).0, piece_longest byte rest, divides n rest))

-- the longest piece is the one that is found
only : (byte : ℕ) (rest : List ℕ) (piece : Piece) (tail : List ℕ) → Stands piece (byte ∷ rest) tail → IsLongest piece (byte ∷ rest) → piece ≡ piece_at byte rest
only byte rest piece tail s longest = elim (yields_here byte rest piece tail s) [
  | inl same ↦ same
  | inr less ↦ absurd (let most = longest (piece_at byte rest) _ (piece_fronts byte rest).0 in omega (arith, most, less))
]

pub one_turn : (byte : ℕ) (rest : List ℕ) (piece : Piece) (pieces : List Piece) (tail : List ℕ) → Stands piece (byte ∷ rest) tail → piece ≡ piece_at byte rest
    → pieces ≡ pieces_at 0 tail → piece ∷ pieces ≡ pieces_at 0 (byte ∷ rest)
unfolding pieces_at
one_turn byte rest piece pieces tail s same more =
    let n = length (spelling (piece_at byte rest)) - 1 in
    let joined : spelling (piece_at byte rest) ++ drop n rest ≡ spelling (piece_at byte rest) ++ tail =
    sym (piece_fronts byte rest).0.front ∙ s.front ∙ ap (λ (p : Piece). spelling p ++ tail) same in
    let behind : drop n rest ≡ tail = append_cancel_left (spelling (piece_at byte rest)) (drop n rest) tail joined in
    let later : pieces ≡ pieces_at n rest = more ∙ sym (ap (pieces_at 0) behind) ∙ sym (pieces_at-drop n rest) in
    ap (λ (p : Piece). p ∷ pieces) same ∙ ap (λ (ps : List Piece). piece_at byte rest ∷ ps) later

pub unique : (pieces : List Piece) (text : List ℕ) → Divides pieces text → pieces ≡ pieces_at 0 text
unfolding pieces_at
unique [] text d = sym (ap (pieces_at 0) d)
unique (piece ∷ pieces) [] d = absurd (subst (λ (z : List ℕ). YieldsAt piece z) (sym d.1.0.front) (yields piece d.0 d.1.0.known))
unique (piece ∷ pieces) (byte ∷ rest) d =
    one_turn byte rest piece pieces d.0 d.1.0 (only byte rest piece d.0 d.1.0 d.1.1) (unique pieces d.0 d.1.2)

pub one_division : (text : List ℕ) → HasOneDivision text
one_division text = record { pieces = pieces_at 0 text; division = divides 0 text; only = λ others d. unique others text d }
