-- Items of lists that stand one after another, and what is left of such lists in a loop.
use Rattle.std.proofs.Common.{◌≡◌, ℕ, zero, suc, ◌+◌, ◌<◌, List, [], ◌∷◌, ◌++◌, length, map, drop, get_or, slice_get, Some, ap, sym, ◌∙◌, arith}
use Rattle.std.proofs.lemmas.Option.{none-some}
use Rattle.std.proofs.lemmas.List.{drop_more}
use Rattle.c_prog.specs.Order.{joined}

pub get-front : {A : Type 0} (xs ys : List A) (n : ℕ) (x : A) → slice_get xs n ≡ Some x → slice_get (xs ++ ys) n ≡ Some x
get-front [] ys n x is = absurd (none-some x is)
get-front (z ∷ xs) ys zero x is = is
get-front (z ∷ xs) ys (suc n) x is = get-front xs ys n x is

pub get-after : {A : Type 0} (xs ys : List A) (n : ℕ) → slice_get (xs ++ ys) (n + length xs) ≡ slice_get ys n
get-after [] ys n = let none : n + 0 ≡ n = omega arith in ap (λ k. slice_get ys k) none
get-after (z ∷ xs) ys n =
    let one : n + suc (length xs) ≡ suc (n + length xs) = omega arith in
    ap (λ k. slice_get (z ∷ (xs ++ ys)) k) one ∙ get-after xs ys n

-- what is left before a turn of a loop: what its item gives, and what is left after the turn
pub one-more : {A B : Type 0} (f : A → List B) (list : List A) (i : ℕ) (x : A)
    → x ≡ get_or list i x → i < length list → joined (map f (drop i list)) ≡ f x ++ joined (map f (drop (i + 1) list))
one-more f list i x is within =
    ap (λ rest. joined (map f rest)) (drop_more list i x within)
    ∙ ap (λ z. f z ++ joined (map f (drop (i + 1) list))) (sym is)
