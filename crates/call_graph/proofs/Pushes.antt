-- What stands in a list with one more item, and in a list with one item changed.
use Rattle.std.proofs.Common.{◌≡◌, ℕ, zero, suc, ◌<◌, ◌⊎◌, List, [], ◌∷◌, ◌++◌, length, take, get_or, slice_get, Some, inl, inr, refl, arith}
use Rattle.std.proofs.lemmas.Option.{none-some}

some_same : {X : Type 0} (x y : X) → Some x ≡ Some y → x ≡ y
some_same x y is = cc is

-- an item of the longer list is an item of the list, or the last one
pub get_cases : {X : Type 0} (xs : List X) (x y : X) (n : ℕ) → slice_get (xs ++ x ∷ []) n ≡ Some y
    → (slice_get xs n ≡ Some y) ⊎ ((n ≡ length xs) × (x ≡ y))
get_cases [] x y zero is = inr (refl, some_same x y is)
get_cases [] x y (suc n) is = absurd (none-some y is)
get_cases (z ∷ xs) x y zero is = inl is
get_cases (z ∷ xs) x y (suc n) is = elim (get_cases xs x y n is) [
  | inl old ↦ inl old
  | inr last ↦ inr (omega (arith, last.0), last.1)
]

pub get_old : {X : Type 0} (xs : List X) (x y : X) (n : ℕ) → slice_get xs n ≡ Some y → slice_get (xs ++ x ∷ []) n ≡ Some y
get_old [] x y n is = absurd (none-some y is)
get_old (z ∷ xs) x y zero is = is
get_old (z ∷ xs) x y (suc n) is = get_old xs x y n is

pub get_last : {X : Type 0} (xs : List X) (x : X) → slice_get (xs ++ x ∷ []) (length xs) ≡ Some x
get_last [] x = refl
get_last (z ∷ xs) x = get_last xs x

pub get_below : {X : Type 0} (xs : List X) (y : X) (n : ℕ) → slice_get xs n ≡ Some y → n < length xs
get_below [] y n is = absurd (none-some y is)
get_below (z ∷ xs) y zero is = omega arith
get_below (z ∷ xs) y (suc n) is = omega (arith, get_below xs y n is)

-- the place of the last item of a longer front
pub taken : {X : Type 0} (xs : List X) (n : ℕ) → n < length xs → length (take n xs) ≡ n
taken [] n below = absurd (omega (arith, below))
taken (x ∷ xs) zero below = refl
taken (x ∷ xs) (suc n) below = omega (arith, taken xs n (omega (arith, below)))

-- the item that is got is the one that is read
pub got : {X : Type 0} (xs : List X) (n : ℕ) (d y : X) → slice_get xs n ≡ Some y → get_or xs n d ≡ y
got [] n d y is = absurd (none-some y is)
got (x ∷ xs) zero d y is = some_same x y is
got (x ∷ xs) (suc n) d y is = got xs n d y is
