-- Beside an empty list stands nothing.
use Rattle.std.proofs.Common.{◌≡◌, List, [], ◌∷◌, length, refl, arith}
use Rattle.std.specs.Prelude.{zip}

pub zip-none : {A B : Type 0} (xs : List A) (ys : List B) → length ys ≡ 0 → zip xs ys ≡ []
zip-none [] [] is = refl
zip-none (x ∷ xs) [] is = refl
zip-none xs (y ∷ ys) is = absurd (omega arith)
