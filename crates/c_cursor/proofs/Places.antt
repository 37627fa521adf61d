-- A token at a place, and the tokens from that place on.
use Rattle.std.proofs.Common.{◌≡◌, ℕ, zero, suc, ◌+◌, ◌-◌, ◌<◌, ◌≤◌, Bool, true, List, [], ◌∷◌, ◌++◌, length, take, drop, map, Some, refl, ap, ◌∙◌, arith, add-one, slice_get}
use Rattle.c_reading.specs.Reader.{begins, size}

drop-next : {X : Type 0} (xs : List X) (at : ℕ) (x : X) → slice_get xs at ≡ Some x → drop at xs ≡ x ∷ drop (suc at) xs
drop-next [] at x e = absurd cc
drop-next (y ∷ xs) zero x e = cc
drop-next (y ∷ xs) (suc at) x e = drop-next xs at x e

take-next : {X : Type 0} (xs : List X) (at : ℕ) (x : X) → slice_get xs at ≡ Some x → take (suc at) xs ≡ take at xs ++ x ∷ []
take-next [] at x e = absurd cc
take-next (y ∷ xs) zero x e = cc
take-next {X} (y ∷ xs) (suc at) x e = ap (λ (z : List X). y ∷ z) (take-next xs at x e)

pub drop-here : {X : Type 0} (xs : List X) (at : ℕ) (x : X) → slice_get xs at ≡ Some x → drop at xs ≡ x ∷ drop (at + 1) xs
drop-here xs at x e = rw (add-one at) (drop-next xs at x e)

pub take-here : {X : Type 0} (xs : List X) (at : ℕ) (x : X) → slice_get xs at ≡ Some x → take (at + 1) xs ≡ take at xs ++ x ∷ []
take-here xs at x e = rw (add-one at) (take-next xs at x e)

pub drop-past : {X : Type 0} (xs : List X) (at : ℕ) → length xs ≤ at → drop at xs ≡ []
drop-past [] zero h = refl
drop-past [] (suc at) h = refl
drop-past (y ∷ xs) zero h = absurd (omega arith)
drop-past (y ∷ xs) (suc at) h = drop-past xs at (omega arith)

behind : {X : Type 0} (xs : List X) (at : ℕ) (x : X) (more : List X) → drop at xs ≡ x ∷ more → (more ≡ drop (suc at) xs) × (at < length xs)
behind [] zero x more e = absurd cc
behind [] (suc at) x more e = absurd cc
behind (y ∷ xs) zero x more e = (cc, omega arith)
behind (y ∷ xs) (suc at) x more e = let h = behind xs at x more e in (h.0, omega arith)

pub drop-behind : {X : Type 0} (xs : List X) (at : ℕ) (x : X) (more : List X) → drop at xs ≡ x ∷ more → (more ≡ drop (at + 1) xs) × (at < length xs)
drop-behind xs at x more e = rw (add-one at) (behind xs at x more e)

pub drop-map : {X Y : Type 0} (f : X → Y) (xs : List X) (at : ℕ) → drop at (map f xs) ≡ map f (drop at xs)
drop-map f [] zero = refl
drop-map f [] (suc at) = refl
drop-map f (y ∷ xs) zero = refl
drop-map f (y ∷ xs) (suc at) = drop-map f xs at

-- a token is next only inside the list
pub begins-within : {X : Type 0} (b : X → Bool) (xs : List X) (at : ℕ) → begins b (drop at xs) ≡ true → at < length xs
begins-within b [] zero e = absurd cc
begins-within b [] (suc at) e = absurd cc
begins-within b (x ∷ xs) zero e = omega arith
begins-within b (x ∷ xs) (suc at) e = let h = begins-within b xs at e in omega arith

pub size-drop : {X : Type 0} (xs : List X) (at : ℕ) → size (drop at xs) ≡ length xs - at
size-drop [] zero = refl
size-drop [] (suc at) = omega arith
size-drop (x ∷ xs) zero = let h = size-drop xs zero in omega arith
size-drop (x ∷ xs) (suc at) = size-drop xs at ∙ omega arith
