-- Items that a filter keeps, at their places.
use Rattle.std.proofs.Common.{◌≡◌, ◌≢◌, ℕ, zero, suc, ◌+◌, ◌-◌, ◌<◌, Bool, true, false, List, [], ◌∷◌, length, cond, drop, get_or, slice_get, Some, refl, ap, sym, subst, ◌∙◌, arith}
use Rattle.std.specs.Prelude.{All, filter}
use Rattle.std.proofs.lemmas.List.{drop_more}
use Rattle.std.proofs.lemmas.List.Elements.{All-head, All-tail, All-filter, filter_passes}
use Rattle.std.proofs.lemmas.Option.{none-some}

pub some-same : {X : Type 0} (x y : X) → Some x ≡ Some y → x ≡ y
some-same x y is = cc

-- what holds of all items holds of the one at a place
pub all-get : {X : Type 0} (P : X → Type 0) (xs : List X) (n : ℕ) (x : X) → All P xs → slice_get xs n ≡ Some x → P x
all-get P [] n x all is = absurd (none-some x is)
all-get P (y ∷ xs) zero x all is = subst P (some-same y x is) (All-head P y xs all)
all-get P (y ∷ xs) (suc n) x all is = all-get P xs n x (All-tail P y xs all) is

-- what is kept at a place passes the test, and is as all items are
pub kept : {X : Type 0} (test : X → Bool) (P : X → Type 0) (xs : List X) (n : ℕ) (x : X)
    → All P xs → slice_get (filter test xs) n ≡ Some x → (test x ≡ true) × P x
kept test P xs n x all is =
    (all-get (λ y. test y ≡ true) (filter test xs) n x (filter_passes test xs) is, all-get P (filter test xs) n x (All-filter test P xs all) is)

-- a turn of a loop that comes to an item that the test keeps
pub keeps : {X : Type 0} (test : X → Bool) (xs : List X) (i : ℕ) (x : X) → x ≡ get_or xs i x → i < length xs → test x ≡ true
    → filter test (drop i xs) ≡ x ∷ filter test (drop (i + 1) xs)
keeps test xs i x at within is =
    ap (filter test) (drop_more xs i x within ∙ ap (λ y. y ∷ drop (i + 1) xs) (sym at))
    ∙ ap (λ b. cond b (x ∷ filter test (drop (i + 1) xs)) (filter test (drop (i + 1) xs))) is

-- and to one that it does not
pub drops : {X : Type 0} (test : X → Bool) (xs : List X) (i : ℕ) (x : X) → x ≡ get_or xs i x → i < length xs → test x ≡ false
    → filter test (drop i xs) ≡ filter test (drop (i + 1) xs)
drops test xs i x at within is =
    ap (filter test) (drop_more xs i x within ∙ ap (λ y. y ∷ drop (i + 1) xs) (sym at))
    ∙ ap (λ b. cond b (x ∷ filter test (drop (i + 1) xs)) (filter test (drop (i + 1) xs))) is

-- an item behind the first
pub behind : {X : Type 0} (x : X) (xs : List X) (n : ℕ) → n ≢ 0 → slice_get (x ∷ xs) n ≡ slice_get xs (n - 1)
behind x xs zero some = absurd (some refl)
behind x xs (suc n) some = let one : n ≡ suc n - 1 = omega arith in ap (slice_get xs) one
