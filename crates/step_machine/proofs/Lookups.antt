-- Reading and writing past the end of a list, and writing back what was read.
use Rattle.std.proofs.Common.{◌≡◌, ℕ, zero, suc, ◌+◌, ◌<◌, ◌≤◌, List, [], ◌∷◌, ◌++◌, length, get_or, set, drop, Option, Some, None, refl, ap, sym, ◌∙◌, arith}
use Rattle.std.proofs.lemmas.List.{set-append_left}
use Rattle.std.proofs.lemmas.Option.{slice_get_within}
use Rattle.std.specs.Prelude.{slice_get, MatchOption}
use Rattle.step_state.specs.declared.item.Item.{Item}
use Rattle.step_state.specs.declared.frame.Frame.{Frame}
use Rattle.step_state.specs.declared.thread.Thread.{Thread}
use Rattle.step_state.specs.StackLends.{with_top, with_second}
use Rattle.step_state.specs.Changes.{with_work, with_values}
use Rattle.step_values.specs.Popped.{popped}
use Rattle.step_machine.specs.Tops.{calling}
use Rattle.step_machine.specs.Next.{popped_top}

pub past_is : {X : Type 0} (xs : List X) (i : ℕ) (d : X) → slice_get xs i ≡ None → get_or xs i d ≡ d
past_is [] i d h = refl
past_is (x ∷ xs) zero d h = cc
past_is (x ∷ xs) (suc i) d h = past_is xs i d h

pub set_back : {X : Type 0} (xs : List X) (i : ℕ) (x : X) → slice_get xs i ≡ Some x → set xs i x ≡ xs
set_back [] i x h = refl
set_back (y ∷ xs) zero x h = let e : y ≡ x = cc in ap (λ z. z ∷ xs) (sym e)
set_back (y ∷ xs) (suc i) x h = ap (λ ys. y ∷ ys) (set_back xs i x h)

pub top_back : {X : Type 0} (xs : List X) (x : X) → slice_get xs 0 ≡ Some x → with_top xs x ≡ xs
top_back [] x h = refl
top_back (y ∷ xs) x h = let e : y ≡ x = cc in ap (λ z. z ∷ xs) (sym e)

pub first_is : {X : Type 0} (xs : List X) (x : X) → slice_get xs 0 ≡ Some x → xs ≡ x ∷ drop 1 xs
first_is [] x h = cc
first_is (y ∷ xs) x h = let e : y ≡ x = cc in ap (λ z. z ∷ xs) e

-- a write past the end
pub set_past : {X : Type 0} (xs : List X) (i : ℕ) (x : X) → length xs ≤ i → set xs i x ≡ xs
set_past [] i x h = refl
set_past (y ∷ xs) zero x h = absurd (omega (arith, h))
set_past (y ∷ xs) (suc i) x h = ap (λ ys. y ∷ ys) (set_past xs i x (omega (arith, h)))

-- what is read with a default, where it is there
pub index_is : {X : Type 0} (xs : List X) (i : ℕ) (x d : X) → slice_get xs i ≡ Some x → get_or xs i d ≡ x
index_is [] i x d h = cc
index_is (y ∷ xs) zero x d h = cc
index_is (y ∷ xs) (suc i) x d h = index_is xs i x d h

-- the work after an item was taken
rest_is : (o : Option Item) (xs zs : List Item) → MatchOption o ((xs ≡ []) × (zs ≡ [])) (λ x. xs ≡ x ∷ zs) → zs ≡ drop 1 xs
rest_is None xs zs m = m.1 ∙ ap (drop 1) (sym m.0)
rest_is (Some x) xs zs m = ap (drop 1) (sym m)

pub popped_is : (o : Option Item) (fs : List Frame) (f : Frame) (work : List Item) → slice_get fs 0 ≡ Some f → MatchOption o ((f.work ≡ []) × (work ≡ [])) (λ x. f.work ≡ x ∷ work) → with_top fs (with_work f work) ≡ popped_top fs
popped_is o [] f work h m = refl
popped_is o (g ∷ below) f work h m =
    let e : g ≡ f = cc in
    ap (λ w. with_work f w ∷ below) (rest_is o f.work work m) ∙ ap (λ x. with_work x (drop 1 x.work) ∷ below) (sym e)

-- the frames after a call
pub called_is : (fs : List Frame) (frame caller w : Frame) (count : ℕ) → slice_get (frame ∷ fs) 1 ≡ Some caller → w ≡ with_values (popped caller) (drop count caller.values) → with_second (frame ∷ fs) w ≡ frame ∷ calling count fs
called_is [] frame caller w count h e = cc
called_is (f ∷ below) frame caller w count h e =
    let same : f ≡ caller = cc in
    ap (λ x. frame ∷ x ∷ below) e ∙ ap (λ x. frame ∷ with_values (popped x) (drop count x.values) ∷ below) (sym same)

-- a list that is longer by one
pub set_in_front : {X : Type 0} (xs : List X) (i : ℕ) (x y new : X) → slice_get xs i ≡ Some x → set (xs ++ new ∷ []) i y ≡ set xs i y ++ new ∷ []
set_in_front xs i x y new h = set-append_left xs (new ∷ []) i y (slice_get_within xs i x h)

pub get_in_front : {X : Type 0} (xs : List X) (i : ℕ) (x new : X) → slice_get xs i ≡ Some x → slice_get (xs ++ new ∷ []) i ≡ Some x
get_in_front [] i x new h = cc
get_in_front (z ∷ xs) zero x new h = h
get_in_front (z ∷ xs) (suc i) x new h = get_in_front xs i x new h
