-- What is needed of a program and marks; and how lists by lock and by order are cut off at the marks.
use Rattle.std.proofs.Common.{◌≡◌, ℕ, ◌<◌, ◌≤◌, Bool, true, false, List, [], ◌∷◌, ◌++◌, map, take, set, Option, Some, None, refl, ap, ◌∙◌, arith}
use Rattle.std.specs.Prelude.{nat_le, slice_index_or}
use Rattle.std.proofs.Math.Seq.{take-set-lt}
use Rattle.std.proofs.lemmas.List.{take-set-le, get_or-take}
use Rattle.cfix_base.specs.declared.op.Op.{Op}
use Rattle.cfix_base.specs.declared.place.Place.{Place}
use Rattle.step_state.specs.declared.item.Item.{Item}
use Rattle.step_state.specs.declared.item.Item.TheVariants as item
use Rattle.step_state.specs.Code.{Code, arrive, go_to}
use Rattle.cfix_base.specs.declared.mark.Marks.{Marks}
use Rattle.c_prog.specs.Marks.{is_new, keep_old, old_of}
use Rattle.step_state.specs.Erase.{strip_code, strip_work}

pub is_above : (a b : ℕ) → nat_le a b ≡ true → a ≤ b
is_above a b h = grind arith

pub is_below : (a b : ℕ) → nat_le a b ≡ false → b < a
is_below a b h = grind arith

-- what is set below the marks is set in what is cut off
pub take_old : {A : Type 0} (n : ℕ) (xs : List A) (k : ℕ) (x : A) → nat_le n k ≡ false → take n (set xs k x) ≡ set (take n xs) k x
take_old n xs k x h = take-set-lt n xs k x (is_below n k h)

pub take_new : {A : Type 0} (n : ℕ) (xs : List A) (k : ℕ) (x : A) → nat_le n k ≡ true → take n (set xs k x) ≡ take n xs
take_new n xs k x h = take-set-le n xs k x (is_above n k h)

pub read_old : {A : Type 0} (n : ℕ) (xs : List A) (k : ℕ) (d : A) → nat_le n k ≡ false → slice_index_or (take n xs) k d ≡ slice_index_or xs k d
read_old n xs k d h = get_or-take n xs k d (is_below n k h)

-- the work after a place
pub strip_append : (m : Marks) (a b : List Item) → strip_work m (a ++ b) ≡ strip_work m a ++ strip_work m b
strip_append m [] b = refl
strip_append m (item.Op o ∷ a) b = more (is_new m o) (strip_append m a b)
  where
    more : (new : Bool) → strip_work m (a ++ b) ≡ strip_work m a ++ strip_work m b
        → keep_old new (item.Op o) (strip_work m (a ++ b)) ≡ keep_old new (item.Op o) (strip_work m a) ++ strip_work m b
    more true h = h
    more false h = ap (λ w. item.Op o ∷ w) h
strip_append m (item.Reduce r ∷ a) b = ap (λ w. item.Reduce r ∷ w) (strip_append m a b)
strip_append m (item.Act r ∷ a) b = ap (λ w. item.Act r ∷ w) (strip_append m a b)
strip_append m (item.Go r ∷ a) b = ap (λ w. item.Go r ∷ w) (strip_append m a b)

pub strip_goes : (m : Marks) (next : Option ℕ) → strip_work m (go_to next ∷ []) ≡ go_to next ∷ []
strip_goes m None = refl
strip_goes m (Some n) = refl

strip_ops : (m : Marks) (ops : List Op) (rest : List Item) → strip_work m (map item.Op ops ++ rest) ≡ map item.Op (old_of (is_new m) ops) ++ strip_work m rest
strip_ops m [] rest = refl
strip_ops m (o ∷ ops) rest = more (is_new m o) (strip_ops m ops rest)
  where
    more : (new : Bool) → strip_work m (map item.Op ops ++ rest) ≡ map item.Op (old_of (is_new m) ops) ++ strip_work m rest
        → keep_old new (item.Op o) (strip_work m (map item.Op ops ++ rest)) ≡ map item.Op (keep_old new o (old_of (is_new m) ops)) ++ strip_work m rest
    more true h = h
    more false h = ap (λ w. item.Op o ∷ w) h

pub strip_arrive : (m : Marks) (c : Code) (place : Place) → strip_work m (arrive c place) ≡ arrive (strip_code m c) place
strip_arrive m c place =
    strip_ops m (c.ops place) (go_to (c.next place) ∷ []) ∙ ap (λ w. map item.Op (old_of (is_new m) (c.ops place)) ++ w) (strip_goes m (c.next place))
