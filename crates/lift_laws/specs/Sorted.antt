-- Which new operations stand in which half of a place's.
use Rattle.std.specs.Prelude.{◌≡◌, ℕ, ◌<◌, List, [], ◌∷◌, Option, Some}
use Rattle.cfix_base.specs.declared.op.Op.{Op}
use Rattle.cfix_base.specs.declared.op.Op.TheVariants.{Leave, First, Done, Wait, Enter, Add}
use Rattle.cfix_base.specs.declared.place.Place.{Place}
use Rattle.step_state.specs.Code.{Code}
use Rattle.cfix_base.specs.declared.mark.Marks.{Marks}
use Rattle.c_prog.specs.Marks.{is_new, old_of}

-- operations that leave locks and orders
abbrev pub Leaving : List Op → Type 0
Leaving [] = Unit {0}
Leaving (Leave k ∷ ops) = Leaving ops
Leaving (First j ∷ ops) = Leaving ops
Leaving (Done j ∷ ops) = Leaving ops
Leaving (Wait j ∷ ops) = ⊥
Leaving (Enter k ∷ ops) = ⊥
Leaving (Add j ∷ ops) = ⊥

-- operations that come to the next node, with locks that the program has; a wait for order j stands before b j alone
abbrev pub Coming : Code → (ℕ → ℕ) → Option ℕ → List Op → Type 0
Coming q b next [] = Unit {0}
Coming q b next (Leave k ∷ ops) = ⊥
Coming q b next (First j ∷ ops) = ⊥
Coming q b next (Done j ∷ ops) = ⊥
Coming q b next (Wait j ∷ ops) = (next ≡ Some (b j.number)) × (j.number < q.orders) × Coming q b next ops
Coming q b next (Enter k ∷ ops) = (k.number < q.locks) × Coming q b next ops
Coming q b next (Add j ∷ ops) = Coming q b next ops

-- the new operations of each place are those that leave, and then those that come
pub record Sorted (m : Marks) (q : Code) (b : ℕ → ℕ) (posts pres : Place → List Op) : Type 0 where
  pub leaving : (place : Place) → Leaving (posts place)
  pub coming : (place : Place) → Coming q b (q.next place) (pres place)
  pub new_posts : (place : Place) → old_of (is_new m) (posts place) ≡ []
  pub new_pres : (place : Place) → old_of (is_new m) (pres place) ≡ []
