-- How often a frame holds a lock, by where it stands.
use Rattle.std.specs.Prelude.{◌≡◌, ℕ, ◌+◌, ◌-◌, Bool, true, false, ◌==◌, List, [], ◌∷◌, Option, Some, None}
use Rattle.cfix_base.specs.declared.number.NodeId.{NodeId}
use Rattle.cfix_base.specs.declared.op.Op.{Op}
use Rattle.cfix_base.specs.declared.op.Op.TheVariants.{Leave, First, Done, Wait, Enter, Add}
use Rattle.cfix_base.specs.declared.place.Place.{Place}
use Rattle.step_state.specs.declared.item.Item.{Item}
use Rattle.step_state.specs.declared.item.Item.TheVariants as item
use Rattle.step_state.specs.declared.item.Move.{Move}
use Rattle.step_state.specs.declared.item.Move.TheVariants as move
use Rattle.step_state.specs.declared.frame.Frame.{Frame}
use Rattle.step_state.specs.Code.{Code}
use Rattle.layout_laws.specs.Layout.{Layout, Live, source}

-- 1 where it is so, else 0
abbrev pub bit : Bool → ℕ
bit true = 1
bit false = 0

-- whether a node is in the set; the exit and a start are not
abbrev pub in_set : (ℕ → Bool) → Option ℕ → ℕ
in_set kept None = 0
in_set kept (Some n) = bit (kept n)

-- how often operations enter and leave lock k
abbrev pub enters : ℕ → List Op → ℕ
enters k [] = 0
enters k (Enter j ∷ ops) = bit (j.number == k) + enters k ops
enters k (Leave j ∷ ops) = enters k ops
enters k (First j ∷ ops) = enters k ops
enters k (Done j ∷ ops) = enters k ops
enters k (Wait j ∷ ops) = enters k ops
enters k (Add j ∷ ops) = enters k ops

-- how often operations leave lock k
abbrev pub leaves : ℕ → List Op → ℕ
leaves k [] = 0
leaves k (Leave j ∷ ops) = bit (j.number == k) + leaves k ops
leaves k (Enter j ∷ ops) = leaves k ops
leaves k (First j ∷ ops) = leaves k ops
leaves k (Done j ∷ ops) = leaves k ops
leaves k (Wait j ∷ ops) = leaves k ops
leaves k (Add j ∷ ops) = leaves k ops

-- lock k is entered on the edges into the set and left on those out of it
pub record Carries (c : Code) (y : Layout) (kept : ℕ → Bool) (k : ℕ) : Type 0 where
  pub entered : (place : Place) → Live y place → enters k (c.ops place) ≡ in_set kept (c.next place) - in_set kept (source place)
  pub left : (place : Place) → Live y place → leaves k (c.ops place) ≡ in_set kept (source place) - in_set kept (c.next place)

-- how often a frame with this work holds lock k: of work on an edge, by the operations that are still to be made
abbrev pub need_op : ℕ → Op → ℕ → ℕ
need_op k (Enter j) n = n - bit (j.number == k)
need_op k (Leave j) n = bit (j.number == k) + n
need_op k (First j) n = n
need_op k (Done j) n = n
need_op k (Wait j) n = n
need_op k (Add j) n = n

-- what a frame that goes on next holds: the lock once, if the node is in the set
abbrev pub need_go : (ℕ → Bool) → Move → ℕ
need_go kept (move.Node n) = bit (kept n.number)
need_go kept (move.Branch n) = 0
need_go kept (move.Edge n) = 0
need_go kept move.Exit = 0

-- how often a frame on an edge holds lock k
abbrev pub need : (ℕ → Bool) → ℕ → List Item → ℕ
need kept k [] = 0
need kept k (item.Op o ∷ work) = need_op k o (need kept k work)
need kept k (item.Reduce r ∷ work) = 0
need kept k (item.Act a ∷ work) = 0
need kept k (item.Go g ∷ work) = need_go kept g

-- how often a frame holds lock k: in a visit once, if its node is in the set
abbrev pub need_of : (ℕ → Bool) → ℕ → Option NodeId → List Item → ℕ
need_of kept k None work = need kept k work
need_of kept k (Some n) work = bit (kept n.number)

-- how often the frames of a thread hold lock k
abbrev pub needs : (ℕ → Bool) → ℕ → List Frame → ℕ
needs kept k [] = 0
needs kept k (f ∷ below) = need_of kept k f.visit f.work + needs kept k below
