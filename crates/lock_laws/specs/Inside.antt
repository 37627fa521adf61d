-- One thread at a time is inside a class.
use Rattle.std.specs.Prelude.{◌≡◌, ◌⊎◌, ℕ, ℤ, Bool, true, List, [], ◌∷◌, Some, None, Option, slice_get}
use Rattle.cfix_base.specs.declared.entry.Entry.{Entry}
use Rattle.cfix_base.specs.declared.number.NodeId.{NodeId}
use Rattle.c_prog.specs.declared.tree.Tree.{Tree}
use Rattle.step_state.specs.declared.event.Event.TheVariants as event
use Rattle.step_state.specs.declared.frame.Frame.{Frame}
use Rattle.step_state.specs.declared.thread.Thread.{Thread}
use Rattle.step_state.specs.declared.state.Configuration.{Configuration}
use Rattle.step_state.specs.Run.{Seen, run}
use Rattle.step_tables.specs.TreeCode.{tree_code}

-- no step is a timeout of lock k
abbrev pub NoneMissed : ℕ → List Seen → Type 0
NoneMissed k [] = Unit {0}
NoneMissed k (m ∷ ms) = (m.event ≡ event.EnterMissed (record { number = k }) → ⊥) × NoneMissed k ms

-- the visit is of a node of the set
abbrev pub IsAt : (ℕ → Bool) → Option NodeId → Type 0
IsAt set None = ⊥
IsAt set (Some n) = set n.number ≡ true

-- some frame visits a node of the set
abbrev pub Inside : (ℕ → Bool) → List Frame → Type 0
Inside set [] = ⊥
Inside set (f ∷ below) = IsAt set f.visit ⊎ Inside set below

-- in the last configuration of a run without timeouts of lock k at most one thread is at nodes of the set
pub record OneInside (tree : Tree) (set covered : ℕ → Bool) (k : ℕ) (input : List ℤ) (es : List Entry) : Type 0 where
  pub one : (steps : List Seen) (last : Configuration) → run (tree_code tree) input es ≡ Some (steps, last) → NoneMissed k steps
      → (t u : ℕ) (th other : Thread) → slice_get last.threads t ≡ Some th → slice_get last.threads u ≡ Some other
      → Inside set th.frames → Inside set other.frames → t ≡ u
