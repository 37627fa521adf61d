-- After a visit of a has ended, the flag of the order is set, or a first of it is still to be made before anything else of its thread.
use Rattle.std.specs.Prelude.{◌≡◌, ◌⊎◌, ◌<◌, ℕ, ◌+◌, ℤ, true, false, ◌==◌, List, [], ◌∷◌, ◌++◌, Some, slice_get, slice_index_or}
use Rattle.cfix_base.specs.declared.entry.Entry.{Entry}
use Rattle.cfix_base.specs.declared.op.Op.TheVariants.{First}
use Rattle.cfix_base.specs.declared.place.Place.{Place}
use Rattle.step_state.specs.declared.item.Item.{Item}
use Rattle.step_state.specs.declared.item.Item.TheVariants as item
use Rattle.step_state.specs.declared.frame.Frame.{Frame}
use Rattle.step_state.specs.declared.thread.Thread.{Thread}
use Rattle.step_state.specs.declared.state.Configuration.{Configuration}
use Rattle.step_state.specs.Code.{Code}
use Rattle.step_state.specs.Run.{Seen, run}
use Rattle.lock_laws.specs.Guard.{bit}
use Rattle.layout_laws.specs.Layout.{Layout, Live, source}
use Rattle.order_laws.specs.Tokens.{firsts}
use Rattle.order_laws.specs.OrderRuns.{EndsVisit}

-- a first stands behind a
pub record IsFirsted (c : Code) (y : Layout) (j a : ℕ) : Type 0 where
  pub behind : (place : Place) → Live y place → source place ≡ Some a → 0 < firsts j (c.ops place)

-- the firsts that stand before all that is not an operation
abbrev pub pending_firsts : ℕ → List Item → ℕ
pending_firsts j [] = 0
pending_firsts j (item.Op (First i) ∷ work) = bit (i.number == j) + pending_firsts j work
pending_firsts j (item.Op o ∷ work) = pending_firsts j work
pending_firsts j (item.Reduce r ∷ work) = 0
pending_firsts j (item.Act x ∷ work) = 0
pending_firsts j (item.Go g ∷ work) = 0

-- a thread's top frame has a first to make
pub record Pending (j : ℕ) (s : Configuration) : Type 0 where
  pub t : ℕ
  pub thread : Thread
  pub frame : Frame
  pub below : List Frame
  pub stands : slice_get s.threads t ≡ Some thread
  pub top : thread.frames ≡ frame ∷ below
  pub some : 0 < pending_firsts j frame.work

-- after an ended visit of the node the flag is set, or its first is pending
pub record EndSets (c : Code) (j a : ℕ) (input : List ℤ) (es : List Entry) : Type 0 where
  pub sets : (before after : List Seen) (ends : Seen) (last : Configuration) → run c input es ≡ Some (before ++ ends ∷ after, last) → EndsVisit a ends.before
      → (slice_index_or last.flags j false ≡ true) ⊎ Pending j last
