-- The items that touch nothing but their own frame. Their steps are silent, or a trap.
use Rattle.std.specs.Prelude.{ℕ, ℤ, pos, Bool, true, false, List, [], ◌∷◌, ◌++◌, slice_set, slice_index_or, Option, Some, None}
use Rattle.step_state.specs.declared.event.Trap.{Trap}
use Rattle.step_state.specs.declared.event.Trap.TheVariants.{Index}
use Rattle.step_state.specs.declared.event.Event.TheVariants as event
use Rattle.step_state.specs.declared.item.Item.TheVariants as item
use Rattle.step_state.specs.declared.item.LocalSite.{LocalSite}
use Rattle.step_state.specs.declared.item.Operand.{Operand}
use Rattle.step_state.specs.declared.item.Reduction.{Reduction}
use Rattle.step_state.specs.declared.item.Reduction.TheVariants.{Push, Local, LocalKeep, Put, Un, Bin, And, Or, Bool as ToBool, Clear}
use Rattle.step_state.specs.declared.frame.Frame.{Frame}
use Rattle.step_state.specs.declared.thread.Thread.{Thread}
use Rattle.step_state.specs.declared.state.Configuration.{Configuration}
use Rattle.step_state.specs.Code.{Code}
use Rattle.step_state.specs.Values as values
use Rattle.step_state.specs.Values.{Computed, last_value, other_values, index_value, past_index, cell, with_cell, is_zero, truth, unary, binary, cleared}
use Rattle.step_state.specs.Changes.{Made, with_top_frame, with_values, with_work, trapped}

-- the frame after an item of its own, or a trap
pub data Reduced : Type 0 where
  frame : Frame → Reduced
  trap : Trap → Reduced

-- what was computed becomes the last of these values
abbrev pub computed : Frame → List ℤ → Computed → Reduced
computed f vs (values.value v) = frame (with_values f (v ∷ vs))
computed f vs (values.trap t) = trap t

-- what was read becomes the last of these values; nothing was read where the index is out of range
abbrev pub loaded : Frame → List ℤ → Option ℤ → Reduced
loaded f vs None = trap Index
loaded f vs (Some v) = frame (with_values f (v ∷ vs))

-- the cells of a local
abbrev pub local_cells : Frame → ℕ → List ℤ
local_cells f x = slice_index_or f.locals x []

-- the cell that a local site means, by the values behind
abbrev pub local_cell : Frame → LocalSite → List ℤ → Option ℤ
local_cell f site vs = cell (local_cells f site.local) (index_value site.indexed vs)

-- a local is written, where it has the cell
abbrev pub stored : Frame → LocalSite → List ℤ → ℤ → Option ℤ → Reduced
stored f site vs v None = trap Index
stored f site vs v (Some old) =
    frame (record (with_values f (past_index site.indexed vs)) {
      locals = with_cell f.locals site.local (local_cells f site.local) (index_value site.indexed vs) v;
    })

-- `&&`, by whether its left operand is 0 (6.5.13 of ISO/IEC 9899:2011)
abbrev pub and_then : Code → Frame → Operand → List ℤ → Bool → Reduced
and_then c f r vs true = frame (with_values f (pos 0 ∷ vs))
and_then c f r vs false = frame (with_work (with_values f vs) (c.operand r ++ item.Reduce ToBool ∷ f.work))

-- `||`, by whether its left operand is 0 (6.5.14 of ISO/IEC 9899:2011)
abbrev pub or_else : Code → Frame → Operand → List ℤ → Bool → Reduced
or_else c f r vs true = frame (with_work (with_values f vs) (c.operand r ++ item.Reduce ToBool ∷ f.work))
or_else c f r vs false = frame (with_values f (pos 1 ∷ vs))

-- 0 for 0, and 1 for any other value
abbrev pub normal : Bool → ℤ
normal true = truth false
normal false = truth true

-- The table of these items. The frame has the item no more.
abbrev pub reduce : Code → Frame → Reduction → Reduced
reduce c f (Push v) = frame (with_values f (v ∷ f.values))
reduce c f (Local site) = loaded f (past_index site.indexed f.values) (local_cell f site f.values)
reduce c f (LocalKeep site) = loaded f f.values (local_cell f site f.values)
reduce c f (Put site) =
    stored f site (other_values f.values) (last_value f.values) (local_cell f site (other_values f.values))
reduce c f (Un op) = computed f (other_values f.values) (unary op (last_value f.values))
reduce c f (Bin op) =
    computed f (other_values (other_values f.values)) (binary op (last_value (other_values f.values)) (last_value f.values))
reduce c f (And r) = and_then c f r (other_values f.values) (is_zero (last_value f.values))
reduce c f (Or r) = or_else c f r (other_values f.values) (is_zero (last_value f.values))
reduce c f ToBool = frame (with_values f (normal (is_zero (last_value f.values)) ∷ other_values f.values))
reduce c f (Clear x) =
    frame (record f {
      locals = slice_set f.locals x (cleared (pos 0) (local_cells f x));
      handles = slice_set f.handles x (cleared 0 (slice_index_or f.handles x []));
    })

-- the step of such an item of the thread's top frame
abbrev pub reduced : Configuration → ℕ → Thread → List Frame → Reduced → Made
reduced s t th below (frame f) = Some (with_top_frame s t th f below, event.Silent)
reduced s t th below (trap x) = trapped s x
