-- Whether the next item of a thread makes a step.
use Rattle.std.specs.Prelude.{ℕ, Bool, true, false, not, ◌&&◌, ◌||◌, slice_index, slice_index_or, Option, Some, None}
use Rattle.cfix_base.specs.declared.op.Op.{Op}
use Rattle.cfix_base.specs.declared.op.Op.TheVariants.{Leave, First, Done, Wait, Enter, Add}
use Rattle.step_state.specs.declared.item.Item.{Item}
use Rattle.step_state.specs.declared.item.Item.TheVariants as item
use Rattle.step_state.specs.declared.item.Action.{Action}
use Rattle.step_state.specs.declared.item.Action.TheVariants.{Get, GetKeep, Put, Take, Lock, Unlock, Create, Join, Print, Call, Sleep, Wake, Signal, Broadcast}
use Rattle.step_state.specs.declared.item.HandleSite.{HandleSite}
use Rattle.step_state.specs.declared.frame.Frame.{Frame}
use Rattle.step_state.specs.declared.state.Configuration.{Configuration}
use Rattle.step_state.specs.Act.{handle_at}
use Rattle.step_state.specs.Sleepers.{sleepers_of, sleeps}
use Rattle.step_state.specs.Operate.{may_enter, no_token}
use Rattle.step_machine.specs.Tops.{may_join, top_of}

-- an operation that can time out goes on where it may, and times out where it may not
abbrev pub in_mode : (late may : Bool) → Bool
in_mode false may = may
in_mode true may = not may

-- whether an order has no token or its flag
abbrev pub is_ready : Configuration → ℕ → Bool
is_ready s j = no_token (slice_index s.tokens j) || slice_index_or s.flags j false

abbrev pub may_operate : Configuration → ℕ → Bool → Op → Bool
may_operate s t late (Enter k) = in_mode late (may_enter (slice_index_or s.locks k.number None) t)
may_operate s t late (Wait j) = in_mode late (is_ready s j.number)
may_operate s t late (Leave k) = not late
may_operate s t late (First j) = not late
may_operate s t late (Done j) = not late
may_operate s t late (Add j) = not late

-- whether a mutex has no owner
abbrev pub is_free : Option ℕ → Bool
is_free None = true
is_free (Some t) = false

-- whether the join of a top frame goes on or traps
abbrev pub may_join_at : Configuration → HandleSite → Option Frame → Bool
may_join_at s target None = false
may_join_at s target (Some f) = may_join s (handle_at s f target f.values)

-- whether an item that reads or changes what is outside its frame makes a step or traps
abbrev pub may_act : Configuration → ℕ → Action → Bool
may_act s t (Lock m) = is_free (slice_index_or s.owners m.number None)
may_act s t (Join target) = may_join_at s target (top_of s t)
may_act s t (Wake v m) = not (sleeps t (sleepers_of s v)) && is_free (slice_index_or s.owners m.number None)
may_act s t (Get site) = true
may_act s t (GetKeep site) = true
may_act s t (Put site) = true
may_act s t Take = true
may_act s t (Unlock m) = true
may_act s t (Create target of) = true
may_act s t (Print n args) = true
may_act s t (Call g) = true
may_act s t (Sleep v m) = true
may_act s t (Signal v) = true
may_act s t (Broadcast v) = true

abbrev pub may_do : Configuration → ℕ → Bool → Item → Bool
may_do s t late (item.Op op) = may_operate s t late op
may_do s t late (item.Reduce r) = not late
may_do s t late (item.Act a) = not late && may_act s t a
may_do s t late (item.Go m) = not late
