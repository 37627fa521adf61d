-- A thread goes on in at most one mode.
use Rattle.std.proofs.Common.{◌≡◌, ℕ, Bool, true, false, List, [], ◌∷◌, slice_get, Option, Some, None, refl, subst}
use Rattle.cfix_base.specs.declared.number.LockId.{LockId}
use Rattle.cfix_base.specs.declared.number.OrderId.{OrderId}
use Rattle.cfix_base.specs.declared.op.Op.{Op}
use Rattle.cfix_base.specs.declared.op.Op.TheVariants.{Leave, First, Done, Wait, Enter, Add}
use Rattle.step_state.specs.declared.event.Event.{Event}
use Rattle.step_state.specs.declared.event.Ending.{Ending}
use Rattle.step_state.specs.declared.event.Ending.TheVariants as ending
use Rattle.step_state.specs.declared.item.Item.{Item}
use Rattle.step_state.specs.declared.item.Item.TheVariants as item
use Rattle.step_state.specs.declared.frame.Frame.{Frame}
use Rattle.step_state.specs.declared.thread.Thread.{Thread}
use Rattle.step_state.specs.declared.state.Configuration.{Configuration}
use Rattle.step_state.specs.Code.{Code}
use Rattle.step_state.specs.Changes.{Made}
use Rattle.step_state.specs.Operate.{enter, wait, operate}
use Rattle.step_state.specs.Step.{work_step, frames_step, thread_step, unended_step, step}

-- where there is a step without a timeout, there is none with one
abbrev OneMode : (normal late : Made) → Type 0
OneMode None late = Unit {0}
OneMode (Some made) late = late ≡ None

never_late : (normal : Made) → OneMode normal None
never_late None = tt
never_late (Some made) = refl

enter_one : (s : Configuration) (t : ℕ) (th : Thread) (k : LockId) (may : Bool) → OneMode (enter s t th k false may) (enter s t th k true may)
enter_one s t th k true = refl
enter_one s t th k false = tt

wait_one : (s : Configuration) (t : ℕ) (th : Thread) (j : OrderId) (ready : Bool) → OneMode (wait s t th j false ready) (wait s t th j true ready)
wait_one s t th j true = refl
wait_one s t th j false = tt

operate_one : (s : Configuration) (t : ℕ) (th : Thread) (o : Op) → OneMode (operate s t th false o) (operate s t th true o)
operate_one s t th (Enter k) = enter_one s t th k _
operate_one s t th (Wait j) = wait_one s t th j _
operate_one s t th (Leave k) = refl
operate_one s t th (First j) = refl
operate_one s t th (Done j) = refl
operate_one s t th (Add j) = refl

work_one : (c : Code) (s : Configuration) (t : ℕ) (th : Thread) (f : Frame) (below : List Frame) (work : List Item)
    → OneMode (work_step c s t false th f below work) (work_step c s t true th f below work)
work_one c s t th f below [] = tt
work_one c s t th f below (item.Op o ∷ rest) = operate_one s t _ o
work_one c s t th f below (item.Reduce r ∷ rest) = never_late _
work_one c s t th f below (item.Act a ∷ rest) = never_late _
work_one c s t th f below (item.Go m ∷ rest) = never_late _

frames_one : (c : Code) (s : Configuration) (t : ℕ) (th : Thread) (fs : List Frame) → OneMode (frames_step c s t false th fs) (frames_step c s t true th fs)
frames_one c s t th [] = tt
frames_one c s t th (f ∷ below) = work_one c s t th f below f.work

thread_one : (c : Code) (s : Configuration) (t : ℕ) (o : Option Thread) → OneMode (thread_step c s t false o) (thread_step c s t true o)
thread_one c s t None = tt
thread_one c s t (Some th) = frames_one c s t th th.frames

unended_one : (c : Code) (s : Configuration) (t : ℕ) (how : Ending) → OneMode (unended_step c s t false how) (unended_step c s t true how)
unended_one c s t ending.Running = thread_one c s t (slice_get s.threads t)
unended_one c s t ending.End = tt
unended_one c s t (ending.Trap x) = tt

pub one_mode : (c : Code) (s : Configuration) (t : ℕ) (next : Configuration) (ev : Event)
    → step c s (record { thread = t; timeout = false }) ≡ Some (next, ev) → step c s (record { thread = t; timeout = true }) ≡ None
one_mode c s t next ev goes = subst (λ made. OneMode made (step c s (record { thread = t; timeout = true }))) goes (unended_one c s t s.ending)
