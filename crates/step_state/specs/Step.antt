-- One step of one thread.
use Rattle.std.specs.Prelude.{ℕ, zero, suc, ℤ, pos, Bool, true, false, List, [], ◌∷◌, slice_get, Option, Some, None}
use Rattle.cfix_base.specs.declared.entry.Entry.{Entry}
use Rattle.cfix_base.specs.declared.number.NodeId.{NodeId}
use Rattle.cfix_base.specs.declared.place.Place.{Place}
use Rattle.cfix_base.specs.declared.place.Place.TheVariants.{Start, After, True, False}
use Rattle.step_state.specs.declared.event.Event.TheVariants as event
use Rattle.step_state.specs.declared.event.Ending.{Ending}
use Rattle.step_state.specs.declared.event.Ending.TheVariants as ending
use Rattle.step_state.specs.declared.item.Item.{Item}
use Rattle.step_state.specs.declared.item.Item.TheVariants as item
use Rattle.step_state.specs.declared.item.Move.{Move}
use Rattle.step_state.specs.declared.item.Move.TheVariants.{Node, Branch, Edge, Exit}
use Rattle.step_state.specs.declared.frame.Frame.{Frame}
use Rattle.step_state.specs.declared.thread.Thread.{Thread}
use Rattle.step_state.specs.declared.state.Configuration.{Configuration}
use Rattle.step_state.specs.Code.{Code}
use Rattle.step_state.specs.Values.{last_value, other_values, is_zero}
use Rattle.step_state.specs.Changes.{Made, with_thread, with_frames, with_top_frame, with_values, with_work, pass}
use Rattle.step_state.specs.Reduce.{reduce, reduced}
use Rattle.step_state.specs.Act.{act}
use Rattle.step_state.specs.Operate.{operate}

-- the way that a condition takes, by whether its value is 0
abbrev pub branch_place : NodeId → Bool → Place
branch_place n true = False n
branch_place n false = True n

-- the value that a function returns: that of the `return` with a value that it went through last, else 0
abbrev pub given : Bool → List ℤ → ℤ
given true vs = last_value vs
given false vs = pos 0

abbrev pub returned : Code → Frame → Place → ℤ
returned c f (After n) = given (c.gives n.number) f.values
returned c f (Start g) = pos 0
returned c f (True n) = pos 0
returned c f (False n) = pos 0

-- the end of main, which is thread 0, ends the run (5.1.2.2.3 of ISO/IEC 9899:2011)
abbrev pub ending_after : ℕ → Ending → Ending
ending_after zero old = ending.End
ending_after (suc t) old = old

-- a frame with this value ends: the frame below it gets the value, or the thread ends
abbrev pub leave_frame : Configuration → ℕ → Thread → ℤ → List Frame → Made
leave_frame s t th v [] = Some (record (with_thread s t (with_frames th [])) { ending = ending_after t s.ending }, event.Exit)
leave_frame s t th v (g ∷ below) = Some (with_top_frame s t th (with_values g (v ∷ g.values)) below, event.Return v)

-- The table of the items by which control goes on. The frame f of thread t has the item no more.
abbrev pub go : Code → Configuration → ℕ → Thread → Frame → List Frame → Move → Made
go c s t th f below (Node n) =
    Some (with_top_frame s t th (record f { visit = Some n; values = []; work = c.items n.number }) below, event.Begin n)
go c s t th f below (Branch n) =
    Some (with_top_frame s t th (pass c (with_values f (other_values f.values)) (branch_place n (is_zero (last_value f.values)))) below, event.Silent)
go c s t th f below (Edge n) = Some (with_top_frame s t th (pass c f (After n)) below, event.Silent)
go c s t th f below Exit = leave_frame s t th (returned c f f.last) below

-- The first item of the work of the thread's top frame; only operations have timeouts.
abbrev pub work_step : Code → Configuration → ℕ → Bool → Thread → Frame → List Frame → List Item → Made
work_step c s t late th f below [] = None
work_step c s t late th f below (item.Op op ∷ rest) = operate s t (with_frames th (with_work f rest ∷ below)) late op
work_step c s t true th f below (item.Reduce r ∷ rest) = None
work_step c s t true th f below (item.Act a ∷ rest) = None
work_step c s t true th f below (item.Go m ∷ rest) = None
work_step c s t false th f below (item.Reduce r ∷ rest) = reduced s t th below (reduce c (with_work f rest) r)
work_step c s t false th f below (item.Act a ∷ rest) = act c s t th (with_work f rest) below a
work_step c s t false th f below (item.Go m ∷ rest) = go c s t th (with_work f rest) below m

-- a thread without frames has ended
abbrev pub frames_step : Code → Configuration → ℕ → Bool → Thread → List Frame → Made
frames_step c s t late th [] = None
frames_step c s t late th (f ∷ below) = work_step c s t late th f below f.work

abbrev pub thread_step : Code → Configuration → ℕ → Bool → Option Thread → Made
thread_step c s t late None = None
thread_step c s t late (Some th) = frames_step c s t late th th.frames

-- nothing where the run has ended
abbrev pub unended_step : Code → Configuration → ℕ → Bool → Ending → Made
unended_step c s t late ending.Running = thread_step c s t late (slice_get s.threads t)
unended_step c s t late ending.End = None
unended_step c s t late (ending.Trap x) = None

-- The step that an entry makes, or nothing where it makes none.
abbrev pub step : Code → Configuration → Entry → Made
step c s e = unended_step c s e.thread e.timeout s.ending
