-- Erasure: configurations and schedules without the new operations, which are those with numbers from the marks on.
use Rattle.std.specs.Prelude.{ℕ, nat_le, ℤ, Bool, true, false, List, [], ◌∷◌, map, take, Some, None}
use Rattle.cfix_base.specs.declared.entry.Entry.{Entry}
use Rattle.cfix_base.specs.declared.mark.Marks.{Marks}
use Rattle.c_prog.specs.Marks.{is_new, is_new_start, keep_old, old_of}
use Rattle.step_state.specs.declared.event.Event.{Event}
use Rattle.step_state.specs.declared.event.Event.TheVariants as event
use Rattle.step_state.specs.declared.item.Item.{Item}
use Rattle.step_state.specs.declared.item.Item.TheVariants as item
use Rattle.step_state.specs.declared.frame.Frame.{Frame}
use Rattle.step_state.specs.declared.thread.Thread.{Thread}
use Rattle.step_state.specs.declared.state.Configuration.{Configuration}
use Rattle.step_state.specs.Code.{Code}
use Rattle.step_state.specs.Changes.{Made}
use Rattle.step_state.specs.Start.{start}
use Rattle.step_state.specs.Step.{step}

-- what a machine reads of the program without its new operations and starts
abbrev pub strip_code : Marks → Code → Code
strip_code m c = record c {
  ops = λ place. old_of (is_new m) (c.ops place);
  starts = old_of (is_new_start m) c.starts;
  locks = m.lock;
  orders = m.order;
}

-- the work without its new operations
abbrev pub strip_work : Marks → List Item → List Item
strip_work m [] = []
strip_work m (item.Op o ∷ work) = keep_old (is_new m o) (item.Op o) (strip_work m work)
strip_work m (item.Reduce r ∷ work) = item.Reduce r ∷ strip_work m work
strip_work m (item.Act a ∷ work) = item.Act a ∷ strip_work m work
strip_work m (item.Go g ∷ work) = item.Go g ∷ strip_work m work

abbrev pub strip_frame : Marks → Frame → Frame
strip_frame m f = record f { work = strip_work m f.work }

abbrev pub strip_thread : Marks → Thread → Thread
strip_thread m th = record th {
  frames = map (strip_frame m) th.frames;
  held = take m.lock th.held;
  missed = take m.lock th.missed;
}

-- the configuration without pending new operations, and without the new locks, depths, tokens and flags
abbrev pub strip_configuration : Marks → Configuration → Configuration
strip_configuration m s = record s {
  threads = map (strip_thread m) s.threads;
  locks = take m.lock s.locks;
  tokens = take m.order s.tokens;
  flags = take m.order s.flags;
}

-- whether the event is that of a new operation
abbrev pub is_inserted : Marks → Event → Bool
is_inserted m (event.Enter k) = nat_le m.lock k.number
is_inserted m (event.EnterMissed k) = nat_le m.lock k.number
is_inserted m (event.Leave k) = nat_le m.lock k.number
is_inserted m (event.First j) = nat_le m.order j.number
is_inserted m (event.Done j) = nat_le m.order j.number
is_inserted m (event.Wait j) = nat_le m.order j.number
is_inserted m (event.WaitMissed j) = nat_le m.order j.number
is_inserted m (event.Add j) = nat_le m.order j.number
is_inserted m _ = false

-- an entry is kept, unless its step was a new operation
abbrev pub kept_if : Bool → Entry → List Entry → List Entry
kept_if true e es = es
kept_if false e es = e ∷ es

abbrev pub kept : Marks → Entry → Made → (Configuration → List Entry) → List Entry
kept m e None rest = []
kept m e (Some (s, ev)) rest = kept_if (is_inserted m ev) e (rest s)

-- the schedule without the entries whose steps were new operations, from this configuration on
abbrev pub erased_from : Marks → Code → Configuration → List Entry → List Entry
erased_from m c s [] = []
erased_from m c s (e ∷ es) = kept m e (step c s e) (λ next. erased_from m c next es)

abbrev pub erased : Marks → Code → List ℤ → List Entry → List Entry
erased m c input es = erased_from m c (start c input) es
