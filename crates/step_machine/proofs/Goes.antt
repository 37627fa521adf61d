-- A step is made exactly where the next item may be done.
use Rattle.std.proofs.Common.{◌≡◌, ℕ, zero, suc, ℤ, Bool, true, false, not, List, [], ◌∷◌, Option, Some, None, refl, ap, sym, ◌∙◌}
use Rattle.std.specs.Prelude.{slice_get, is_some, ◌&&◌, ◌||◌, slice_index, slice_index_or}
use Rattle.cfix_base.specs.declared.number.LockId.{LockId}
use Rattle.cfix_base.specs.declared.number.OrderId.{OrderId}
use Rattle.cfix_base.specs.declared.number.VarId.{VarId}
use Rattle.cfix_base.specs.declared.number.FnId.{FnId}
use Rattle.cfix_base.specs.declared.op.Op.{Op}
use Rattle.cfix_base.specs.declared.op.Op.TheVariants as op
use Rattle.c_prog.specs.declared.expr.Var.{Var}
use Rattle.c_prog.specs.declared.expr.Var.TheVariants as var
use Rattle.step_state.specs.declared.item.Item.{Item}
use Rattle.step_state.specs.declared.item.Item.TheVariants as item
use Rattle.step_state.specs.declared.item.Action.{Action}
use Rattle.step_state.specs.declared.item.Action.TheVariants as action
use Rattle.step_state.specs.declared.item.Move.{Move}
use Rattle.step_state.specs.declared.item.Move.TheVariants as move
use Rattle.step_state.specs.declared.item.GlobalSite.{GlobalSite}
use Rattle.step_state.specs.declared.item.HandleSite.{HandleSite}
use Rattle.step_state.specs.declared.frame.Frame.{Frame}
use Rattle.step_state.specs.declared.thread.Thread.{Thread}
use Rattle.step_state.specs.declared.state.Configuration.{Configuration}
use Rattle.step_state.specs.Code.{Code}
use Rattle.step_state.specs.Changes.{with_frames, with_values, with_work}
use Rattle.step_state.specs.Values.{cell, index_value, last_value, other_values, past_index}
use Rattle.step_state.specs.Reduce.{Reduced, frame, trap, reduce, reduced}
use Rattle.step_state.specs.Act.{global_cell, handles_of, holds, fetched, written, taken, locked, unlocked, created, joined_at, joined_number, joined_some, joined_once, joined_ended, handle_at, slept, woken, act}
use Rattle.step_state.specs.Sleepers.{sleepers_of, sleeps}
use Rattle.step_state.specs.Operate.{enter, wait, operate, may_enter}
use Rattle.step_state.specs.Step.{go, leave_frame, returned, work_step, unended_step, step}
use Rattle.step_state.specs.declared.event.Ending.{Ending}
use Rattle.step_state.specs.declared.event.Ending.TheVariants as ending
use Rattle.cfix_base.specs.declared.entry.Entry.{Entry}
use Rattle.step_machine.specs.Next.{made, IsNext, IsOver}
use Rattle.step_machine.specs.Answers.{is_running, IsStuck, MayDo}
use Rattle.step_machine.specs.Tops.{may_join, joins_none, is_bad_join, no_frames, thread_over, has_ended, top_of, thread_top}
use Rattle.step_machine.specs.Goes.{in_mode, is_ready, may_operate, is_free, may_join_at, may_act, may_do}
use Rattle.step_machine.proofs.Modes.{not_some}
use Rattle.step_machine.proofs.Nexts.{next_is}

enter_goes : (s : Configuration) (t : ℕ) (th : Thread) (k : LockId) (late may : Bool) → is_some (enter s t th k late may) ≡ in_mode late may
enter_goes s t th k false true = refl
enter_goes s t th k false false = refl
enter_goes s t th k true true = refl
enter_goes s t th k true false = refl

wait_goes : (s : Configuration) (t : ℕ) (th : Thread) (j : OrderId) (late may : Bool) → is_some (wait s t th j late may) ≡ in_mode late may
wait_goes s t th j false true = refl
wait_goes s t th j false false = refl
wait_goes s t th j true true = refl
wait_goes s t th j true false = refl

operate_goes : (s : Configuration) (t : ℕ) (th : Thread) (late : Bool) (o : Op) → is_some (operate s t th late o) ≡ may_operate s t late o
operate_goes s t th late (op.Enter k) = enter_goes s t th k late (may_enter (slice_index_or s.locks k.number None) t)
operate_goes s t th late (op.Wait j) = wait_goes s t th j late (is_ready s j.number)
operate_goes s t th false (op.Leave k) = refl
operate_goes s t th true (op.Leave k) = refl
operate_goes s t th false (op.First j) = refl
operate_goes s t th true (op.First j) = refl
operate_goes s t th false (op.Done j) = refl
operate_goes s t th true (op.Done j) = refl
operate_goes s t th false (op.Add j) = refl
operate_goes s t th true (op.Add j) = refl

fetched_goes : (s : Configuration) (t : ℕ) (th : Thread) (f : Frame) (below : List Frame) (site : GlobalSite) (i : ℤ) (vs : List ℤ) (o : Option ℤ) → is_some (fetched s t th f below site i vs o) ≡ true
fetched_goes s t th f below site i vs None = refl
fetched_goes s t th f below site i vs (Some v) = refl

written_goes : (s : Configuration) (t : ℕ) (th : Thread) (f : Frame) (below : List Frame) (site : GlobalSite) (i : ℤ) (vs : List ℤ) (v : ℤ) (o : Option ℤ) → is_some (written s t th f below site i vs v o) ≡ true
written_goes s t th f below site i vs v None = refl
written_goes s t th f below site i vs v (Some old) = refl

taken_goes : (s : Configuration) (t : ℕ) (th : Thread) (f : Frame) (below : List Frame) (input : List ℤ) → is_some (taken s t th f below input) ≡ true
taken_goes s t th f below [] = refl
taken_goes s t th f below (v ∷ rest) = refl

locked_goes : (s : Configuration) (t : ℕ) (th : Thread) (f : Frame) (below : List Frame) (m : VarId) (o : Option ℕ) → is_some (locked s t th f below m o) ≡ is_free o
locked_goes s t th f below m None = refl
locked_goes s t th f below m (Some u) = refl

unlocked_goes : (s : Configuration) (t : ℕ) (th : Thread) (f : Frame) (below : List Frame) (m : VarId) (b : Bool) → is_some (unlocked s t th f below m b) ≡ true
unlocked_goes s t th f below m true = refl
unlocked_goes s t th f below m false = refl

slept_goes : (s : Configuration) (t : ℕ) (th : Thread) (f : Frame) (below : List Frame) (v m : VarId) (b : Bool) → is_some (slept s t th f below v m b) ≡ true
slept_goes s t th f below v m true = refl
slept_goes s t th f below v m false = refl

woken_goes : (s : Configuration) (t : ℕ) (th : Thread) (f : Frame) (below : List Frame) (v m : VarId) (b : Bool) (o : Option ℕ) → is_some (woken s t th f below v m b o) ≡ (not b && is_free o)
woken_goes s t th f below v m true o = refl
woken_goes s t th f below v m false (Some u) = refl
woken_goes s t th f below v m false None = refl

created_goes : (c : Code) (s : Configuration) (t : ℕ) (th : Thread) (f : Frame) (below : List Frame) (target : HandleSite) (of : FnId) (i : ℤ) (vs : List ℤ) (arg : ℤ) (o : Option ℕ) → is_some (created c s t th f below target of i vs arg o) ≡ true
created_goes c s t th f below target of i vs arg None = refl
created_goes c s t th f below target of i vs arg (Some old) = refl

ended_goes : (s : Configuration) (t : ℕ) (th : Thread) (f : Frame) (below : List Frame) (n : ℕ) (other : Thread) (fs : List Frame) → is_some (joined_ended s t th f below n other fs) ≡ no_frames fs
ended_goes s t th f below n other [] = refl
ended_goes s t th f below n other (g ∷ rest) = refl

once_goes : (s : Configuration) (t : ℕ) (th : Thread) (f : Frame) (below : List Frame) (n : ℕ) (other : Thread) (b : Bool) → is_some (joined_once s t th f below n other b) ≡ (b || no_frames other.frames)
once_goes s t th f below n other true = refl
once_goes s t th f below n other false = ended_goes s t th f below n other other.frames

some_goes : (s : Configuration) (t : ℕ) (th : Thread) (f : Frame) (below : List Frame) (n : ℕ) (o : Option Thread) → is_some (joined_some s t th f below n o) ≡ (joins_none o || thread_over o)
some_goes s t th f below n None = refl
some_goes s t th f below n (Some other) = once_goes s t th f below n other other.joined

number_goes : (s : Configuration) (t : ℕ) (th : Thread) (f : Frame) (below : List Frame) (n : ℕ) → is_some (joined_number s t th f below n) ≡ (is_bad_join s n || has_ended s n)
number_goes s t th f below zero = refl
number_goes s t th f below (suc n) = some_goes s t th f below (suc n) (slice_get s.threads (suc n))

at_goes : (s : Configuration) (t : ℕ) (th : Thread) (f : Frame) (below : List Frame) (o : Option ℕ) → is_some (joined_at s t th f below o) ≡ may_join s o
at_goes s t th f below None = refl
at_goes s t th f below (Some n) = number_goes s t th f below n

-- the numbers in variables do not depend on a frame's values and work
same_numbers : (s : Configuration) (f : Frame) (rest : List Item) (v : Var) → handles_of s (with_work f rest) v ≡ handles_of s f v
same_numbers s f rest (var.Global v) = refl
same_numbers s f rest (var.Local x) = refl

same_handle : (s : Configuration) (f : Frame) (rest : List Item) (site : HandleSite) (vs : List ℤ) → handle_at s (with_work f rest) site vs ≡ handle_at s f site vs
same_handle s f rest site vs = ap (λ l. cell l (index_value site.indexed vs)) (same_numbers s f rest site.var)

top_is : (s : Configuration) (t : ℕ) (item : Item) (h : IsNext s t item) → top_of s t ≡ Some h.frame
top_is s t item h = ap thread_top h.stands ∙ ap (λ fs. slice_get fs 0) h.top

act_goes : (c : Code) (s : Configuration) (t : ℕ) (a : Action) (h : IsNext s t (item.Act a)) → is_some (act c s t h.thread (with_work h.frame h.rest) h.below a) ≡ may_act s t a
act_goes c s t (action.Get site) h =
    fetched_goes s t h.thread (with_work h.frame h.rest) h.below site (index_value site.indexed h.frame.values) (past_index site.indexed h.frame.values) (global_cell s site h.frame.values)
act_goes c s t (action.GetKeep site) h =
    fetched_goes s t h.thread (with_work h.frame h.rest) h.below site (index_value site.indexed h.frame.values) h.frame.values (global_cell s site h.frame.values)
act_goes c s t (action.Put site) h =
    written_goes s t h.thread (with_work h.frame h.rest) h.below site (index_value site.indexed (other_values h.frame.values)) (past_index site.indexed (other_values h.frame.values)) (last_value h.frame.values) (global_cell s site (other_values h.frame.values))
act_goes c s t action.Take h = taken_goes s t h.thread (with_work h.frame h.rest) h.below s.input
act_goes c s t (action.Lock m) h =
    locked_goes s t h.thread (with_work h.frame h.rest) h.below m (slice_index_or s.owners m.number None)
act_goes c s t (action.Unlock m) h =
    unlocked_goes s t h.thread (with_work h.frame h.rest) h.below m (holds (slice_index_or s.owners m.number None) t)
act_goes c s t (action.Create target of) h =
    created_goes c s t h.thread (with_work h.frame h.rest) h.below target of (index_value target.indexed (other_values h.frame.values)) (past_index target.indexed (other_values h.frame.values)) (last_value h.frame.values) (handle_at s (with_work h.frame h.rest) target (other_values h.frame.values))
act_goes c s t (action.Join target) h =
    at_goes s t h.thread (with_values (with_work h.frame h.rest) (past_index target.indexed h.frame.values)) h.below (handle_at s (with_work h.frame h.rest) target h.frame.values) ∙ ap (may_join s) (same_handle s h.frame h.rest target h.frame.values) ∙ sym (ap (may_join_at s target) (top_is s t (item.Act (action.Join target)) h))
act_goes c s t (action.Print n args) h = refl
act_goes c s t (action.Call g) h = refl
act_goes c s t (action.Sleep v m) h =
    slept_goes s t h.thread (with_work h.frame h.rest) h.below v m (holds (slice_index_or s.owners m.number None) t)
act_goes c s t (action.Wake v m) h =
    woken_goes s t h.thread (with_work h.frame h.rest) h.below v m (sleeps t (sleepers_of s v)) (slice_index_or s.owners m.number None)
act_goes c s t (action.Signal v) h = refl
act_goes c s t (action.Broadcast v) h = refl

leave_goes : (s : Configuration) (t : ℕ) (th : Thread) (v : ℤ) (below : List Frame) → is_some (leave_frame s t th v below) ≡ true
leave_goes s t th v [] = refl
leave_goes s t th v (g ∷ below) = refl

go_goes : (c : Code) (s : Configuration) (t : ℕ) (th : Thread) (f : Frame) (below : List Frame) (m : Move) → is_some (go c s t th f below m) ≡ true
go_goes c s t th f below (move.Node n) = refl
go_goes c s t th f below (move.Branch n) = refl
go_goes c s t th f below (move.Edge n) = refl
go_goes c s t th f below move.Exit = leave_goes s t th (returned c f f.last) below

reduced_goes : (s : Configuration) (t : ℕ) (th : Thread) (below : List Frame) (r : Reduced) → is_some (reduced s t th below r) ≡ true
reduced_goes s t th below (frame f) = refl
reduced_goes s t th below (trap x) = refl

work_goes : (c : Code) (s : Configuration) (t : ℕ) (late : Bool) (i : Item) (h : IsNext s t i) → is_some (work_step c s t late h.thread h.frame h.below (i ∷ h.rest)) ≡ may_do s t late i
work_goes c s t late (item.Op o) h = operate_goes s t (with_frames h.thread (with_work h.frame h.rest ∷ h.below)) late o
work_goes c s t true (item.Reduce r) h = refl
work_goes c s t true (item.Act a) h = refl
work_goes c s t true (item.Go m) h = refl
work_goes c s t false (item.Reduce r) h = reduced_goes s t h.thread h.below (reduce c (with_work h.frame h.rest) r)
work_goes c s t false (item.Act a) h = act_goes c s t a h
work_goes c s t false (item.Go m) h = go_goes c s t h.thread (with_work h.frame h.rest) h.below m

pub goes : (c : Code) (s : Configuration) (t : ℕ) (late : Bool) (i : Item) (h : IsNext s t i) → is_some (made c s t late) ≡ may_do s t late i
goes c s t late i h = ap is_some (next_is c s t late i h) ∙ work_goes c s t late i h

pub stuck_over : (c : Code) (s : Configuration) (e : Entry) → IsOver c s e.thread → IsStuck c s e
stuck_over c s e over = record { none = over.none e.timeout }

pub stuck_item : (c : Code) (s : Configuration) (e : Entry) (i : Item) → IsNext s e.thread i → may_do s e.thread e.timeout i ≡ false → IsStuck c s e
stuck_item c s e i h cannot = record { none = not_some (made c s e.thread e.timeout) (goes c s e.thread e.timeout i h ∙ cannot) }

-- while the run goes on, a step is what the thread makes
pub running_step : (c : Code) (s : Configuration) (e : Entry) → is_running s.ending ≡ true → step c s e ≡ made c s e.thread e.timeout
running_step c s e h = by_ending s.ending h
  where
    by_ending : (x : Ending) → is_running x ≡ true → unended_step c s e.thread e.timeout x ≡ made c s e.thread e.timeout
    by_ending ending.Running h = refl
    by_ending ending.End h = absurd (let a : false ≡ true = h in cc)
    by_ending (ending.Trap x) h = absurd (let a : false ≡ true = h in cc)

pub ended_step : (c : Code) (s : Configuration) (e : Entry) → is_running s.ending ≡ false → step c s e ≡ None
ended_step c s e h = by_ending s.ending h
  where
    by_ending : (x : Ending) → is_running x ≡ false → unended_step c s e.thread e.timeout x ≡ None
    by_ending ending.Running h = absurd (let a : true ≡ false = h in cc)
    by_ending ending.End h = refl
    by_ending (ending.Trap x) h = refl

pub enabled_ended : (c : Code) (s : Configuration) (e : Entry) → is_running s.ending ≡ false → false ≡ is_some (step c s e)
enabled_ended c s e h = sym (ap is_some (ended_step c s e h))

pub enabled_stuck : (c : Code) (s : Configuration) (e : Entry) → is_running s.ending ≡ true → IsStuck c s e → is_some (step c s e) ≡ false
enabled_stuck c s e h stuck = ap is_some (running_step c s e h ∙ stuck.none)

pub enabled_may : (c : Code) (s : Configuration) (e : Entry) (i : Item) → is_running s.ending ≡ true → MayDo s e i → is_some (step c s e) ≡ true
enabled_may c s e i h may = ap is_some (running_step c s e h) ∙ goes c s e.thread e.timeout i may.next ∙ may.may
