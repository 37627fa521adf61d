-- What a step was and did: the one case distinction over the table of steps that proofs about locks and orders make.
use Rattle.std.proofs.Common.{◌≡◌, ℕ, zero, suc, ◌+◌, ℤ, pos, Bool, true, false, List, [], ◌∷◌, ◌++◌, drop, length, set, slice_get, Option, Some, None, refl}
use Rattle.cfix_base.specs.declared.entry.Entry.{Entry}
use Rattle.cfix_base.specs.declared.number.VarId.{VarId}
use Rattle.cfix_base.specs.declared.number.FnId.{FnId}
use Rattle.cfix_base.specs.declared.number.NodeId.{NodeId}
use Rattle.cfix_base.specs.declared.op.Op.{Op}
use Rattle.cfix_base.specs.declared.place.Place.{Place}
use Rattle.cfix_base.specs.declared.place.Place.TheVariants.{After}
use Rattle.step_state.specs.declared.event.Event.{Event}
use Rattle.step_state.specs.declared.event.Event.TheVariants as event
use Rattle.step_state.specs.declared.event.Ending.{Ending}
use Rattle.step_state.specs.declared.event.Ending.TheVariants as ending
use Rattle.step_state.specs.declared.item.Item.{Item}
use Rattle.step_state.specs.declared.item.Item.TheVariants as item
use Rattle.step_state.specs.declared.item.Action.{Action}
use Rattle.step_state.specs.declared.item.Action.TheVariants as action
use Rattle.step_state.specs.declared.item.Move.{Move}
use Rattle.step_state.specs.declared.item.Move.TheVariants as move
use Rattle.step_state.specs.declared.item.Reduction.{Reduction}
use Rattle.step_state.specs.declared.item.GlobalSite.{GlobalSite}
use Rattle.step_state.specs.declared.item.HandleSite.{HandleSite}
use Rattle.step_state.specs.declared.frame.Frame.{Frame}
use Rattle.step_state.specs.declared.thread.Thread.{Thread}
use Rattle.step_state.specs.declared.state.Configuration.{Configuration}
use Rattle.step_state.specs.Code.{Code}
use Rattle.step_state.specs.Values.{last_value, other_values, last_values, past_index, index_value, is_zero}
use Rattle.step_state.specs.Changes.{Made, with_frames, with_values, with_work, pass, frame_of, thread_of}
use Rattle.step_state.specs.Reduce.{Reduced, frame, trap, reduce, reduced}
use Rattle.step_state.specs.Act.{act, fetched, written, taken, locked, unlocked, created, joined_ended, joined_once, joined_some, joined_number, joined_at, local_handles, slept, woken}
use Rattle.step_state.specs.Operate.{operate}
use Rattle.step_state.specs.Step.{branch_place, leave_frame, go, work_step, frames_step, thread_step, unended_step, step}

-- a configuration with these threads and so many frames made, and with the inserted locks and orders as before
pub record Beside (s next : Configuration) (ths : List Thread) (count : ℕ) : Type 0 where
  pub threads : next.threads ≡ ths
  pub made : next.made ≡ count
  pub locks : next.locks ≡ s.locks
  pub tokens : next.tokens ≡ s.tokens
  pub flags : next.flags ≡ s.flags

-- what a visit's end leads to
abbrev pub Passes : NodeId → Place → Move → Type 0
Passes n place (move.Branch b) = (b ≡ n) × ((nought : Bool) × (place ≡ branch_place n nought))
Passes n place (move.Edge b) = (b ≡ n) × (place ≡ After n)
Passes n place _ = ⊥

-- the events of inserted operations and of visits that begin
abbrev pub IsPlain : Event → Type 0
IsPlain (event.Begin n) = ⊥
IsPlain (event.Enter k) = ⊥
IsPlain (event.EnterMissed k) = ⊥
IsPlain (event.Leave k) = ⊥
IsPlain (event.First j) = ⊥
IsPlain (event.Done j) = ⊥
IsPlain (event.Wait j) = ⊥
IsPlain (event.WaitMissed j) = ⊥
IsPlain (event.Add j) = ⊥
IsPlain _ = Unit {0}

-- neither a call nor a creation
abbrev pub Simple : Action → Type 0
Simple (action.Call g) = ⊥
Simple (action.Create target g) = ⊥
Simple _ = Unit {0}

pub data Change (c : Code) (s : Configuration) (t : ℕ) (late : Bool) (th : Thread) (f : Frame) (below : List Frame) (next : Configuration) (ev : Event) : Type 0 where
  IsTrapped : Beside s next s.threads s.made → IsPlain ev → Change c s t late th f below next ev
  IsOperated : (o : Op) (rest : List Item) → f.work ≡ item.Op o ∷ rest
      → operate s t (with_frames th (with_work f rest ∷ below)) late o ≡ Some (next, ev) → Change c s t late th f below next ev
  IsReduced : (r : Reduction) (rest : List Item) (g : Frame) → f.work ≡ item.Reduce r ∷ rest → reduce c (with_work f rest) r ≡ frame g
      → Beside s next (set s.threads t (with_frames th (g ∷ below))) s.made → IsPlain ev → Change c s t late th f below next ev
  IsActed : (a : Action) (rest : List Item) (vs : List ℤ) → f.work ≡ item.Act a ∷ rest → Simple a
      → Beside s next (set s.threads t (with_frames th (with_values (with_work f rest) vs ∷ below))) s.made → IsPlain ev
      → Change c s t late th f below next ev
  IsJoined : (a : Action) (rest : List Item) (vs : List ℤ) (n : ℕ) (other : Thread) → f.work ≡ item.Act a ∷ rest → Simple a → slice_get s.threads n ≡ Some other
      → Beside s next (set (set s.threads n (record other { joined = true })) t (with_frames th (with_values (with_work f rest) vs ∷ below))) s.made
      → IsPlain ev → Change c s t late th f below next ev
  IsCreated : (target : HandleSite) (g : FnId) (rest : List Item) (vs : List ℤ) (hs : List (List ℕ)) (args : List ℤ) → f.work ≡ item.Act (action.Create target g) ∷ rest
      → Beside s next (set s.threads t (with_frames th (record (with_work f rest) { values = vs; handles = hs } ∷ below)) ++ thread_of c (frame_of c s.made g.number args) ∷ [])
      (s.made + 1) → IsPlain ev → Change c s t late th f below next ev
  IsCalled : (g : FnId) (rest : List Item) (args vs : List ℤ) → f.work ≡ item.Act (action.Call g) ∷ rest
      → Beside s next (set s.threads t (with_frames th (frame_of c s.made g.number args ∷ with_values (with_work f rest) vs ∷ below))) (s.made + 1)
      → IsPlain ev → Change c s t late th f below next ev
  IsBegun : (n : NodeId) (rest : List Item) → f.work ≡ item.Go (move.Node n) ∷ rest
      → Beside s next (set s.threads t (with_frames th (record (with_work f rest) { visit = Some n; values = []; work = c.items n.number } ∷ below))) s.made
      → ev ≡ event.Begin n → Change c s t late th f below next ev
  IsPassed : (n : NodeId) (g : Move) (place : Place) (rest : List Item) (vs : List ℤ) → f.work ≡ item.Go g ∷ rest → Passes n place g
      → Beside s next (set s.threads t (with_frames th (pass c (with_values (with_work f rest) vs) place ∷ below))) s.made → IsPlain ev
      → Change c s t late th f below next ev
  IsReturned : (rest : List Item) (g : Frame) (under : List Frame) (v : ℤ) → f.work ≡ item.Go move.Exit ∷ rest → below ≡ g ∷ under
      → Beside s next (set s.threads t (with_frames th (with_values g (v ∷ g.values) ∷ under))) s.made → IsPlain ev → Change c s t late th f below next ev
  IsExited : (rest : List Item) → f.work ≡ item.Go move.Exit ∷ rest → below ≡ []
      → Beside s next (set s.threads t (with_frames th [])) s.made → IsPlain ev → Change c s t late th f below next ev

-- the step of a thread's top frame
pub record Told (c : Code) (s : Configuration) (t : ℕ) (late : Bool) (next : Configuration) (ev : Event) : Type 0 where
  pub thread : Thread
  pub frame : Frame
  pub below : List Frame
  pub stands : slice_get s.threads t ≡ Some thread
  pub top : thread.frames ≡ frame ∷ below
  pub running : s.ending ≡ ending.Running
  pub change : Change c s t late thread frame below next ev

abbrev beside : (s next : Configuration) → next.locks ≡ s.locks → next.tokens ≡ s.tokens → next.flags ≡ s.flags → Beside s next next.threads next.made
beside s next l k f = record { threads = refl; made = refl; locks = l; tokens = k; flags = f }

module _ (c : Code) (s : Configuration) (t : ℕ) (late : Bool) (th : Thread) (f : Frame) (below : List Frame) where
  abbrev Is : Made → Type 0
  Is None = Unit {0}
  Is (Some (next, ev)) = Change c s t late th f below next ev

  module _ (a : Action) (rest : List Item) (at : f.work ≡ item.Act a ∷ rest) (simple : Simple a) where
    fetched_is : (site : GlobalSite) (i : ℤ) (vs : List ℤ) (o : Option ℤ) → Is (fetched s t th (with_work f rest) below site i vs o)
    fetched_is site i vs None = IsTrapped (beside s _ refl refl refl) tt
    fetched_is site i vs (Some v) = IsActed a rest (v ∷ vs) at simple (beside s _ refl refl refl) tt

    written_is : (site : GlobalSite) (i : ℤ) (vs : List ℤ) (v : ℤ) (o : Option ℤ) → Is (written s t th (with_work f rest) below site i vs v o)
    written_is site i vs v None = IsTrapped (beside s _ refl refl refl) tt
    written_is site i vs v (Some old) = IsActed a rest vs at simple (beside s _ refl refl refl) tt

    taken_is : (input : List ℤ) → Is (taken s t th (with_work f rest) below input)
    taken_is [] = IsActed a rest (pos 0 ∷ f.values) at simple (beside s _ refl refl refl) tt
    taken_is (v ∷ left) = IsActed a rest (v ∷ f.values) at simple (beside s _ refl refl refl) tt

    locked_is : (v : VarId) (o : Option ℕ) → Is (locked s t th (with_work f rest) below v o)
    locked_is v None = IsActed a rest f.values at simple (beside s _ refl refl refl) tt
    locked_is v (Some u) = tt

    unlocked_is : (v : VarId) (own : Bool) → Is (unlocked s t th (with_work f rest) below v own)
    unlocked_is v true = IsActed a rest f.values at simple (beside s _ refl refl refl) tt
    unlocked_is v false = IsTrapped (beside s _ refl refl refl) tt

    slept_is : (v w : VarId) (own : Bool) → Is (slept s t th (with_work f rest) below v w own)
    slept_is v w true = IsActed a rest f.values at simple (beside s _ refl refl refl) tt
    slept_is v w false = IsTrapped (beside s _ refl refl refl) tt

    woken_is : (v w : VarId) (asleep : Bool) (o : Option ℕ) → Is (woken s t th (with_work f rest) below v w asleep o)
    woken_is v w true o = tt
    woken_is v w false (Some u) = tt
    woken_is v w false None = IsActed a rest f.values at simple (beside s _ refl refl refl) tt

    module _ (vs : List ℤ) where
      ended_is : (n : ℕ) (other : Thread) (fs : List Frame) → slice_get s.threads n ≡ Some other
          → Is (joined_ended s t th (with_values (with_work f rest) vs) below n other fs)
      ended_is n other [] stands = IsJoined a rest vs n other at simple stands (beside s _ refl refl refl) tt
      ended_is n other (g ∷ fs) stands = tt

      once_is : (n : ℕ) (other : Thread) (was : Bool) → slice_get s.threads n ≡ Some other
          → Is (joined_once s t th (with_values (with_work f rest) vs) below n other was)
      once_is n other true stands = IsTrapped (beside s _ refl refl refl) tt
      once_is n other false stands = ended_is n other other.frames stands

      some_is : (n : ℕ) (o : Option Thread) → slice_get s.threads n ≡ o → Is (joined_some s t th (with_values (with_work f rest) vs) below n o)
      some_is n None stands = IsTrapped (beside s _ refl refl refl) tt
      some_is n (Some other) stands = once_is n other other.joined stands

      number_is : (n : ℕ) → Is (joined_number s t th (with_values (with_work f rest) vs) below n)
      number_is zero = IsTrapped (beside s _ refl refl refl) tt
      number_is (suc n) = some_is (suc n) (slice_get s.threads (suc n)) refl

      joined_is : (o : Option ℕ) → Is (joined_at s t th (with_values (with_work f rest) vs) below o)
      joined_is None = IsTrapped (beside s _ refl refl refl) tt
      joined_is (Some n) = number_is n

  created_is : (target : HandleSite) (g : FnId) (rest : List Item) (i : ℤ) (vs : List ℤ) (arg : ℤ) (o : Option ℕ) → f.work ≡ item.Act (action.Create target g) ∷ rest
      → Is (created c s t th (with_work f rest) below target g i vs arg o)
  created_is target g rest i vs arg None at = IsTrapped (beside s _ refl refl refl) tt
  created_is target g rest i vs arg (Some old) at =
      IsCreated target g rest vs (local_handles s (with_work f rest) target.var i (length s.threads)) (arg ∷ []) at (beside s _ refl refl refl) tt

  act_is : (a : Action) (rest : List Item) → f.work ≡ item.Act a ∷ rest → Is (act c s t th (with_work f rest) below a)
  act_is (action.Get site) rest at = fetched_is (action.Get site) rest at tt site (index_value site.indexed f.values) _ _
  act_is (action.GetKeep site) rest at = fetched_is (action.GetKeep site) rest at tt site (index_value site.indexed f.values) _ _
  act_is (action.Put site) rest at = written_is (action.Put site) rest at tt site (index_value site.indexed (other_values f.values)) _ (last_value f.values) _
  act_is action.Take rest at = taken_is action.Take rest at tt s.input
  act_is (action.Lock v) rest at = locked_is (action.Lock v) rest at tt v _
  act_is (action.Unlock v) rest at = unlocked_is (action.Unlock v) rest at tt v _
  act_is (action.Create target g) rest at = created_is target g rest (index_value target.indexed (other_values f.values)) _ (last_value f.values) _ at
  act_is (action.Join target) rest at = joined_is (action.Join target) rest at tt (past_index target.indexed f.values) _
  act_is (action.Print n args) rest at = IsActed (action.Print n args) rest (drop args f.values) at tt (beside s _ refl refl refl) tt
  act_is (action.Call g) rest at =
      IsCalled g rest (last_values (c.params g.number) f.values) (drop (c.params g.number) f.values) at (beside s _ refl refl refl) tt
  act_is (action.Sleep v w) rest at = slept_is (action.Sleep v w) rest at tt v w _
  act_is (action.Wake v w) rest at = woken_is (action.Wake v w) rest at tt v w _ _
  act_is (action.Signal v) rest at = IsActed (action.Signal v) rest f.values at tt (beside s _ refl refl refl) tt
  act_is (action.Broadcast v) rest at = IsActed (action.Broadcast v) rest f.values at tt (beside s _ refl refl refl) tt

  reduced_is : (r : Reduction) (rest : List Item) (o : Reduced) → f.work ≡ item.Reduce r ∷ rest → reduce c (with_work f rest) r ≡ o → Is (reduced s t th below o)
  reduced_is r rest (frame g) at is = IsReduced r rest g at is (beside s _ refl refl refl) tt
  reduced_is r rest (trap x) at is = IsTrapped (beside s _ refl refl refl) tt

  left_is : (rest : List Item) (v : ℤ) (fs : List Frame) → f.work ≡ item.Go move.Exit ∷ rest → below ≡ fs → Is (leave_frame s t th v fs)
  left_is rest v [] at is = IsExited rest at is (beside s _ refl refl refl) tt
  left_is rest v (g ∷ fs) at is = IsReturned rest g fs v at is (beside s _ refl refl refl) tt

  go_is : (g : Move) (rest : List Item) → f.work ≡ item.Go g ∷ rest → Is (go c s t th (with_work f rest) below g)
  go_is (move.Node n) rest at = IsBegun n rest at (beside s _ refl refl refl) refl
  go_is (move.Branch n) rest at =
      IsPassed n (move.Branch n) (branch_place n (is_zero (last_value f.values))) rest (other_values f.values) at (refl, (is_zero (last_value f.values), refl)) (beside s _ refl refl refl) tt
  go_is (move.Edge n) rest at = IsPassed n (move.Edge n) (After n) rest f.values at (refl, refl) (beside s _ refl refl refl) tt
  go_is move.Exit rest at = left_is rest _ below at refl

  operated_is : (o : Op) (rest : List Item) (made : Made) → f.work ≡ item.Op o ∷ rest → operate s t (with_frames th (with_work f rest ∷ below)) late o ≡ made → Is made
  operated_is o rest None at is = tt
  operated_is o rest (Some (next, ev)) at is = IsOperated o rest at is

work_is : (c : Code) (s : Configuration) (t : ℕ) (late : Bool) (th : Thread) (f : Frame) (below : List Frame) (work : List Item) → f.work ≡ work
    → Is c s t late th f below (work_step c s t late th f below work)
work_is c s t late th f below [] at = tt
work_is c s t late th f below (item.Op o ∷ rest) at = operated_is c s t late th f below o rest _ at refl
work_is c s t true th f below (item.Reduce r ∷ rest) at = tt
work_is c s t true th f below (item.Act a ∷ rest) at = tt
work_is c s t true th f below (item.Go g ∷ rest) at = tt
work_is c s t false th f below (item.Reduce r ∷ rest) at = reduced_is c s t false th f below r rest (reduce c (with_work f rest) r) at refl
work_is c s t false th f below (item.Act a ∷ rest) at = act_is c s t false th f below a rest at
work_is c s t false th f below (item.Go g ∷ rest) at = go_is c s t false th f below g rest at

-- what a step was, by what it gives
abbrev pub IsTold : Code → Configuration → ℕ → Bool → Made → Type 0
IsTold c s t late None = Unit {0}
IsTold c s t late (Some (next, ev)) = Told c s t late next ev

told_of : (c : Code) (s : Configuration) (t : ℕ) (late : Bool) (th : Thread) (f : Frame) (below : List Frame) (made : Made) → s.ending ≡ ending.Running
    → slice_get s.threads t ≡ Some th → th.frames ≡ f ∷ below → Is c s t late th f below made → IsTold c s t late made
told_of c s t late th f below None running stands top is = tt
told_of c s t late th f below (Some (next, ev)) running stands top is =
    record { thread = th; frame = f; below = below; stands = stands; top = top; running = running; change = is }

frames_tell : (c : Code) (s : Configuration) (t : ℕ) (late : Bool) (th : Thread) (fs : List Frame) → s.ending ≡ ending.Running
    → slice_get s.threads t ≡ Some th → th.frames ≡ fs → IsTold c s t late (frames_step c s t late th fs)
frames_tell c s t late th [] running stands top = tt
frames_tell c s t late th (f ∷ below) running stands top =
    told_of c s t late th f below (work_step c s t late th f below f.work) running stands top (work_is c s t late th f below f.work refl)

thread_tells : (c : Code) (s : Configuration) (t : ℕ) (late : Bool) (o : Option Thread) → s.ending ≡ ending.Running → slice_get s.threads t ≡ o
    → IsTold c s t late (thread_step c s t late o)
thread_tells c s t late None running stands = tt
thread_tells c s t late (Some th) running stands = frames_tell c s t late th th.frames running stands refl

unended_tells : (c : Code) (s : Configuration) (t : ℕ) (late : Bool) (how : Ending) → s.ending ≡ how → IsTold c s t late (unended_step c s t late how)
unended_tells c s t late ending.Running running = thread_tells c s t late (slice_get s.threads t) running refl
unended_tells c s t late ending.End running = tt
unended_tells c s t late (ending.Trap x) running = tt

pub step_tells : (c : Code) (s : Configuration) (e : Entry) → IsTold c s e.thread e.timeout (step c s e)
step_tells c s e = unended_tells c s e.thread e.timeout s.ending refl
