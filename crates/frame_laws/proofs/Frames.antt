-- Facts of one frame over the frames below it. Only top frames change, so a fact that each change of a top frame keeps is kept
-- by each step.
use Rattle.std.proofs.Common.{◌≡◌, ℕ, zero, suc, ◌+◌, ℤ, pos, Bool, true, false, List, [], ◌∷◌, drop, length, set, slice_get, Option, Some, None, refl, sym, subst}
use Rattle.std.proofs.lemmas.List.{length-set}
use Rattle.cfix_base.specs.declared.entry.Entry.{Entry}
use Rattle.cfix_base.specs.declared.access.AccessId.{AccessId}
use Rattle.cfix_base.specs.declared.number.VarId.{VarId}
use Rattle.cfix_base.specs.declared.number.FnId.{FnId}
use Rattle.cfix_base.specs.declared.number.NodeId.{NodeId}
use Rattle.cfix_base.specs.declared.number.LockId.{LockId}
use Rattle.cfix_base.specs.declared.number.OrderId.{OrderId}
use Rattle.cfix_base.specs.declared.op.Op.{Op}
use Rattle.cfix_base.specs.declared.op.Op.TheVariants.{Leave, First, Done, Wait, Enter, Add}
use Rattle.cfix_base.specs.declared.place.Place.TheVariants.{After}
use Rattle.step_state.specs.declared.event.Event.{Event}
use Rattle.step_state.specs.declared.event.Event.TheVariants as event
use Rattle.step_state.specs.declared.event.Ending.{Ending}
use Rattle.step_state.specs.declared.event.Ending.TheVariants as ending
use Rattle.step_state.specs.declared.item.Item.{Item}
use Rattle.step_state.specs.declared.item.Item.TheVariants as item
use Rattle.step_state.specs.declared.item.Action.{Action}
use Rattle.step_state.specs.declared.item.Action.TheVariants as action
use Rattle.step_state.specs.declared.item.Move.{Move}
use Rattle.step_state.specs.declared.item.Move.TheVariants as move
use Rattle.step_state.specs.declared.item.Reduction.{Reduction}
use Rattle.step_state.specs.declared.item.GlobalSite.{GlobalSite}
use Rattle.step_state.specs.declared.item.HandleSite.{HandleSite}
use Rattle.step_state.specs.declared.frame.Frame.{Frame}
use Rattle.step_state.specs.declared.thread.Thread.{Thread}
use Rattle.step_state.specs.declared.state.Configuration.{Configuration}
use Rattle.step_state.specs.Code.{Code}
use Rattle.step_state.specs.Values.{last_value, other_values, last_values, past_index, index_value, is_zero}
use Rattle.step_state.specs.Changes.{Made, with_frames, with_thread, with_top_frame, with_values, with_work, pass, frame_of, thread_of}
use Rattle.step_state.specs.Reduce.{Reduced, frame, trap, reduce, reduced}
use Rattle.step_state.specs.Act.{act, fetched, written, taken, locked, unlocked, created, joined_ended, joined_once, joined_some, joined_number, joined_at, local_handles, slept, woken}
use Rattle.step_state.specs.Operate.{enter, leave, wait, operate, token_taken}
use Rattle.step_state.specs.Step.{branch_place, leave_frame, go, work_step, frames_step, thread_step, unended_step, step}
use Rattle.step_state.specs.Run.{Seen, Ran, frames_at, add_seen, go_on, run_from}
use Rattle.frame_laws.proofs.Each.{Each, each_set, each_push}

-- what a step keeps, where its event is good
abbrev pub Kept : (Event → Type 0) → (Configuration → Type 0) → Made → Type 0
Kept G I None = Unit {0}
Kept G I (Some (next, ev)) = G ev → I next

-- each step of a run is good
abbrev pub AllOf : (Seen → Type 0) → List Seen → Type 0
AllOf G [] = Unit {0}
AllOf G (m ∷ ms) = G m × AllOf G ms

-- what a run keeps, where its steps are good
abbrev pub KeptByRun : (Seen → Type 0) → (Configuration → Type 0) → Ran → Type 0
KeptByRun G I None = Unit {0}
KeptByRun G I (Some (ms, last)) = AllOf G ms → I last

-- the step with this event
abbrev pub at_event : (Seen → Type 0) → Entry → List Frame → Event → Type 0
at_event G e before ev = G (record { entry = e; before = before; event = ev })

module _ (c : Code) (G : Seen → Type 0) (I : Configuration → Type 0)
    (keeps : (s : Configuration) (e : Entry) → I s → Kept (at_event G e (frames_at (slice_get s.threads e.thread))) I (step c s e)) where
  add_keeps : (m : Seen) (r : Ran) → (G m → KeptByRun G I r) → KeptByRun G I (add_seen m r)
  add_keeps m None h = tt
  add_keeps m (Some (ms, last)) h = λ good. h good.0 good.1

  on_keeps : (e : Entry) (before : List Frame) (made : Made) (go : Configuration → Ran) → Kept (at_event G e before) I made
      → ((next : Configuration) → I next → KeptByRun G I (go next)) → KeptByRun G I (go_on e before made go)
  on_keeps e before None go kept more = tt
  on_keeps e before (Some (next, ev)) go kept more =
      add_keeps (record { entry = e; before = before; event = ev }) (go next) (λ good. more next (kept good))

  -- what each good step keeps holds after good steps
  pub run_keeps : (es : List Entry) (s : Configuration) → I s → KeptByRun G I (run_from c s es)
  run_keeps [] s i = λ good. i
  run_keeps (e ∷ es) s i =
      on_keeps e (frames_at (slice_get s.threads e.thread)) (step c s e) (λ next. run_from c next es) (keeps s e i)
      (λ next j. run_keeps es next j)

-- the operation that an event is of
abbrev pub op_of : Event → Option Op
op_of (event.Enter k) = Some (Enter k)
op_of (event.EnterMissed k) = Some (Enter k)
op_of (event.Leave k) = Some (Leave k)
op_of (event.First j) = Some (First j)
op_of (event.Done j) = Some (Done j)
op_of (event.Wait j) = Some (Wait j)
op_of (event.WaitMissed j) = Some (Wait j)
op_of (event.Add j) = Some (Add j)
op_of _ = None

-- the event of an access names it
abbrev pub SaysRead : AccessId → Event → Type 0
SaysRead id (event.Read site i v) = site ≡ id
SaysRead id _ = ⊥

abbrev pub SaysWrite : AccessId → Event → Type 0
SaysWrite id (event.Write site i v) = site ≡ id
SaysWrite id _ = ⊥

abbrev pub Says : Action → Event → Type 0
Says (action.Get site) ev = SaysRead site.access ev
Says (action.GetKeep site) ev = SaysRead site.access ev
Says (action.Put site) ev = SaysWrite site.access ev
Says _ ev = Unit {0}

-- P m t f below: the fact of a frame f of thread t over the frames below, where m frames were made. Good t fs ev: what is asked
-- of a step of thread t with the frames fs.
module _ (c : Code) (P : ℕ → ℕ → Frame → List Frame → Type 0) (Good : ℕ → List Frame → Event → Type 0) where
  abbrev pub AllFrames : ℕ → ℕ → List Frame → Type 0
  AllFrames m t [] = Unit {0}
  AllFrames m t (f ∷ below) = P m t f below × AllFrames m t below

  abbrev pub ThreadFrames : ℕ → ℕ → Thread → Type 0
  ThreadFrames m t th = AllFrames m t th.frames

  abbrev pub Framed : Configuration → Type 0
  Framed s = Each (ThreadFrames s.made) s.threads

  abbrev pub GoodStep : Seen → Type 0
  GoodStep m = Good m.entry.thread m.before m.event

  -- what the fact says of each change of a top frame
  pub record Keeps : Type 0 where
    pub later : (m t : ℕ) (f : Frame) (below : List Frame) → P m t f below → P (m + 1) t f below
    pub op : (m t : ℕ) (f : Frame) (below : List Frame) (o : Op) (rest : List Item) (ev : Event)
        → f.work ≡ item.Op o ∷ rest → op_of ev ≡ Some o → Good t (f ∷ below) ev → P m t f below → P m t (with_work f rest) below
    pub reduced : (m t : ℕ) (f g : Frame) (below : List Frame) (r : Reduction) (rest : List Item)
        → f.work ≡ item.Reduce r ∷ rest → reduce c (with_work f rest) r ≡ frame g → Good t (f ∷ below) event.Silent
        → P m t f below → P m t g below
    pub acted : (m t : ℕ) (f : Frame) (below : List Frame) (a : Action) (rest : List Item) (vs : List ℤ) (hs : List (List ℕ)) (ev : Event)
        → f.work ≡ item.Act a ∷ rest → Says a ev → Good t (f ∷ below) ev → P m t f below
        → P m t (record (with_work f rest) { values = vs; handles = hs }) below
    pub begun : (m t : ℕ) (f : Frame) (below : List Frame) (n : NodeId) (rest : List Item)
        → f.work ≡ item.Go (move.Node n) ∷ rest → Good t (f ∷ below) (event.Begin n) → P m t f below
        → P m t (record (with_work f rest) { visit = Some n; values = []; work = c.items n.number }) below
    pub branched : (m t : ℕ) (f : Frame) (below : List Frame) (n : NodeId) (rest : List Item)
        → f.work ≡ item.Go (move.Branch n) ∷ rest → Good t (f ∷ below) event.Silent → P m t f below
        → P m t (pass c (with_values (with_work f rest) (other_values f.values)) (branch_place n (is_zero (last_value f.values)))) below
    pub edged : (m t : ℕ) (f : Frame) (below : List Frame) (n : NodeId) (rest : List Item)
        → f.work ≡ item.Go (move.Edge n) ∷ rest → Good t (f ∷ below) event.Silent → P m t f below
        → P m t (pass c (with_work f rest) (After n)) below
    pub returned : (m t : ℕ) (f g : Frame) (below : List Frame) (rest : List Item) (v : ℤ)
        → f.work ≡ item.Go move.Exit ∷ rest → Good t (f ∷ g ∷ below) (event.Return v) → P m t f (g ∷ below) → P m t g below
        → P m t (with_values g (v ∷ g.values)) below
    pub called : (m t : ℕ) (f : Frame) (below : List Frame) (g : FnId) (rest : List Item) (args vs : List ℤ)
        → f.work ≡ item.Act (action.Call g) ∷ rest → Good t (f ∷ below) (event.Call g) → P m t f below
        → P (m + 1) t (frame_of c m g.number args) (with_values (with_work f rest) vs ∷ below)
    pub created : (m t u : ℕ) (f : Frame) (below : List Frame) (target : HandleSite) (g : FnId) (rest : List Item) (args : List ℤ)
        → f.work ≡ item.Act (action.Create target g) ∷ rest → Good t (f ∷ below) (event.Create u) → P m t f below
        → P (m + 1) u (frame_of c m g.number args) []

  module _ (keep : Keeps) where
    all_later : (m t : ℕ) (fs : List Frame) → AllFrames m t fs → AllFrames (m + 1) t fs
    all_later m t [] h = tt
    all_later m t (f ∷ below) h = (keep.later m t f below h.0, all_later m t below h.1)

    set_framed : (m : ℕ) (ths : List Thread) (t : ℕ) (new : Thread) → Each (ThreadFrames m) ths → AllFrames m t new.frames → Each (ThreadFrames m) (set ths t new)
    set_framed m ths t new framed here = each_set (ThreadFrames m) (ThreadFrames m) ths t new framed here (λ u th ne h. h)

    set_later : (m : ℕ) (ths : List Thread) (t : ℕ) (new : Thread) → Each (ThreadFrames m) ths → AllFrames (m + 1) t new.frames
        → Each (ThreadFrames (m + 1)) (set ths t new)
    set_later m ths t new framed here =
        each_set (ThreadFrames m) (ThreadFrames (m + 1)) ths t new framed here (λ u th ne h. all_later m u th.frames h)

    abbrev KeptAt : Entry → List Frame → Made → Type 0
    KeptAt e before made = Kept (at_event GoodStep e before) Framed made

    -- a thread whose frames keep the fact, in the place of another
    thread_framed : (s : Configuration) (t : ℕ) (th : Thread) → Framed s → AllFrames s.made t th.frames → Framed (with_thread s t th)
    thread_framed s t th framed here = set_framed s.made s.threads t th framed here

    leave_framed : (s : Configuration) (t : ℕ) (th : Thread) (k : LockId) (h m : ℕ) → Framed s → AllFrames s.made t th.frames → Framed (leave s t th k h m)
    leave_framed s t th k (suc d) m framed here = set_framed s.made s.threads t (record th { held = set th.held k.number d }) framed here
    leave_framed s t th k zero (suc m) framed here = set_framed s.made s.threads t (record th { missed = set th.missed k.number m }) framed here
    leave_framed s t th k zero zero framed here = thread_framed s t th framed here

    token_framed : (s : Configuration) (j : OrderId) (n : ℕ) → Framed s → Framed (token_taken s j n)
    token_framed s j zero framed = framed
    token_framed s j (suc n) framed = framed

    -- an operation o of the top frame, which the thread th has no more
    module _ (s : Configuration) (e : Entry) (th : Thread) (before : List Frame) (framed : Framed s) where
      abbrev Here : Op → Type 0
      Here o = (ev : Event) → op_of ev ≡ Some o → Good e.thread before ev → AllFrames s.made e.thread th.frames

      enter_framed : (k : LockId) (late may : Bool) → Here (Enter k) → KeptAt e before (enter s e.thread th k late may)
      enter_framed k false true here = λ good. set_framed s.made s.threads e.thread _ framed (here (event.Enter k) refl good)
      enter_framed k true false here = λ good. set_framed s.made s.threads e.thread _ framed (here (event.EnterMissed k) refl good)
      enter_framed k false false here = tt
      enter_framed k true true here = tt

      wait_framed : (j : OrderId) (late ready : Bool) → Here (Wait j) → KeptAt e before (wait s e.thread th j late ready)
      wait_framed j false true here = λ good. thread_framed s e.thread th framed (here (event.Wait j) refl good)
      wait_framed j true false here = λ good. thread_framed s e.thread th framed (here (event.WaitMissed j) refl good)
      wait_framed j false false here = tt
      wait_framed j true true here = tt

      operate_framed : (late : Bool) (o : Op) → Here o → KeptAt e before (operate s e.thread th late o)
      operate_framed late (Enter k) here = enter_framed k late _ here
      operate_framed late (Wait j) here = wait_framed j late _ here
      operate_framed true (Leave k) here = tt
      operate_framed true (First j) here = tt
      operate_framed true (Done j) here = tt
      operate_framed true (Add j) here = tt
      operate_framed false (Leave k) here = λ good. leave_framed s e.thread th k _ _ framed (here (event.Leave k) refl good)
      operate_framed false (First j) here = λ good. thread_framed s e.thread th framed (here (event.First j) refl good)
      operate_framed false (Done j) here =
          λ good. token_framed (with_thread s e.thread th) j _ (thread_framed s e.thread th framed (here (event.Done j) refl good))
      operate_framed false (Add j) here = λ good. thread_framed s e.thread th framed (here (event.Add j) refl good)

    -- the top frame f of the thread th, before its step
    module _ (s : Configuration) (e : Entry) (th : Thread) (f : Frame) (below : List Frame) (framed : Framed s)
        (here : AllFrames s.made e.thread (f ∷ below)) where
      top_framed : (g : Frame) → P s.made e.thread g below → Framed (with_top_frame s e.thread th g below)
      top_framed g kept = thread_framed s e.thread (with_frames th (g ∷ below)) framed (kept, here.1)

      reduced_framed : (r : Reduction) (rest : List Item) (made : Reduced) → f.work ≡ item.Reduce r ∷ rest → reduce c (with_work f rest) r ≡ made
          → KeptAt e (f ∷ below) (reduced s e.thread th below made)
      reduced_framed r rest (frame g) at is = λ good. top_framed g (keep.reduced s.made e.thread f g below r rest at is good here.0)
      reduced_framed r rest (trap x) at is = λ good. framed

      -- an item that reads or changes what is outside its frame
      module _ (a : Action) (rest : List Item) (at : f.work ≡ item.Act a ∷ rest) where
        acted : (vs : List ℤ) (ev : Event) → Says a ev → Good e.thread (f ∷ below) ev → P s.made e.thread (with_values (with_work f rest) vs) below
        acted vs ev says good = keep.acted s.made e.thread f below a rest vs f.handles ev at says good here.0

        fetched_framed : (site : GlobalSite) → ((i : ℕ) (v : ℤ) → Says a (event.Read site.access i v)) → (i : ℤ) (vs : List ℤ) (o : Option ℤ) → KeptAt e (f ∷ below) (fetched s e.thread th (with_work f rest) below site i vs o)
        fetched_framed site says i vs None = λ good. framed
        fetched_framed site says i vs (Some v) = λ good. top_framed _ (acted (v ∷ vs) _ (says _ v) good)

        written_framed : (site : GlobalSite) → ((i : ℕ) (v : ℤ) → Says a (event.Write site.access i v)) → (i : ℤ) (vs : List ℤ) (v : ℤ) (o : Option ℤ)
            → KeptAt e (f ∷ below) (written s e.thread th (with_work f rest) below site i vs v o)
        written_framed site says i vs v None = λ good. framed
        written_framed site says i vs v (Some old) = λ good. top_framed _ (acted vs _ (says _ v) good)

        taken_framed : ((ev : Event) → Says a ev) → (input : List ℤ) → KeptAt e (f ∷ below) (taken s e.thread th (with_work f rest) below input)
        taken_framed says [] = λ good. top_framed _ (acted (pos 0 ∷ f.values) _ (says _) good)
        taken_framed says (v ∷ left) = λ good. top_framed _ (acted (v ∷ f.values) _ (says _) good)

        locked_framed : ((ev : Event) → Says a ev) → (m : VarId) (o : Option ℕ) → KeptAt e (f ∷ below) (locked s e.thread th (with_work f rest) below m o)
        locked_framed says m None = λ good. top_framed _ (acted f.values _ (says _) good)
        locked_framed says m (Some u) = tt

        unlocked_framed : ((ev : Event) → Says a ev) → (m : VarId) (own : Bool) → KeptAt e (f ∷ below) (unlocked s e.thread th (with_work f rest) below m own)
        unlocked_framed says m true = λ good. top_framed _ (acted f.values _ (says _) good)
        unlocked_framed says m false = λ good. framed

        slept_framed : ((ev : Event) → Says a ev) → (v m : VarId) (own : Bool) → KeptAt e (f ∷ below) (slept s e.thread th (with_work f rest) below v m own)
        slept_framed says v m true = λ good. top_framed _ (acted f.values _ (says _) good)
        slept_framed says v m false = λ good. framed

        woken_framed : ((ev : Event) → Says a ev) → (v m : VarId) (asleep : Bool) (o : Option ℕ) → KeptAt e (f ∷ below) (woken s e.thread th (with_work f rest) below v m asleep o)
        woken_framed says v m true o = tt
        woken_framed says v m false (Some u) = tt
        woken_framed says v m false None = λ good. top_framed _ (acted f.values _ (says _) good)

        ended_framed : ((ev : Event) → Says a ev) → (vs : List ℤ) (n : ℕ) (other : Thread) (fs : List Frame) → slice_get s.threads n ≡ Some other
            → KeptAt e (f ∷ below) (joined_ended s e.thread th (with_values (with_work f rest) vs) below n other fs)
        ended_framed says vs n other [] stands =
            λ good. thread_framed (with_thread s n (record other { joined = true })) e.thread (with_frames th (with_values (with_work f rest) vs ∷ below))
            (thread_framed s n (record other { joined = true }) framed (framed.at n other stands)) (acted vs _ (says _) good, here.1)
        ended_framed says vs n other (g ∷ fs) stands = tt

        once_framed : ((ev : Event) → Says a ev) → (vs : List ℤ) (n : ℕ) (other : Thread) (joined : Bool) → slice_get s.threads n ≡ Some other
            → KeptAt e (f ∷ below) (joined_once s e.thread th (with_values (with_work f rest) vs) below n other joined)
        once_framed says vs n other true stands = λ good. framed
        once_framed says vs n other false stands = ended_framed says vs n other other.frames stands

        some_framed : ((ev : Event) → Says a ev) → (vs : List ℤ) (n : ℕ) (o : Option Thread) → slice_get s.threads n ≡ o
            → KeptAt e (f ∷ below) (joined_some s e.thread th (with_values (with_work f rest) vs) below n o)
        some_framed says vs n None stands = λ good. framed
        some_framed says vs n (Some other) stands = once_framed says vs n other other.joined stands

        number_framed : ((ev : Event) → Says a ev) → (vs : List ℤ) (n : ℕ) → KeptAt e (f ∷ below) (joined_number s e.thread th (with_values (with_work f rest) vs) below n)
        number_framed says vs zero = λ good. framed
        number_framed says vs (suc n) = some_framed says vs (suc n) (slice_get s.threads (suc n)) refl

        joined_framed : ((ev : Event) → Says a ev) → (vs : List ℤ) (o : Option ℕ) → KeptAt e (f ∷ below) (joined_at s e.thread th (with_values (with_work f rest) vs) below o)
        joined_framed says vs None = λ good. framed
        joined_framed says vs (Some n) = number_framed says vs n

      created_framed : (target : HandleSite) (g : FnId) (rest : List Item) (i : ℤ) (vs : List ℤ) (arg : ℤ) (o : Option ℕ)
          → f.work ≡ item.Act (action.Create target g) ∷ rest
          → KeptAt e (f ∷ below) (created c s e.thread th (with_work f rest) below target g i vs arg o)
      created_framed target g rest i vs arg None at = λ good. framed
      created_framed target g rest i vs arg (Some old) at = λ good.
          let hs = local_handles s (with_work f rest) target.var i (length s.threads) in
          let top : Frame = record (with_work f rest) { values = vs; handles = hs } in
          let kept : P s.made e.thread top below = keep.acted s.made e.thread f below (action.Create target g) rest vs hs (event.Create (length s.threads)) at tt good here.0 in
          each_push (ThreadFrames (s.made + 1)) (set s.threads e.thread (with_frames th (top ∷ below))) (thread_of c (frame_of c s.made g.number (arg ∷ [])))
          (set_later s.made s.threads e.thread (with_frames th (top ∷ below)) framed
          (keep.later s.made e.thread top below kept, all_later s.made e.thread below here.1)) (
            keep.created s.made e.thread _ f below target g rest (arg ∷ []) at
                (subst (λ n. Good e.thread (f ∷ below) (event.Create n)) (sym (length-set s.threads e.thread (with_frames th (top ∷ below)))) good) here.0,
            tt,
          )

      called_framed : (g : FnId) (rest : List Item) → f.work ≡ item.Act (action.Call g) ∷ rest
          → KeptAt e (f ∷ below) (act c s e.thread th (with_work f rest) below (action.Call g))
      called_framed g rest at = λ good.
          let count = c.params g.number in
          let caller : Frame = with_values (with_work f rest) (drop count f.values) in
          let new : Frame = frame_of c s.made g.number (last_values count f.values) in
          let kept : P s.made e.thread caller below = acted (action.Call g) rest at (drop count f.values) (event.Call g) tt good in
          set_later s.made s.threads e.thread (with_frames th (new ∷ caller ∷ below)) framed (
            keep.called s.made e.thread f below g rest (last_values count f.values) (drop count f.values) at good here.0,
            (keep.later s.made e.thread caller below kept, all_later s.made e.thread below here.1),
          )

      act_framed : (a : Action) (rest : List Item) → f.work ≡ item.Act a ∷ rest
          → KeptAt e (f ∷ below) (act c s e.thread th (with_work f rest) below a)
      act_framed (action.Get site) rest at = fetched_framed (action.Get site) rest at site (λ i v. refl) (index_value site.indexed f.values) _ _
      act_framed (action.GetKeep site) rest at = fetched_framed (action.GetKeep site) rest at site (λ i v. refl) (index_value site.indexed f.values) _ _
      act_framed (action.Put site) rest at = written_framed (action.Put site) rest at site (λ i v. refl) (index_value site.indexed (other_values f.values))
          (past_index site.indexed (other_values f.values)) (last_value f.values) _
      act_framed action.Take rest at = taken_framed action.Take rest at (λ ev. tt) s.input
      act_framed (action.Lock m) rest at = locked_framed (action.Lock m) rest at (λ ev. tt) m _
      act_framed (action.Unlock m) rest at = unlocked_framed (action.Unlock m) rest at (λ ev. tt) m _
      act_framed (action.Create target g) rest at = created_framed target g rest (index_value target.indexed (other_values f.values))
          (past_index target.indexed (other_values f.values)) (last_value f.values) _ at
      act_framed (action.Join target) rest at = joined_framed (action.Join target) rest at (λ ev. tt) (past_index target.indexed f.values) _
      act_framed (action.Print n args) rest at = λ good. top_framed _ (acted (action.Print n args) rest at (drop args f.values) _ tt good)
      act_framed (action.Call g) rest at = called_framed g rest at
      act_framed (action.Sleep v w) rest at = slept_framed (action.Sleep v w) rest at (λ ev. tt) v w _
      act_framed (action.Wake v w) rest at = woken_framed (action.Wake v w) rest at (λ ev. tt) v w _ _
      act_framed (action.Signal v) rest at = λ good. top_framed _ (acted (action.Signal v) rest at f.values _ tt good)
      act_framed (action.Broadcast v) rest at = λ good. top_framed _ (acted (action.Broadcast v) rest at f.values _ tt good)

      left_framed : (rest : List Item) (v : ℤ) (fs : List Frame) → f.work ≡ item.Go move.Exit ∷ rest → below ≡ fs
          → KeptAt e (f ∷ below) (leave_frame s e.thread th v fs)
      left_framed rest v [] at is = λ good. thread_framed s e.thread (with_frames th []) framed tt
      left_framed rest v (g ∷ fs) at is = λ good.
          let stands : P s.made e.thread f (g ∷ fs) × AllFrames s.made e.thread (g ∷ fs) =
          subst (λ l. P s.made e.thread f l × AllFrames s.made e.thread l) is here in
          let good_here : Good e.thread (f ∷ g ∷ fs) (event.Return v) = subst (λ l. Good e.thread (f ∷ l) (event.Return v)) is good in
          thread_framed s e.thread (with_frames th (with_values g (v ∷ g.values) ∷ fs)) framed
          (keep.returned s.made e.thread f g fs rest v at good_here stands.0 stands.1.0, stands.1.1)

      go_framed : (m : Move) (rest : List Item) → f.work ≡ item.Go m ∷ rest → KeptAt e (f ∷ below) (go c s e.thread th (with_work f rest) below m)
      go_framed (move.Node n) rest at = λ good. top_framed _ (keep.begun s.made e.thread f below n rest at good here.0)
      go_framed (move.Branch n) rest at = λ good. top_framed _ (keep.branched s.made e.thread f below n rest at good here.0)
      go_framed (move.Edge n) rest at = λ good. top_framed _ (keep.edged s.made e.thread f below n rest at good here.0)
      go_framed move.Exit rest at = left_framed rest _ below at refl

      work_framed : (late : Bool) (work : List Item) → f.work ≡ work → KeptAt e (f ∷ below) (work_step c s e.thread late th f below work)
      work_framed late [] at = tt
      work_framed late (item.Op o ∷ rest) at =
          operate_framed s e (with_frames th (with_work f rest ∷ below)) (f ∷ below) framed late o
          (λ ev is good. (keep.op s.made e.thread f below o rest ev at is good here.0, here.1))
      work_framed true (item.Reduce r ∷ rest) at = tt
      work_framed true (item.Act a ∷ rest) at = tt
      work_framed true (item.Go m ∷ rest) at = tt
      work_framed false (item.Reduce r ∷ rest) at = reduced_framed r rest (reduce c (with_work f rest) r) at refl
      work_framed false (item.Act a ∷ rest) at = act_framed a rest at
      work_framed false (item.Go m ∷ rest) at = go_framed m rest at

    frames_framed : (s : Configuration) (e : Entry) (th : Thread) (fs : List Frame) → Framed s → AllFrames s.made e.thread fs
        → KeptAt e fs (frames_step c s e.thread e.timeout th fs)
    frames_framed s e th [] framed here = tt
    frames_framed s e th (f ∷ below) framed here = work_framed s e th f below framed here e.timeout f.work refl

    some_thread_framed : (s : Configuration) (e : Entry) (o : Option Thread) → slice_get s.threads e.thread ≡ o → Framed s
        → KeptAt e (frames_at o) (thread_step c s e.thread e.timeout o)
    some_thread_framed s e None stands framed = tt
    some_thread_framed s e (Some th) stands framed = frames_framed s e th th.frames framed (framed.at e.thread th stands)

    unended_framed : (s : Configuration) (e : Entry) (ending : Ending) → Framed s
        → KeptAt e (frames_at (slice_get s.threads e.thread)) (unended_step c s e.thread e.timeout ending)
    unended_framed s e ending.Running framed = some_thread_framed s e (slice_get s.threads e.thread) refl framed
    unended_framed s e ending.End framed = tt
    unended_framed s e (ending.Trap x) framed = tt

    -- one step
    pub framed_step : (s : Configuration) (e : Entry) → Framed s → KeptAt e (frames_at (slice_get s.threads e.thread)) (step c s e)
    framed_step s e framed = unended_framed s e s.ending framed

    -- a run
    pub framed_run : (es : List Entry) (s : Configuration) → Framed s → KeptByRun GoodStep Framed (run_from c s es)
    framed_run es s framed = run_keeps c GoodStep Framed framed_step es s framed
