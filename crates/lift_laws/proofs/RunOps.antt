-- New operations that stand before a thread's work pass one after another, in mode normal, where each may.
use Rattle.std.proofs.Common.{◌≡◌, ◌≢◌, ◌⊎◌, inl, inr, ℕ, zero, suc, ◌+◌, ◌<◌, ◌≤◌, Bool, true, false, List, [], ◌∷◌, ◌++◌, map, set, get_or, Option, Some, None, refl, sym, ap, ◌∙◌, subst, arith}
use Rattle.std.specs.Prelude.{slice_get, slice_index}
use Rattle.std.proofs.lemmas.Bool.Decides.{eqb_tells}
use Rattle.std.proofs.Math.Dec.{eqb}
use Rattle.cfix_base.specs.declared.entry.Entry.{Entry}
use Rattle.cfix_base.specs.declared.number.LockId.{LockId}
use Rattle.cfix_base.specs.declared.number.OrderId.{OrderId}
use Rattle.cfix_base.specs.declared.op.Op.{Op}
use Rattle.cfix_base.specs.declared.op.Op.TheVariants.{Leave, First, Done, Wait, Enter, Add}
use Rattle.step_state.specs.declared.event.Event.{Event}
use Rattle.step_state.specs.declared.event.Event.TheVariants as event
use Rattle.step_state.specs.declared.event.Ending.TheVariants as ending
use Rattle.step_state.specs.declared.item.Item.{Item}
use Rattle.step_state.specs.declared.item.Item.TheVariants as item
use Rattle.step_state.specs.declared.frame.Frame.{Frame}
use Rattle.step_state.specs.declared.thread.Thread.{Thread}
use Rattle.step_state.specs.declared.state.Configuration.{Configuration}
use Rattle.step_state.specs.Code.{Code}
use Rattle.step_state.specs.Changes.{with_frames, with_thread, with_work}
use Rattle.step_state.specs.Operate.{may_enter, enter, leave, wait, operate, token_taken}
use Rattle.cfix_base.specs.declared.mark.Marks.{Marks}
use Rattle.c_prog.specs.Marks.{is_new, keep_old, old_of}
use Rattle.step_state.specs.Erase.{strip_code, strip_configuration, is_inserted, kept_if}
use Rattle.step_state.specs.Run.{Seen, frames_at, is_missed}
use Rattle.step_state.specs.Step.{work_step, frames_step, thread_step, unended_step, step}
use Rattle.erase_laws.specs.Follows.{ByEvent, Follows}
use Rattle.erase_laws.specs.Marked.{IsMarked}
use Rattle.lock_laws.specs.Holds.{Exact}
use Rattle.lift_laws.specs.Lift.{copies}
use Rattle.frame_laws.specs.Trail.{Trail, entries}
use Rattle.lift_laws.specs.LiftRun.{old_entries, NotLate, NoneLate, Ready}
use Rattle.erase_laws.proofs.Plain.{is_above}
use Rattle.erase_laws.proofs.Strips.{step_follows}
use Rattle.lock_laws.proofs.Exacts.{get_set_same, get_set_other}

-- the entry by which a thread goes on normally
abbrev pub normal : ℕ → Entry
normal t = record { thread = t; timeout = false }

-- what a step of a thread is, by its frames and work
pub opens : (q : Code) (c : Configuration) (t : ℕ) (late : Bool) (th : Thread) (f : Frame) (below : List Frame) (work : List Item) → c.ending ≡ ending.Running
    → slice_get c.threads t ≡ Some th → th.frames ≡ f ∷ below → f.work ≡ work
    → step q c (record { thread = t; timeout = late }) ≡ work_step q c t late th f below work
opens q c t late th f below work running at top is =
    ap (unended_step q c t late) running
    ∙ (ap (thread_step q c t late) at ∙ (ap (frames_step q c t late th) top ∙ ap (work_step q c t late th f below) is))

-- what the operation asks
abbrev Enabled : Configuration → ℕ → Op → Type 0
Enabled c t (Enter k) = may_enter (get_or c.locks k.number None) t ≡ true
Enabled c t (Wait j) = Ready c j.number
Enabled c t o = Unit {0}

-- a step by an operation
record OpStep (m : Marks) (q : Code) (c : Configuration) (t : ℕ) (o : Op) (fs : List Frame) : Type 0 where
  pub next : Configuration
  pub event : Event
  pub new : Thread
  pub goes : step q c (normal t) ≡ Some (next, event)
  pub timely : is_missed event ≡ false
  pub inserted : is_inserted m event ≡ is_new m o
  pub threads : next.threads ≡ set c.threads t new
  pub frames : new.frames ≡ fs
  pub ending : next.ending ≡ c.ending

module _ (m : Marks) (q : Code) (c : Configuration) (t : ℕ) (th : Thread) (f : Frame) (below : List Frame) (rest : List Item) where
  abbrev popped : Thread
  popped = with_frames th (with_work f rest ∷ below)

  abbrev after : List Frame
  after = with_work f rest ∷ below

  leave_step : (k : LockId) (h g : ℕ) → step q c (normal t) ≡ Some (leave c t popped k h g, event.Leave k) → OpStep m q c t (Leave k) after
  leave_step k (suc d) g e = record { next = leave c t popped k (suc d) g; event = event.Leave k; new = record popped { held = set th.held k.number d }; goes = e; timely = refl; inserted = refl; threads = refl; frames = refl; ending = refl }
  leave_step k zero (suc g) e = record { next = leave c t popped k zero (suc g); event = event.Leave k; new = record popped { missed = set th.missed k.number g }; goes = e; timely = refl; inserted = refl; threads = refl; frames = refl; ending = refl }
  leave_step k zero zero e = record { next = leave c t popped k zero zero; event = event.Leave k; new = popped; goes = e; timely = refl; inserted = refl; threads = refl; frames = refl; ending = refl }

  done_step : (j : OrderId) (n : ℕ) → step q c (normal t) ≡ Some (token_taken (with_thread c t popped) j n, event.Done j) → OpStep m q c t (Done j) after
  done_step j zero e = record { next = token_taken (with_thread c t popped) j zero; event = event.Done j; new = popped; goes = e; timely = refl; inserted = refl; threads = refl; frames = refl; ending = refl }
  done_step j (suc n) e = record { next = token_taken (with_thread c t popped) j (suc n); event = event.Done j; new = popped; goes = e; timely = refl; inserted = refl; threads = refl; frames = refl; ending = refl }

  op_step : (o : Op) → step q c (normal t) ≡ operate c t popped false o → Enabled c t o → OpStep m q c t o after
  op_step (Enter k) e may = record {
    next = record (with_thread c t (record popped { held = set th.held k.number (get_or th.held k.number 0 + 1) })) { locks = set c.locks k.number (Some t) };
    event = event.Enter k;
    new = record popped { held = set th.held k.number (get_or th.held k.number 0 + 1) };
    goes = e ∙ ap (enter c t popped k false) may;
    timely = refl;
    inserted = refl;
    threads = refl;
    frames = refl;
    ending = refl;
  }
  op_step (Wait j) e may = record { next = with_thread c t popped; event = event.Wait j; new = popped; goes = e ∙ ap (wait c t popped j false) may; timely = refl; inserted = refl; threads = refl; frames = refl; ending = refl }
  op_step (Leave k) e may = leave_step k (slice_index th.held k.number) (slice_index th.missed k.number) e
  op_step (First j) e may = record { next = record (with_thread c t popped) { flags = set c.flags j.number true }; event = event.First j; new = popped; goes = e; timely = refl; inserted = refl; threads = refl; frames = refl; ending = refl }
  op_step (Done j) e may = done_step j (slice_index c.tokens j.number) e
  op_step (Add j) e may = record { next = record (with_thread c t popped) { tokens = set c.tokens j.number (slice_index c.tokens j.number + 1) }; event = event.Add j; new = popped; goes = e; timely = refl; inserted = refl; threads = refl; frames = refl; ending = refl }

module _ (m : Marks) (q : Code) (marked : IsMarked m q) (Sound : Configuration → Type 0)
    (sound_step : (s next : Configuration) (e : Entry) (ev : Event) → step q s e ≡ Some (next, ev) → NotLate m ev → Sound s → Sound next)
    (exact_of : (s : Configuration) → Sound s → (k : ℕ) → m.lock ≤ k → k < q.locks → Exact k s.locks s.threads)
    (ready_stays : (s next : Configuration) (e : Entry) (ev : Event) (j : ℕ) → step q s e ≡ Some (next, ev) → NotLate m ev → Sound s → m.order ≤ j → j < q.orders → Ready s j → Ready next j) where
  -- the operation passes here, and goes on to: no other thread holds its lock, or its order is ready
  abbrev pub May : Configuration → ℕ → Op → Type 0
  May c t (Enter k) = (k.number < q.locks) × ((u : ℕ) (uh : Thread) → u ≢ t → slice_get c.threads u ≡ Some uh → get_or uh.held k.number 0 ≡ 0)
  May c t (Wait j) = (j.number < q.orders) × Ready c j.number
  May c t o = Unit {0}

  abbrev pub MayAll : Configuration → ℕ → List Op → Type 0
  MayAll c t [] = Unit {0}
  MayAll c t (o ∷ ops) = May c t o × MayAll c t ops

  enabled : (c : Configuration) (t : ℕ) (o : Op) → is_new m o ≡ true → Sound c → May c t o → Enabled c t o
  enabled c t (Enter k) new sound may = by_owner (get_or c.locks k.number None) refl
    where
      by_eq : (u : ℕ) → get_or c.locks k.number None ≡ Some u → ((eqb u t ≡ true) × (u ≡ t)) ⊎ ((eqb u t ≡ false) × (u ≢ t)) → may_enter (Some u) t ≡ true
      by_eq u e (inl same) = same.0
      by_eq u e (inr other) =
          let h = (exact_of c sound k.number (is_above m.lock k.number new) may.0).holder u e in
          let z = may.1 u h.thread other.1 h.stands in
          let d = h.deep in
          absurd (omega arith)

      by_owner : (o : Option ℕ) → get_or c.locks k.number None ≡ o → may_enter o t ≡ true
      by_owner None e = refl
      by_owner (Some u) e = by_eq u e (eqb_tells u t)
  enabled c t (Wait j) new sound may = may.1
  enabled c t (Leave k) new sound may = tt
  enabled c t (First j) new sound may = tt
  enabled c t (Done j) new sound may = tt
  enabled c t (Add j) new sound may = tt

  may_stays : (c : Configuration) (t : ℕ) (o : Op) → is_new m o ≡ true → (next : Configuration) (ev : Event) (new : Thread) → Sound c → step q c (normal t) ≡ Some (next, ev)
      → NotLate m ev → next.threads ≡ set c.threads t new → May c t o → May next t o
  may_stays c t (Enter k) is next ev new sound goes timely threads may =
      (may.0, λ u uh ne e. may.1 u uh ne (sym (get_set_other c.threads t u new ne) ∙ subst (λ ths. slice_get ths u ≡ Some uh) threads e))
  may_stays c t (Wait j) is next ev new sound goes timely threads may = (may.0, ready_stays c next (normal t) ev j.number goes timely sound (is_above m.order j.number is) may.0 may.1)
  may_stays c t (Leave k) is next ev new sound goes timely threads may = tt
  may_stays c t (First j) is next ev new sound goes timely threads may = tt
  may_stays c t (Done j) is next ev new sound goes timely threads may = tt
  may_stays c t (Add j) is next ev new sound goes timely threads may = tt

  -- all are new
  abbrev pub AllNew : List Op → Type 0
  AllNew [] = Unit {0}
  AllNew (o ∷ ops) = (is_new m o ≡ true) × AllNew ops

  pub all_new : (ops : List Op) → old_of (is_new m) ops ≡ [] → AllNew ops
  all_new [] e = tt
  all_new (o ∷ ops) e = more (is_new m o) refl e (λ h. all_new ops h)
    where
      more : (is : Bool) → is_new m o ≡ is → keep_old is o (old_of (is_new m) ops) ≡ [] → (old_of (is_new m) ops ≡ [] → AllNew ops) → (is_new m o ≡ true) × AllNew ops
      more true i e go = (i, go e)
      more false i e go = absurd (let z : ◌≡◌ {A = List Op} (o ∷ old_of (is_new m) ops) [] = e in cc)

  all_stay : (c : Configuration) (t : ℕ) (ops : List Op) → AllNew ops → (next : Configuration) (ev : Event) (new : Thread) → Sound c → step q c (normal t) ≡ Some (next, ev)
      → NotLate m ev → next.threads ≡ set c.threads t new → MayAll c t ops → MayAll next t ops
  all_stay c t [] is next ev new sound goes timely threads may = tt
  all_stay c t (o ∷ ops) is next ev new sound goes timely threads may =
      (may_stays c t o is.0 next ev new sound goes timely threads may.0, all_stay c t ops is.1 next ev new sound goes timely threads may.1)

  -- operations that were made, from c on; the thread's frames after them
  pub record RanOps (c : Configuration) (t : ℕ) (ops : List Op) (fs : List Frame) : Type 0 where
    pub steps : List Seen
    pub last : Configuration
    pub trail : Trail q c steps last
    pub timely : NoneLate m steps
    pub inserted : old_entries m steps ≡ []
    pub entered : entries steps ≡ copies t ops
    pub new : Thread
    pub stands : slice_get last.threads t ≡ Some new
    pub frames : new.frames ≡ fs
    pub others : (u : ℕ) → u ≢ t → slice_get last.threads u ≡ slice_get c.threads u
    pub same : strip_configuration m last ≡ strip_configuration m c
    pub ending : last.ending ≡ c.ending
    pub sound : Sound last

  pub run_ops : (ops : List Op) (c : Configuration) (t : ℕ) (th : Thread) (f : Frame) (below : List Frame) (rest : List Item) → slice_get c.threads t ≡ Some th
      → th.frames ≡ f ∷ below → f.work ≡ map item.Op ops ++ rest → c.ending ≡ ending.Running → AllNew ops → Sound c → MayAll c t ops
      → RanOps c t ops (with_work f rest ∷ below)
  run_ops [] c t th f below rest at top is running new sound may = record {
    steps = [];
    last = c;
    trail = refl;
    timely = tt;
    inserted = refl;
    entered = refl;
    new = th;
    stands = at;
    frames = top ∙ (λ i. with_work f (is i) ∷ below);
    others = λ u ne. refl;
    same = refl;
    ending = refl;
    sound = sound;
  }
  run_ops (o ∷ ops) c t th f below rest at top is running new sound may =
      let one = op_step m q c t th f below (map item.Op ops ++ rest) o (opens q c t false th f below (item.Op o ∷ (map item.Op ops ++ rest)) running at top is) (enabled c t o new.0 sound may.0) in
      let timely : NotLate m one.event = λ i. one.timely in
      let at2 : slice_get one.next.threads t ≡ Some one.new = ap (λ ths. slice_get ths t) one.threads ∙ get_set_same c.threads t th one.new at in
      let more = run_ops ops one.next t one.new (with_work f (map item.Op ops ++ rest)) below rest at2 one.frames refl (one.ending ∙ running) new.1
      (sound_step c one.next (normal t) one.event one.goes timely sound) (all_stay c t ops new.1 one.next one.event one.new sound one.goes timely one.threads may.1) in
      let follows : Follows m c (Some (one.next, one.event)) (step (strip_code m q) (strip_configuration m c) (normal t)) =
      subst (λ o. Follows m c o (step (strip_code m q) (strip_configuration m c) (normal t))) one.goes (step_follows m q marked c (normal t)) in
      let inserted : is_inserted m one.event ≡ true = one.inserted ∙ new.0 in
      let same : strip_configuration m one.next ≡ strip_configuration m c =
      subst (λ b. ByEvent b (strip_configuration m one.next ≡ strip_configuration m c)
      (step (strip_code m q) (strip_configuration m c) (normal t) ≡ Some (strip_configuration m one.next, one.event))) inserted follows in
      record {
        steps = record { entry = normal t; before = frames_at (slice_get c.threads t); event = one.event } ∷ more.steps;
        last = more.last;
        trail = record { next = one.next; goes = one.goes; frames = refl; rest = more.trail };
        timely = (timely, more.timely);
        inserted = ap (λ b. kept_if b (normal t) (old_entries m more.steps)) inserted ∙ more.inserted;
        entered = ap (λ es. normal t ∷ es) more.entered;
        new = more.new;
        stands = more.stands;
        frames = more.frames;
        others = λ u ne. more.others u ne ∙ (ap (λ ths. slice_get ths u) one.threads ∙ get_set_other c.threads t u one.new ne);
        same = more.same ∙ same;
        ending = more.ending ∙ one.ending;
        sound = more.sound;
      }
