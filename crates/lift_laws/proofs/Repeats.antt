-- A source run whose regions stay apart and whose orders are given, lifted: it is a run of the patched program.
use Rattle.std.proofs.Common.{◌≡◌, ◌≢◌, ◌⊎◌, ⊎_elim, inl, inr, ℕ, zero, suc, ◌<◌, ◌≤◌, ℤ, Bool, true, false, List, [], ◌∷◌, length, set, get_or, Some, None, refl, sym, ap, ◌∙◌, subst, arith}
use Rattle.std.specs.Prelude.{nat_le, slice_get, slice_index, slice_index_or, ◌||◌}
use Rattle.std.proofs.lemmas.Grind.{common_steps, elements, get_or-set_at}
use Rattle.std.proofs.lemmas.Bool.{cases_lt}
use Rattle.std.proofs.lemmas.Bool.Decides.{eqb_tells}
use Rattle.std.proofs.Math.Dec.{eqb}
use Rattle.std.proofs.lemmas.List.{get_or-set_other, length-set, length-replicate}
use Rattle.cfix_base.specs.declared.entry.Entry.{Entry}
use Rattle.cfix_base.specs.declared.number.LockId.{LockId}
use Rattle.cfix_base.specs.declared.number.OrderId.{OrderId}
use Rattle.cfix_base.specs.declared.op.Op.{Op}
use Rattle.cfix_base.specs.declared.op.Op.TheVariants.{Leave, First, Done, Wait, Enter, Add}
use Rattle.cfix_base.specs.declared.place.Place.{Place}
use Rattle.step_state.specs.declared.event.Event.{Event}
use Rattle.step_state.specs.declared.event.Event.TheVariants as event
use Rattle.step_state.specs.declared.frame.Frame.{Frame}
use Rattle.step_state.specs.declared.thread.Thread.{Thread}
use Rattle.step_state.specs.declared.state.Configuration.{Configuration}
use Rattle.step_state.specs.Code.{Code, fn_id}
use Rattle.cfix_base.specs.declared.place.Place.TheVariants.{Start}
use Rattle.step_state.specs.Changes.{thread_of, frame_of}
use Rattle.frame_laws.proofs.Each.{each_push}
use Rattle.step_state.specs.Changes.{Made, with_thread}
use Rattle.step_state.specs.Operate.{may_enter, enter, leave, no_token, wait, operate, token_taken}
use Rattle.cfix_base.specs.declared.mark.Marks.{Marks}
use Rattle.step_state.specs.Erase.{strip_code, strip_configuration}
use Rattle.step_state.specs.Run.{Seen, frames_at, run}
use Rattle.step_state.specs.Start.{start, initial_tokens}
use Rattle.step_state.specs.Step.{step}
use Rattle.erase_laws.specs.Marked.{IsMarked}
use Rattle.layout_laws.specs.Layout.{Layout, IsLaidOut}
use Rattle.lock_laws.specs.Guard.{Carries}
use Rattle.lock_laws.specs.Holds.{Exact}
use Rattle.lift_laws.specs.Repeated.{Repeated, IsPatched, none_passed}
use Rattle.lift_laws.specs.Lift.{Placed, bottom_may}
use Rattle.step_state.specs.Reads.{frames_of}
use Rattle.lift_laws.specs.LiftRun.{NotLate, NoneLate, Ready, AllClear, never, old_entries}
use Rattle.frame_laws.specs.Trail.{Trail}
use Rattle.lift_laws.specs.Sorted.{Sorted}
use Rattle.order_laws.specs.Tokens.{Signals, CreatesOnce, owes, before_set}
use Rattle.frame_laws.proofs.Change.{Change, Told, IsTold, step_tells, IsTrapped, IsOperated, IsReduced, IsActed, IsJoined, IsCreated, IsCalled, IsBegun, IsPassed, IsReturned, IsExited}
use Rattle.lock_laws.proofs.Counts.{Timely, Good, TimelyStep, good_step, good_start}
use Rattle.lock_laws.proofs.Exacts.{exact_step, exact_start}
use Rattle.frame_laws.proofs.Frames.{ThreadFrames, Framed, GoodStep, Kept, at_event, framed_step}
use Rattle.lift_laws.proofs.OneLift.{Repeats, repeats, Calm}
use Rattle.lift_laws.proofs.Readies.{ready_zero}
use Rattle.layout_laws.proofs.Shape.{Shaped, Any, keeps_shape, arrived}
use Rattle.order_laws.proofs.TokenCounts.{Count, Next, step_next}
use Rattle.order_laws.proofs.Tokens.{Chained, All, keeps_chained, due_arrive}

-- a flag that is set stays set
module _ (j : ℕ) where
  abbrev IsSet : List Bool → Type 0
  IsSet flags = slice_index_or flags j false ≡ true

  set_more : (flags : List Bool) (i : ℕ) → IsSet flags → IsSet (set flags i true)
  set_more flags i is = ⊎_elim
      (λ (e : (eqb i j ≡ true) × (i ≡ j)). get_or-set_at flags i j true false (sym e.1) (subst (λ x. x < length flags) (sym e.1) long))
      (λ (e : (eqb i j ≡ false) × (i ≢ j)). get_or-set_other flags i j true false (λ x. e.1 (sym x)) ∙ is) (eqb_tells i j)
    where
      long : j < length flags
      long = ⊎_elim (λ (p : j < length flags). p) (λ (p : length flags ≤ j). absurd (let z : get_or flags j false ≡ false = grind (arith, common_steps, elements) in cc)) (cases_lt j (length flags))

  module _ (s : Configuration) (t : ℕ) (th : Thread) (is : IsSet s.flags) where
    abbrev StaysSet : Made → Type 0
    StaysSet None = Unit {0}
    StaysSet (Some (next, ev)) = IsSet next.flags

    enter_set : (k : LockId) (late may : Bool) → StaysSet (enter s t th k late may)
    enter_set k false true = is
    enter_set k true false = is
    enter_set k false false = tt
    enter_set k true true = tt

    leave_set : (k : LockId) (h g : ℕ) → IsSet (leave s t th k h g).flags
    leave_set k (suc d) g = is
    leave_set k zero (suc g) = is
    leave_set k zero zero = is

    wait_set : (i : OrderId) (late ready : Bool) → StaysSet (wait s t th i late ready)
    wait_set i false true = is
    wait_set i true false = is
    wait_set i false false = tt
    wait_set i true true = tt

    token_set : (i : OrderId) (n : ℕ) → IsSet (token_taken (with_thread s t th) i n).flags
    token_set i zero = is
    token_set i (suc n) = is

    operate_set : (late : Bool) (o : Op) → StaysSet (operate s t th late o)
    operate_set late (Enter k) = enter_set k late (may_enter (slice_index_or s.locks k.number None) t)
    operate_set late (Wait i) = wait_set i late (no_token (slice_index s.tokens i.number) || slice_index_or s.flags i.number false)
    operate_set true (Leave k) = tt
    operate_set true (First i) = tt
    operate_set true (Done i) = tt
    operate_set true (Add i) = tt
    operate_set false (Leave k) = leave_set k (slice_index th.held k.number) (slice_index th.missed k.number)
    operate_set false (First i) = set_more s.flags i.number is
    operate_set false (Done i) = token_set i (slice_index s.tokens i.number)
    operate_set false (Add i) = is

  set_stays : (c : Code) (s next : Configuration) (t : ℕ) (late : Bool) (ev : Event) (th : Thread) (f : Frame) (below : List Frame) → IsSet s.flags
      → Change c s t late th f below next ev → IsSet next.flags
  set_stays c s next t late ev th f below is (IsTrapped b plain) = subst IsSet (sym b.flags) is
  set_stays c s next t late ev th f below is (IsOperated o rest at goes) = subst (StaysSet s t th is) goes (operate_set s t _ is late o)
  set_stays c s next t late ev th f below is (IsReduced r rest g at e b plain) = subst IsSet (sym b.flags) is
  set_stays c s next t late ev th f below is (IsActed a rest vs at simple b plain) = subst IsSet (sym b.flags) is
  set_stays c s next t late ev th f below is (IsJoined a rest vs n other at simple there b plain) = subst IsSet (sym b.flags) is
  set_stays c s next t late ev th f below is (IsCreated target g rest vs hs args at b plain) = subst IsSet (sym b.flags) is
  set_stays c s next t late ev th f below is (IsCalled g rest args vs at b plain) = subst IsSet (sym b.flags) is
  set_stays c s next t late ev th f below is (IsBegun n rest at b e) = subst IsSet (sym b.flags) is
  set_stays c s next t late ev th f below is (IsPassed n g place rest vs at passes b plain) = subst IsSet (sym b.flags) is
  set_stays c s next t late ev th f below is (IsReturned rest g under v at e b plain) = subst IsSet (sym b.flags) is
  set_stays c s next t late ev th f below is (IsExited rest at e b plain) = subst IsSet (sym b.flags) is

timely_of : (m : Marks) (k : ℕ) (ev : Event) → m.lock ≤ k → NotLate m ev → Timely k ev
timely_of m k (event.EnterMissed j) new h = λ e.
    let above : nat_le m.lock j.number ≡ true = (let w : m.lock ≤ j.number = omega (arith, e, new) in grind arith) in
    absurd (let z : true ≡ false = h above in cc)
timely_of m k ev new h = tt

module _ (m : Marks) (q : Code) (marked : IsMarked m q) (y : Layout) (laid : IsLaidOut q y) (bs : ℕ → ℕ) (posts pres : Place → List Op) (placed : Placed m q posts pres)
    (sorted : Sorted m q bs posts pres) (kept K : ℕ → ℕ → Bool) (inside : (k n : ℕ) → kept k n ≡ true → K k n ≡ true)
    (carries : (k : ℕ) → m.lock ≤ k → k < q.locks → Carries q y (kept k) k)
    (al : ℕ → ℕ) (comes : ℕ → ℕ → Bool) (root : ℕ → Bool) (sig : (j : ℕ) → m.order ≤ j → j < q.orders → Signals q y j (al j) (bs j) (comes j) root)
    (once : (j : ℕ) → m.order ≤ j → j < q.orders → CreatesOnce q y (comes j)) where
  abbrev CountAt : (j : ℕ) → m.order ≤ j → j < q.orders → Configuration → Type 0
  CountAt j new few s = Count q y laid j (al j) (bs j) (comes j) root (sig j new few) (once j new few) s

  abbrev ChainAt : (j : ℕ) → m.order ≤ j → j < q.orders → Configuration → Type 0
  ChainAt j new few s = Framed q (Chained q y laid j (al j) (bs j) (comes j) root (sig j new few)) (All q y laid j (al j) (bs j) (comes j) root (sig j new few)) s

  -- what holds at each moment of a run of the patched program in which no new operation times out
  pub record Sound (s : Configuration) : Type 0 where
    pub shapes : Framed q (Shaped q y laid) (Any q y laid) s
    pub goods : (k : ℕ) (new : m.lock ≤ k) (few : k < q.locks) → Good (kept k) k q y (carries k new few) laid s
    pub exacts : (k : ℕ) → m.lock ≤ k → k < q.locks → Exact k s.locks s.threads
    pub counts : (j : ℕ) (new : m.order ≤ j) (few : j < q.orders) → CountAt j new few s
    pub chains : (j : ℕ) (new : m.order ≤ j) (few : j < q.orders) → ChainAt j new few s

  next_chain : (s next : Configuration) (e : Entry) (ev : Event) → step q s e ≡ Some (next, ev) → Sound s → (j : ℕ) (new : m.order ≤ j) (few : j < q.orders) → ChainAt j new few next
  next_chain s next e ev goes sound j new few =
      (subst (Kept (at_event (GoodStep q (Chained q y laid j (al j) (bs j) (comes j) root (sig j new few)) (All q y laid j (al j) (bs j) (comes j) root (sig j new few))) e (frames_at (slice_get s.threads e.thread))) (ChainAt j new few))
      goes (framed_step q (Chained q y laid j (al j) (bs j) (comes j) root (sig j new few)) (All q y laid j (al j) (bs j) (comes j) root (sig j new few))
      (keeps_chained q y laid j (al j) (bs j) (comes j) root (sig j new few)) s e (sound.chains j new few))) tt

  next_count : (s next : Configuration) (e : Entry) (ev : Event) → step q s e ≡ Some (next, ev) → Sound s → (j : ℕ) (new : m.order ≤ j) (few : j < q.orders)
      → Next q y laid j (al j) (bs j) (comes j) root (sig j new few) (once j new few) s next
  next_count s next e ev goes sound j new few =
      let told : Told q s e.thread e.timeout next ev = subst (IsTold q s e.thread e.timeout) goes (step_tells q s e) in
      step_next q y laid j (al j) (bs j) (comes j) root (sig j new few) (once j new few) s next e.thread e.timeout ev (sound.counts j new few) (sound.chains j new few)
      (next_chain s next e ev goes sound j new few) told.thread told.frame told.below told.stands told.top told.change

  pub sound_step : (s next : Configuration) (e : Entry) (ev : Event) → step q s e ≡ Some (next, ev) → NotLate m ev → Sound s → Sound next
  sound_step s next e ev goes timely sound = record {
    shapes = (subst (Kept (at_event (GoodStep q (Shaped q y laid) (Any q y laid)) e (frames_at (slice_get s.threads e.thread))) (Framed q (Shaped q y laid) (Any q y laid)))
        goes (framed_step q (Shaped q y laid) (Any q y laid) (keeps_shape q y laid) s e sound.shapes)) tt;
    goods = λ k new few. (subst (Kept (at_event (TimelyStep (kept k) k q y (carries k new few) laid) e (frames_at (slice_get s.threads e.thread))) (Good (kept k) k q y (carries k new few) laid))
        goes (good_step (kept k) k q y (carries k new few) laid few s e (sound.goods k new few))) (timely_of m k ev new timely);
    exacts = λ k new few. exact_step k q few s next e ev goes (sound.exacts k new few);
    counts = λ j new few. (next_count s next e ev goes sound j new few).count;
    chains = λ j new few. next_chain s next e ev goes sound j new few;
  }

  pub ready_stays : (s next : Configuration) (e : Entry) (ev : Event) (j : ℕ) → step q s e ≡ Some (next, ev) → NotLate m ev → Sound s → m.order ≤ j → j < q.orders → Ready s j → Ready next j
  ready_stays s next e ev j goes timely sound new few ready = by_tokens (slice_index s.tokens j) refl
    where
      told : Told q s e.thread e.timeout next ev
      told = subst (IsTold q s e.thread e.timeout) goes (step_tells q s e)

      or_true : (x : Bool) → (x || true) ≡ true
      or_true true = refl
      or_true false = refl

      by_tokens : (n : ℕ) → slice_index s.tokens j ≡ n → Ready next j
      by_tokens zero is = ap (λ n. no_token n || slice_index_or next.flags j false) ((next_count s next e ev goes sound j new few).none is)
      by_tokens (suc n) is =
          let flag : slice_index_or s.flags j false ≡ true = sym (ap (λ n. no_token n || slice_index_or s.flags j false) is) ∙ ready in
          let flag2 = set_stays j q s next e.thread e.timeout ev told.thread told.frame told.below flag told.change in
          ap (λ x. no_token (slice_index next.tokens j) || x) flag2 ∙ or_true (no_token (slice_index next.tokens j))

  abbrev nothing : List Seen → ℕ → Type 0
  nothing past j = ⊥

  abbrev anything : List Seen → Configuration → Type 0
  anything past c = Unit {0}

  -- a source run is repeated, where orders are given by their tokens
  pub lifts_runs : (input : List ℤ) (es : List Entry) (ks : List Seen) (last : Configuration) → Sound (start q input)
      → run (strip_code m q) input es ≡ Some (ks, last) → AllClear (strip_code m q) K comes bs q.locks q.orders nothing never [] (start (strip_code m q) input) es
      → Repeats m q marked y laid bs posts pres placed sorted Sound sound_step (λ s sound k new few. sound.exacts k new few) ready_stays (λ s sound t th at. sound.shapes.at t th at)
      kept K inside carries (λ s sound k new few t th at. ((sound.goods k new few).fit.each.at t th at).depth) comes nothing anything
      (λ past c last k steps was hist sound trail timely only sound2 calm before goes. tt)
      (λ past c was sound calm hist j new few given. ⊎_elim
      (λ none. ready_zero m q marked y laid bs posts pres placed sorted j (al j) (bs j) (comes j) root (sig j new few) new (once j new few) c (sound.counts j new few) (sound.chains j new few) calm.settled none)
      (λ none. absurd none) given)
      input es last
  lifts_runs input es ks last sound ran clear = repeats m q marked y laid bs posts pres placed sorted Sound sound_step (λ s sound k new few. sound.exacts k new few) ready_stays
      (λ s sound t th at. sound.shapes.at t th at) kept K inside carries (λ s sound k new few t th at. ((sound.goods k new few).fit.each.at t th at).depth) comes nothing anything
      (λ past c last k steps was hist sound trail timely only sound2 calm before goes. tt)
      (λ past c was sound calm hist j new few given. ⊎_elim
      (λ none. ready_zero m q marked y laid bs posts pres placed sorted j (al j) (bs j) (comes j) root (sig j new few) new (once j new few) c (sound.counts j new few) (sound.chains j new few) calm.settled none)
      (λ none. absurd none) given)
      input es ks last sound tt ran clear

  length_tokens : (n : ℕ) (starts : List OrderId) → length (initial_tokens n starts) ≡ n
  length_tokens n [] = length-replicate {A = ℕ} n 0
  length_tokens n (j ∷ starts) = length-set (initial_tokens n starts) j.number 1 ∙ length_tokens n starts

  -- at the start it holds, where the starting tokens are what main's first node owes
  pub sound_start : (input : List ℤ)
      → ((j : ℕ) → m.order ≤ j → j < q.orders → get_or (initial_tokens q.orders q.starts) j 0 ≡ before_set q (owes (comes j) root) (Start (fn_id q.main)))
      → Sound (start q input)
  sound_start input begins =
      let shapes : Framed q (Shaped q y laid) (Any q y laid) (start q input) =
      each_push (ThreadFrames q (Shaped q y laid) (Any q y laid) 1) [] (thread_of q (frame_of q 0 q.main [])) (record { at = λ t th e. cc })
      (record { stands = arrived q y (fn_id q.main) (Start (fn_id q.main)) tt refl; under = laid.main }, tt) in
      record {
        shapes = shapes;
        goods = λ k new few. good_start (kept k) k q y (carries k new few) laid few input;
        exacts = λ k new few. exact_start k q few input;
        counts = λ j new few.
            let due = due_arrive q y laid j (al j) (bs j) (comes j) root (sig j new few) (Start (fn_id q.main)) tt in
            record {
              sized = subst (λ n. j < n) (sym (length_tokens q.orders q.starts)) few;
              tokens = begins j new few ∙ (sym due ∙ omega arith);
            };
        chains = λ j new few. each_push (ThreadFrames q (Chained q y laid j (al j) (bs j) (comes j) root (sig j new few)) (All q y laid j (al j) (bs j) (comes j) root (sig j new few)) 1) []
            (thread_of q (frame_of q 0 q.main [])) (record { at = λ t th e. cc })
            (record { shape = record { stands = arrived q y (fn_id q.main) (Start (fn_id q.main)) tt refl; under = laid.main }; link = tt }, tt);
      }

  abbrev CalmAt : (ℕ → ℕ → ℕ) → Configuration → Type 0
  CalmAt was c = Calm m q marked y laid bs posts pres placed sorted Sound sound_step (λ s sound k new few. sound.exacts k new few) ready_stays (λ s sound t th at. sound.shapes.at t th at)
      kept K inside carries (λ s sound k new few t th at. ((sound.goods k new few).fit.each.at t th at).depth) was c

  -- with flags: what is known of the past (Hist) is kept by each lifted entry, and sets the flag where the order has passed
  module _ (passed : List Seen → ℕ → Type 0) (Hist : List Seen → Configuration → Type 0)
      (hist_step : (past : List Seen) (c last : Configuration) (k : Seen) (steps : List Seen) (was : ℕ → ℕ → ℕ) → Hist past c → Sound c → Trail q c steps last → NoneLate m steps
      → old_entries m steps ≡ k.entry ∷ [] → Sound last → CalmAt was last → k.before ≡ frames_of (strip_configuration m c) k.entry.thread
      → step (strip_code m q) (strip_configuration m c) k.entry ≡ Some (strip_configuration m last, k.event) → Hist (k ∷ past) last)
      (flag_of : (past : List Seen) (c : Configuration) (was : ℕ → ℕ → ℕ) → Sound c → CalmAt was c → Hist past c → (j : ℕ) → m.order ≤ j → j < q.orders → passed past j
      → slice_index_or c.flags j false ≡ true) where
    or_right : (x : Bool) → (x || true) ≡ true
    or_right true = refl
    or_right false = refl

    pub waits_pass : (past : List Seen) (c : Configuration) (was : ℕ → ℕ → ℕ) → Sound c → CalmAt was c → Hist past c → (j : ℕ) → m.order ≤ j → j < q.orders
        → ((u : ℕ) → bottom_may (strip_code m q) (comes j) (frames_of (strip_configuration m c) u) ≡ 0) ⊎ passed past j → Ready c j
    waits_pass past c was sound calm hist j new few (inl none) =
        ready_zero m q marked y laid bs posts pres placed sorted j (al j) (bs j) (comes j) root (sig j new few) new (once j new few) c (sound.counts j new few) (sound.chains j new few) calm.settled none
    waits_pass past c was sound calm hist j new few (inr h) =
        ap (λ x. no_token (slice_index c.tokens j) || x) (flag_of past c was sound calm hist j new few h) ∙ or_right (no_token (slice_index c.tokens j))

    -- a source run is repeated, where orders may also be ready by what the steps before tell
    pub lifts_all : (input : List ℤ) (es : List Entry) (ks : List Seen) (last : Configuration)
        → ((j : ℕ) → m.order ≤ j → j < q.orders → get_or (initial_tokens q.orders q.starts) j 0 ≡ before_set q (owes (comes j) root) (Start (fn_id q.main)))
        → Hist [] (start q input) → run (strip_code m q) input es ≡ Some (ks, last)
        → AllClear (strip_code m q) K comes bs q.locks q.orders passed never [] (start (strip_code m q) input) es
        → Repeats m q marked y laid bs posts pres placed sorted Sound sound_step (λ s sound k new few. sound.exacts k new few) ready_stays (λ s sound t th at. sound.shapes.at t th at)
        kept K inside carries (λ s sound k new few t th at. ((sound.goods k new few).fit.each.at t th at).depth) comes passed Hist hist_step waits_pass input es last
    lifts_all input es ks last begins hist ran clear =
        repeats m q marked y laid bs posts pres placed sorted Sound sound_step (λ s sound k new few. sound.exacts k new few) ready_stays (λ s sound t th at. sound.shapes.at t th at)
        kept K inside carries (λ s sound k new few t th at. ((sound.goods k new few).fit.each.at t th at).depth) comes passed Hist hist_step waits_pass
        input es ks last (sound_start input begins) hist ran clear

-- a source run is repeated, for locks and for orders that are ready by their bottom frames
pub repeated : (m : Marks) (q : Code) (y : Layout) (posts pres : Place → List Op) (kept K : ℕ → ℕ → Bool) (al bs : ℕ → ℕ) (comes : ℕ → ℕ → Bool) (root : ℕ → Bool)
    → IsPatched m q y posts pres kept K al bs comes root → (input : List ℤ) (es : List Entry) (ks : List Seen) (last : Configuration)
    → run (strip_code m q) input es ≡ Some (ks, last) → AllClear (strip_code m q) K comes bs q.locks q.orders none_passed never [] (start (strip_code m q) input) es
    → Repeated m q posts pres input es last
repeated m q y posts pres kept K al bs comes root patched input es ks last ran clear =
    let r = lifts_runs m q patched.marked y patched.laid bs posts pres patched.placed patched.sorted kept K patched.inside patched.carries al comes root patched.signals patched.once
    input es ks last (sound_start m q patched.marked y patched.laid bs posts pres patched.placed patched.sorted kept K patched.inside patched.carries al comes root patched.signals patched.once input patched.begins)
    ran clear in
    record { steps = r.steps; end = r.end; ran = r.ran; timely = r.timely; erases = r.erases; same = r.same }
