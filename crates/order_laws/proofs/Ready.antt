-- An order in runs without timeouts: its tokens are counted, and it has none, or its flag is set, or no frame is past a wait.
use Rattle.std.proofs.Common.{◌≡◌, ◌≢◌, ◌⊎◌, ⊎_elim, inl, inr, ℕ, zero, suc, ◌<◌, ℤ, Bool, true, false, List, [], ◌∷◌, length, set, get_or, Option, Some, None, refl, sym, ap, ◌∙◌, subst, arith}
use Rattle.std.specs.Prelude.{slice_get, slice_index, slice_index_or, ◌||◌}
use Rattle.std.proofs.lemmas.Bool.Decides.{eqb_tells}
use Rattle.std.proofs.Math.Dec.{eqb}
use Rattle.std.proofs.lemmas.List.{length-set, get_or-set_other, length-replicate}
use Rattle.cfix_base.specs.declared.entry.Entry.{Entry}
use Rattle.cfix_base.specs.declared.number.NodeId.{NodeId}
use Rattle.cfix_base.specs.declared.number.LockId.{LockId}
use Rattle.cfix_base.specs.declared.number.OrderId.{OrderId}
use Rattle.cfix_base.specs.declared.op.Op.{Op}
use Rattle.cfix_base.specs.declared.op.Op.TheVariants.{Leave, First, Done, Wait, Enter, Add}
use Rattle.cfix_base.specs.declared.place.Place.{Place}
use Rattle.cfix_base.specs.declared.place.Place.TheVariants.{Start}
use Rattle.step_state.specs.declared.event.Event.{Event}
use Rattle.step_state.specs.declared.event.Event.TheVariants as event
use Rattle.step_state.specs.declared.item.Item.{Item}
use Rattle.step_state.specs.declared.item.Item.TheVariants as item
use Rattle.step_state.specs.declared.frame.Frame.{Frame}
use Rattle.step_state.specs.declared.thread.Thread.{Thread}
use Rattle.step_state.specs.declared.state.Configuration.{Configuration}
use Rattle.step_state.specs.Code.{Code, fn_id}
use Rattle.step_state.specs.Changes.{Made, frame_of, thread_of, with_frames, with_thread, with_work}
use Rattle.step_state.specs.Operate.{enter, leave, no_token, wait, operate, token_taken}
use Rattle.step_state.specs.Start.{start, initial_tokens}
use Rattle.step_state.specs.Step.{step}
use Rattle.step_state.specs.Run.{Seen, frames_at}
use Rattle.layout_laws.specs.Layout.{Layout, IsLaidOut}
use Rattle.lock_laws.specs.Guard.{bit, in_set}
use Rattle.order_laws.specs.Tokens.{first_of, Signals, CreatesOnce, dues}
use Rattle.order_laws.specs.OrderRuns.{Starts}
use Rattle.frame_laws.proofs.Each.{Each, each_push}
use Rattle.frame_laws.proofs.Frames.{AllFrames, Framed, GoodStep, Kept, ThreadFrames, at_event, framed_step}
use Rattle.layout_laws.proofs.Shape.{Shaped, arrived}
use Rattle.frame_laws.proofs.Change.{Change, IsPlain, Told, IsTold, step_tells, IsTrapped, IsOperated, IsReduced, IsActed, IsJoined, IsCreated, IsCalled, IsBegun, IsPassed, IsReturned, IsExited}
use Rattle.order_laws.proofs.Tokens.{Chained, All, front, keeps_chained, due_arrive}
use Rattle.order_laws.proofs.TokenCounts.{Count, Next, step_next, comes_due, total_has, stands_at, owe_root, stacks}
use Rattle.order_laws.proofs.NotPast.{NotPast, Before, NotThis, keeps_not_past, before_start}
use Rattle.access_laws.specs.Access.{AtNode, TopVisits}
use Rattle.access_laws.proofs.AccessVisits.{AllStand}

-- flags that are set stay set
flag_set : (xs : List Bool) (i j : ℕ) → get_or xs j false ≡ true → get_or (set xs i true) j false ≡ true
flag_set [] i j e = e
flag_set (x ∷ xs) zero zero e = refl
flag_set (x ∷ xs) zero (suc j) e = e
flag_set (x ∷ xs) (suc i) zero e = e
flag_set (x ∷ xs) (suc i) (suc j) e = flag_set xs i j e

length_initial : (n : ℕ) (js : List OrderId) → length (initial_tokens n js) ≡ n
length_initial n [] = length-replicate {A = ℕ} n 0
length_initial n (j ∷ js) = length-set (initial_tokens n js) j.number 1 ∙ length_initial n js

-- the wait of an order went on as it had no token, or a flag
abbrev pub passed : Configuration → Event → Type 0
passed s (event.Wait i) = (slice_index s.tokens i.number ≡ 0) ⊎ (slice_index_or s.flags i.number false ≡ true)
passed s _ = Unit {0}

abbrev Passed : Configuration → Made → Type 0
Passed s None = Unit {0}
Passed s (Some (next, ev)) = passed s ev

plain_passed : (s : Configuration) (ev : Event) → IsPlain ev → passed s ev
plain_passed s (event.Wait i) h = absurd h
plain_passed s ev h = tt

or_tells : (n : ℕ) (flag : Bool) → (no_token n || flag) ≡ true → (n ≡ 0) ⊎ (flag ≡ true)
or_tells zero flag e = inl refl
or_tells (suc n) flag e = inr e

wait_passed : (s : Configuration) (t : ℕ) (th : Thread) (i : OrderId) (late ready : Bool) → (no_token (slice_index s.tokens i.number) || slice_index_or s.flags i.number false) ≡ ready
    → Passed s (wait s t th i late ready)
wait_passed s t th i false true is = or_tells (slice_index s.tokens i.number) (slice_index_or s.flags i.number false) is
wait_passed s t th i true false is = tt
wait_passed s t th i false false is = tt
wait_passed s t th i true true is = tt

enter_passed : (s : Configuration) (t : ℕ) (th : Thread) (k : LockId) (late may : Bool) → Passed s (enter s t th k late may)
enter_passed s t th k false true = tt
enter_passed s t th k true false = tt
enter_passed s t th k false false = tt
enter_passed s t th k true true = tt

operate_passed : (s : Configuration) (t : ℕ) (th : Thread) (late : Bool) (o : Op) → Passed s (operate s t th late o)
operate_passed s t th late (Enter k) = enter_passed s t th k late _
operate_passed s t th late (Wait i) = wait_passed s t th i late _ refl
operate_passed s t th true (Leave k) = tt
operate_passed s t th true (First i) = tt
operate_passed s t th true (Done i) = tt
operate_passed s t th true (Add i) = tt
operate_passed s t th false (Leave k) = tt
operate_passed s t th false (First i) = tt
operate_passed s t th false (Done i) = tt
operate_passed s t th false (Add i) = tt

-- a step's wait went on as it may
pub change_passed : (c : Code) (s next : Configuration) (t : ℕ) (late : Bool) (th : Thread) (f : Frame) (below : List Frame) (ev : Event) → Change c s t late th f below next ev → passed s ev
change_passed c s next t late th f below ev (IsTrapped beside plain) = plain_passed s ev plain
change_passed c s next t late th f below ev (IsOperated o rest at goes) =
    let h : Passed s (Some (next, ev)) = subst (Passed s) goes (operate_passed s t (with_frames th (with_work f rest ∷ below)) late o) in h
change_passed c s next t late th f below ev (IsReduced r rest g at is beside plain) = plain_passed s ev plain
change_passed c s next t late th f below ev (IsActed x rest vs at simple beside plain) = plain_passed s ev plain
change_passed c s next t late th f below ev (IsJoined x rest vs n other at simple there beside plain) = plain_passed s ev plain
change_passed c s next t late th f below ev (IsCreated target g rest vs hs args at beside plain) = plain_passed s ev plain
change_passed c s next t late th f below ev (IsCalled g rest args vs at beside plain) = plain_passed s ev plain
change_passed c s next t late th f below ev (IsBegun n rest at beside is) = subst (passed s) (sym is) tt
change_passed c s next t late th f below ev (IsPassed n g place rest vs at passes beside plain) = plain_passed s ev plain
change_passed c s next t late th f below ev (IsReturned rest g under v at is beside plain) = plain_passed s ev plain
change_passed c s next t late th f below ev (IsExited rest at is beside plain) = plain_passed s ev plain

-- the flags after a step: those before it, or with one more that a first has set
pub data Flagged (s next : Configuration) (work : List Item) : Type 0 where
  SameFlags : next.flags ≡ s.flags → Flagged s next work
  OneSet : (i : OrderId) (rest : List Item) → work ≡ item.Op (First i) ∷ rest → next.flags ≡ set s.flags i.number true → Flagged s next work

abbrev FlagsOf : Configuration → List Item → Made → Type 0
FlagsOf s work None = Unit {0}
FlagsOf s work (Some (next, ev)) = Flagged s next work

wait_flags : (s : Configuration) (t : ℕ) (th : Thread) (work : List Item) (i : OrderId) (late ready : Bool) → FlagsOf s work (wait s t th i late ready)
wait_flags s t th work i false true = SameFlags refl
wait_flags s t th work i true false = SameFlags refl
wait_flags s t th work i false false = tt
wait_flags s t th work i true true = tt

enter_flags : (s : Configuration) (t : ℕ) (th : Thread) (work : List Item) (k : LockId) (late may : Bool) → FlagsOf s work (enter s t th k late may)
enter_flags s t th work k false true = SameFlags refl
enter_flags s t th work k true false = SameFlags refl
enter_flags s t th work k false false = tt
enter_flags s t th work k true true = tt

leave_flags : (s : Configuration) (t : ℕ) (th : Thread) (k : LockId) (h m : ℕ) → (leave s t th k h m).flags ≡ s.flags
leave_flags s t th k (suc h) m = refl
leave_flags s t th k zero (suc m) = refl
leave_flags s t th k zero zero = refl

taken_flags : (s : Configuration) (i : OrderId) (n : ℕ) → (token_taken s i n).flags ≡ s.flags
taken_flags s i zero = refl
taken_flags s i (suc n) = refl

operate_flags : (s : Configuration) (t : ℕ) (th : Thread) (late : Bool) (o : Op) (rest : List Item) → FlagsOf s (item.Op o ∷ rest) (operate s t th late o)
operate_flags s t th late (Enter k) rest = enter_flags s t th (item.Op (Enter k) ∷ rest) k late _
operate_flags s t th late (Wait i) rest = wait_flags s t th (item.Op (Wait i) ∷ rest) i late _
operate_flags s t th true (Leave k) rest = tt
operate_flags s t th true (First i) rest = tt
operate_flags s t th true (Done i) rest = tt
operate_flags s t th true (Add i) rest = tt
operate_flags s t th false (Leave k) rest = SameFlags (leave_flags s t th k (slice_index th.held k.number) (slice_index th.missed k.number))
operate_flags s t th false (First i) rest = OneSet i rest refl refl
operate_flags s t th false (Done i) rest = SameFlags (taken_flags (with_thread s t th) i (slice_index s.tokens i.number))
operate_flags s t th false (Add i) rest = SameFlags refl

pub change_flags : (c : Code) (s next : Configuration) (t : ℕ) (late : Bool) (th : Thread) (f : Frame) (below : List Frame) (ev : Event) → Change c s t late th f below next ev
    → Flagged s next f.work
change_flags c s next t late th f below ev (IsTrapped beside plain) = SameFlags beside.flags
change_flags c s next t late th f below ev (IsOperated o rest at goes) =
    let h : Flagged s next (item.Op o ∷ rest) = subst (FlagsOf s (item.Op o ∷ rest)) goes (operate_flags s t (with_frames th (with_work f rest ∷ below)) late o rest) in
    subst (Flagged s next) (sym at) h
change_flags c s next t late th f below ev (IsReduced r rest g at is beside plain) = SameFlags beside.flags
change_flags c s next t late th f below ev (IsActed x rest vs at simple beside plain) = SameFlags beside.flags
change_flags c s next t late th f below ev (IsJoined x rest vs n other at simple there beside plain) = SameFlags beside.flags
change_flags c s next t late th f below ev (IsCreated target g rest vs hs args at beside plain) = SameFlags beside.flags
change_flags c s next t late th f below ev (IsCalled g rest args vs at beside plain) = SameFlags beside.flags
change_flags c s next t late th f below ev (IsBegun n rest at beside is) = SameFlags beside.flags
change_flags c s next t late th f below ev (IsPassed n g place rest vs at passes beside plain) = SameFlags beside.flags
change_flags c s next t late th f below ev (IsReturned rest g under v at is beside plain) = SameFlags beside.flags
change_flags c s next t late th f below ev (IsExited rest at is beside plain) = SameFlags beside.flags

-- the flag of an order stays set; and it stays unset but for a first of the order
pub stays_set : (j : ℕ) (s next : Configuration) (work : List Item) → Flagged s next work → get_or s.flags j false ≡ true → get_or next.flags j false ≡ true
stays_set j s next work (SameFlags e) was = ap (λ l. get_or l j false) e ∙ was
stays_set j s next work (OneSet i rest at e) was = ap (λ l. get_or l j false) e ∙ flag_set s.flags i.number j was

pub stays_unset : (j : ℕ) (s next : Configuration) (work : List Item) → Flagged s next work
    → ((i : OrderId) (rest : List Item) → work ≡ item.Op (First i) ∷ rest → i.number ≡ j → ⊥) → get_or s.flags j false ≡ false → get_or next.flags j false ≡ false
stays_unset j s next work (SameFlags e) never was = ap (λ l. get_or l j false) e ∙ was
stays_unset j s next work (OneSet i rest at e) never was =
    ap (λ l. get_or l j false) e ∙ (get_or-set_other s.flags i.number j true false (λ z. never i rest at (sym z)) ∙ was)

module _ (c : Code) (y : Layout) (laid : IsLaidOut c y) (j a b : ℕ) (comes root : ℕ → Bool) (sig : Signals c y j a b comes root) (once : CreatesOnce c y comes) where
  abbrev P : ℕ → ℕ → Frame → List Frame → Type 0
  P = Chained c y laid j a b comes root sig

  abbrev GP : ℕ → List Frame → Event → Type 0
  GP = All c y laid j a b comes root sig

  abbrev N : ℕ → ℕ → Frame → List Frame → Type 0
  N = NotPast c y laid j a b comes root sig

  abbrev GN : ℕ → List Frame → Event → Type 0
  GN = NotThis c y laid j a b comes root sig

  abbrev Counted : Configuration → Type 0
  Counted s = Count c y laid j a b comes root sig once s

  abbrev pub Zero : Configuration → Type 0
  Zero s = get_or s.tokens j 0 ≡ 0

  abbrev pub Flag : Configuration → Type 0
  Flag s = get_or s.flags j false ≡ true

  -- there is no token, or the flag is set, or no frame is past a wait
  abbrev pub Ready : Configuration → Type 0
  Ready s = Zero s ⊎ (Flag s ⊎ Framed c N GN s)

  pub record Order (s : Configuration) : Type 0 where
    pub count : Counted s
    pub chain : Framed c P GP s
    pub ready : Ready s

  abbrev pub Timely : Seen → Type 0
  Timely m = m.event ≡ event.WaitMissed (record { number = j }) → ⊥

  -- the step is a wait for the order, or none
  event_or : (s : Configuration) (t : ℕ) (fs : List Frame) (ev : Event) → (ev ≡ event.WaitMissed (record { number = j }) → ⊥) → passed s ev → Zero s ⊎ (Flag s ⊎ GN t fs ev)
  event_or s t fs (event.Wait i) timely z = ⊎_elim same other (eqb_tells i.number j)
    where
      same : (eqb i.number j ≡ true) × (i.number ≡ j) → Zero s ⊎ (Flag s ⊎ GN t fs (event.Wait i))
      same q = ⊎_elim (λ (n : slice_index s.tokens i.number ≡ 0). inl (subst (λ k. get_or s.tokens k 0 ≡ 0) q.1 n))
          (λ (f : slice_index_or s.flags i.number false ≡ true). inr (inl (subst (λ k. get_or s.flags k false ≡ true) q.1 f))) z

      other : (eqb i.number j ≡ false) × (i.number ≢ j) → Zero s ⊎ (Flag s ⊎ GN t fs (event.Wait i))
      other q = inr (inr (λ k e is. let same_order : i ≡ k = cc in q.1 (ap (λ o. o.number) same_order ∙ is)))
  event_or s t fs (event.WaitMissed i) timely z = inr (inr (λ k e is.
      let same_order : i ≡ k = cc in
      let here : i.number ≡ j = ap (λ o. o.number) same_order ∙ is in
      timely (λ x. event.WaitMissed (record { number = here x }))))
  event_or s t fs ev timely z = inr (inr (λ k e is. cc))

  -- what a step does to the order
  pub record Moved (s next : Configuration) (ev : Event) : Type 0 where
    pub next_count : Next c y laid j a b comes root sig once s next
    pub flag : Flag s → Flag next
    pub wait : passed s ev

  moved_by : (s next : Configuration) (t : ℕ) (late : Bool) (ev : Event) → Counted s → Framed c P GP s → Framed c P GP next → Told c s t late next ev → Moved s next ev
  moved_by s next t late ev count chain later told = record {
    next_count = step_next c y laid j a b comes root sig once s next t late ev count chain later told.thread told.frame told.below told.stands told.top told.change;
    flag = stays_set j s next told.frame.work (change_flags c s next t late told.thread told.frame told.below ev told.change);
    wait = change_passed c s next t late told.thread told.frame told.below ev told.change;
  }

  order_kept : (s : Configuration) (e : Entry) (fs : List Frame) (made : Made) → Order s → IsTold c s e.thread e.timeout made
      → Kept (at_event (GoodStep c P GP) e fs) (Framed c P GP) made
      → (Framed c N GN s → Kept (at_event (GoodStep c N GN) e fs) (Framed c N GN) made) → Kept (at_event Timely e fs) Order made
  order_kept s e fs None order told chain on = tt
  order_kept s e fs (Some (next, ev)) order told chain on = λ timely.
      let m = moved_by s next e.thread e.timeout ev order.count order.chain (chain tt) told in
      record { count = m.next_count.count; chain = chain tt; ready = by_ready m order.ready (event_or s e.thread fs ev timely m.wait) }
    where
      by_ready : Moved s next ev → Ready s → Zero s ⊎ (Flag s ⊎ GN e.thread fs ev) → Ready next
      by_ready m (inl z) r = inl (m.next_count.none z)
      by_ready m (inr (inl f)) r = inr (inl (m.flag f))
      by_ready m (inr (inr x)) (inl z) = inl (m.next_count.none z)
      by_ready m (inr (inr x)) (inr (inl f)) = inr (inl (m.flag f))
      by_ready m (inr (inr x)) (inr (inr good)) = inr (inr (on x good))

  -- one step without a timeout
  pub order_step : (s : Configuration) (e : Entry) → Order s → Kept (at_event Timely e (frames_at (slice_get s.threads e.thread))) Order (step c s e)
  order_step s e order = order_kept s e (frames_at (slice_get s.threads e.thread)) (step c s e) order (step_tells c s e)
      (framed_step c P GP (keeps_chained c y laid j a b comes root sig) s e order.chain)
      (λ x. framed_step c N GN (keeps_not_past c y laid j a b comes root sig) s e x)

  -- once there is no token, there is none
  pub record NoTokens (s : Configuration) : Type 0 where
    pub order : Order s
    pub zero : Zero s

  zero_kept : (s : Configuration) (e : Entry) (fs : List Frame) (made : Made) → NoTokens s → IsTold c s e.thread e.timeout made
      → Kept (at_event (GoodStep c P GP) e fs) (Framed c P GP) made → Kept (at_event Timely e fs) Order made → Kept (at_event Timely e fs) NoTokens made
  zero_kept s e fs None h told chain on = tt
  zero_kept s e fs (Some (next, ev)) h told chain on = λ timely.
      let m = moved_by s next e.thread e.timeout ev h.order.count h.order.chain (chain tt) told in
      record { order = on timely; zero = m.next_count.none h.zero }

  pub zero_step : (s : Configuration) (e : Entry) → NoTokens s → Kept (at_event Timely e (frames_at (slice_get s.threads e.thread))) NoTokens (step c s e)
  zero_step s e h = zero_kept s e (frames_at (slice_get s.threads e.thread)) (step c s e) h (step_tells c s e)
      (framed_step c P GP (keeps_chained c y laid j a b comes root sig) s e h.order.chain) (order_step s e h.order)

  start_shaped : (input : List ℤ) → Shaped c y laid 1 0 (frame_of c 0 c.main []) []
  start_shaped input = record { stands = arrived c y (frame_of c 0 c.main []).of (Start (frame_of c 0 c.main []).of) tt refl; under = laid.main }

  pub order_start : Starts c j comes → (input : List ℤ) → Order (start c input)
  order_start starts input =
      let new : Thread = thread_of c (frame_of c 0 c.main []) in
      let bare : Each (ThreadFrames c P GP 1) [] = record { at = λ t th e. cc } in
      let empty : Each (ThreadFrames c N GN 1) [] = record { at = λ t th e. cc } in
      record {
        count = record {
          sized = subst (λ n. j < n) (sym (length_initial c.orders c.starts)) starts.known;
          tokens = starts.token ∙ (sym (owe_root c y laid j a b comes root sig once (first_of c c.main) main_root)
              ∙ (let d = due_arrive c y laid j a b comes root sig (Start (fn_id c.main)) tt in omega arith));
        };
        chain = each_push (ThreadFrames c P GP 1) [] new bare (record { shape = start_shaped input; link = tt }, tt);
        ready = inr (inr (each_push (ThreadFrames c N GN 1) [] new empty (record { shape = start_shaped input; before = before_start c y laid j a b comes root sig c.main }, tt)));
      }
    where
      main_root : (v : ℕ) → first_of c c.main ≡ Some v → root v ≡ true
      main_root v e = sig.roots v ∙ (ap y.is_root (laid.along (Start (fn_id c.main)) v tt e) ∙ laid.main)

  -- where a frame visits b, there is no token, or the flag is set
  pub zero_in_b : (s : Configuration) (t : ℕ) → Order s → TopVisits b (frames_at (slice_get s.threads t)) → Zero s ⊎ Flag s
  zero_in_b s t order v = by_ready order.ready
    where
      at_b : (visit : Option NodeId) (last : Place) (f : Frame) → f.visit ≡ visit → (m u : ℕ) (below : List Frame) → N m u f below → AtNode b visit → ⊥
      at_b None last f is m u below h here = here
      at_b (Some n) last f is m u below h here = (subst (λ w. before_of w f) is h.before) here
        where
          before_of : Option NodeId → Frame → Type 0
          before_of w f = Before c y laid j a b comes root sig w f.last f.work

      by_frames : (fs : List Frame) → AllFrames c N GN s.made t fs → TopVisits b fs → ⊥
      by_frames [] h v = v
      by_frames (f ∷ below) h v = at_b f.visit f.last f refl s.made t below h.0 v

      by_thread : Framed c N GN s → (o : Option Thread) → slice_get s.threads t ≡ o → TopVisits b (frames_at o) → ⊥
      by_thread h None at v = v
      by_thread h (Some th) at v = by_frames th.frames (h.at t th at) v

      by_ready : Ready s → Zero s ⊎ Flag s
      by_ready (inl z) = inl z
      by_ready (inr (inl f)) = inr f
      by_ready (inr (inr h)) = absurd (by_thread h (slice_get s.threads t) refl v)

  -- where a frame visits a, there is one
  pub token_in_a : (s : Configuration) (t : ℕ) → Order s → TopVisits a (frames_at (slice_get s.threads t)) → Zero s → ⊥
  token_in_a s t order v z = by_thread (slice_get s.threads t) refl v
    where
      front_a : (visit : Option NodeId) (last : Place) → AtNode a visit → 0 < in_set comes (front c y laid j a b comes root sig visit last)
      front_a None last h = absurd h
      front_a (Some n) last h = let e : bit (comes n.number) ≡ 1 = ap (λ x. bit (comes x)) h ∙ ap bit sig.comes_a in omega arith

      by_frames : (fs : List Frame) → AllFrames c P GP s.made t fs → TopVisits a fs → 0 < dues c y j comes root fs
      by_frames [] h v = absurd v
      by_frames (f ∷ below) h v = comes_due c y laid j a b comes root sig once s.made t f below h (front_a f.visit f.last v)

      by_thread : (o : Option Thread) → slice_get s.threads t ≡ o → TopVisits a (frames_at o) → ⊥
      by_thread None at v = v
      by_thread (Some th) at v =
          let d = by_frames th.frames (order.chain.at t th at) v in
          let m = total_has c y laid j a b comes root sig once (stacks c y laid j a b comes root sig once s.threads) t th.frames (stands_at c y laid j a b comes root sig once s.threads t th at) in
          let n = order.count.tokens in
          let k : get_or s.tokens j 0 ≡ 0 = z in
          omega arith

  chains_stand : (m t : ℕ) (fs : List Frame) → AllFrames c P GP m t fs → AllStand c y fs
  chains_stand m t [] h = tt
  chains_stand m t (f ∷ below) h = (h.0.shape.stands, chains_stand m t below h.1)

  -- all frames stand where the layout says
  pub all_stand : (s : Configuration) (t : ℕ) → Order s → AllStand c y (frames_at (slice_get s.threads t))
  all_stand s t order = by_thread (slice_get s.threads t) refl
    where
      by_thread : (o : Option Thread) → slice_get s.threads t ≡ o → AllStand c y (frames_at o)
      by_thread None at = tt
      by_thread (Some th) at = chains_stand s.made t th.frames (order.chain.at t th at)
