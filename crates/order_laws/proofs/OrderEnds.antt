-- After a visit of a has ended, the flag of the order is set, or a first of it is pending.
use Rattle.std.proofs.Common.{◌≡◌, ◌≢◌, ◌⊎◌, ⊎_elim, inl, inr, ℕ, zero, suc, ◌+◌, ◌<◌, ℤ, Bool, true, false, List, [], ◌∷◌, ◌++◌, length, map, set, get_or, Option, Some, None, refl, sym, ap, ◌∙◌, subst, arith}
use Rattle.std.specs.Prelude.{slice_get, slice_index, ◌==◌}
use Rattle.std.proofs.lemmas.Bool.Decides.{eqb_tells}
use Rattle.std.proofs.lemmas.Grind.{get_or-set_at}
use Rattle.std.proofs.Math.Dec.{eqb}
use Rattle.std.proofs.lemmas.List.{length-set, length-replicate}
use Rattle.c_prog.specs.declared.tree.Tree.{Tree}
use Rattle.cfix_base.specs.declared.entry.Entry.{Entry}
use Rattle.cfix_base.specs.declared.number.NodeId.{NodeId}
use Rattle.cfix_base.specs.declared.number.LockId.{LockId}
use Rattle.cfix_base.specs.declared.number.OrderId.{OrderId}
use Rattle.cfix_base.specs.declared.op.Op.{Op}
use Rattle.cfix_base.specs.declared.op.Op.TheVariants.{Leave, First, Done, Wait, Enter, Add}
use Rattle.cfix_base.specs.declared.place.Place.{Place}
use Rattle.cfix_base.specs.declared.place.Place.TheVariants.{Start, After}
use Rattle.step_state.specs.declared.event.Event.{Event}
use Rattle.step_state.specs.declared.event.Ending.TheVariants as ending
use Rattle.step_state.specs.declared.item.Item.{Item}
use Rattle.step_state.specs.declared.item.Item.TheVariants as item
use Rattle.step_state.specs.declared.item.Move.TheVariants as move
use Rattle.step_state.specs.declared.frame.Frame.{Frame}
use Rattle.step_state.specs.declared.thread.Thread.{Thread}
use Rattle.step_state.specs.declared.state.Configuration.{Configuration}
use Rattle.step_state.specs.Code.{Code, go_to}
use Rattle.step_state.specs.Changes.{Made, frame_of, thread_of, with_frames, with_thread, with_work, with_values, pass}
use Rattle.step_state.specs.Operate.{enter, leave, wait, operate, token_taken}
use Rattle.step_state.specs.Start.{start}
use Rattle.step_state.specs.Step.{branch_place, work_step, frames_step, thread_step, unended_step, step}
use Rattle.step_state.specs.Values.{is_zero, last_value, other_values}
use Rattle.step_state.specs.Run.{Seen, frames_at, at_end}
use Rattle.lock_laws.specs.Guard.{bit}
use Rattle.layout_laws.specs.Layout.{Layout, Live, source, Stands, IsLaidOut}
use Rattle.order_laws.specs.Tokens.{firsts}
use Rattle.order_laws.specs.OrderRuns.{IsVisit, EndsVisit}
use Rattle.order_laws.specs.OrderEnds.{IsFirsted, pending_firsts, Pending, EndSets}
use Rattle.step_tables.specs.TreeCode.{tree_code}
use Rattle.layout_laws.specs.TreeLayout.{layout_of}
use Rattle.frame_laws.proofs.Each.{Each, each_push}
use Rattle.frame_laws.proofs.Frames.{AllOf, AllFrames, Framed, GoodStep, Kept, ThreadFrames, at_event, framed_step}
use Rattle.layout_laws.proofs.Shape.{Shaped, Any, arrived, keeps_shape}
use Rattle.frame_laws.proofs.Change.{Change, Told, IsTold, step_tells, IsTrapped, IsOperated, IsReduced, IsActed, IsJoined, IsCreated, IsCalled, IsBegun, IsPassed, IsReturned, IsExited}
use Rattle.order_laws.proofs.Ready.{Flagged, SameFlags, OneSet, change_flags, stays_set}
use Rattle.frame_laws.specs.Trail.{Trail}
use Rattle.frame_laws.proofs.Trails.{trail_keeps, trail_split, run_trail}
use Rattle.layout_laws.proofs.TreeLaid.{laid_out}

get_set : (ths : List Thread) (t : ℕ) (th new : Thread) → slice_get ths t ≡ Some th → slice_get (set ths t new) t ≡ Some new
get_set [] t th new is = cc
get_set (x ∷ ths) zero th new is = refl
get_set (x ∷ ths) (suc t) th new is = get_set ths t th new is

get_other : (ths : List Thread) (u t : ℕ) (new : Thread) → t ≢ u → slice_get (set ths u new) t ≡ slice_get ths t
get_other [] u t new ne = refl
get_other (x ∷ ths) zero zero new ne = absurd (ne refl)
get_other (x ∷ ths) zero (suc t) new ne = refl
get_other (x ∷ ths) (suc u) zero new ne = refl
get_other (x ∷ ths) (suc u) (suc t) new ne = get_other ths u t new (λ e. ne (ap suc e))

get_more : (ths more : List Thread) (t : ℕ) (th : Thread) → slice_get ths t ≡ Some th → slice_get (ths ++ more) t ≡ Some th
get_more [] more t th e = cc
get_more (x ∷ ths) more zero th e = e
get_more (x ∷ ths) more (suc t) th e = get_more ths more t th e

-- an operation changes the frames of its thread alone
record Alone (s next : Configuration) (t : ℕ) (fs : List Frame) : Type 0 where
  pub new : Thread
  pub threads : next.threads ≡ set s.threads t new
  pub frames : new.frames ≡ fs

abbrev IsAlone : Configuration → ℕ → List Frame → Made → Type 0
IsAlone s t fs None = Unit {0}
IsAlone s t fs (Some (next, ev)) = Alone s next t fs

enter_alone : (s : Configuration) (t : ℕ) (th : Thread) (k : LockId) (late may : Bool) → IsAlone s t th.frames (enter s t th k late may)
enter_alone s t th k false true = record { new = record th { held = set th.held k.number (slice_index th.held k.number + 1) }; threads = refl; frames = refl }
enter_alone s t th k true false = record { new = record th { missed = set th.missed k.number (slice_index th.missed k.number + 1) }; threads = refl; frames = refl }
enter_alone s t th k false false = tt
enter_alone s t th k true true = tt

wait_alone : (s : Configuration) (t : ℕ) (th : Thread) (i : OrderId) (late ready : Bool) → IsAlone s t th.frames (wait s t th i late ready)
wait_alone s t th i false true = record { new = th; threads = refl; frames = refl }
wait_alone s t th i true false = record { new = th; threads = refl; frames = refl }
wait_alone s t th i false false = tt
wait_alone s t th i true true = tt

leave_alone : (s : Configuration) (t : ℕ) (th : Thread) (k : LockId) (h m : ℕ) → Alone s (leave s t th k h m) t th.frames
leave_alone s t th k (suc h) m = record { new = record th { held = set th.held k.number h }; threads = refl; frames = refl }
leave_alone s t th k zero (suc m) = record { new = record th { missed = set th.missed k.number m }; threads = refl; frames = refl }
leave_alone s t th k zero zero = record { new = th; threads = refl; frames = refl }

done_alone : (s : Configuration) (t : ℕ) (th : Thread) (i : OrderId) (n : ℕ) → Alone s (token_taken (with_thread s t th) i n) t th.frames
done_alone s t th i zero = record { new = th; threads = refl; frames = refl }
done_alone s t th i (suc n) = record { new = th; threads = refl; frames = refl }

operate_alone : (s : Configuration) (t : ℕ) (th : Thread) (late : Bool) (o : Op) → IsAlone s t th.frames (operate s t th late o)
operate_alone s t th late (Enter k) = enter_alone s t th k late _
operate_alone s t th late (Wait i) = wait_alone s t th i late _
operate_alone s t th true (Leave k) = tt
operate_alone s t th true (First i) = tt
operate_alone s t th true (Done i) = tt
operate_alone s t th true (Add i) = tt
operate_alone s t th false (Leave k) = leave_alone s t th k (slice_index th.held k.number) (slice_index th.missed k.number)
operate_alone s t th false (First i) = record { new = th; threads = refl; frames = refl }
operate_alone s t th false (Done i) = done_alone s t th i (slice_index s.tokens i.number)
operate_alone s t th false (Add i) = record { new = th; threads = refl; frames = refl }

abbrev FirstSets : Configuration → OrderId → Made → Type 0
FirstSets s i None = Unit {0}
FirstSets s i (Some (next, ev)) = next.flags ≡ set s.flags i.number true

first_sets : (s : Configuration) (t : ℕ) (th : Thread) (late : Bool) (i : OrderId) → FirstSets s i (operate s t th late (First i))
first_sets s t th true i = tt
first_sets s t th false i = refl

-- the frames of another thread stay
record There (next : Configuration) (t : ℕ) (fs : List Frame) : Type 0 where
  pub thread : Thread
  pub stands : slice_get next.threads t ≡ Some thread
  pub frames : thread.frames ≡ fs

there_set : (s next : Configuration) (t u : ℕ) (th new : Thread) → t ≢ u → slice_get s.threads t ≡ Some th → next.threads ≡ set s.threads u new → There next t th.frames
there_set s next t u th new ne at e = record { thread = th; stands = ap (λ ths. slice_get ths t) e ∙ (get_other s.threads u t new ne ∙ at); frames = refl }

others_stay : (c : Code) (s next : Configuration) (u t : ℕ) (late : Bool) (thu th : Thread) (f : Frame) (below : List Frame) (ev : Event) → t ≢ u → slice_get s.threads t ≡ Some th
    → Change c s u late thu f below next ev → There next t th.frames
others_stay c s next u t late thu th f below ev ne at (IsTrapped beside plain) = record { thread = th; stands = ap (λ ths. slice_get ths t) beside.threads ∙ at; frames = refl }
others_stay c s next u t late thu th f below ev ne at (IsOperated o rest is goes) =
    let h : Alone s next u (with_work f rest ∷ below) = subst (IsAlone s u (with_work f rest ∷ below)) goes (operate_alone s u (with_frames thu (with_work f rest ∷ below)) late o) in
    there_set s next t u th h.new ne at h.threads
others_stay c s next u t late thu th f below ev ne at (IsReduced r rest g is does beside plain) = there_set s next t u th _ ne at beside.threads
others_stay c s next u t late thu th f below ev ne at (IsActed x rest vs is simple beside plain) = there_set s next t u th _ ne at beside.threads
others_stay c s next u t late thu th f below ev ne at (IsJoined x rest vs n other is simple there beside plain) = ⊎_elim same apart (eqb_tells t n)
  where
    last : slice_get next.threads t ≡ slice_get (set s.threads n (record other { joined = true })) t
    last = ap (λ ths. slice_get ths t) beside.threads ∙ get_other (set s.threads n (record other { joined = true })) u t (with_frames thu (with_values (with_work f rest) vs ∷ below)) ne

    same : (eqb t n ≡ true) × (t ≡ n) → There next t th.frames
    same q =
        let here : slice_get s.threads t ≡ Some other = ap (slice_get s.threads) q.1 ∙ there in
        let eq : other ≡ th = cc in
        record {
          thread = record other { joined = true };
          stands = last ∙ (ap (λ k. slice_get (set s.threads k (record other { joined = true })) t) (sym q.1) ∙ get_set s.threads t other (record other { joined = true }) here);
          frames = ap (λ x. x.frames) eq;
        }

    apart : (eqb t n ≡ false) × (t ≢ n) → There next t th.frames
    apart q = record { thread = th; stands = last ∙ (get_other s.threads n t (record other { joined = true }) q.1 ∙ at); frames = refl }
others_stay c s next u t late thu th f below ev ne at (IsCreated target g rest vs hs args is beside plain) = record {
  thread = th;
  stands = ap (λ ths. slice_get ths t) beside.threads ∙ get_more (set s.threads u (with_frames thu (record (with_work f rest) { values = vs; handles = hs } ∷ below))) (thread_of c (frame_of c s.made g.number args) ∷ []) t th
      (get_other s.threads u t (with_frames thu (record (with_work f rest) { values = vs; handles = hs } ∷ below)) ne ∙ at);
  frames = refl;
}
others_stay c s next u t late thu th f below ev ne at (IsCalled g rest args vs is beside plain) = there_set s next t u th _ ne at beside.threads
others_stay c s next u t late thu th f below ev ne at (IsBegun n rest is beside does) = there_set s next t u th _ ne at beside.threads
others_stay c s next u t late thu th f below ev ne at (IsPassed n g place rest vs is passes beside plain) = there_set s next t u th _ ne at beside.threads
others_stay c s next u t late thu th f below ev ne at (IsReturned rest g under v is does beside plain) = there_set s next t u th _ ne at beside.threads
others_stay c s next u t late thu th f below ev ne at (IsExited rest is does beside plain) = there_set s next t u th _ ne at beside.threads

-- a visit's end leads to a place behind its node
record Ended (c : Code) (s next : Configuration) (t : ℕ) (th : Thread) (below : List Frame) (n : NodeId) : Type 0 where
  pub place : Place
  pub behind : source place ≡ Some n.number
  pub frame : Frame
  pub threads : next.threads ≡ set s.threads t (with_frames th (pass c frame place ∷ below))

abbrev EndItem : NodeId → List Item → Type 0
EndItem n (item.Go (move.Branch k) ∷ work) = k ≡ n
EndItem n (item.Go (move.Edge k) ∷ work) = k ≡ n
EndItem n _ = ⊥

abbrev EndMade : Code → Configuration → ℕ → Thread → List Frame → NodeId → Made → Type 0
EndMade c s t th below n None = Unit {0}
EndMade c s t th below n (Some (next, ev)) = Ended c s next t th below n

branch_source : (n : NodeId) (nought : Bool) → source (branch_place n nought) ≡ Some n.number
branch_source n true = refl
branch_source n false = refl

work_ends : (c : Code) (s : Configuration) (t : ℕ) (late : Bool) (th : Thread) (f : Frame) (below : List Frame) (n : NodeId) (work : List Item) → EndItem n work
    → EndMade c s t th below n (work_step c s t late th f below work)
work_ends c s t true th f below n (item.Go (move.Branch k) ∷ work) is = tt
work_ends c s t true th f below n (item.Go (move.Edge k) ∷ work) is = tt
work_ends c s t false th f below n (item.Go (move.Branch k) ∷ work) is = record {
  place = branch_place k (is_zero (last_value f.values));
  behind = branch_source k (is_zero (last_value f.values)) ∙ ap (λ x. Some x.number) is;
  frame = with_values (with_work f work) (other_values f.values);
  threads = refl;
}
work_ends c s t false th f below n (item.Go (move.Edge k) ∷ work) is = record { place = After k; behind = ap (λ x. Some x.number) is; frame = with_work f work; threads = refl }
work_ends c s t late th f below n _ is = absurd is

firsts_ops : (j : ℕ) (ops : List Op) (next : Option ℕ) → pending_firsts j (map item.Op ops ++ go_to next ∷ []) ≡ firsts j ops
firsts_ops j [] None = refl
firsts_ops j [] (Some n) = refl
firsts_ops j (First i ∷ ops) next = ap (λ x. bit (i.number == j) + x) (firsts_ops j ops next)
firsts_ops j (Enter i ∷ ops) next = firsts_ops j ops next
firsts_ops j (Leave i ∷ ops) next = firsts_ops j ops next
firsts_ops j (Wait i ∷ ops) next = firsts_ops j ops next
firsts_ops j (Done i ∷ ops) next = firsts_ops j ops next
firsts_ops j (Add i ∷ ops) next = firsts_ops j ops next

-- an operation that is made is the first of the order, or one stays pending
after_op : (j : ℕ) (o : Op) (rest : List Item) → 0 < pending_firsts j (item.Op o ∷ rest) → ((i : OrderId) × (o ≡ First i) × (i.number ≡ j)) ⊎ (0 < pending_firsts j rest)
after_op j (First i) rest h = ⊎_elim (λ (q : (eqb i.number j ≡ true) × (i.number ≡ j)). inl (i, refl, q.1))
    (λ (q : (eqb i.number j ≡ false) × (i.number ≢ j)). let z : bit (i.number == j) ≡ 0 = ap bit q.0 in inr (omega arith)) (eqb_tells i.number j)
after_op j (Enter i) rest h = inr h
after_op j (Leave i) rest h = inr h
after_op j (Wait i) rest h = inr h
after_op j (Done i) rest h = inr h
after_op j (Add i) rest h = inr h

flagged_sized : (j : ℕ) (s next : Configuration) (work : List Item) → Flagged s next work → j < length s.flags → j < length next.flags
flagged_sized j s next work (SameFlags e) h = subst (λ l. j < length l) (sym e) h
flagged_sized j s next work (OneSet i rest at e) h = subst (λ l. j < length l) (sym e) (subst (λ n. j < n) (sym (length-set s.flags i.number true)) h)

none_some : 0 < 0 → ⊥
none_some h = omega arith

step_is : (c : Code) (s : Configuration) (e : Entry) (th : Thread) (f : Frame) (below : List Frame) → s.ending ≡ ending.Running → slice_get s.threads e.thread ≡ Some th → th.frames ≡ f ∷ below
    → step c s e ≡ work_step c s e.thread e.timeout th f below f.work
step_is c s e th f below running stands top =
    ap (unended_step c s e.thread e.timeout) running ∙ (ap (thread_step c s e.thread e.timeout) stands ∙ ap (frames_step c s e.thread e.timeout th) top)

module _ (c : Code) (y : Layout) (laid : IsLaidOut c y) (j a : ℕ) (firsted : IsFirsted c y j a) where
  abbrev S : ℕ → ℕ → Frame → List Frame → Type 0
  S = Shaped c y laid

  abbrev GS : ℕ → List Frame → Event → Type 0
  GS = Any c y laid

  abbrev Set : Configuration → Type 0
  Set s = get_or s.flags j false ≡ true

  pub record Base (s : Configuration) : Type 0 where
    pub shapes : Framed c S GS s
    pub sized : j < length s.flags

  -- the flag is set, or a first is pending
  pub record HasEnded (s : Configuration) : Type 0 where
    pub base : Base s
    pub set : Set s ⊎ Pending j s

  abbrev pub Every : Seen → Type 0
  Every m = Unit {0}

  pending_kept : (s next : Configuration) (u : ℕ) (late : Bool) (ev : Event) → j < length s.flags → Pending j s → Told c s u late next ev → Set next ⊎ Pending j next
  pending_kept s next u late ev sized p told = ⊎_elim own other (eqb_tells p.t u)
    where
      other : (eqb p.t u ≡ false) × (p.t ≢ u) → Set next ⊎ Pending j next
      other q =
          let w = others_stay c s next u p.t late told.thread p.thread told.frame told.below ev q.1 p.stands told.change in
          inr (record { t = p.t; thread = w.thread; frame = p.frame; below = p.below; stands = w.stands; top = w.frames ∙ p.top; some = p.some })

      own : (eqb p.t u ≡ true) × (p.t ≡ u) → Set next ⊎ Pending j next
      own q = by_change told.change
        where
          here : slice_get s.threads u ≡ Some p.thread
          here = subst (λ k. slice_get s.threads k ≡ Some p.thread) q.1 p.stands

          thread_same : p.thread ≡ told.thread
          thread_same = let x = here in let z = told.stands in cc

          frames_same : p.frame ∷ p.below ≡ told.frame ∷ told.below
          frames_same = sym p.top ∙ (ap (λ x. x.frames) thread_same ∙ told.top)

          frame_same : p.frame ≡ told.frame
          frame_same = let x = frames_same in cc

          some_at : (work : List Item) → told.frame.work ≡ work → 0 < pending_firsts j work
          some_at work at = subst (λ w. 0 < pending_firsts j w) (ap (λ x. x.work) frame_same ∙ at) p.some

          by_op : (o : Op) (rest : List Item) → operate s u (with_frames told.thread (with_work told.frame rest ∷ told.below)) late o ≡ Some (next, ev)
              → ((i : OrderId) × (o ≡ First i) × (i.number ≡ j)) ⊎ (0 < pending_firsts j rest) → Set next ⊎ Pending j next
          by_op o rest goes (inl w) =
              let popped : Thread = with_frames told.thread (with_work told.frame rest ∷ told.below) in
              let is : operate s u popped late (First w.0) ≡ Some (next, ev) = subst (λ x. operate s u popped late x ≡ Some (next, ev)) w.1 goes in
              let flags : next.flags ≡ set s.flags w.0.number true = subst (FirstSets s w.0) is (first_sets s u popped late w.0) in
              inl (ap (λ l. get_or l j false) flags ∙ get_or-set_at s.flags w.0.number j true false (sym w.2) (subst (λ k. k < length s.flags) (sym w.2) sized))
          by_op o rest goes (inr some) =
              let popped : Thread = with_frames told.thread (with_work told.frame rest ∷ told.below) in
              let h : Alone s next u (with_work told.frame rest ∷ told.below) = subst (IsAlone s u (with_work told.frame rest ∷ told.below)) goes (operate_alone s u popped late o) in
              inr (record {
                t = u;
                thread = h.new;
                frame = with_work told.frame rest;
                below = told.below;
                stands = ap (λ ths. slice_get ths u) h.threads ∙ get_set s.threads u told.thread h.new told.stands;
                top = h.frames;
                some = some;
              })

          by_change : Change c s u late told.thread told.frame told.below next ev → Set next ⊎ Pending j next
          by_change (IsTrapped beside plain) =
              inr (record { t = p.t; thread = p.thread; frame = p.frame; below = p.below; stands = ap (λ ths. slice_get ths p.t) beside.threads ∙ p.stands; top = p.top; some = p.some })
          by_change (IsOperated o rest at goes) = by_op o rest goes (after_op j o rest (some_at (item.Op o ∷ rest) at))
          by_change (IsReduced r rest g at is beside plain) = absurd (none_some (some_at (item.Reduce r ∷ rest) at))
          by_change (IsActed x rest vs at simple beside plain) = absurd (none_some (some_at (item.Act x ∷ rest) at))
          by_change (IsJoined x rest vs n joined at simple there beside plain) = absurd (none_some (some_at (item.Act x ∷ rest) at))
          by_change (IsCreated target g rest vs hs args at beside plain) = absurd (none_some (some_at _ at))
          by_change (IsCalled g rest args vs at beside plain) = absurd (none_some (some_at _ at))
          by_change (IsBegun n rest at beside is) = absurd (none_some (some_at (item.Go (move.Node n) ∷ rest) at))
          by_change (IsPassed n g place rest vs at passes beside plain) = absurd (none_some (some_at (item.Go g ∷ rest) at))
          by_change (IsReturned rest g under v at is beside plain) = absurd (none_some (some_at (item.Go move.Exit ∷ rest) at))
          by_change (IsExited rest at is beside plain) = absurd (none_some (some_at (item.Go move.Exit ∷ rest) at))

  base_next : (s next : Configuration) (u : ℕ) (late : Bool) (ev : Event) → Base s → Told c s u late next ev → Framed c S GS next → Base next
  base_next s next u late ev h told shapes = record {
    shapes = shapes;
    sized = flagged_sized j s next told.frame.work (change_flags c s next u late told.thread told.frame told.below ev told.change) h.sized;
  }

  base_kept : (s : Configuration) (e : Entry) (fs : List Frame) (made : Made) → Base s → IsTold c s e.thread e.timeout made
      → Kept (at_event (GoodStep c S GS) e fs) (Framed c S GS) made → Kept (at_event Every e fs) Base made
  base_kept s e fs None h told on = tt
  base_kept s e fs (Some (next, ev)) h told on = λ good. base_next s next e.thread e.timeout ev h told (on tt)

  base_step : (s : Configuration) (e : Entry) → Base s → Kept (at_event Every e (frames_at (slice_get s.threads e.thread))) Base (step c s e)
  base_step s e h = base_kept s e (frames_at (slice_get s.threads e.thread)) (step c s e) h (step_tells c s e) (framed_step c S GS (keeps_shape c y laid) s e h.shapes)

  after_kept : (s : Configuration) (e : Entry) (fs : List Frame) (made : Made) → HasEnded s → IsTold c s e.thread e.timeout made
      → Kept (at_event Every e fs) Base made → Kept (at_event Every e fs) HasEnded made
  after_kept s e fs None h told on = tt
  after_kept s e fs (Some (next, ev)) h told on = λ good. record { base = on good; set = pick h.set }
    where
      pick : Set s ⊎ Pending j s → Set next ⊎ Pending j next
      pick (inl is) = inl (stays_set j s next told.frame.work (change_flags c s next e.thread e.timeout told.thread told.frame told.below ev told.change) is)
      pick (inr p) = pending_kept s next e.thread e.timeout ev h.base.sized p told

  pub after_step : (s : Configuration) (e : Entry) → HasEnded s → Kept (at_event Every e (frames_at (slice_get s.threads e.thread))) HasEnded (step c s e)
  after_step s e h = after_kept s e (frames_at (slice_get s.threads e.thread)) (step c s e) h (step_tells c s e) (base_step s e h.base)

  base_start : j < c.orders → (input : List ℤ) → Base (start c input)
  base_start known input =
      let new : Thread = thread_of c (frame_of c 0 c.main []) in
      let bare : Each (ThreadFrames c S GS 1) [] = record { at = λ t th e. cc } in
      record {
        shapes = each_push (ThreadFrames c S GS 1) [] new bare
            (record { stands = arrived c y (frame_of c 0 c.main []).of (Start (frame_of c 0 c.main []).of) tt refl; under = laid.main }, tt);
        sized = subst (λ n. j < n) (sym (length-replicate {A = Bool} c.orders false)) known;
      }

  record AtEnd (work : List Item) : Type 0 where
    pub node : NodeId
    pub is : EndItem node work
    pub same : node.number ≡ a

  end_item : (visit : Option NodeId) (f : Frame) (last : Place) (vs : List ℤ) (work : List Item) → Stands c y f.of visit last vs work → IsVisit a visit → at_end work ≡ true → AtEnd work
  end_item None f last vs work h v e = absurd v
  end_item (Some n) f last vs [] h v e = cc
  end_item (Some n) f last vs (item.Op o ∷ work) h v e = cc
  end_item (Some n) f last vs (item.Reduce r ∷ work) h v e = cc
  end_item (Some n) f last vs (item.Act x ∷ work) h v e = cc
  end_item (Some n) f last vs (item.Go (move.Node k) ∷ work) h v e = cc
  end_item (Some n) f last vs (item.Go move.Exit ∷ work) h v e = cc
  end_item (Some n) f last vs (item.Go (move.Branch k) ∷ work) h v e = record { node = k; is = refl; same = h.does.0 ∙ v }
  end_item (Some n) f last vs (item.Go (move.Edge k) ∷ work) h v e = record { node = k; is = refl; same = h.does.0 ∙ v }

  -- the step that ends a visit of a leaves a first pending
  end_pends : (s next : Configuration) (e : Entry) (ev : Event) → Base s → Base next → EndsVisit a (frames_at (slice_get s.threads e.thread)) → step c s e ≡ Some (next, ev)
      → Told c s e.thread e.timeout next ev → Pending j next
  end_pends s next e ev base later ends goes told =
      let th : Thread = told.thread in
      let mine : EndsVisit a (told.frame ∷ told.below) = subst (EndsVisit a) (ap frames_at told.stands ∙ told.top) ends in
      let all : AllFrames c S GS s.made e.thread (told.frame ∷ told.below) = subst (AllFrames c S GS s.made e.thread) told.top (base.shapes.at e.thread told.thread told.stands) in
      let end = end_item told.frame.visit told.frame told.frame.last told.frame.values told.frame.work all.0.stands mine.0 mine.1 in
      let is : work_step c s e.thread e.timeout th told.frame told.below told.frame.work ≡ Some (next, ev) = sym (step_is c s e th told.frame told.below told.running told.stands told.top) ∙ goes in
      let w : Ended c s next e.thread th told.below end.node = subst (EndMade c s e.thread th told.below end.node) is (work_ends c s e.thread e.timeout th told.frame told.below end.node told.frame.work end.is) in
      let new : Thread = with_frames th (pass c w.frame w.place ∷ told.below) in
      let at : slice_get next.threads e.thread ≡ Some new = ap (λ ths. slice_get ths e.thread) w.threads ∙ get_set s.threads e.thread th new told.stands in
      let live : Live y w.place = (later.shapes.at e.thread new at).0.stands.live in
      record {
        t = e.thread;
        thread = new;
        frame = pass c w.frame w.place;
        below = told.below;
        stands = at;
        top = refl;
        some = subst (λ n. 0 < n) (sym (firsts_ops j (c.ops w.place) (c.next w.place))) (firsted.behind w.place live (w.behind ∙ ap Some end.same));
      }

  every : (ms : List Seen) → AllOf Every ms
  every [] = tt
  every (m ∷ ms) = (tt, every ms)

  pub end_sets : j < c.orders → (input : List ℤ) (before after : List Seen) (ends : Seen) (last : Configuration) → Trail c (start c input) (before ++ ends ∷ after) last
      → EndsVisit a ends.before → Set last ⊎ Pending j last
  end_sets known input before after ends last trail is =
      let m = trail_split c before (ends ∷ after) (start c input) last trail in
      let base = trail_keeps c Every Base base_step before (start c input) m.now m.past (every before) (base_start known input) in
      let told : Told c m.now ends.entry.thread ends.entry.timeout m.future.next ends.event = subst (IsTold c m.now ends.entry.thread ends.entry.timeout) m.future.goes (step_tells c m.now ends.entry) in
      let kept : Kept (at_event Every ends.entry (frames_at (slice_get m.now.threads ends.entry.thread))) Base (Some (m.future.next, ends.event)) =
      subst (Kept (at_event Every ends.entry (frames_at (slice_get m.now.threads ends.entry.thread))) Base) m.future.goes (base_step m.now ends.entry base) in
      let p = end_pends m.now m.future.next ends.entry ends.event base (kept tt) (subst (EndsVisit a) (sym m.future.frames) is) m.future.goes told in
      (trail_keeps c Every HasEnded after_step after m.future.next last m.future.rest (every after) (record { base = kept tt; set = inr p })).set

-- in runs of programs
pub ends_set : (tree : Tree) (j a : ℕ) → IsFirsted (tree_code tree) (layout_of tree) j a → j < (tree_code tree).orders → (input : List ℤ) (es : List Entry) → EndSets (tree_code tree) j a input es
ends_set tree j a firsted known input es = record {
  sets = λ before after ends last ran is.
      end_sets (tree_code tree) (layout_of tree) (laid_out tree) j a firsted known input before after ends last
      (run_trail (tree_code tree) es (start (tree_code tree) input) (before ++ ends ∷ after) last ran) is;
}
