-- One entry of the source, lifted.
use Rattle.std.proofs.Common.{◌≡◌, ◌≢◌, ◌⊎◌, ⊎_elim, inl, inr, ℕ, ◌+◌, ◌<◌, ◌≤◌, ℤ, Bool, true, false, List, [], ◌∷◌, ◌++◌, map, set, get_or, Option, Some, None, refl, sym, ap, ◌∙◌, subst, arith}
use Rattle.std.specs.Prelude.{slice_get, option_map}
use Rattle.std.proofs.lemmas.Bool.{cases_lt}
use Rattle.std.proofs.lemmas.Bool.Decides.{eqb_tells}
use Rattle.std.proofs.Math.Dec.{eqb}
use Rattle.std.proofs.lemmas.Option.{slice_get-map}
use Rattle.cfix_base.specs.declared.entry.Entry.{Entry}
use Rattle.cfix_base.specs.declared.number.NodeId.{NodeId}
use Rattle.cfix_base.specs.declared.op.Op.{Op}
use Rattle.cfix_base.specs.declared.op.Op.TheVariants.{Leave, First, Done, Wait, Enter, Add}
use Rattle.cfix_base.specs.declared.place.Place.{Place}
use Rattle.cfix_base.specs.declared.place.Place.TheVariants.{Start}
use Rattle.step_state.specs.declared.event.Event.{Event}
use Rattle.step_state.specs.declared.event.Ending.TheVariants as ending
use Rattle.step_state.specs.declared.item.Item.{Item}
use Rattle.step_state.specs.declared.item.Item.TheVariants as item
use Rattle.step_state.specs.declared.frame.Frame.{Frame}
use Rattle.step_state.specs.declared.thread.Thread.{Thread}
use Rattle.step_state.specs.declared.state.Configuration.{Configuration}
use Rattle.step_state.specs.Code.{Code, arrive, go_to, fn_id}
use Rattle.step_state.specs.Changes.{Made, with_work, frame_of}
use Rattle.cfix_base.specs.declared.mark.Marks.{Marks}
use Rattle.c_prog.specs.Marks.{is_new, old_of}
use Rattle.step_state.specs.Erase.{strip_code, strip_configuration, strip_thread, strip_frame, strip_work, is_inserted, kept_if, erased}
use Rattle.step_state.specs.Run.{Seen, frames_at, run}
use Rattle.step_state.specs.Start.{start}
use Rattle.step_state.specs.Changes.{thread_of}
use Rattle.erase_laws.proofs.Erased.{start_strips}
use Rattle.frame_laws.proofs.Each.{Each, each_push}
use Rattle.step_state.specs.Step.{step}
use Rattle.erase_laws.specs.Marked.{IsMarked}
use Rattle.lock_laws.specs.Holds.{Exact}
use Rattle.layout_laws.specs.Layout.{Layout, IsLaidOut, InVisit, Stands, Under, Calls, Live}
use Rattle.lock_laws.specs.Guard.{bit, in_set, enters, leaves, Carries, need, need_of, needs}
use Rattle.step_state.specs.Spots.{edge_spot, spot}
use Rattle.lift_laws.specs.Lift.{in_spot, ats, Placed, Settled, pend_top, pend, copies, BeginsNext, HeadBegins, Clear, bottom_may, lift_entry, lifted}
use Rattle.step_state.specs.Reads.{frames_of}
use Rattle.frame_laws.specs.Trail.{Trail, entries}
use Rattle.lift_laws.specs.LiftRun.{old_entries, NotLate, NoneLate, Ready, pick, was_after, clear_next, AllClear, never}
use Rattle.lift_laws.specs.Sorted.{Coming, Sorted}
use Rattle.frame_laws.proofs.Change.{Told, IsTold, step_tells}
use Rattle.lock_laws.proofs.Counts.{need_arrive, enters_append, own_bit}
use Rattle.lift_laws.proofs.Entries.{Poised, Kept, Entered, EnteredIf, step_strips, visited, operated, moved, fresh_arrive}
use Rattle.frame_laws.proofs.Frames.{AllFrames}
use Rattle.lift_laws.proofs.Lifting.{needs_settled}
use Rattle.erase_laws.proofs.Plain.{is_above}
use Rattle.lift_laws.proofs.RunOps.{AllNew, all_new, opens}
use Rattle.lift_laws.proofs.Around.{Mays, Pre, pre_run, post_run, TopSettled, settle, pend_pre, pend_old, pre_strip}
use Rattle.layout_laws.proofs.Shape.{Shaped, Any}
use Rattle.erase_laws.proofs.Strips.{Strips}
use Rattle.frame_laws.proofs.Trails.{trail_join, entries_append, run_trail, run_lists, trail_run}
use Rattle.lift_laws.proofs.LiftTrails.{old_append, late_append, trail_erased}

coming_leaves : (q : Code) (b : ℕ → ℕ) (next : Option ℕ) (k : ℕ) (ops : List Op) → Coming q b next ops → leaves k ops ≡ 0
coming_leaves q b next k [] h = refl
coming_leaves q b next k (Leave j ∷ ops) h = absurd h
coming_leaves q b next k (First j ∷ ops) h = absurd h
coming_leaves q b next k (Done j ∷ ops) h = absurd h
coming_leaves q b next k (Wait j ∷ ops) h = coming_leaves q b next k ops h.2
coming_leaves q b next k (Enter j ∷ ops) h = coming_leaves q b next k ops h.1
coming_leaves q b next k (Add j ∷ ops) h = coming_leaves q b next k ops h

set_one : (set : ℕ → Bool) (o : Option ℕ) → in_set set o ≤ 1
set_one set None = omega arith
set_one set (Some n) = bit_one (set n)
  where
    bit_one : (x : Bool) → bit x ≤ 1
    bit_one true = omega arith
    bit_one false = omega arith

module _ (m : Marks) (q : Code) (marked : IsMarked m q) (y : Layout) (laid : IsLaidOut q y) (b : ℕ → ℕ) (posts pres : Place → List Op) (placed : Placed m q posts pres)
    (sorted : Sorted m q b posts pres) (Sound : Configuration → Type 0)
    (sound_step : (s next : Configuration) (e : Entry) (ev : Event) → step q s e ≡ Some (next, ev) → NotLate m ev → Sound s → Sound next)
    (exact_of : (s : Configuration) → Sound s → (k : ℕ) → m.lock ≤ k → k < q.locks → Exact k s.locks s.threads)
    (ready_stays : (s next : Configuration) (e : Entry) (ev : Event) (j : ℕ) → step q s e ≡ Some (next, ev) → NotLate m ev → Sound s → m.order ≤ j → j < q.orders → Ready s j → Ready next j)
    (shapes_of : (s : Configuration) → Sound s → (t : ℕ) (th : Thread) → slice_get s.threads t ≡ Some th → AllFrames q (Shaped q y laid) (Any q y laid) s.made t th.frames)
    (kept K : ℕ → ℕ → Bool) (inside : (k n : ℕ) → kept k n ≡ true → K k n ≡ true) (carries : (k : ℕ) → m.lock ≤ k → k < q.locks → Carries q y (kept k) k)
    (depth_of : (s : Configuration) → Sound s → (k : ℕ) → m.lock ≤ k → k < q.locks → (t : ℕ) (th : Thread) → slice_get s.threads t ≡ Some th
    → get_or th.held k 0 ≡ needs (kept k) k th.frames) where
  abbrev p : Code
  p = strip_code m q

  abbrev S : Configuration → Configuration
  S c = strip_configuration m c

  abbrev Top : List Frame → Type 0
  Top fs = TopSettled m q marked y laid b posts pres placed sorted fs

  abbrev MaysAt : Configuration → ℕ → List Op → Type 0
  MaysAt c t ops = Mays m q marked y laid b posts pres placed sorted Sound sound_step exact_of ready_stays shapes_of c t ops

  abbrev Shapes : ℕ → ℕ → List Frame → Type 0
  Shapes made t fs = AllFrames q (Shaped q y laid) (Any q y laid) made t fs

  pub stripped : (c : Configuration) (u : ℕ) (uh : Thread) → slice_get c.threads u ≡ Some uh → frames_of (S c) u ≡ map (strip_frame m) uh.frames
  stripped c u uh e = ap frames_at (slice_get-map (strip_thread m) c.threads u ∙ ap (option_map (strip_thread m)) e)

  -- between two entries: frames are settled, and who holds a lock was at its nodes before its latest step
  pub record Calm (was : ℕ → ℕ → ℕ) (c : Configuration) : Type 0 where
    pub settled : (u : ℕ) (uh : Thread) → slice_get c.threads u ≡ Some uh → Top uh.frames
    pub was_there : (u : ℕ) (uh : Thread) → slice_get c.threads u ≡ Some uh → (k : ℕ) → m.lock ≤ k → k < q.locks → 0 < needs (kept k) k uh.frames → 0 < was u k

  bit_inside : (k n : ℕ) → bit (kept k n) ≤ bit (K k n)
  bit_inside k n = by_bit (kept k n) (inside k n)
    where
      by_bit : (x : Bool) → (x ≡ true → K k n ≡ true) → bit x ≤ bit (K k n)
      by_bit true h = let e : bit (K k n) ≡ 1 = ap bit (h refl) in omega arith
      by_bit false h = omega arith

  set_inside : (k : ℕ) (o : Option ℕ) → in_set (kept k) o ≤ in_set (K k) o
  set_inside k None = omega arith
  set_inside k (Some n) = bit_inside k n

  go_spot : (set : ℕ → Bool) (last : Place) (next : Option ℕ) → in_spot set (edge_spot last (go_to next ∷ [])) ≡ in_set set next
  go_spot set last None = refl
  go_spot set last (Some n) = refl

  go_need : (k : ℕ) (next : Option ℕ) → need (kept k) k (go_to next ∷ []) ≡ in_set (kept k) next
  go_need k None = refl
  go_need k (Some n) = refl

  -- frames below others are in visits
  below_needs : (k made t fn : ℕ) (fs : List Frame) → Under y fn fs → Shapes made t fs → needs (kept k) k fs ≤ ats (K k) (map (strip_frame m) fs)
  below_needs k made t fn [] under shapes = omega arith
  below_needs k made t fn (f ∷ below) under shapes =
      let r = below_needs k made t f.of.number below shapes.0.under shapes.1 in
      let o = one f.visit under in
      omega arith
    where
      one : (visit : Option NodeId) → Calls y fn visit → need_of (kept k) k visit f.work ≤ in_spot (K k) (spot visit f.last (strip_work m f.work))
      one None h = absurd h
      one (Some n) h = bit_inside k n.number

  top_needs : (k : ℕ) → m.lock ≤ k → k < q.locks → (made t : ℕ) (f : Frame) (below : List Frame) → Shaped q y laid made t f below → Settled m q posts pres f.visit f.last f.work
      → need_of (kept k) k f.visit f.work ≤ in_spot (K k) (spot f.visit f.last (strip_work m f.work))
  top_needs k new few made t f below shape settled = one f.visit shape.stands settled
    where
      one : (visit : Option NodeId) → Stands q y f.of visit f.last f.values f.work → Settled m q posts pres visit f.last f.work
          → need_of (kept k) k visit f.work ≤ in_spot (K k) (spot visit f.last (strip_work m f.work))
      one None stands h =
          needs_settled m (kept k) k new q y (carries k new few) posts pres placed (λ place. coming_leaves q b (q.next place) k (pres place) (sorted.coming place)) (K k) (inside k)
          sorted.new_pres None f.last f.work stands.live h
      one (Some n) stands h = bit_inside k n.number

  all_needs : (k : ℕ) → m.lock ≤ k → k < q.locks → (made t : ℕ) (fs : List Frame) → Shapes made t fs → Top fs → needs (kept k) k fs ≤ ats (K k) (map (strip_frame m) fs)
  all_needs k new few made t [] shapes top = omega arith
  all_needs k new few made t (f ∷ below) shapes top =
      let a = top_needs k new few made t f below shapes.0 top in
      let r = below_needs k made t f.of.number below shapes.0.under shapes.1 in
      omega arith

  -- a new thread is settled and holds nothing
  new_settled : (serial g : ℕ) (args : List ℤ) → Top (frame_of q serial g args ∷ [])
  new_settled serial g args =
      let none = placed.starts (Start (fn_id g)) tt in
      settle m q marked y laid b posts pres placed sorted ending.Running (Start (fn_id g)) (arrive q (Start (fn_id g)))
      (fresh_arrive m q marked y posts pres placed ending.Running (Start (fn_id g)) (inr none)) none

  new_needs : (serial g : ℕ) (args : List ℤ) (k : ℕ) → m.lock ≤ k → k < q.locks → needs (kept k) k (frame_of q serial g args ∷ []) ≡ 0
  new_needs serial g args k new few = let e = need_arrive (kept k) k q y (carries k new few) (Start (fn_id g)) tt in omega arith

  -- each pending operation may pass, where other threads do not hold its lock and its order is ready
  coming_may : (c : Configuration) (t : ℕ) (next : Option ℕ) (ops : List Op) → Coming q b next ops
      → AllNew m q marked Sound sound_step exact_of ready_stays ops
      → ((k : ℕ) → m.lock ≤ k → k < q.locks → 0 < enters k ops → (u : ℕ) (uh : Thread) → u ≢ t → slice_get c.threads u ≡ Some uh → get_or uh.held k 0 ≡ 0)
      → ((j : ℕ) → m.order ≤ j → j < q.orders → next ≡ Some (b j) → Ready c j) → MaysAt c t ops
  coming_may c t next [] h new enter wait = tt
  coming_may c t next (Leave k ∷ ops) h new enter wait = absurd h
  coming_may c t next (First j ∷ ops) h new enter wait = absurd h
  coming_may c t next (Done j ∷ ops) h new enter wait = absurd h
  coming_may c t next (Wait j ∷ ops) h new enter wait =
      ((h.1, wait j.number (is_above m.order j.number new.0) h.1 h.0), coming_may c t next ops h.2 new.1 (λ k above few e. enter k above few e) wait)
  coming_may c t next (Enter k ∷ ops) h new enter wait =
      let own = own_bit (kept 0) k.number k.number refl in
      ((h.0, enter k.number (is_above m.lock k.number new.0) h.0 (omega arith)), coming_may c t next ops h.1 new.1 (λ i above few e. enter i above few (omega arith)) wait)
  coming_may c t next (Add j ∷ ops) h new enter wait = (tt, coming_may c t next ops h new.1 (λ k above few e. enter k above few e) wait)

  -- apart: each pending enter passes
  module _ (comes : ℕ → ℕ → Bool) (passed : ℕ → Type 0) (was : ℕ → ℕ → ℕ) (c : Configuration) (t : ℕ) (sound : Sound c) (calm : Calm was c)
      (clear : Clear p K comes b q.locks q.orders was passed (S c) t)
      (waits : (j : ℕ) → m.order ≤ j → j < q.orders → ((u : ℕ) → bottom_may p (comes j) (frames_of (S c) u) ≡ 0) ⊎ passed j → Ready c j) where
    pub before : (th : Thread) (f : Frame) (below : List Frame) → slice_get c.threads t ≡ Some th → th.frames ≡ f ∷ below → MaysAt c t (pend pres (map (strip_frame m) th.frames))
    before th f below at top = by_visit f.visit refl (subst Top top (calm.settled t th at))
      where
        shape : Shaped q y laid c.made t f below
        shape = (subst (Shapes c.made t) top (shapes_of c sound t th at)).0

        pending : (visit : Option NodeId) → f.visit ≡ visit → pend pres (map (strip_frame m) th.frames) ≡ pend_top pres visit f.last (strip_work m f.work)
        pending visit is = ap (λ fs. pend pres (map (strip_frame m) fs)) top ∙ ap (λ v. pend_top pres v f.last (strip_work m f.work)) is

        frames : frames_of (S c) t ≡ map (strip_frame m) (f ∷ below)
        frames = stripped c t th at ∙ ap (map (strip_frame m)) top

        none : pend pres (map (strip_frame m) th.frames) ≡ [] → MaysAt c t (pend pres (map (strip_frame m) th.frames))
        none e = subst (MaysAt c t) (sym e) tt

        coming : f.visit ≡ None → f.work ≡ map item.Op (pres f.last) ++ go_to (q.next f.last) ∷ [] → Live y f.last → MaysAt c t (pres f.last)
        coming is e live =
            let spot_is : (set : ℕ → Bool) → in_spot set (spot f.visit f.last (strip_work m f.work)) ≡ in_set set (q.next f.last) = λ set.
            ap (λ v. in_spot set (spot v f.last (strip_work m f.work))) is
            ∙ (ap (λ w. in_spot set (edge_spot f.last (strip_work m w))) e
            ∙ (ap (λ w. in_spot set (edge_spot f.last w)) (pre_strip m q marked y laid b posts pres placed sorted f.last) ∙ go_spot set f.last (q.next f.last))) in
            coming_may c t (q.next f.last) (pres f.last) (sorted.coming f.last)
            (all_new m q marked Sound sound_step exact_of ready_stays (pres f.last) (sorted.new_pres f.last))
            (λ k new few some u uh ne there.
            let i = (carries k new few).entered f.last live in
            let a : enters k (q.ops f.last) ≡ enters k (old_of (is_new m) (q.ops f.last)) + (enters k (posts f.last) + enters k (pres f.last)) =
            ap (enters k) (placed.ops f.last) ∙ (enters_append (kept k) k (old_of (is_new m) (q.ops f.last)) (posts f.last ++ pres f.last)
            ∙ ap (λ n. enters k (old_of (is_new m) (q.ops f.last)) + n) (enters_append (kept k) k (posts f.last) (pres f.last))) in
            let one = set_one (kept k) (q.next f.last) in
            let in_k = set_inside k (q.next f.last) in
            let sp = spot_is (K k) in
            let mine : ats (K k) (frames_of (S c) t) ≡ in_spot (K k) (spot f.visit f.last (strip_work m f.work)) + ats (K k) (map (strip_frame m) below) = ap (ats (K k)) frames in
            let d = depth_of c sound k new few u uh there in
            let le = all_needs k new few c.made u uh.frames (shapes_of c sound u uh there) (calm.settled u uh there) in
            let its : ats (K k) (frames_of (S c) u) ≡ ats (K k) (map (strip_frame m) uh.frames) = ap (ats (K k)) (stripped c u uh there) in
            ⊎_elim (λ (z : 0 < needs (kept k) k uh.frames). absurd (clear.apart k u few ne (omega (arith, i, a, one, in_k, sp, mine, some)) (calm.was_there u uh there k new few z) (omega (arith, z, le, its))))
            (λ (z : needs (kept k) k uh.frames ≤ 0). omega (arith, d, z)) (cases_lt 0 (needs (kept k) k uh.frames)))
            (λ j new few next.
            let head : HeadBegins (strip_work m f.work) (b j) =
            subst (λ w. HeadBegins w (b j)) (sym (ap (strip_work m) e ∙ pre_strip m q marked y laid b posts pres placed sorted f.last))
            (subst (λ o. HeadBegins (go_to o ∷ []) (b j)) (sym next) refl) in
            waits j new few (clear.given j few (subst (λ fs. BeginsNext fs (b j)) (sym frames) head)))

        by_visit : (visit : Option NodeId) → f.visit ≡ visit → Settled m q posts pres f.visit f.last f.work → MaysAt c t (pend pres (map (strip_frame m) th.frames))
        by_visit (Some n) is h = none (pending (Some n) is)
        by_visit None is h = by_settled (subst (λ v. Settled m q posts pres v f.last f.work) is h)
          where
            by_settled : Settled m q posts pres None f.last f.work → MaysAt c t (pend pres (map (strip_frame m) th.frames))
            by_settled (inl h) =
                none (pending None is ∙ pend_old m q marked y laid b posts pres placed sorted (pres f.last) h.1 (map item.Op (h.0 ++ (posts f.last ++ pres f.last)) ++ go_to (q.next f.last) ∷ []) f.work h.2 h.3)
            by_settled (inr e) =
                subst (MaysAt c t) (sym (pending None is ∙ pend_pre m q marked y laid b posts pres placed sorted f.last f.work e))
                (coming is e (subst (λ v. Stands q y f.of v f.last f.values f.work) is shape.stands).live)

    abbrev was2 : ℕ → ℕ → ℕ
    was2 u k = was_after K was (S c) t u k

    not_mine : (u k : ℕ) → u ≢ t → was2 u k ≡ was u k
    not_mine u k ne =
        ⊎_elim (λ (x : (eqb u t ≡ true) × (u ≡ t)). absurd (ne x.1)) (λ (x : (eqb u t ≡ false) × (u ≢ t)). ap (λ b. pick b (ats (K k) (frames_of (S c) t)) (was u k)) x.0) (eqb_tells u t)

    mine : (k : ℕ) → was2 t k ≡ ats (K k) (frames_of (S c) t)
    mine k =
        ⊎_elim (λ (x : (eqb t t ≡ true) × (t ≡ t)). ap (λ b. pick b (ats (K k) (frames_of (S c) t)) (was t k)) x.0) (λ (x : (eqb t t ≡ false) × (t ≢ t)). absurd (x.1 refl)) (eqb_tells t t)

    -- the entry with its operations
    pub record OneLift (late : Bool) (next : Configuration) : Type 0 where
      pub steps : List Seen
      pub last : Configuration
      pub trail : Trail q c steps last
      pub listed : entries steps ≡ copies t (pend pres (frames_of (S c) t)) ++ record { thread = t; timeout = late } ∷ copies t (pend posts (frames_of next t))
      pub timely : NoneLate m steps
      pub kept_entries : old_entries m steps ≡ record { thread = t; timeout = late } ∷ []
      pub same : S last ≡ next
      pub stays : Sound last
      pub rests : Calm was2 last

    module _ (th : Thread) (f : Frame) (below : List Frame) (at : slice_get c.threads t ≡ Some th) (top : th.frames ≡ f ∷ below) (running : c.ending ≡ ending.Running) (late : Bool) where
      abbrev e : Entry
      e = record { thread = t; timeout = late }

      tops : Settled m q posts pres f.visit f.last f.work
      tops = subst Top top (calm.settled t th at)

      shapes : Shapes c.made t (f ∷ below)
      shapes = subst (Shapes c.made t) top (shapes_of c sound t th at)

      pre : Pre m q marked y laid b posts pres placed sorted Sound sound_step exact_of ready_stays shapes_of c t th f below
      pre = pre_run m q marked y laid b posts pres placed sorted Sound sound_step exact_of ready_stays shapes_of c t th f below sound at top running tops (before th f below at top)

      abbrev f1 : Frame
      f1 = with_work f pre.work

      abbrev c1 : Configuration
      c1 = pre.ran.last

      abbrev th1 : Thread
      th1 = pre.ran.new

      running1 : c1.ending ≡ ending.Running
      running1 = pre.ran.ending ∙ running

      -- before the entry the thread holds at most where it is
      bound : (k : ℕ) → m.lock ≤ k → k < q.locks → needs (kept k) k th1.frames ≤ was2 t k
      bound k new few =
          let n : needs (kept k) k th1.frames ≡ need_of (kept k) k f.visit pre.work + needs (kept k) k below = ap (needs (kept k) k) pre.ran.frames in
          let r = below_needs k c.made t f.of.number below shapes.0.under shapes.1 in
          let w : was2 t k ≡ in_spot (K k) (spot f.visit f.last (strip_work m f.work)) + ats (K k) (map (strip_frame m) below) =
          mine k ∙ (ap (ats (K k)) (stripped c t th at) ∙ ap (λ fs. ats (K k) (map (strip_frame m) fs)) top) in
          let o = by_how pre.how in
          omega (arith, n, r, w, o)
        where
          by_how : (pre.work ≡ f.work) ⊎ ((f.visit ≡ None) × (pre.work ≡ go_to (q.next f.last) ∷ []) × (f.work ≡ map item.Op (pres f.last) ++ go_to (q.next f.last) ∷ []))
              → need_of (kept k) k f.visit pre.work ≤ in_spot (K k) (spot f.visit f.last (strip_work m f.work))
          by_how (inl e) = subst (λ w. need_of (kept k) k f.visit w ≤ in_spot (K k) (spot f.visit f.last (strip_work m f.work))) (sym e) (top_needs k new few c.made t f below shapes.0 tops)
          by_how (inr h) =
              let n : need_of (kept k) k f.visit pre.work ≡ in_set (kept k) (q.next f.last) = ap (λ v. need_of (kept k) k v pre.work) h.0 ∙ (ap (need (kept k) k) h.1 ∙ go_need k (q.next f.last)) in
              let s : in_spot (K k) (spot f.visit f.last (strip_work m f.work)) ≡ in_set (K k) (q.next f.last) =
              ap (λ v. in_spot (K k) (spot v f.last (strip_work m f.work))) h.0
              ∙ (ap (λ w. in_spot (K k) (edge_spot f.last (strip_work m w))) h.2
              ∙ (ap (λ w. in_spot (K k) (edge_spot f.last w)) (pre_strip m q marked y laid b posts pres placed sorted f.last) ∙ go_spot (K k) f.last (q.next f.last))) in
              let i = set_inside k (q.next f.last) in
              omega (arith, n, s, i)

      shape1 : Shaped q y laid c1.made t f1 below
      shape1 = (subst (Shapes c1.made t) pre.ran.frames (shapes_of c1 pre.ran.sound t th1 pre.ran.stands)).0

      -- what the entry does
      entered : (c2 : Configuration) (ev : Event) → step q c1 e ≡ Some (c2, ev) → Entered m q marked y posts pres placed c1 t th1 c2
      entered c2 ev goes = by_visit f.visit refl pre.poised
        where
          by_told : (n : NodeId) → f.visit ≡ Some n → Told q c1 t late c2 ev → Entered m q marked y posts pres placed c1 t th1 c2
          by_told n is told =
              let same_th : th1 ≡ told.thread = (let z : ◌≡◌ {A = Option Thread} (Some th1) (Some told.thread) = sym pre.ran.stands ∙ told.stands in cc) in
              let z : f1 ∷ below ≡ told.frame ∷ told.below = sym pre.ran.frames ∙ (ap (λ x. x.frames) same_th ∙ told.top) in
              let same_f : f1 ≡ told.frame = cc in
              let same_b : below ≡ told.below = cc in
              let does : (w : List Item) → told.frame.work ≡ w → InVisit y n.number w = λ w k.
              subst (InVisit y n.number) (ap (λ x. x.work) same_f ∙ k) (subst (λ v. Stands q y f.of v f.last f.values pre.work) is shape1.stands).does in
              subst (λ x. Entered m q marked y posts pres placed c1 t x c2) (sym same_th)
              (visited m q marked y posts pres placed c1 t told.thread told.stands running1 late told.frame told.below n told.top (ap (λ x. x.visit) (sym same_f) ∙ is) does c2 ev goes told.change)

          by_poised : f.visit ≡ None → Poised m q marked y posts pres placed None f.last pre.work → Entered m q marked y posts pres placed c1 t th1 c2
          by_poised is (inl h) =
              let rest = map item.Op (h.0 ++ (posts f.last ++ pres f.last)) ++ go_to (q.next f.last) ∷ [] in
              subst (EnteredIf m q marked y posts pres placed c1 t th1 pre.ran.stands)
              (sym (opens q c1 t late th1 f1 below (item.Op h.1 ∷ rest) running1 pre.ran.stands pre.ran.frames h.2) ∙ goes)
              (operated m q marked y posts pres placed c1 t th1 pre.ran.stands running1 late f1 below h.1 h.0 h.3 h.4 is)
          by_poised is (inr h) =
              subst (EnteredIf m q marked y posts pres placed c1 t th1 pre.ran.stands)
              (sym (opens q c1 t late th1 f1 below (go_to (q.next f.last) ∷ []) running1 pre.ran.stands pre.ran.frames h) ∙ goes)
              (moved m q marked y posts pres placed c1 t th1 pre.ran.stands late f1 below (q.next f.last) shape1.under)

          by_visit : (visit : Option NodeId) → f.visit ≡ visit → Poised m q marked y posts pres placed f.visit f.last pre.work → Entered m q marked y posts pres placed c1 t th1 c2
          by_visit None is h = by_poised is (subst (λ v. Poised m q marked y posts pres placed v f.last pre.work) is h)
          by_visit (Some n) is h = by_told n is (subst (IsTold q c1 t late) goes (step_tells q c1 e))

      finish : (next c2 : Configuration) (ev : Event) → step q c1 e ≡ Some (c2, ev) → is_inserted m ev ≡ false → S c2 ≡ next → OneLift late next
      finish next c2 ev goes old same =
          let timely : NotLate m ev = λ i. absurd (let z : true ≡ false = sym i ∙ old in cc) in
          let sound2 = sound_step c1 c2 e ev goes timely pre.ran.sound in
          let ent = entered c2 ev goes in
          let post = post_run m q marked y laid b posts pres placed sorted Sound sound_step exact_of ready_stays shapes_of c2 t ent.thread sound2 ent.stands ent.fresh in
          let k : Seen = record { entry = e; before = frames_at (slice_get c1.threads t); event = ev } in
          let pre_ops : pend pres (map (strip_frame m) th.frames) ≡ pend pres (frames_of (S c) t) = ap (pend pres) (sym (stripped c t th at)) in
          let post_ops : pend posts (map (strip_frame m) ent.thread.frames) ≡ pend posts (frames_of next t) =
          ap (pend posts) (sym (stripped c2 t ent.thread ent.stands)) ∙ ap (λ s. pend posts (frames_of s t)) same in
          let less : (i : ℕ) → m.lock ≤ i → i < q.locks → needs (kept i) i post.fs ≤ was2 t i = λ i new few.
          let a = post.less (kept i) i in
          let d2 = depth_of c2 sound2 i new few t ent.thread ent.stands in
          let d1 = depth_of c1 pre.ran.sound i new few t th1 pre.ran.stands in
          let h = ent.held i new in
          let z = bound i new few in
          omega (arith, a, d2, d1, h, z) in
          let there : (u : ℕ) (uh : Thread) → u ≢ t → slice_get post.ran.last.threads u ≡ Some uh
          → Top uh.frames × ((i : ℕ) → m.lock ≤ i → i < q.locks → 0 < needs (kept i) i uh.frames → 0 < was2 u i) = λ u uh ne is.
          by_kept u ne uh (ent.others u uh ne (sym (post.ran.others u ne) ∙ is)) in
          let here : (uh : Thread) → slice_get post.ran.last.threads t ≡ Some uh → post.fs ≡ uh.frames = λ uh is.
          let z : ◌≡◌ {A = Option Thread} (Some post.ran.new) (Some uh) = sym post.ran.stands ∙ is in
          let w : post.ran.new ≡ uh = cc in
          sym post.ran.frames ∙ ap (λ x. x.frames) w in
          record {
            steps = pre.ran.steps ++ k ∷ post.ran.steps;
            last = post.ran.last;
            trail = trail_join q pre.ran.steps (k ∷ post.ran.steps) c c1 post.ran.last pre.ran.trail (record { next = c2; goes = goes; frames = refl; rest = post.ran.trail });
            listed = entries_append pre.ran.steps (k ∷ post.ran.steps)
                ∙ (ap (λ x. x ++ e ∷ entries post.ran.steps) (pre.ran.entered ∙ ap (copies t) pre_ops)
                ∙ ap (λ x. copies t (pend pres (frames_of (S c) t)) ++ e ∷ x) (post.ran.entered ∙ ap (copies t) post_ops));
            timely = late_append m pre.ran.steps (k ∷ post.ran.steps) pre.ran.timely (timely, post.ran.timely);
            kept_entries = old_append m pre.ran.steps (k ∷ post.ran.steps)
                ∙ (ap (λ x. x ++ kept_if (is_inserted m ev) e (old_entries m post.ran.steps)) pre.ran.inserted
                ∙ (ap (λ b. kept_if b e (old_entries m post.ran.steps)) old ∙ ap (λ x. e ∷ x) post.ran.inserted));
            same = post.ran.same ∙ same;
            stays = post.ran.sound;
            rests = record {
              settled = λ u uh is. ⊎_elim
                  (λ (x : (eqb u t ≡ true) × (u ≡ t)). subst Top (here uh (subst (λ i. slice_get post.ran.last.threads i ≡ Some uh) x.1 is)) post.settled)
                  (λ (x : (eqb u t ≡ false) × (u ≢ t)). (there u uh x.1 is).0) (eqb_tells u t);
              was_there = λ u uh is i new few deep. ⊎_elim
                  (λ (x : (eqb u t ≡ true) × (u ≡ t)).
                  let fs = here uh (subst (λ i. slice_get post.ran.last.threads i ≡ Some uh) x.1 is) in
                  let n : needs (kept i) i post.fs ≡ needs (kept i) i uh.frames = ap (needs (kept i) i) fs in
                  let l = less i new few in
                  subst (λ v. 0 < was2 v i) (sym x.1) (omega (arith, n, l, deep)))
                  (λ (x : (eqb u t ≡ false) × (u ≢ t)). (there u uh x.1 is).1 i new few deep) (eqb_tells u t);
            };
          }
        where
          by_kept : (u : ℕ) → u ≢ t → (uh : Thread) → Kept m q marked y posts pres placed c1 u uh.frames
              → Top uh.frames × ((i : ℕ) → m.lock ≤ i → i < q.locks → 0 < needs (kept i) i uh.frames → 0 < was2 u i)
          by_kept u ne uh (inl h) =
              let was_at : slice_get c.threads u ≡ Some h.0 = sym (pre.ran.others u ne) ∙ h.1 in (
                subst Top (sym h.2) (calm.settled u h.0 was_at),
                λ i new few deep. subst (λ n. 0 < n) (sym (not_mine u i ne)) (calm.was_there u h.0 was_at i new few (subst (λ fs. 0 < needs (kept i) i fs) h.2 deep)),
              )
          by_kept u ne uh (inr h) = (
            subst Top (sym h.3) (new_settled h.0 h.1 h.2),
            λ i new few deep. absurd (let z = new_needs h.0 h.1 h.2 i new few in let d : 0 < needs (kept i) i (frame_of q h.0 h.1 h.2 ∷ []) = subst (λ fs. 0 < needs (kept i) i fs) h.3 deep in omega (arith, z, d)),
          )

      lift_frame : (next : Configuration) (ev : Event) → step p (S c) e ≡ Some (next, ev) → OneLift late next
      lift_frame next ev goes =
          by_made (step q c1 e) refl (step_strips m q marked c1 t late th1 f1 below running1 pre.ran.stands pre.ran.frames pre.old)
        where
          here : step p (S c1) e ≡ Some (next, ev)
          here = ap (λ s. step p s e) pre.ran.same ∙ goes

          by_made : (made : Made) → step q c1 e ≡ made → Strips m made (step p (S c1) e) → OneLift late next
          by_made None is strips = absurd (let z : ◌≡◌ {A = Made} None (Some (next, ev)) = sym strips ∙ here in cc)
          by_made (Some (c2, ev2)) is strips = finish next c2 ev2 is strips.0 (ap (config next) (sym strips.1 ∙ here))
            where
              config : Configuration → Made → Configuration
              config other None = other
              config other (Some (s, ev)) = s

    pub one_lift : (late : Bool) (next : Configuration) (ev : Event) → step p (S c) (record { thread = t; timeout = late }) ≡ Some (next, ev) → OneLift late next
    one_lift late next ev goes = by_thread (slice_get c.threads t) refl
      where
        told : Told p (S c) t late next ev
        told = subst (IsTold p (S c) t late) goes (step_tells p (S c) (record { thread = t; timeout = late }))

        by_frames : (th : Thread) → slice_get c.threads t ≡ Some th → (fs : List Frame) → th.frames ≡ fs → OneLift late next
        by_frames th at [] e =
            let z : ◌≡◌ {A = Option Thread} (Some (strip_thread m th)) (Some told.thread) = sym (slice_get-map (strip_thread m) c.threads t ∙ ap (option_map (strip_thread m)) at) ∙ told.stands in
            let w : strip_thread m th ≡ told.thread = cc in
            let g : ◌≡◌ {A = List Frame} [] (told.frame ∷ told.below) = sym (ap (map (strip_frame m)) e) ∙ (ap (λ x. x.frames) w ∙ told.top) in
            absurd cc
        by_frames th at (f ∷ below) e = lift_frame th f below at e told.running late next ev goes

        by_thread : (o : Option Thread) → slice_get c.threads t ≡ o → OneLift late next
        by_thread None at =
            let z : ◌≡◌ {A = Option Thread} None (Some told.thread) = sym (slice_get-map (strip_thread m) c.threads t ∙ ap (option_map (strip_thread m)) at) ∙ told.stands in
            absurd cc
        by_thread (Some th) at = by_frames th at th.frames refl

  -- a source run whose steps are clear, lifted
  pub record Lifted (c : Configuration) (es : List Entry) (last : Configuration) : Type 0 where
    pub steps : List Seen
    pub end : Configuration
    pub trail : Trail q c steps end
    pub listed : entries steps ≡ lifted p posts pres (S c) es
    pub timely : NoneLate m steps
    pub kept_entries : old_entries m steps ≡ es
    pub same : S end ≡ last

  assoc_entries : (x z w : List Entry) → (x ++ z) ++ w ≡ x ++ (z ++ w)
  assoc_entries [] z w = refl
  assoc_entries (e ∷ x) z w = ap (λ es. e ∷ es) (assoc_entries x z w)

  module _ (comes : ℕ → ℕ → Bool) (passed : List Seen → ℕ → Type 0) (Hist : List Seen → Configuration → Type 0)
      (hist_step : (past : List Seen) (c last : Configuration) (k : Seen) (steps : List Seen) (was : ℕ → ℕ → ℕ) → Hist past c → Sound c → Trail q c steps last → NoneLate m steps
      → old_entries m steps ≡ k.entry ∷ [] → Sound last → Calm was last → k.before ≡ frames_of (S c) k.entry.thread → step p (S c) k.entry ≡ Some (S last, k.event) → Hist (k ∷ past) last)
      (waits_pass : (past : List Seen) (c : Configuration) (was : ℕ → ℕ → ℕ) → Sound c → Calm was c → Hist past c → (j : ℕ) → m.order ≤ j → j < q.orders
      → ((u : ℕ) → bottom_may p (comes j) (frames_of (S c) u) ≡ 0) ⊎ passed past j → Ready c j) where
    abbrev Clears : (ℕ → ℕ → ℕ) → List Seen → Configuration → List Entry → Type 0
    Clears was past s es = AllClear p K comes b q.locks q.orders passed was past s es

    pub lifts : (ks : List Seen) (c last : Configuration) (was : ℕ → ℕ → ℕ) (past : List Seen) → Sound c → Calm was c → Hist past c → Trail p (S c) ks last
        → Clears was past (S c) (entries ks) → Lifted c (entries ks) last
    lifts [] c last was past sound calm hist trail clear = record { steps = []; end = c; trail = refl; listed = refl; timely = tt; kept_entries = refl; same = trail }
    lifts (k ∷ ks) c last was past sound calm hist trail clear =
        let t = k.entry.thread in
        let now : Seen = record { entry = k.entry; before = frames_of (S c) t; event = k.event } in
        let one = one_lift comes (passed past) was c t sound calm clear.0 (waits_pass past c was sound calm hist) k.entry.timeout trail.next k.event trail.goes in
        let rest : Clears (was_after K was (S c) t) (now ∷ past) trail.next (entries ks) =
        subst (λ o. clear_next o (λ next ev. Clears (was_after K was (S c) t) (record { entry = k.entry; before = frames_of (S c) t; event = ev } ∷ past) next (entries ks))) trail.goes clear.1 in
        let goes : step p (S c) k.entry ≡ Some (S one.last, k.event) = trail.goes ∙ ap (λ s. at_event s k.event) (sym one.same) in
        let more = lifts ks one.last last (was_after K was (S c) t) (now ∷ past) one.stays one.rests
        (hist_step past c one.last now one.steps (was_after K was (S c) t) hist sound one.trail one.timely one.kept_entries one.stays one.rests refl goes)
        (subst (λ s. Trail p s ks last) (sym one.same) trail.rest) (subst (λ s. Clears (was_after K was (S c) t) (now ∷ past) s (entries ks)) (sym one.same) rest) in
        let pre = copies t (pend pres (frames_of (S c) t)) in
        let post = copies t (pend posts (frames_of trail.next t)) in
        record {
          steps = one.steps ++ more.steps;
          end = more.end;
          trail = trail_join q one.steps more.steps c one.last more.end one.trail more.trail;
          listed = entries_append one.steps more.steps
              ∙ (ap (λ x. x ++ entries more.steps) one.listed
              ∙ (assoc_entries pre (k.entry ∷ post) (entries more.steps)
              ∙ (ap (λ x. pre ++ k.entry ∷ (post ++ x)) (more.listed ∙ ap (λ s. lifted p posts pres s (entries ks)) one.same)
              ∙ sym (ap (λ o. lift_entry posts pres (S c) k.entry o (λ next. lifted p posts pres next (entries ks))) trail.goes))));
          timely = late_append m one.steps more.steps one.timely more.timely;
          kept_entries = old_append m one.steps more.steps
              ∙ (ap (λ x. x ++ old_entries m more.steps) one.kept_entries ∙ ap (λ x. k.entry ∷ x) more.kept_entries);
          same = more.same;
        }
      where
        at_event : Configuration → Event → Made
        at_event s ev = Some (s, ev)

    -- the lifted schedule is a run in which no new operation times out, and erases to the schedule
    pub record Repeats (input : List ℤ) (es : List Entry) (last : Configuration) : Type 0 where
      pub steps : List Seen
      pub end : Configuration
      pub ran : run q input (lifted p posts pres (start p input) es) ≡ Some (steps, end)
      pub timely : NoneLate m steps
      pub erases : erased m q input (lifted p posts pres (start p input) es) ≡ es
      pub same : S end ≡ last

    calm_start : (input : List ℤ) → Calm never (start q input)
    calm_start input = record {
      settled = λ u uh is. (all.at u uh is).0;
      was_there = λ u uh is k new few deep. absurd (let z = (all.at u uh is).1 k new few in omega (arith, z, deep));
    }
      where
        all : Each (λ u uh. Top uh.frames × ((k : ℕ) → m.lock ≤ k → k < q.locks → needs (kept k) k uh.frames ≡ 0)) (start q input).threads
        all = each_push (λ u uh. Top uh.frames × ((k : ℕ) → m.lock ≤ k → k < q.locks → needs (kept k) k uh.frames ≡ 0)) [] (thread_of q (frame_of q 0 q.main [])) (record { at = λ t th e. cc })
            (new_settled 0 q.main [], λ k new few. new_needs 0 q.main [] k new few)

    pub repeats : (input : List ℤ) (es : List Entry) (ks : List Seen) (last : Configuration) → Sound (start q input) → Hist [] (start q input)
        → run p input es ≡ Some (ks, last) → Clears never [] (start p input) es → Repeats input es last
    repeats input es ks last sound hist ran clear =
        let begins : S (start q input) ≡ start p input = start_strips m q marked input in
        let listed : entries ks ≡ es = run_lists p es (start p input) ks last ran in
        let all = lifts ks (start q input) last never [] sound (calm_start input) hist
        (subst (λ s. Trail p s ks last) (sym begins) (run_trail p es (start p input) ks last ran))
        (subst (λ s. Clears never [] s (entries ks)) (sym begins) (subst (Clears never [] (start p input)) (sym listed) clear)) in
        let its : entries all.steps ≡ lifted p posts pres (start p input) es = all.listed ∙ (ap (λ s. lifted p posts pres s (entries ks)) begins ∙ ap (lifted p posts pres (start p input)) listed) in
        record {
          steps = all.steps;
          end = all.end;
          ran = ap (run q input) (sym its) ∙ trail_run q all.steps (start q input) all.end all.trail;
          timely = all.timely;
          erases = ap (erased m q input) (sym its) ∙ (trail_erased m q all.steps (start q input) all.end all.trail ∙ (all.kept_entries ∙ listed));
          same = all.same;
        }
