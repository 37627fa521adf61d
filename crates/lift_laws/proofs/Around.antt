-- The new operations round one entry of the source: those before it, and those after it.
use Rattle.std.proofs.Common.{◌≡◌, ◌⊎◌, inl, inr, ℕ, suc, ◌+◌, ◌<◌, ◌≤◌, Bool, true, false, List, [], ◌∷◌, ◌++◌, length, map, Option, Some, None, refl, sym, ap, ◌∙◌, subst, arith}
use Rattle.std.specs.Prelude.{slice_get}
use Rattle.std.proofs.lemmas.List.{map-append}
use Rattle.cfix_base.specs.declared.entry.Entry.{Entry}
use Rattle.cfix_base.specs.declared.number.NodeId.{NodeId}
use Rattle.cfix_base.specs.declared.op.Op.{Op}
use Rattle.cfix_base.specs.declared.op.Op.TheVariants.{Leave, First, Done, Wait, Enter, Add}
use Rattle.cfix_base.specs.declared.place.Place.{Place}
use Rattle.step_state.specs.declared.event.Event.{Event}
use Rattle.step_state.specs.declared.event.Ending.{Ending}
use Rattle.step_state.specs.declared.event.Ending.TheVariants as ending
use Rattle.step_state.specs.declared.item.Item.{Item}
use Rattle.step_state.specs.declared.item.Item.TheVariants as item
use Rattle.step_state.specs.declared.frame.Frame.{Frame}
use Rattle.step_state.specs.declared.thread.Thread.{Thread}
use Rattle.step_state.specs.declared.state.Configuration.{Configuration}
use Rattle.step_state.specs.Code.{Code, go_to}
use Rattle.step_state.specs.Changes.{with_work}
use Rattle.cfix_base.specs.declared.mark.Marks.{Marks}
use Rattle.c_prog.specs.Marks.{is_new, keep_old, old_of}
use Rattle.step_state.specs.Erase.{strip_frame, strip_work}
use Rattle.step_state.specs.Step.{step}
use Rattle.erase_laws.specs.Marked.{IsMarked}
use Rattle.lock_laws.specs.Holds.{Exact}
use Rattle.layout_laws.specs.Layout.{Layout, IsLaidOut, InVisit, Stands}
use Rattle.lock_laws.specs.Guard.{enters, need, need_of, needs}
use Rattle.lift_laws.specs.Lift.{Placed, Settled, pend_edge, pend_top, pend}
use Rattle.lift_laws.specs.LiftRun.{NotLate, Ready}
use Rattle.lift_laws.specs.Sorted.{Leaving, Sorted}
use Rattle.lock_laws.proofs.Counts.{need_ops}
use Rattle.lift_laws.proofs.Entries.{OldHead, Poised, Fresh, FreshTop}
use Rattle.frame_laws.proofs.Frames.{AllFrames}
use Rattle.erase_laws.proofs.Plain.{strip_goes}
use Rattle.lift_laws.proofs.RunOps.{MayAll, all_new, RanOps, run_ops}
use Rattle.layout_laws.proofs.Shape.{Shaped, Any}

-- the parts of a list that is old
record OldParts (m : Marks) (o : Op) (left : List Op) : Type 0 where
  pub first : is_new m o ≡ false
  pub rest : old_of (is_new m) left ≡ left

old_short : (m : Marks) (ops : List Op) → length (old_of (is_new m) ops) ≤ length ops
old_short m [] = omega arith
old_short m (o ∷ ops) = more (is_new m o) (old_short m ops)
  where
    more : (is : Bool) → length (old_of (is_new m) ops) ≤ length ops → length (keep_old is o (old_of (is_new m) ops)) ≤ suc (length ops)
    more true h = omega arith
    more false h = omega (arith, h)

old_parts : (m : Marks) (o : Op) (left : List Op) → old_of (is_new m) (o ∷ left) ≡ o ∷ left → OldParts m o left
old_parts m o left e = more (is_new m o) refl e
  where
    more : (is : Bool) → is_new m o ≡ is → keep_old is o (old_of (is_new m) left) ≡ o ∷ left → OldParts m o left
    more false i e = record { first = i; rest = cc }
    more true i e =
        let short = old_short m left in
        let long : length (old_of (is_new m) left) ≡ suc (length left) = ap length e in
        absurd (omega arith)

-- new operations before work are stripped
strip_new : (m : Marks) (ops : List Op) (rest : List Item) → old_of (is_new m) ops ≡ [] → strip_work m (map item.Op ops ++ rest) ≡ strip_work m rest
strip_new m [] rest e = refl
strip_new m (o ∷ ops) rest e = more (is_new m o) (λ h. strip_new m ops rest h) e
  where
    more : (is : Bool) → (old_of (is_new m) ops ≡ [] → strip_work m (map item.Op ops ++ rest) ≡ strip_work m rest) → keep_old is o (old_of (is_new m) ops) ≡ []
        → keep_old is (item.Op o) (strip_work m (map item.Op ops ++ rest)) ≡ strip_work m rest
    more true go e = go e
    more false go e = absurd (let z : ◌≡◌ {A = List Op} (o ∷ old_of (is_new m) ops) [] = e in cc)

assoc : (a b c : List Item) → (a ++ b) ++ c ≡ a ++ (b ++ c)
assoc [] b c = refl
assoc (x ∷ a) b c = ap (λ w. x ∷ w) (assoc a b c)

module _ (m : Marks) (q : Code) (marked : IsMarked m q) (y : Layout) (laid : IsLaidOut q y) (b : ℕ → ℕ) (posts pres : Place → List Op) (placed : Placed m q posts pres)
    (sorted : Sorted m q b posts pres) where
  -- what the frames' work is, and its strip
  pub pre_strip : (last : Place) → strip_work m (map item.Op (pres last) ++ go_to (q.next last) ∷ []) ≡ go_to (q.next last) ∷ []
  pre_strip last = strip_new m (pres last) (go_to (q.next last) ∷ []) (sorted.new_pres last) ∙ strip_goes m (q.next last)

  post_split : (last : Place) → map item.Op (posts last ++ pres last) ++ go_to (q.next last) ∷ [] ≡ map item.Op (posts last) ++ (map item.Op (pres last) ++ go_to (q.next last) ∷ [])
  post_split last = ap (λ w. w ++ go_to (q.next last) ∷ []) (map-append item.Op (posts last) (pres last)) ∙ assoc (map item.Op (posts last)) (map item.Op (pres last)) (go_to (q.next last) ∷ [])

  post_strip : (last : Place) → strip_work m (map item.Op (posts last ++ pres last) ++ go_to (q.next last) ∷ []) ≡ go_to (q.next last) ∷ []
  post_strip last =
      ap (strip_work m) (post_split last) ∙ (strip_new m (posts last) (map item.Op (pres last) ++ go_to (q.next last) ∷ []) (sorted.new_posts last) ∙ pre_strip last)

  pend_goes : (ops : List Op) (next : Option ℕ) → pend_edge ops (go_to next ∷ []) ≡ ops
  pend_goes ops None = refl
  pend_goes ops (Some n) = refl

  pub pend_old : (ops : List Op) (o : Op) (rest work : List Item) → work ≡ item.Op o ∷ rest → is_new m o ≡ false → pend_edge ops (strip_work m work) ≡ []
  pend_old ops o rest work e old = ap (λ w. pend_edge ops (strip_work m w)) e ∙ ap (λ b. pend_edge ops (keep_old b (item.Op o) (strip_work m rest))) old

  pub pend_pre : (last : Place) (work : List Item) → work ≡ map item.Op (pres last) ++ go_to (q.next last) ∷ [] → pend_edge (pres last) (strip_work m work) ≡ pres last
  pend_pre last work e = ap (λ w. pend_edge (pres last) (strip_work m w)) e ∙ (ap (pend_edge (pres last)) (pre_strip last) ∙ pend_goes (pres last) (q.next last))

  pub pend_post : (last : Place) (work : List Item) → work ≡ map item.Op (posts last ++ pres last) ++ go_to (q.next last) ∷ [] → pend_edge (posts last) (strip_work m work) ≡ posts last
  pend_post last work e = ap (λ w. pend_edge (posts last) (strip_work m w)) e ∙ (ap (pend_edge (posts last)) (post_strip last) ∙ pend_goes (posts last) (q.next last))

  abbrev pub TopSettled : List Frame → Type 0
  TopSettled [] = Unit {0}
  TopSettled (f ∷ below) = Settled m q posts pres f.visit f.last f.work

  -- what is fresh and has no operation to make is settled
  pub settle : (how : Ending) (last : Place) (work : List Item) → Fresh m q marked y posts pres placed how None last work → posts last ≡ [] → Settled m q posts pres None last work
  settle how last work h none = by_left h.0 h.1 h.2
    where
      by_left : (left : List Op) → work ≡ map item.Op (left ++ (posts last ++ pres last)) ++ go_to (q.next last) ∷ [] → old_of (is_new m) left ≡ left → Settled m q posts pres None last work
      by_left [] e old = inr (e ∙ ap (λ ps. map item.Op (ps ++ pres last) ++ go_to (q.next last) ∷ []) none)
      by_left (o ∷ left) e old = let p = old_parts m o left old in inl (left, o, e, p.first, p.rest)

  module _ (Sound : Configuration → Type 0)
      (sound_step : (s next : Configuration) (e : Entry) (ev : Event) → step q s e ≡ Some (next, ev) → NotLate m ev → Sound s → Sound next)
      (exact_of : (s : Configuration) → Sound s → (k : ℕ) → m.lock ≤ k → k < q.locks → Exact k s.locks s.threads)
      (ready_stays : (s next : Configuration) (e : Entry) (ev : Event) (j : ℕ) → step q s e ≡ Some (next, ev) → NotLate m ev → Sound s → m.order ≤ j → j < q.orders → Ready s j → Ready next j)
      (shapes_of : (s : Configuration) → Sound s → (t : ℕ) (th : Thread) → slice_get s.threads t ≡ Some th → AllFrames q (Shaped q y laid) (Any q y laid) s.made t th.frames) where
    abbrev pub Mays : Configuration → ℕ → List Op → Type 0
    Mays c t ops = MayAll m q marked Sound sound_step exact_of ready_stays c t ops

    abbrev pub Rans : Configuration → ℕ → List Op → List Frame → Type 0
    Rans c t ops fs = RanOps m q marked Sound sound_step exact_of ready_stays c t ops fs

    leaving_may : (c : Configuration) (t : ℕ) (ops : List Op) → Leaving ops → Mays c t ops
    leaving_may c t [] h = tt
    leaving_may c t (Leave k ∷ ops) h = (tt, leaving_may c t ops h)
    leaving_may c t (First j ∷ ops) h = (tt, leaving_may c t ops h)
    leaving_may c t (Done j ∷ ops) h = (tt, leaving_may c t ops h)
    leaving_may c t (Wait j ∷ ops) h = absurd h
    leaving_may c t (Enter k ∷ ops) h = absurd h
    leaving_may c t (Add j ∷ ops) h = absurd h

    runs : (ops : List Op) (c : Configuration) (t : ℕ) (th : Thread) (f : Frame) (below : List Frame) (rest : List Item) → slice_get c.threads t ≡ Some th
        → th.frames ≡ f ∷ below → f.work ≡ map item.Op ops ++ rest → c.ending ≡ ending.Running → old_of (is_new m) ops ≡ [] → Sound c → Mays c t ops
        → Rans c t ops (with_work f rest ∷ below)
    runs ops c t th f below rest at top is running new sound may =
        run_ops m q marked Sound sound_step exact_of ready_stays ops c t th f below rest at top is running
        (all_new m q marked Sound sound_step exact_of ready_stays ops new) sound may

    -- before the entry: the pending operations are made
    pub record Pre (c : Configuration) (t : ℕ) (th : Thread) (f : Frame) (below : List Frame) : Type 0 where
      pub work : List Item
      pub ran : Rans c t (pend pres (map (strip_frame m) th.frames)) (with_work f work ∷ below)
      pub old : OldHead m work
      pub poised : Poised m q marked y posts pres placed f.visit f.last work
      pub how : (work ≡ f.work) ⊎ ((f.visit ≡ None) × (work ≡ go_to (q.next f.last) ∷ []) × (f.work ≡ map item.Op (pres f.last) ++ go_to (q.next f.last) ∷ []))

    visit_head : (n : ℕ) (work : List Item) → InVisit y n work → OldHead m work
    visit_head n [] h = tt
    visit_head n (item.Op o ∷ work) h = absurd h
    visit_head n (item.Reduce r ∷ work) h = tt
    visit_head n (item.Act a ∷ work) h = tt
    visit_head n (item.Go g ∷ work) h = tt

    goes_head : (next : Option ℕ) → OldHead m (go_to next ∷ [])
    goes_head None = tt
    goes_head (Some n) = tt

    pub pre_run : (c : Configuration) (t : ℕ) (th : Thread) (f : Frame) (below : List Frame) → Sound c → slice_get c.threads t ≡ Some th → th.frames ≡ f ∷ below → c.ending ≡ ending.Running
        → Settled m q posts pres f.visit f.last f.work → Mays c t (pend pres (map (strip_frame m) th.frames)) → Pre c t th f below
    pre_run c t th f below sound at top running settled may = by_visit f.visit refl settled
      where
        shape : Shaped q y laid c.made t f below
        shape = (subst (AllFrames q (Shaped q y laid) (Any q y laid) c.made t) top (shapes_of c sound t th at)).0

        pending : (visit : Option NodeId) → f.visit ≡ visit → pend pres (map (strip_frame m) th.frames) ≡ pend_top pres visit f.last (strip_work m f.work)
        pending visit is = ap (λ fs. pend pres (map (strip_frame m) fs)) top ∙ ap (λ v. pend_top pres v f.last (strip_work m f.work)) is

        none : pend pres (map (strip_frame m) th.frames) ≡ [] → Rans c t (pend pres (map (strip_frame m) th.frames)) (with_work f f.work ∷ below)
        none e = subst (λ ops. Rans c t ops (with_work f f.work ∷ below)) (sym e) (runs [] c t th f below f.work at top refl running refl sound tt)

        by_settled : f.visit ≡ None → Settled m q posts pres None f.last f.work → Pre c t th f below
        by_settled is (inl h) =
            let rest = map item.Op (h.0 ++ (posts f.last ++ pres f.last)) ++ go_to (q.next f.last) ∷ [] in
            record {
              work = f.work;
              ran = none (pending None is ∙ pend_old (pres f.last) h.1 rest f.work h.2 h.3);
              old = subst (OldHead m) (sym h.2) h.3;
              poised = subst (λ v. Poised m q marked y posts pres placed v f.last f.work) (sym is) (inl h);
              how = inl refl;
            }
        by_settled is (inr e) =
            let ops : pend pres (map (strip_frame m) th.frames) ≡ pres f.last = pending None is ∙ pend_pre f.last f.work e in
            record {
              work = go_to (q.next f.last) ∷ [];
              ran = subst (λ ops. Rans c t ops (with_work f (go_to (q.next f.last) ∷ []) ∷ below)) (sym ops)
                  (runs (pres f.last) c t th f below (go_to (q.next f.last) ∷ []) at top e running (sorted.new_pres f.last) sound (subst (Mays c t) ops may));
              old = goes_head (q.next f.last);
              poised = subst (λ v. Poised m q marked y posts pres placed v f.last (go_to (q.next f.last) ∷ [])) (sym is) (inr refl);
              how = inr (is, refl, e);
            }

        by_visit : (visit : Option NodeId) → f.visit ≡ visit → Settled m q posts pres f.visit f.last f.work → Pre c t th f below
        by_visit None is h = by_settled is (subst (λ v. Settled m q posts pres v f.last f.work) is h)
        by_visit (Some n) is h = record {
          work = f.work;
          ran = none (pending (Some n) is);
          old = visit_head n.number f.work (subst (λ v. Stands q y f.of v f.last f.values f.work) is shape.stands).does;
          poised = subst (λ v. Poised m q marked y posts pres placed v f.last f.work) (sym is) tt;
          how = inl refl;
        }

    -- after the entry: those that leave are made
    pub record Post (c : Configuration) (t : ℕ) (th : Thread) : Type 0 where
      pub fs : List Frame
      pub ran : Rans c t (pend posts (map (strip_frame m) th.frames)) fs
      pub settled : TopSettled fs
      pub less : (kept : ℕ → Bool) (k : ℕ) → needs kept k fs ≤ needs kept k th.frames

    leaving_enters : (k : ℕ) (ops : List Op) → Leaving ops → enters k ops ≡ 0
    leaving_enters k [] h = refl
    leaving_enters k (Leave j ∷ ops) h = leaving_enters k ops h
    leaving_enters k (First j ∷ ops) h = leaving_enters k ops h
    leaving_enters k (Done j ∷ ops) h = leaving_enters k ops h
    leaving_enters k (Wait j ∷ ops) h = absurd h
    leaving_enters k (Enter j ∷ ops) h = absurd h
    leaving_enters k (Add j ∷ ops) h = absurd h

    module _ (c : Configuration) (t : ℕ) (th : Thread) (sound : Sound c) (at : slice_get c.threads t ≡ Some th) where
      idle : pend posts (map (strip_frame m) th.frames) ≡ [] → TopSettled th.frames → Post c t th
      idle none settled = record {
        fs = th.frames;
        ran = subst (λ ops. Rans c t ops th.frames) (sym none) (record {
          steps = [];
          last = c;
          trail = refl;
          timely = tt;
          inserted = refl;
          entered = refl;
          new = th;
          stands = at;
          frames = refl;
          others = λ u ne. refl;
          same = refl;
          ending = refl;
          sound = sound;
        });
        settled = settled;
        less = λ kept k. omega arith;
      }

      module _ (g : Frame) (gs : List Frame) (top : th.frames ≡ g ∷ gs) where
        pending : (visit : Option NodeId) → g.visit ≡ visit → pend posts (map (strip_frame m) th.frames) ≡ pend_top posts visit g.last (strip_work m g.work)
        pending visit is = ap (λ fs. pend posts (map (strip_frame m) fs)) top ∙ ap (λ v. pend_top posts v g.last (strip_work m g.work)) is

        calm : g.visit ≡ None → Settled m q posts pres None g.last g.work → TopSettled th.frames
        calm is h = subst TopSettled (sym top) (subst (λ v. Settled m q posts pres v g.last g.work) (sym is) h)

        by_how : g.visit ≡ None → g.work ≡ map item.Op (posts g.last ++ pres g.last) ++ go_to (q.next g.last) ∷ [] → (c.ending ≡ ending.Running) ⊎ (posts g.last ≡ []) → Post c t th
        by_how is e (inr none) =
            idle (pending None is ∙ (pend_post g.last g.work e ∙ none)) (calm is (inr (e ∙ ap (λ ps. map item.Op (ps ++ pres g.last) ++ go_to (q.next g.last) ∷ []) none)))
        by_how is e (inl running) =
            let ops : pend posts (map (strip_frame m) th.frames) ≡ posts g.last = pending None is ∙ pend_post g.last g.work e in
            let rest = map item.Op (pres g.last) ++ go_to (q.next g.last) ∷ [] in
            let split : g.work ≡ map item.Op (posts g.last) ++ rest = e ∙ post_split g.last in
            record {
              fs = with_work g rest ∷ gs;
              ran = subst (λ ops. Rans c t ops (with_work g rest ∷ gs)) (sym ops)
                  (runs (posts g.last) c t th g gs rest at top split running (sorted.new_posts g.last) sound (leaving_may c t (posts g.last) (sorted.leaving g.last)));
              settled = subst (λ v. Settled m q posts pres v g.last rest) (sym is) (inr refl);
              less = λ kept k.
                  let z = leaving_enters k (posts g.last) (sorted.leaving g.last) in
                  let x = need_ops kept k (posts g.last) rest (omega arith) in
                  let w : need_of kept k g.visit g.work ≡ need kept k (map item.Op (posts g.last) ++ rest) = ap (λ v. need_of kept k v g.work) is ∙ ap (need kept k) split in
                  let v : need_of kept k g.visit rest ≡ need kept k rest = ap (λ v. need_of kept k v rest) is in
                  let n : needs kept k th.frames ≡ need_of kept k g.visit g.work + needs kept k gs = ap (needs kept k) top in
                  omega (arith, z, x, w, v, n);
            }

        by_left : g.visit ≡ None → (left : List Op) → g.work ≡ map item.Op (left ++ (posts g.last ++ pres g.last)) ++ go_to (q.next g.last) ∷ [] → old_of (is_new m) left ≡ left
            → (c.ending ≡ ending.Running) ⊎ (posts g.last ≡ []) → Post c t th
        by_left is [] e old how = by_how is e how
        by_left is (o ∷ left) e old how =
            let p = old_parts m o left old in
            idle (pending None is ∙ pend_old (posts g.last) o (map item.Op (left ++ (posts g.last ++ pres g.last)) ++ go_to (q.next g.last) ∷ []) g.work e p.first)
            (calm is (inl (left, o, e, p.first, p.rest)))

        by_visit : (visit : Option NodeId) → g.visit ≡ visit → Fresh m q marked y posts pres placed c.ending g.visit g.last g.work → Post c t th
        by_visit None is h =
            let here : Fresh m q marked y posts pres placed c.ending None g.last g.work = subst (λ v. Fresh m q marked y posts pres placed c.ending v g.last g.work) is h in
            by_left is here.0 here.1 here.2 here.3
        by_visit (Some n) is h = idle (pending (Some n) is) (subst TopSettled (sym top) (subst (λ v. Settled m q posts pres v g.last g.work) (sym is) tt))

      by_frames : (fs : List Frame) → th.frames ≡ fs → FreshTop m q marked y posts pres placed c.ending fs → Post c t th
      by_frames [] e h = idle (ap (λ fs. pend posts (map (strip_frame m) fs)) e) (subst TopSettled (sym e) tt)
      by_frames (g ∷ gs) e h = by_visit g gs e g.visit refl h

      pub post_run : FreshTop m q marked y posts pres placed c.ending th.frames → Post c t th
      post_run fresh = by_frames th.frames refl fresh
