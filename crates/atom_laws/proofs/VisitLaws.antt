-- No run without timeouts of the lock has a foreign step in a visit, or between a visit and the next one.
use Rattle.std.proofs.Common.{◌≡◌, ◌⊎◌, inl, inr, ℕ, ℤ, ◌<◌, Bool, true, false, List, [], ◌∷◌, ◌++◌, Option, Some, None, refl, sym, ap, ◌∙◌, subst, slice_get}
use Rattle.cfix_base.specs.declared.entry.Entry.{Entry}
use Rattle.cfix_base.specs.declared.number.NodeId.{NodeId}
use Rattle.c_prog.specs.declared.tree.Tree.{Tree}
use Rattle.step_state.specs.declared.event.Event.{Event}
use Rattle.step_state.specs.declared.event.Event.TheVariants as event
use Rattle.step_state.specs.declared.frame.Frame.{Frame}
use Rattle.step_state.specs.declared.thread.Thread.{Thread}
use Rattle.step_state.specs.declared.state.Configuration.{Configuration}
use Rattle.step_state.specs.Code.{Code}
use Rattle.step_state.specs.Run.{Seen, Begins, frames_at, run_from, is_missed, NoTimeout}
use Rattle.step_state.specs.Start.{start}
use Rattle.lock_laws.specs.Coverage.{Covers, kept_in}
use Rattle.lock_laws.specs.Guard.{Carries, needs}
use Rattle.lock_laws.specs.Inside.{NoneMissed, IsAt, Inside}
use Rattle.layout_laws.specs.Layout.{Layout, IsLaidOut}
use Rattle.atom_laws.specs.NextVisit.{Forward, Backward, Contains, Quiet, Still, VisitsIn, Foreign, NextViolation, SameViolation, NoNextViolation, NoSameViolation}
use Rattle.frame_laws.specs.Trail.{Every, SomeStep}
use Rattle.frame_laws.specs.Trail.{Trail}
use Rattle.step_tables.specs.TreeCode.{tree_code}
use Rattle.layout_laws.specs.TreeLayout.{layout_of}
use Rattle.lock_laws.proofs.Counts.{Timely, TimelyStep, Good, good_run, good_start, one_inside}
use Rattle.lock_laws.proofs.Coverage.{AtSet, SomeAt, set_holds}
use Rattle.frame_laws.proofs.Frames.{AllOf, KeptByRun, GoodStep, framed_step}
use Rattle.atom_laws.proofs.NextVisits.{holds_between}
use Rattle.atom_laws.proofs.SameVisits.{stands_now, visits_inside}
use Rattle.atom_laws.proofs.Serials.{Falling, AnyStep, Falls, keeps_falling, falls_start, begun_at}
use Rattle.frame_laws.proofs.Trails.{all_left, all_right, every_left, every_right, found, some_append, assoc, trail_keeps, trail_split, trail_run, run_trail}
use Rattle.frame_laws.specs.Trail.{entries}
use Rattle.layout_laws.proofs.TreeLaid.{laid_out}

module _ (c : Code) (y : Layout) (laid : IsLaidOut c y) (set covered : ℕ → Bool) (k : ℕ) (carries : Carries c y (kept_in y set covered) k)
    (covers : Covers y set covered) (few : k < c.locks) where
  abbrev kept : ℕ → Bool
  kept = kept_in y set covered

  abbrev pub InTime : Seen → Type 0
  InTime m = TimelyStep kept k c y carries laid m

  abbrev pub Sound : Configuration → Type 0
  Sound s = Good kept k c y carries laid s

  sound_on : (ms : List Seen) (s last : Configuration) → Trail c s ms last → AllOf InTime ms → Sound s → Sound last
  sound_on ms s last trail timely sound =
      let all : KeptByRun InTime Sound (run_from c s (entries ms)) = good_run kept k c y carries laid few (entries ms) s sound in
      subst (KeptByRun InTime Sound) (trail_run c ms s last trail) all timely

  falls_on : (ms : List Seen) (s last : Configuration) → Trail c s ms last → Falls c s → Falls c last
  falls_on ms s last trail falls = trail_keeps c (GoodStep c Falling AnyStep) (Falls c) (framed_step c Falling AnyStep (keeps_falling c)) ms s last trail (any ms) falls
    where
      any : (ms : List Seen) → AllOf (GoodStep c Falling AnyStep) ms
      any [] = tt
      any (m ∷ ms) = (tt, any ms)

  at_set : (visit : Option NodeId) → IsAt set visit → AtSet c y laid set covered covers k visit
  at_set None h = h
  at_set (Some n) h = h

  some_at : (fs : List Frame) → Inside set fs → SomeAt c y laid set covered covers k fs
  some_at [] h = h
  some_at (f ∷ below) (inl h) = inl (at_set f.visit h)
  some_at (f ∷ below) (inr h) = inr (some_at below h)

  -- a thread inside the set holds the lock
  pub inside_holds : (s : Configuration) → Sound s → (t : ℕ) (th : Thread) → slice_get s.threads t ≡ Some th → Inside set th.frames → 0 < needs kept k th.frames
  inside_holds s sound t th at inside = set_holds c y laid set covered covers k s.made t th.frames (sound.shapes.at t th at) (some_at th.frames inside)

  -- who is inside the set is the one who holds the lock
  pub visitor : (s : Configuration) (t u : ℕ) (th : Thread) (fs : List Frame) → Sound s → slice_get s.threads t ≡ Some th → 0 < needs kept k th.frames
      → frames_at (slice_get s.threads u) ≡ fs → Inside set fs → u ≡ t
  visitor s t u th fs sound at deep same inside = by_thread (slice_get s.threads u) refl (subst (Inside set) (sym same) inside)
    where
      by_thread : (o : Option Thread) → slice_get s.threads u ≡ o → Inside set (frames_at o) → u ≡ t
      by_thread None at_u i = absurd i
      by_thread (Some other) at_u i = one_inside kept k c y carries laid s sound u t other th at_u at (inside_holds s sound u other at_u i) deep

  module _ (input : List ℤ) where
    abbrev pub start0 : Configuration
    start0 = start c input

    sound_now : (ms : List Seen) (s : Configuration) → Trail c start0 ms s → AllOf InTime ms → Sound s
    sound_now ms s trail timely = sound_on ms start0 s trail timely (good_start kept k c y carries laid few input)

    falls_now : (ms : List Seen) (s : Configuration) → Trail c start0 ms s → Falls c s
    falls_now ms s trail = falls_on ms start0 s trail (falls_start c input)

    -- a foreign step while a visit is in progress
    pub during_none : (t serial n : ℕ) (past : List Seen) (r : Seen) (right : List Seen) (last : Seen) (after : List Seen) (end : Configuration) → set n ≡ true
        → Trail c start0 (past ++ r ∷ (right ++ last ∷ after)) end → AllOf InTime (past ++ r ∷ (right ++ last ∷ after))
        → Every (Still t serial) (r ∷ right) → last.entry.thread ≡ t → VisitsIn serial n last.before → Foreign t set r → ⊥
    during_none t serial n past r right last after end g trail timely still mine v foreign =
        let m1 = trail_split c past (r ∷ (right ++ last ∷ after)) start0 end trail in
        let m2 = trail_split c (r ∷ right) (last ∷ after) m1.now end m1.future in
        let v2 : VisitsIn serial n (frames_at (slice_get m2.now.threads last.entry.thread)) = subst (VisitsIn serial n) (sym m2.future.frames) v in
        let i = stands_now c t serial n m1.now m2.now (r ∷ right) m2.past still (subst (λ u. VisitsIn serial n (frames_at (slice_get m2.now.threads u))) mine v2) in
        let sound = sound_now past m1.now m1.past (all_left InTime past (r ∷ (right ++ last ∷ after)) timely) in
        let deep = inside_holds m1.now sound t i.thread i.stands (visits_inside set serial n i.thread.frames g i.visits) in
        foreign.other (visitor m1.now t r.entry.thread i.thread r.before sound i.stands deep m1.future.frames foreign.inside)

    -- no step of another thread inside the set comes within a visit
    pub no_same_violation : (n : ℕ) → set n ≡ true → (ms : List Seen) (end : Configuration) → Trail c start0 ms end → AllOf InTime ms → SameViolation n set ms → ⊥
    no_same_violation n g ms end trail timely v =
        let f = found (Foreign v.t set) v.during v.crossed in
        let x = f.step ∷ (f.right ++ v.last ∷ v.after) in
        let same : ms ≡ (v.before ++ v.first ∷ f.left) ++ x =
        v.whole ∙ (ap (λ z. v.before ++ v.first ∷ (z ++ v.last ∷ v.after)) f.whole
        ∙ (ap (λ z. v.before ++ v.first ∷ z) (assoc f.left (f.step ∷ f.right) (v.last ∷ v.after)) ∙ sym (assoc v.before (v.first ∷ f.left) x))) in
        let still = every_right (Still v.t v.serial) f.left (f.step ∷ f.right) (subst (Every (Still v.t v.serial)) f.whole v.same) in
        during_none v.t v.serial n (v.before ++ v.first ∷ f.left) f.step f.right v.last v.after end g (subst (λ z. Trail c start0 z end) same trail)
        (subst (AllOf InTime) same timely) still v.in_n v.visits_n f.good

    module _ (np nc : ℕ) (fwd : ℕ → Type 0) (forward : Forward c y np nc fwd) (back : ℕ → Type 0) (backward : Backward c y np nc back) (contains : Contains np nc fwd back set) where
      -- a foreign step between the two beginnings
      pub between_none : (t serial : ℕ) (a : List Seen) (mp : Seen) (b : List Seen) (r : Seen) (d : List Seen) (mc : Seen) (e : List Seen) (end : Configuration)
          → Trail c start0 (a ++ mp ∷ (b ++ r ∷ (d ++ mc ∷ e))) end → AllOf InTime (a ++ mp ∷ (b ++ r ∷ (d ++ mc ∷ e)))
          → Begins t serial np mp → Begins t serial nc mc → Every (Quiet t serial np nc) b → Every (Quiet t serial np nc) (r ∷ d) → Foreign t set r → ⊥
      between_none t serial a mp b r d mc e end trail timely bp bc qb qd foreign =
          let m1 = trail_split c a (mp ∷ (b ++ r ∷ (d ++ mc ∷ e))) start0 end trail in
          let m2 = trail_split c b (r ∷ (d ++ mc ∷ e)) m1.future.next end m1.future.rest in
          let m3 = trail_split c (r ∷ d) (mc ∷ e) m2.now end m2.future in
          let timely2 = all_right InTime a (mp ∷ (b ++ r ∷ (d ++ mc ∷ e))) timely in
          let sound0 = sound_now a m1.now m1.past (all_left InTime a (mp ∷ (b ++ r ∷ (d ++ mc ∷ e))) timely) in
          let one : Trail c m1.now (mp ∷ []) m1.future.next = record { next = m1.future.next; goes = m1.future.goes; frames = m1.future.frames; rest = refl } in
          let sound1 = sound_on (mp ∷ []) m1.now m1.future.next one (timely2.0, tt) sound0 in
          let sound = sound_on b m1.future.next m2.now m2.past (all_left InTime b (r ∷ (d ++ mc ∷ e)) timely2.1) sound1 in
          let falls1 = falls_on (mp ∷ []) m1.now m1.future.next one (falls_now a m1.now m1.past) in
          let first = begun_at c t serial np m1.now m1.future.next mp bp m1.future.goes m1.future.frames in
          let second = begun_at c t serial nc m3.now m3.future.next mc bc m3.future.goes m3.future.frames in
          let h = holds_between c y laid t serial np nc fwd forward back backward set covered k contains covers carries m1.now m1.future.next m2.now m3.now m3.future.next b (r ∷ d)
          first.begun first.mine second.begun second.mine sound1.shapes falls1 sound.shapes m2.past m3.past qb qd in
          foreign.other (visitor m2.now t r.entry.thread h.thread r.before sound h.stands h.deep m2.future.frames foreign.inside)

      -- no step of another thread inside the set comes between a visit of np and the next visit of nc, nor within that visit
      pub no_next_violation : (ms : List Seen) (end : Configuration) → Trail c start0 ms end → AllOf InTime ms → NextViolation np nc set ms → ⊥
      no_next_violation ms end trail timely v = by_side (some_append (Foreign v.t set) v.between (v.second ∷ v.during) v.crossed)
        where
          by_side : SomeStep (Foreign v.t set) v.between ⊎ SomeStep (Foreign v.t set) (v.second ∷ v.during) → ⊥
          by_side (inl h) =
              let f = found (Foreign v.t set) v.between h in
              let tail = v.during ++ v.last ∷ v.after in
              let same : ms ≡ v.before ++ v.first ∷ (f.left ++ f.step ∷ (f.right ++ v.second ∷ tail)) =
              v.whole ∙ (ap (λ x. v.before ++ v.first ∷ (x ++ v.second ∷ tail)) f.whole ∙ ap (λ x. v.before ++ v.first ∷ x) (assoc f.left (f.step ∷ f.right) (v.second ∷ tail))) in
              let quiet = subst (Every (Quiet v.t v.serial np nc)) f.whole v.quiet in
              between_none v.t v.serial v.before v.first f.left f.step f.right v.second tail end (subst (λ x. Trail c start0 x end) same trail)
              (subst (AllOf InTime) same timely) v.begins_np v.begins_nc (every_left (Quiet v.t v.serial np nc) f.left (f.step ∷ f.right) quiet)
              (every_right (Quiet v.t v.serial np nc) f.left (f.step ∷ f.right) quiet) f.good
          by_side (inr (inl h)) = h.other v.begins_nc.thread
          by_side (inr (inr h)) =
              no_same_violation nc contains.has_nc ms end trail timely (record {
                t = v.t;
                serial = v.serial;
                before = v.before ++ v.first ∷ v.between;
                first = v.second;
                during = v.during;
                last = v.last;
                after = v.after;
                whole = v.whole ∙ sym (assoc v.before (v.first ∷ v.between) (v.second ∷ (v.during ++ v.last ∷ v.after)));
                begins = v.begins_nc;
                same = v.same;
                in_n = v.in_nc;
                visits_n = v.visits_nc;
                crossed = h;
              })

  timely_one : (ev : Event) → (ev ≡ event.EnterMissed (record { number = k }) → ⊥) → Timely k ev
  timely_one (event.EnterMissed j) h = λ e. h (λ i. event.EnterMissed (record { number = e i }))
  timely_one ev h = tt

  pub in_time : (ms : List Seen) → NoneMissed k ms → AllOf InTime ms
  in_time [] h = tt
  in_time (m ∷ ms) h = (timely_one m.event h.0, in_time ms h.1)

-- a run without timeouts has none of lock k
pub none_missed : (k : ℕ) (ms : List Seen) → NoTimeout ms → NoneMissed k ms
none_missed k [] h = tt
none_missed k (m ∷ ms) h = ((λ e. differ (sym (ap is_missed e) ∙ h.0)), none_missed k ms h.1)
  where
    differ : true ≡ false → ⊥
    differ d = cc

-- of programs
pub tree_no_same : (tree : Tree) (set covered : ℕ → Bool) (k n : ℕ) → Carries (tree_code tree) (layout_of tree) (kept_in (layout_of tree) set covered) k
    → Covers (layout_of tree) set covered → k < (tree_code tree).locks → set n ≡ true → (input : List ℤ) (es : List Entry) → NoSameViolation tree n set k input es
tree_no_same tree set covered k n carries covers few g input es = record {
  none = λ ms end ran none v.
      no_same_violation (tree_code tree) (layout_of tree) (laid_out tree) set covered k carries covers few input n g ms end
      (run_trail (tree_code tree) es (start (tree_code tree) input) ms end ran) (in_time (tree_code tree) (layout_of tree) (laid_out tree) set covered k carries covers few ms none) v;
}

pub tree_no_next : (tree : Tree) (set covered : ℕ → Bool) (fwd back : ℕ → Type 0) (k np nc : ℕ) → Carries (tree_code tree) (layout_of tree) (kept_in (layout_of tree) set covered) k
    → Covers (layout_of tree) set covered → k < (tree_code tree).locks → Forward (tree_code tree) (layout_of tree) np nc fwd
    → Backward (tree_code tree) (layout_of tree) np nc back → Contains np nc fwd back set
    → (input : List ℤ) (es : List Entry) → NoNextViolation tree np nc set k input es
tree_no_next tree set covered fwd back k np nc carries covers few forward backward contains input es = record {
  none = λ ms end ran none v.
      no_next_violation (tree_code tree) (layout_of tree) (laid_out tree) set covered k carries covers few input np nc fwd forward back backward contains ms end
      (run_trail (tree_code tree) es (start (tree_code tree) input) ms end ran) (in_time (tree_code tree) (layout_of tree) (laid_out tree) set covered k carries covers few ms none) v;
}
