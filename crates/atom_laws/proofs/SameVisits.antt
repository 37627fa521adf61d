-- A visit that is in progress later, and was not begun since, is in progress now.
use Rattle.std.proofs.Common.{◌≡◌, ◌≢◌, ◌⊎◌, ⊎_elim, inl, inr, ℕ, Bool, true, false, List, [], ◌∷◌, Option, Some, None, refl, sym, ap, ◌∙◌, subst, slice_get}
use Rattle.std.proofs.lemmas.Bool.Decides.{eqb_tells}
use Rattle.std.proofs.Math.Dec.{eqb}
use Rattle.cfix_base.specs.declared.entry.Entry.{Entry}
use Rattle.cfix_base.specs.declared.number.NodeId.{NodeId}
use Rattle.step_state.specs.declared.event.Event.{Event}
use Rattle.step_state.specs.declared.event.Event.TheVariants as event
use Rattle.step_state.specs.declared.frame.Frame.{Frame}
use Rattle.step_state.specs.declared.thread.Thread.{Thread}
use Rattle.step_state.specs.declared.state.Configuration.{Configuration}
use Rattle.step_state.specs.Code.{Code, node}
use Rattle.step_state.specs.Changes.{with_work}
use Rattle.step_state.specs.Run.{Seen, frames_at}
use Rattle.lock_laws.specs.Inside.{IsAt, Inside}
use Rattle.frame_laws.specs.Trail.{Every}
use Rattle.atom_laws.specs.NextVisit.{Still, VisitsIn}
use Rattle.frame_laws.specs.Trail.{Trail}
use Rattle.frame_laws.proofs.Frames.{AllFrames, AllOf, Framed, GoodStep, Keeps, framed_step}
use Rattle.atom_laws.proofs.NextVisits.{same_thread}
use Rattle.frame_laws.proofs.Reduced.{reduced_follows}
use Rattle.frame_laws.proofs.Trails.{trail_keeps}

module _ (c : Code) (tt0 serial0 n : ℕ) where
  -- the frame with this number does not visit the node
  abbrev Away : ℕ → ℕ → Frame → List Frame → Type 0
  Away m t f below = t ≡ tt0 → f.serial ≡ serial0 → f.visit ≡ Some (node n) → ⊥

  abbrev IsNoBegin : Event → Type 0
  IsNoBegin (event.Begin i) = ⊥
  IsNoBegin _ = Unit {0}

  abbrev StillGood : ℕ → List Frame → Event → Type 0
  StillGood t [] ev = Unit {0}
  StillGood t (f ∷ fs) ev = t ≡ tt0 → f.serial ≡ serial0 → IsNoBegin ev

  no_visit : ◌≡◌ {A = Option NodeId} None (Some (node n)) → ⊥
  no_visit e = cc

  keeps_away : Keeps c Away StillGood
  keeps_away = record {
    later = λ m t f below h. h;
    op = λ m t f below o rest ev at is good h. h;
    reduced = λ m t f g below r rest at is good h a b v.
        let same = reduced_follows c (with_work f rest) g r is in
        h a (sym same.serial ∙ b) (sym same.visit ∙ v);
    acted = λ m t f below a rest vs hs ev at says good h. h;
    begun = λ m t f below i rest at good h a b v. absurd (good a b);
    branched = λ m t f below i rest at good h a b v. no_visit v;
    edged = λ m t f below i rest at good h a b v. no_visit v;
    returned = λ m t f g below rest v at good h below_h. below_h;
    called = λ m t f below g rest args vs at good h a b v. no_visit v;
    created = λ m t u f below target g rest args at good h a b v. no_visit v;
  }

  abbrev AwayAll : ℕ → ℕ → List Frame → Type 0
  AwayAll m t fs = AllFrames c Away StillGood m t fs

  abbrev AwayOf : Configuration → Type 0
  AwayOf s = Framed c Away StillGood s

  still_good : (ms : List Seen) → Every (Still tt0 serial0) ms → AllOf (GoodStep c Away StillGood) ms
  still_good [] h = tt
  still_good (m ∷ ms) h = (one m.entry m.event m.before h.0, still_good ms h.1)
    where
      one : (e : Entry) (ev : Event) (fs : List Frame) → Still tt0 serial0 (record { entry = e; before = fs; event = ev }) → StillGood e.thread fs ev
      one e ev [] q = tt
      one e (event.Begin i) (f ∷ fs) q = λ a b. q.not i.number (record { thread = a; frame = ap Some b; event = refl })
      one e ev (f ∷ fs) q = λ a b. tt

  not_both : (m : ℕ) (fs : List Frame) → VisitsIn serial0 n fs → AwayAll m tt0 fs → ⊥
  not_both m [] v h = v
  not_both m (f ∷ fs) (inl v) h = h.0 refl v.0 v.1
  not_both m (f ∷ fs) (inr v) h = not_both m fs v h.1

  visit_or_not : (o : Option NodeId) → (o ≡ Some (node n)) ⊎ (o ≡ Some (node n) → ⊥)
  visit_or_not None = inr no_visit
  visit_or_not (Some m) =
      ⊎_elim (λ (e : (eqb m.number n ≡ true) × (m.number ≡ n)). inl (ap (λ i. Some (node i)) e.1))
      (λ (e : (eqb m.number n ≡ false) × (m.number ≢ n)). inr (λ v. e.1 (number_is v))) (eqb_tells m.number n)
    where
      number_is : Some m ≡ Some (node n) → m.number ≡ n
      number_is v = cc

  serial_or_not : (f : Frame) → (f.serial ≡ serial0) ⊎ (f.serial ≡ serial0 → ⊥)
  serial_or_not f =
      ⊎_elim (λ (e : (eqb f.serial serial0 ≡ true) × (f.serial ≡ serial0)). inl e.1)
      (λ (e : (eqb f.serial serial0 ≡ false) × (f.serial ≢ serial0)). inr e.1) (eqb_tells f.serial serial0)

  -- the frame with this number visits the node, or none does
  visits_or : (m : ℕ) (fs : List Frame) → VisitsIn serial0 n fs ⊎ AwayAll m tt0 fs
  visits_or m [] = inr tt
  visits_or m (f ∷ fs) = both (serial_or_not f) (visit_or_not f.visit) (visits_or m fs)
    where
      both : (f.serial ≡ serial0) ⊎ (f.serial ≡ serial0 → ⊥) → (f.visit ≡ Some (node n)) ⊎ (f.visit ≡ Some (node n) → ⊥) → VisitsIn serial0 n fs ⊎ AwayAll m tt0 fs
          → VisitsIn serial0 n (f ∷ fs) ⊎ AwayAll m tt0 (f ∷ fs)
      both a v (inl z) = inl (inr z)
      both (inl a) (inl v) (inr z) = inl (inl (a, v))
      both (inl a) (inr v) (inr z) = inr ((λ x w. v), z)
      both (inr a) v (inr z) = inr ((λ x w. absurd (a w)), z)

  -- the thread with the frame that visits the node
  pub record StandsIn (s : Configuration) : Type 0 where
    pub thread : Thread
    pub stands : slice_get s.threads tt0 ≡ Some thread
    pub visits : VisitsIn serial0 n thread.frames

  pub stands_now : (now later : Configuration) (ms : List Seen) → Trail c now ms later → Every (Still tt0 serial0) ms
      → VisitsIn serial0 n (frames_at (slice_get later.threads tt0)) → StandsIn now
  stands_now now later ms trail still v = look (slice_get now.threads tt0) refl
    where
      at_end : AwayOf later → (o : Option Thread) → slice_get later.threads tt0 ≡ o → VisitsIn serial0 n (frames_at o) → ⊥
      at_end away None at v = v
      at_end away (Some th) at v = not_both later.made th.frames v (away.at tt0 th at)

      none : AwayOf now → ⊥
      none away =
          at_end (trail_keeps c (GoodStep c Away StillGood) AwayOf (framed_step c Away StillGood keeps_away) ms now later trail (still_good ms still) away)
          (slice_get later.threads tt0) refl v

      others : (m t : ℕ) (fs : List Frame) → t ≢ tt0 → AwayAll m t fs
      others m t [] ne = tt
      others m t (f ∷ fs) ne = ((λ a b w. ne a), others m t fs ne)

      none_some : (z : Thread) → None ≡ Some z → ⊥
      none_some z d = cc

      look : (o : Option Thread) → slice_get now.threads tt0 ≡ o → StandsIn now
      look None at = absurd (none (record {
        at = λ t z e. others now.made t z.frames
            (λ same. let e2 : slice_get now.threads tt0 ≡ Some z = subst (λ i. slice_get now.threads i ≡ Some z) same e in none_some z (sym at ∙ e2));
      }))
      look (Some th) at =
          ⊎_elim (λ (x : VisitsIn serial0 n th.frames). record { thread = th; stands = at; visits = x })
          (λ (x : AwayAll now.made tt0 th.frames). absurd (none (record { at = λ t z e. pick x t z e (eqb_tells t tt0) }))) (visits_or now.made th.frames)
        where
          pick : AwayAll now.made tt0 th.frames → (t : ℕ) (z : Thread) → slice_get now.threads t ≡ Some z → ((eqb t tt0 ≡ true) × (t ≡ tt0)) ⊎ ((eqb t tt0 ≡ false) × (t ≢ tt0))
              → AwayAll now.made t z.frames
          pick x t z e (inl same) =
              let e2 : slice_get now.threads tt0 ≡ Some z = subst (λ i. slice_get now.threads i ≡ Some z) same.1 e in
              let q : th ≡ z = same_thread (slice_get now.threads tt0) th z at e2 in
              subst (λ i. AwayAll now.made i z.frames) (sym same.1) (subst (λ w. AwayAll now.made tt0 w.frames) q x)
          pick x t z e (inr ne) = others now.made t z.frames ne.1

-- a frame that visits a node of the set is inside it
pub visits_inside : (set : ℕ → Bool) (serial n : ℕ) (fs : List Frame) → set n ≡ true → VisitsIn serial n fs → Inside set fs
visits_inside set serial n [] e v = v
visits_inside set serial n (f ∷ fs) e (inl v) = inl (subst (IsAt set) (sym v.1) e)
visits_inside set serial n (f ∷ fs) e (inr v) = inr (visits_inside set serial n fs e v)
