-- A run visits no node of a set into which no edge leads, and so makes no access there.
use Rattle.std.proofs.Common.{◌≡◌, ℕ, ℤ, Bool, true, false, not, ◌&&◌, List, [], ◌∷◌, slice_get, Option, Some, None, refl, sym, ap, ◌∙◌, subst, arith}
use Rattle.cfix_base.specs.declared.access.AccessId.{AccessId}
use Rattle.cfix_base.specs.declared.entry.Entry.{Entry}
use Rattle.cfix_base.specs.declared.number.FnId.{FnId}
use Rattle.cfix_base.specs.declared.number.NodeId.{NodeId}
use Rattle.cfix_base.specs.declared.place.Place.{Place}
use Rattle.cfix_base.specs.declared.place.Place.TheVariants.{After, Start}
use Rattle.step_state.specs.declared.frame.Frame.{Frame}
use Rattle.step_state.specs.declared.item.Item.{Item}
use Rattle.step_state.specs.declared.item.Item.TheVariants as item
use Rattle.step_state.specs.declared.item.Move.TheVariants as move
use Rattle.step_state.specs.declared.state.Configuration.{Configuration}
use Rattle.step_state.specs.declared.thread.Thread.{Thread}
use Rattle.step_state.specs.Changes.{frame_of, thread_of, with_work}
use Rattle.step_state.specs.Code.{Code, fn_id}
use Rattle.step_state.specs.Run.{Seen, frames_at, run}
use Rattle.step_state.specs.Start.{start}
use Rattle.step_state.specs.Step.{branch_place}
use Rattle.step_state.specs.Values.{is_zero, last_value}
use Rattle.frame_laws.specs.Trail.{Every, Trail}
use Rattle.frame_laws.proofs.Each.{Each, each_push}
use Rattle.frame_laws.proofs.Frames.{AllFrames, Framed, GoodStep, Keeps, ThreadFrames, framed_step}
use Rattle.frame_laws.proofs.Reduced.{reduced_follows}
use Rattle.frame_laws.proofs.Trails.{made_keeps, run_trail}
use Rattle.layout_laws.specs.Layout.{Calls, IsLaidOut, Layout, Stands, Under, source}
use Rattle.layout_laws.proofs.Shape.{Any, Shaped, arrived, between_goes, keeps_shape, next_is}
use Rattle.lock_laws.specs.Coverage.{Covers, kept_in}
use Rattle.lock_laws.specs.Guard.{bit, in_set, need_of, needs}
use Rattle.lock_laws.proofs.Coverage.{covered_holds}
use Rattle.access_laws.specs.Access.{AtNode, ComesIn, TopVisits}
use Rattle.access_laws.proofs.AccessVisits.{accesses_in_visits}
use Rattle.visit_laws.specs.Unvisited.{IsShut, NoEvent}

branch_source : (n : NodeId) (nought : Bool) → source (branch_place n nought) ≡ Some n.number
branch_source n true = refl
branch_source n false = refl

module _ (c : Code) (y : Layout) (laid : IsLaidOut c y) (set : ℕ → Bool) (shut : IsShut c y set) where
  -- a frame visits no node of the set, and comes to none next
  abbrev pub Out : Option NodeId → Place → Type 0
  Out None last = in_set set (c.next last) ≡ 0
  Out (Some n) last = bit (set n.number) ≡ 0

  pub record Apart (m t : ℕ) (f : Frame) (below : List Frame) : Type 0 where
    pub shape : Shaped c y laid m t f below
    pub out : Out f.visit f.last

  shapes : Keeps c (Shaped c y laid) (Any c y laid)
  shapes = keeps_shape c y laid

  begun_out : (of : FnId) (visit : Option NodeId) (last : Place) (vs : List ℤ) (n : NodeId) (rest : List Item)
      → Stands c y of visit last vs (item.Go (move.Node n) ∷ rest) → Out visit last → bit (set n.number) ≡ 0
  begun_out of None last vs n rest h out = ap (in_set set) (sym (next_is c last n rest h.left (c.next last) h.rest)) ∙ out
  begun_out of (Some k) last vs n rest h out = absurd h.does

  branched_out : (of : FnId) (visit : Option NodeId) (last : Place) (vs : List ℤ) (n : NodeId) (rest : List Item)
      → Stands c y of visit last vs (item.Go (move.Branch n) ∷ rest) → Out visit last → bit (set n.number) ≡ 0
  branched_out of None last vs n rest h out = absurd (between_goes c y of last (item.Go (move.Branch n) ∷ rest) h)
  branched_out of (Some k) last vs n rest h out = ap (λ x. bit (set x)) h.does.0 ∙ out

  edged_out : (of : FnId) (visit : Option NodeId) (last : Place) (vs : List ℤ) (n : NodeId) (rest : List Item)
      → Stands c y of visit last vs (item.Go (move.Edge n) ∷ rest) → Out visit last → bit (set n.number) ≡ 0
  edged_out of None last vs n rest h out = absurd (between_goes c y of last (item.Go (move.Edge n) ∷ rest) h)
  edged_out of (Some k) last vs n rest h out = ap (λ x. bit (set x)) h.does.0 ∙ out

  keeps_apart : Keeps c Apart (Any c y laid)
  keeps_apart = record {
    later = λ m t f below h. record { shape = shapes.later m t f below h.shape; out = h.out };
    op = λ m t f below o rest ev at is good h. record { shape = shapes.op m t f below o rest ev at is good h.shape; out = h.out };
    reduced = λ m t f g below r rest at is good h.
        let same = reduced_follows c (with_work f rest) g r is in
        record {
          shape = shapes.reduced m t f g below r rest at is good h.shape;
          out = subst (λ v. Out v g.last) (sym same.visit) (subst (λ l. Out f.visit l) (sym same.last) h.out);
        };
    acted = λ m t f below a rest vs hs ev at says good h.
        record { shape = shapes.acted m t f below a rest vs hs ev at says good h.shape; out = h.out };
    begun = λ m t f below n rest at good h. record {
      shape = shapes.begun m t f below n rest at good h.shape;
      out = begun_out f.of f.visit f.last f.values n rest (subst (Stands c y f.of f.visit f.last f.values) at h.shape.stands) h.out;
    };
    branched = λ m t f below n rest at good h.
        let place = branch_place n (is_zero (last_value f.values)) in
        let now = shapes.branched m t f below n rest at good h.shape in
        let here = branched_out f.of f.visit f.last f.values n rest (subst (Stands c y f.of f.visit f.last f.values) at h.shape.stands) h.out in
        record { shape = now; out = shut.out place now.stands.live (ap (in_set set) (branch_source n (is_zero (last_value f.values))) ∙ here) };
    edged = λ m t f below n rest at good h.
        let now = shapes.edged m t f below n rest at good h.shape in
        record {
          shape = now;
          out = shut.out (After n) now.stands.live
              (edged_out f.of f.visit f.last f.values n rest (subst (Stands c y f.of f.visit f.last f.values) at h.shape.stands) h.out);
        };
    returned = λ m t f g below rest v at good h below_h.
        record { shape = shapes.returned m t f g below rest v at good h.shape below_h.shape; out = below_h.out };
    called = λ m t f below g rest args vs at good h.
        record { shape = shapes.called m t f below g rest args vs at good h.shape; out = shut.out (Start g) tt refl };
    created = λ m t u f below target g rest args at good h.
        record { shape = shapes.created m t u f below target g rest args at good h.shape; out = shut.out (Start g) tt refl };
  }

  abbrev pub AllApart : ℕ → ℕ → List Frame → Type 0
  AllApart m t fs = AllFrames c Apart (Any c y laid) m t fs

  abbrev pub AreApart : Configuration → Type 0
  AreApart s = Framed c Apart (Any c y laid) s

  start_apart : (input : List ℤ) → AreApart (start c input)
  start_apart input =
      let bare : Each (ThreadFrames c Apart (Any c y laid) 1) [] = record { at = λ t th e. cc } in
      each_push (ThreadFrames c Apart (Any c y laid) 1) [] (thread_of c (frame_of c 0 c.main [])) bare (
        record {
          shape = record { stands = arrived c y (fn_id c.main) (Start (fn_id c.main)) tt refl; under = laid.main };
          out = shut.out (Start (fn_id c.main)) tt refl;
        },
        tt,
      )

  -- how the frames of a step stand before it
  pub record Before (m : Seen) : Type 0 where
    pub made : ℕ
    pub apart : AllApart made m.entry.thread m.before

  frames_apart : (s : Configuration) (t : ℕ) (o : Option Thread) → slice_get s.threads t ≡ o → AreApart s → AllApart s.made t (frames_at o)
  frames_apart s t None at apart = tt
  frames_apart s t (Some th) at apart = apart.at t th at

  all_before : (ms : List Seen) (s last : Configuration) → Trail c s ms last → AreApart s → Every Before ms
  all_before [] s last trail apart = tt
  all_before (m ∷ ms) s last trail apart = (
    record {
      made = s.made;
      apart = subst (AllApart s.made m.entry.thread) trail.frames
          (frames_apart s m.entry.thread (slice_get s.threads m.entry.thread) refl apart);
    },
    all_before ms trail.next last trail.rest
        (made_keeps c (GoodStep c Apart (Any c y laid)) AreApart (framed_step c Apart (Any c y laid) keeps_apart) s trail.next m trail.goes trail.frames apart tt),
  )

  pub run_before : (input : List ℤ) (es : List Entry) (ms : List Seen) (last : Configuration) → run c input es ≡ Some (ms, last) → Every Before ms
  run_before input es ms last ran = all_before ms (start c input) last (run_trail c es (start c input) ms last ran) (start_apart input)

  visit_out : (k : ℕ) (visit : Option NodeId) (last : Place) → Out visit last → AtNode k visit → set k ≡ true → ⊥
  visit_out k None last out at is = at
  visit_out k (Some n) last out at is = let one : bit (set n.number) ≡ 1 = ap (λ x. bit (set x)) at ∙ ap bit is in omega arith

  top_out : (k m t : ℕ) (fs : List Frame) → AllApart m t fs → TopVisits k fs → set k ≡ true → ⊥
  top_out k m t [] all top is = top
  top_out k m t (f ∷ below) all top is = visit_out k f.visit f.last all.0.out top is

  no_events : (id : AccessId) → set id.node.number ≡ true → (ms : List Seen) → Every Before ms → Every (ComesIn id) ms → Every (NoEvent id) ms
  no_events id is [] before comes = tt
  no_events id is (m ∷ ms) before comes = (
    (λ event. top_out id.node.number before.0.made m.entry.thread m.before before.0.apart (comes.0 event) is),
    no_events id is ms before.1 comes.1,
  )

  -- no event of an access at a node of the set
  pub no_access : (id : AccessId) → set id.node.number ≡ true → (input : List ℤ) (es : List Entry) (ms : List Seen) (last : Configuration)
      → run c input es ≡ Some (ms, last) → Every (NoEvent id) ms
  no_access id is input es ms last ran =
      no_events id is ms (run_before input es ms last ran) (accesses_in_visits c y laid input es ms last ran id)

-- the same of a set of which the nodes in covered functions are entered through others of it
module _ (c : Code) (y : Layout) (laid : IsLaidOut c y) (set covered : ℕ → Bool) (covers : Covers y set covered)
    (shut : IsShut c y (kept_in y set covered)) where
  abbrev kept : ℕ → Bool
  kept = kept_in y set covered

  abbrev All : ℕ → ℕ → List Frame → Type 0
  All m t fs = AllApart c y laid kept shut m t fs

  all_shaped : (m t : ℕ) (fs : List Frame) → All m t fs → AllFrames c (Shaped c y laid) (Any c y laid) m t fs
  all_shaped m t [] all = tt
  all_shaped m t (f ∷ below) all = (all.0.shape, all_shaped m t below all.1)

  calling_none : (f : ℕ) (visit : Option NodeId) (last : Place) (work : List Item) → Calls y f visit → Out c y laid kept shut visit last
      → need_of kept 0 visit work ≡ 0
  calling_none f None last work calls out = absurd calls
  calling_none f (Some n) last work calls out = out

  needs_none : (m t f : ℕ) (fs : List Frame) → Under y f fs → All m t fs → needs kept 0 fs ≡ 0
  needs_none m t f [] under all = refl
  needs_none m t f (g ∷ below) under all =
      let here = calling_none f g.visit g.last g.work under all.0.out in
      let rest = needs_none m t g.of.number below all.0.shape.under all.1 in
      omega arith

  in_cover : (m t k : ℕ) (f : Frame) (below : List Frame) (visit : Option NodeId) (last : Place) → All m t (f ∷ below)
      → Stands c y f.of visit last f.values f.work → Out c y laid kept shut visit last → AtNode k visit → set k ≡ true → ⊥
  in_cover m t k f below None last all stands out at is = at
  in_cover m t k f below (Some n) last all stands out at is = by_cover (covered (y.function n.number)) refl
    where
      here : set n.number ≡ true
      here = ap set at ∙ is

      by_cover : (o : Bool) → covered (y.function n.number) ≡ o → ⊥
      by_cover false e =
          let one : bit (kept n.number) ≡ 1 = λ i. bit (here i && not (e i)) in
          let none : bit (kept n.number) ≡ 0 = out in
          omega arith
      by_cover true e =
          let up = covered_holds c y laid set covered covers 0 m t f below (all_shaped m t (f ∷ below) all) (sym (ap covered stands.function) ∙ e) in
          let none = needs_none m t f.of.number below all.0.shape.under all.1 in
          omega arith

  top_in : (k m t : ℕ) (fs : List Frame) → All m t fs → TopVisits k fs → set k ≡ true → ⊥
  top_in k m t [] all top is = top
  top_in k m t (f ∷ below) all top is = in_cover m t k f below f.visit f.last all all.0.shape.stands all.0.out top is

  none_inside : (id : AccessId) → set id.node.number ≡ true → (ms : List Seen) → Every (Before c y laid kept shut) ms → Every (ComesIn id) ms → Every (NoEvent id) ms
  none_inside id is [] before comes = tt
  none_inside id is (m ∷ ms) before comes = (
    (λ event. top_in id.node.number before.0.made m.entry.thread m.before before.0.apart (comes.0 event) is),
    none_inside id is ms before.1 comes.1,
  )

  pub no_covered_access : (id : AccessId) → set id.node.number ≡ true → (input : List ℤ) (es : List Entry) (ms : List Seen) (last : Configuration)
      → run c input es ≡ Some (ms, last) → Every (NoEvent id) ms
  no_covered_access id is input es ms last ran =
      none_inside id is ms (run_before c y laid kept shut input es ms last ran) (accesses_in_visits c y laid input es ms last ran id)
