-- Frames stand on edges of control flow or in visits.
use Rattle.std.proofs.Common.{◌≡◌, ℕ, zero, suc, ℤ, List, [], ◌∷◌, ◌++◌, map, reverse, length, slice_get, Option, Some, None, refl, ap, sym, ◌∙◌, subst, append_assoc, arith}
use mathlib.Core.List.{reverse_aux}
use Rattle.cfix_base.specs.declared.entry.Entry.{Entry}
use Rattle.cfix_base.specs.declared.number.NodeId.{NodeId}
use Rattle.cfix_base.specs.declared.op.Op.{Op}
use Rattle.cfix_base.specs.declared.place.Place.{Place}
use Rattle.cfix_base.specs.declared.place.Place.TheVariants.{Start, After}
use Rattle.step_state.specs.declared.event.Event.{Event}
use Rattle.step_state.specs.declared.item.Item.{Item}
use Rattle.step_state.specs.declared.item.Item.TheVariants as item
use Rattle.step_state.specs.declared.item.Action.{Action}
use Rattle.step_state.specs.declared.item.Reduction.{Reduction}
use Rattle.step_state.specs.declared.frame.Frame.{Frame}
use Rattle.step_state.specs.declared.thread.Thread.{Thread}
use Rattle.step_state.specs.declared.state.Configuration.{Configuration}
use Rattle.step_state.specs.Code.{Code, arrive, go_to}
use Rattle.step_state.specs.Changes.{frame_of, thread_of, with_work}
use Rattle.step_state.specs.Reads.{frame_from_bottom, frames_of, leading_ops}
use Rattle.step_state.specs.Reduce.{reduce, frame}
use Rattle.step_state.specs.Run.{Seen, frames_at, next_node, run, run_from}
use Rattle.step_state.specs.Start.{start}
use Rattle.c_prog.specs.declared.tree.Tree.{Tree}
use Rattle.step_tables.specs.TreeCode.{next_of, tree_code}
use Rattle.step_laws.specs.Edges.{AreOnEdges, OnEdge, Stands, node_if}
use Rattle.frame_laws.proofs.Frames.{AllFrames, AllOf, Framed, GoodStep, Keeps, KeptByRun, ThreadFrames, framed_run}
use Rattle.frame_laws.proofs.Reduced.{reduced_follows}

some_same : {A : Type 0} (x y : A) → Some x ≡ Some y → x ≡ y
some_same x y is = cc

-- at a place, before its operations
arrived : (c : Code) (place : Place) → OnEdge c place (arrive c place)
arrived c place = record { passed = []; left = c.ops place; ops = refl; rest = refl }

-- control goes on to a node or to the exit
goes_op : (o : Op) (rest : List Item) (next : Option ℕ) → item.Op o ∷ rest ≡ go_to next ∷ [] → ⊥
goes_op o rest None e = cc
goes_op o rest (Some n) e = cc

goes_reduction : (r : Reduction) (rest : List Item) (next : Option ℕ) → item.Reduce r ∷ rest ≡ go_to next ∷ [] → ⊥
goes_reduction r rest None e = cc
goes_reduction r rest (Some n) e = cc

goes_action : (a : Action) (rest : List Item) (next : Option ℕ) → item.Act a ∷ rest ≡ go_to next ∷ [] → ⊥
goes_action a rest None e = cc
goes_action a rest (Some n) e = cc

-- one operation fewer is left
less_left : (c : Code) (last : Place) (o : Op) (rest : List Item) (passed left : List Op) → passed ++ left ≡ c.ops last
    → item.Op o ∷ rest ≡ map item.Op left ++ go_to (c.next last) ∷ [] → OnEdge c last rest
less_left c last o rest passed [] ops is = absurd (goes_op o rest (c.next last) is)
less_left c last o rest passed (p ∷ left) ops is = record {
  passed = passed ++ p ∷ [];
  left = left;
  ops = append_assoc passed (p ∷ []) left ∙ ops;
  rest = cc;
}

op_stands : (c : Code) (visit : Option NodeId) (last : Place) (o : Op) (rest : List Item) → Stands c visit last (item.Op o ∷ rest) → Stands c visit last rest
op_stands c (Some n) last o rest stands = tt
op_stands c None last o rest stands = less_left c last o rest stands.passed stands.left stands.ops stands.rest

-- between two visits no other item is next than an operation, the beginning of a node, or the exit
no_reduction : (c : Code) (last : Place) (r : Reduction) (rest : List Item) (left : List Op) → item.Reduce r ∷ rest ≡ map item.Op left ++ go_to (c.next last) ∷ [] → ⊥
no_reduction c last r rest [] is = goes_reduction r rest (c.next last) is
no_reduction c last r rest (o ∷ left) is = cc

no_action : (c : Code) (last : Place) (a : Action) (rest : List Item) (left : List Op) → item.Act a ∷ rest ≡ map item.Op left ++ go_to (c.next last) ∷ [] → ⊥
no_action c last a rest [] is = goes_action a rest (c.next last) is
no_action c last a rest (o ∷ left) is = cc

reduced_stands : (c : Code) (visit : Option NodeId) (last : Place) (r : Reduction) (rest work : List Item) → Stands c visit last (item.Reduce r ∷ rest) → Stands c visit last work
reduced_stands c (Some n) last r rest work stands = tt
reduced_stands c None last r rest work stands = absurd (no_reduction c last r rest stands.left stands.rest)

acted_stands : (c : Code) (visit : Option NodeId) (last : Place) (a : Action) (rest : List Item) → Stands c visit last (item.Act a ∷ rest) → Stands c visit last rest
acted_stands c (Some n) last a rest stands = tt
acted_stands c None last a rest stands = absurd (no_action c last a rest stands.left stands.rest)

module _ (c : Code) where
  abbrev StandsAt : ℕ → ℕ → Frame → List Frame → Type 0
  StandsAt m t f below = Stands c f.visit f.last f.work

  abbrev Any : ℕ → List Frame → Event → Type 0
  Any t fs ev = Unit {0}

  abbrev with_next : (f : Frame) (item : Item) (rest : List Item) → f.work ≡ item ∷ rest → Stands c f.visit f.last f.work → Stands c f.visit f.last (item ∷ rest)
  with_next f item rest at stands = subst (Stands c f.visit f.last) at stands

  reduction_stands : (f g : Frame) (r : Reduction) (rest : List Item) → f.work ≡ item.Reduce r ∷ rest → reduce c (with_work f rest) r ≡ frame g
      → Stands c f.visit f.last f.work → Stands c g.visit g.last g.work
  reduction_stands f g r rest at is stands =
      let same = reduced_follows c (with_work f rest) g r is in
      let moved : Stands c f.visit f.last g.work = reduced_stands c f.visit f.last r rest g.work (with_next f (item.Reduce r) rest at stands) in
      subst (λ v. Stands c v g.last g.work) (sym same.visit) (subst (λ l. Stands c f.visit l g.work) (sym same.last) moved)

  keeps_edges : Keeps c StandsAt Any
  keeps_edges = record {
    later = λ m t f below h. h;
    op = λ m t f below o rest ev at is good h. op_stands c f.visit f.last o rest (with_next f (item.Op o) rest at h);
    reduced = λ m t f g below r rest at is good h. reduction_stands f g r rest at is h;
    acted = λ m t f below a rest vs hs ev at says good h. acted_stands c f.visit f.last a rest (with_next f (item.Act a) rest at h);
    begun = λ m t f below n rest at good h. tt;
    branched = λ m t f below n rest at good h. arrived c _;
    edged = λ m t f below n rest at good h. arrived c (After n);
    returned = λ m t f g below rest v at good h below_h. below_h;
    called = λ m t f below g rest args vs at good h. arrived c (Start g);
    created = λ m t u f below target g rest args at good h. arrived c (Start g);
  }

  edges_framed : (input : List ℤ) → Framed c StandsAt Any (start c input)
  edges_framed input = record { at = first }
    where
      first : (t : ℕ) (th : Thread) → slice_get (thread_of c (frame_of c 0 c.main []) ∷ []) t ≡ Some th → ThreadFrames c StandsAt Any 1 t th
      first zero th is = subst (ThreadFrames c StandsAt Any 1 0) (some_same (thread_of c (frame_of c 0 c.main [])) th is) (arrived c (Start (frame_of c 0 c.main []).of), tt)
      first (suc t) th is = cc

  all_good : (ms : List Seen) → AllOf (GoodStep c StandsAt Any) ms
  all_good [] = tt
  all_good (m ∷ ms) = (tt, all_good ms)

  -- the frames of a run's last configuration
  ran_framed : (s : Configuration) (es : List Entry) (ms : List Seen) (last : Configuration) → Framed c StandsAt Any s
      → run_from c s es ≡ Some (ms, last) → Framed c StandsAt Any last
  ran_framed s es ms last framed ran =
      let kept : KeptByRun (GoodStep c StandsAt Any) (Framed c StandsAt Any) (run_from c s es) = framed_run c StandsAt Any keeps_edges es s framed in
      subst (KeptByRun (GoodStep c StandsAt Any) (Framed c StandsAt Any)) ran kept (all_good ms)

  abbrev AllStand : List Frame → Type 0
  AllStand [] = Unit {0}
  AllStand (f ∷ fs) = Stands c f.visit f.last f.work × AllStand fs

  framed_stand : (m t : ℕ) (fs : List Frame) → AllFrames c StandsAt Any m t fs → AllStand fs
  framed_stand m t [] all = tt
  framed_stand m t (f ∷ fs) all = (all.0, framed_stand m t fs all.1)

  reversed_stand : (fs done : List Frame) → AllStand fs → AllStand done → AllStand (reverse_aux fs done)
  reversed_stand [] done all others = others
  reversed_stand (f ∷ fs) done all others = reversed_stand fs (f ∷ done) all.1 (all.0, others)

  one_stands : (fs : List Frame) (at : ℕ) (f : Frame) → AllStand fs → slice_get fs at ≡ Some f → Stands c f.visit f.last f.work
  one_stands [] at f all is = cc
  one_stands (g ∷ fs) zero f all is = subst (λ x. Stands c x.visit x.last x.work) (some_same g f is) all.0
  one_stands (g ∷ fs) (suc at) f all is = one_stands fs at f all.1 is

  thread_stands : (s : Configuration) (t : ℕ) (o : Option Thread) → slice_get s.threads t ≡ o → Framed c StandsAt Any s → AllStand (frames_at o)
  thread_stands s t None is framed = tt
  thread_stands s t (Some th) is framed = framed_stand s.made t th.frames (framed.at t th is)

  frame_stands : (s : Configuration) → Framed c StandsAt Any s → (t at : ℕ) (f : Frame) → frame_from_bottom s t at ≡ Some f → Stands c f.visit f.last f.work
  frame_stands s framed t at f is =
      one_stands (reverse (frames_of s t)) at f (reversed_stand (frames_of s t) [] (thread_stands s t (slice_get s.threads t) refl framed) tt) is

  -- what begins next on an edge
  next_goes : (next : Option ℕ) → next_node (go_to next ∷ []) ≡ node_if next
  next_goes None = refl
  next_goes (Some n) = refl

  next_behind : (left : List Op) (next : Option ℕ) → next_node (map item.Op left ++ go_to next ∷ []) ≡ node_if next
  next_behind [] next = next_goes next
  next_behind (o ∷ left) next = next_behind left next

  none_goes : (next : Option ℕ) → leading_ops (go_to next ∷ []) ≡ 0
  none_goes None = refl
  none_goes (Some n) = refl

  leads : (left : List Op) (next : Option ℕ) → leading_ops (map item.Op left ++ go_to next ∷ []) ≡ length left
  leads [] next = none_goes next
  leads (o ∷ left) next = omega (arith, leads left next)

  edge_of : (s : Configuration) → Framed c StandsAt Any s → (t at : ℕ) (f : Frame) → frame_from_bottom s t at ≡ Some f → f.visit ≡ None → OnEdge c f.last f.work
  edge_of s framed t at f is between = subst (λ v. Stands c v f.last f.work) between (frame_stands s framed t at f is)

  pub on_edges : (input : List ℤ) (es : List Entry) (ms : List Seen) (last : Configuration) → run c input es ≡ Some (ms, last) → AreOnEdges c last
  on_edges input es ms last ran =
      let framed = ran_framed (start c input) es ms last (edges_framed input) ran in
      record {
        edge = edge_of last framed;
        pending = λ t at f is between.
            let on = edge_of last framed t at f is between in
            ap leading_ops on.rest ∙ leads on.left (c.next f.last);
        next = λ t at f is between.
            let on = edge_of last framed t at f is between in
            ap next_node on.rest ∙ next_behind on.left (c.next f.last);
      }

flow_next : (tree : Tree) (place : Place) → (tree_code tree).next place ≡ next_of tree place
unfolding tree_code
flow_next tree place = refl

pub goes_along : (tree : Tree) (input : List ℤ) (es : List Entry) (ms : List Seen) (s : Configuration) → run (tree_code tree) input es ≡ Some (ms, s)
    → (t at : ℕ) (f : Frame) → frame_from_bottom s t at ≡ Some f → f.visit ≡ None → next_node f.work ≡ node_if (next_of tree f.last)
goes_along tree input es ms s ran t at f is between =
    (on_edges (tree_code tree) input es ms s ran).next t at f is between ∙ ap node_if (flow_next tree f.last)
