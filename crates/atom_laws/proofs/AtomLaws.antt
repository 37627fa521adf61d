-- No run without timeouts of the lock has a reported atomicity violation.
use Rattle.std.proofs.Common.{◌≡◌, inl, inr, ℕ, ℤ, ◌<◌, Bool, true, List, [], ◌∷◌, ◌++◌, Option, Some, None, refl, sym, ap, ◌∙◌, subst}
use Rattle.cfix_base.specs.declared.access.AccessId.{AccessId}
use Rattle.cfix_base.specs.declared.entry.Entry.{Entry}
use Rattle.cfix_base.specs.declared.number.NodeId.{NodeId}
use Rattle.c_prog.specs.declared.tree.Tree.{Tree}
use Rattle.step_state.specs.declared.event.Event.{Event}
use Rattle.step_state.specs.declared.event.Event.TheVariants as event
use Rattle.step_state.specs.declared.frame.Frame.{Frame}
use Rattle.step_state.specs.declared.state.Configuration.{Configuration}
use Rattle.step_state.specs.Code.{Code, node}
use Rattle.step_state.specs.Run.{Seen, run}
use Rattle.step_state.specs.Spots.{At, spot, spot_of}
use Rattle.step_state.specs.Start.{start}
use Rattle.lock_laws.specs.Coverage.{Covers, kept_in}
use Rattle.lock_laws.specs.Guard.{Carries}
use Rattle.lock_laws.specs.Inside.{IsAt, Inside}
use Rattle.layout_laws.specs.Layout.{Layout, Calls, IsLaidOut}
use Rattle.atom_laws.specs.NextVisit.{Forward, Backward, Contains, VisitsIn, Foreign, NextViolation, SameViolation}
use Rattle.frame_laws.specs.Trail.{Every, SomeStep}
use Rattle.access_laws.specs.Access.{IsAccess}
use Rattle.step_tables.specs.TreeCode.{tree_code}
use Rattle.layout_laws.specs.TreeLayout.{layout_of}
use Rattle.atom_laws.specs.Violations.{Along, inmost_first, path_start, Accesses, Remote, AtomSame, AtomNext, NoAtomSame, NoAtomNext}
use Rattle.access_laws.proofs.AccessVisits.{AccessAt, TopAt, AllShaped, Placed, all_placed}
use Rattle.lock_laws.proofs.Counts.{good_start}
use Rattle.frame_laws.proofs.Trails.{every_left, every_right, assoc, run_trail}
use Rattle.layout_laws.proofs.TreeLaid.{laid_out}
use Rattle.atom_laws.proofs.VisitLaws.{no_same_violation, no_next_violation, in_time}

-- the outermost of these nodes, of which the first is the innermost
abbrev pub outermost : ℕ → List ℕ → ℕ
outermost n [] = n
outermost n (m ∷ ms) = outermost m ms

outermost_on : (n : ℕ) (ms : List ℕ) (m : ℕ) (ns : List ℕ) → outermost n (inmost_first ms (m ∷ ns)) ≡ outermost m ns
outermost_on n [] m ns = refl
outermost_on n (l ∷ ms) m ns = outermost_on n ms l (m ∷ ns)

outermost_is : (n : ℕ) (ms : List ℕ) → outermost n (inmost_first ms []) ≡ path_start ms n
outermost_is n [] = refl
outermost_is n (m ∷ ms) = outermost_on n ms m []

-- the access of a step is at the node that its top frame visits
access_at : (id : AccessId) (visit : Option NodeId) (ev : Event) → IsAccess id ev → AccessAt visit ev → visit ≡ Some (node id.node.number)
access_at id visit (event.Read site i v) is h = h ∙ ap (λ x. Some (node x.node.number)) is
access_at id visit (event.Write site i v) is h = h ∙ ap (λ x. Some (node x.node.number)) is
access_at id visit _ is h = absurd is

pub some_right : (Q : Seen → Type 0) (a b : List Seen) → SomeStep Q b → SomeStep Q (a ++ b)
some_right Q [] b h = h
some_right Q (m ∷ a) b h = inr (some_right Q a b h)

pub some_map : (H Q R : Seen → Type 0) → ((m : Seen) → H m → Q m → R m) → (ms : List Seen) → Every H ms → SomeStep Q ms → SomeStep R ms
some_map H Q R f [] h q = q
some_map H Q R f (m ∷ ms) h (inl q) = inl (f m h.0 q)
some_map H Q R f (m ∷ ms) h (inr q) = inr (some_map H Q R f ms h.1 q)

same_at : (a b : ℕ) → At a ≡ At b → a ≡ b
same_at a b e = cc

module _ (c : Code) (y : Layout) (laid : IsLaidOut c y) where
  abbrev IsPlaced : Seen → Type 0
  IsPlaced m = Placed c y laid m

  abbrev IsVisit : Option NodeId → Type 0
  IsVisit o = (n : NodeId) × (o ≡ Some n)

  calls_visit : (f : ℕ) (visit : Option NodeId) → Calls y f visit → IsVisit visit
  calls_visit f None h = absurd h
  calls_visit f (Some n) h = (n, refl)

  -- a frame in a visit is at the node that it visits
  visit_is : (f : Frame) (n : ℕ) → IsVisit f.visit → spot_of f ≡ At n → f.visit ≡ Some (node n)
  visit_is f n v at = v.1 ∙ ap (λ k. Some (node k)) (same_at v.0.number n (sym (ap (λ o. spot o f.last f.work) v.1) ∙ at))

  -- a path of call nodes leads to the frame with the number
  along_visits : (m t serial n : ℕ) (ns : List ℕ) (f : Frame) (below : List Frame) → IsVisit f.visit → AllShaped c y laid m t (f ∷ below) → Along serial (n ∷ ns) (f ∷ below)
      → VisitsIn serial (outermost n ns) (f ∷ below)
  along_visits m t serial n [] f below v all h = inl (h.0, visit_is f n v h.1)
  along_visits m t serial n (l ∷ ns) f [] v all h = absurd h.1
  along_visits m t serial n (l ∷ ns) f (g ∷ below) v all h =
      inr (along_visits m t serial l ns g below (calls_visit f.of.number g.visit all.0.under) all.1 h.1)

  -- the step of an access, as its thread's frames stand before it
  step_visits : (m : Seen) (id : AccessId) (serial : ℕ) (ns : List ℕ) (fs : List Frame) (ev : Event) (made t : ℕ) → AllShaped c y laid made t fs → TopAt fs ev → IsAccess id ev
      → Along serial (id.node.number ∷ ns) fs → VisitsIn serial (outermost id.node.number ns) fs
  step_visits m id serial ns [] ev made t all top is h = absurd top
  step_visits m id serial ns (f ∷ below) ev made t all top is h =
      along_visits made t serial id.node.number ns f below (node id.node.number, access_at id f.visit ev is top) all h

  access_visits : (t serial : ℕ) (path : List ℕ) (id : AccessId) (m : Seen) → IsPlaced m → Accesses t serial path id m → VisitsIn serial (path_start path id.node.number) m.before
  access_visits t serial path id m at a =
      subst (λ n. VisitsIn serial n m.before) (outermost_is id.node.number path)
      (step_visits m id serial (inmost_first path []) m.before m.event at.made m.entry.thread at.shapes at.top a.access a.stack)

  -- an access of another thread at a node of the set
  remote_inside : (set : ℕ → Bool) (id : AccessId) (fs : List Frame) (ev : Event) → set id.node.number ≡ true → TopAt fs ev → IsAccess id ev → Inside set fs
  remote_inside set id [] ev e top is = absurd top
  remote_inside set id (f ∷ below) ev e top is = inl (subst (IsAt set) (sym (access_at id f.visit ev is top)) e)

  remote_foreign : (t : ℕ) (set : ℕ → Bool) (id : AccessId) → set id.node.number ≡ true → (m : Seen) → IsPlaced m → Remote t id m → Foreign t set m
  remote_foreign t set id e m at r = record { other = r.other; inside = remote_inside set id m.before m.event e at.top r.access }

  same_is : (np : ℕ) (p d r : AccessId) (p_path d_path : List ℕ) (set : ℕ → Bool) (ms : List Seen) → set r.node.number ≡ true → path_start d_path d.node.number ≡ np
      → Every IsPlaced ms → AtomSame np p d r p_path d_path ms → SameViolation np set ms
  same_is np p d r p_path d_path set ms e begins_at every v =
      let whole : ms ≡ v.before ++ v.begin ∷ ((v.early ++ v.p_step ∷ v.late) ++ v.c_step ∷ v.after) =
      v.whole ∙ ap (λ x. v.before ++ v.begin ∷ x) (sym (assoc v.early (v.p_step ∷ v.late) (v.c_step ∷ v.after))) in
      let all = every_right IsPlaced v.before (v.begin ∷ ((v.early ++ v.p_step ∷ v.late) ++ v.c_step ∷ v.after)) (subst (Every IsPlaced) whole every) in
      let during = every_left IsPlaced (v.early ++ v.p_step ∷ v.late) (v.c_step ∷ v.after) all.1 in
      let here = every_right IsPlaced (v.early ++ v.p_step ∷ v.late) (v.c_step ∷ v.after) all.1 in
      record {
        t = v.t;
        serial = v.serial;
        before = v.before;
        first = v.begin;
        during = v.early ++ v.p_step ∷ v.late;
        last = v.c_step;
        after = v.after;
        whole = whole;
        begins = v.begins;
        same = v.one_visit;
        in_n = v.c_event.thread;
        visits_n = subst (λ n. VisitsIn v.serial n v.c_step.before) begins_at (access_visits v.t v.serial d_path d v.c_step here.0 v.c_event);
        crossed = some_map IsPlaced (Remote v.t r) (Foreign v.t set) (remote_foreign v.t set r e) (v.early ++ v.p_step ∷ v.late) during
            (some_right (Remote v.t r) v.early (v.p_step ∷ v.late) (inr v.between));
      }

  next_is : (np nc : ℕ) (p d r : AccessId) (p_path d_path : List ℕ) (set : ℕ → Bool) (ms : List Seen) → set r.node.number ≡ true → path_start d_path d.node.number ≡ nc
      → Every IsPlaced ms → AtomNext np nc p d r p_path d_path ms → NextViolation np nc set ms
  next_is np nc p d r p_path d_path set ms e begins_at every v =
      let tail = v.during ++ v.c_step ∷ v.after in
      let between = v.early ++ v.p_step ∷ v.late in
      let whole : ms ≡ v.before ++ v.begin_p ∷ (between ++ v.begin_c ∷ tail) =
      v.whole ∙ ap (λ x. v.before ++ v.begin_p ∷ x) (sym (assoc v.early (v.p_step ∷ v.late) (v.begin_c ∷ tail))) in
      let all = every_right IsPlaced v.before (v.begin_p ∷ (between ++ v.begin_c ∷ tail)) (subst (Every IsPlaced) whole every) in
      let right = every_right IsPlaced between (v.begin_c ∷ tail) all.1 in
      let here = every_right IsPlaced v.during (v.c_step ∷ v.after) right.1 in
      let joined : between ++ v.begin_c ∷ tail ≡ (between ++ v.begin_c ∷ v.during) ++ v.c_step ∷ v.after = sym (assoc between (v.begin_c ∷ v.during) (v.c_step ∷ v.after)) in
      let crossing = every_left IsPlaced (between ++ v.begin_c ∷ v.during) (v.c_step ∷ v.after) (subst (Every IsPlaced) joined all.1) in
      let spread : SomeStep (Remote v.t r) (between ++ v.begin_c ∷ v.during) =
      subst (SomeStep (Remote v.t r)) (sym (assoc v.early (v.p_step ∷ v.late) (v.begin_c ∷ v.during)))
      (some_right (Remote v.t r) v.early (v.p_step ∷ (v.late ++ v.begin_c ∷ v.during)) (inr v.between)) in
      record {
        t = v.t;
        serial = v.serial;
        before = v.before;
        first = v.begin_p;
        between = between;
        second = v.begin_c;
        during = v.during;
        last = v.c_step;
        after = v.after;
        whole = whole;
        begins_np = v.begins_np;
        begins_nc = v.begins_nc;
        quiet = v.quiet;
        same = v.in_nc;
        in_nc = v.c_event.thread;
        visits_nc = subst (λ n. VisitsIn v.serial n v.c_step.before) begins_at (access_visits v.t v.serial d_path d v.c_step here.0 v.c_event);
        crossed = some_map IsPlaced (Remote v.t r) (Foreign v.t set) (remote_foreign v.t set r e) (between ++ v.begin_c ∷ v.during) crossing spread;
      }

-- of programs
module _ (tree : Tree) (set covered : ℕ → Bool) (k : ℕ) (carries : Carries (tree_code tree) (layout_of tree) (kept_in (layout_of tree) set covered) k)
    (covers : Covers (layout_of tree) set covered) (few : k < (tree_code tree).locks) where
  abbrev c : Code
  c = tree_code tree

  abbrev y : Layout
  y = layout_of tree

  placed_run : (input : List ℤ) (es : List Entry) (ms : List Seen) (end : Configuration) → run c input es ≡ Some (ms, end) → Every (Placed c y (laid_out tree)) ms
  placed_run input es ms end ran =
      all_placed c y (laid_out tree) ms (start c input) end (run_trail c es (start c input) ms end ran)
      (good_start (kept_in y set covered) k c y carries (laid_out tree) few input).shapes

  pub no_atom_same : (np : ℕ) (p d r : AccessId) (p_path d_path : List ℕ) → set np ≡ true → set r.node.number ≡ true → path_start d_path d.node.number ≡ np
      → (input : List ℤ) (es : List Entry) → NoAtomSame tree np p d r p_path d_path k input es
  no_atom_same np p d r p_path d_path at_np at_r begins_at input es = record {
    none = λ ms end ran none v.
        no_same_violation c y (laid_out tree) set covered k carries covers few input np at_np ms end (run_trail c es (start c input) ms end ran)
        (in_time c y (laid_out tree) set covered k carries covers few ms none)
        (same_is c y (laid_out tree) np p d r p_path d_path set ms at_r begins_at (placed_run input es ms end ran) v);
  }

  pub no_atom_next : (np nc : ℕ) (p d r : AccessId) (p_path d_path : List ℕ) (fwd back : ℕ → Type 0) → Forward c y np nc fwd → Backward c y np nc back
      → Contains np nc fwd back set → set r.node.number ≡ true → path_start d_path d.node.number ≡ nc
      → (input : List ℤ) (es : List Entry) → NoAtomNext tree np nc p d r p_path d_path k input es
  no_atom_next np nc p d r p_path d_path fwd back forward backward contains at_r begins_at input es = record {
    none = λ ms end ran none v.
        no_next_violation c y (laid_out tree) set covered k carries covers few input np nc fwd forward back backward contains ms end
        (run_trail c es (start c input) ms end ran) (in_time c y (laid_out tree) set covered k carries covers few ms none)
        (next_is c y (laid_out tree) np nc p d r p_path d_path set ms at_r begins_at (placed_run input es ms end ran) v);
  }
