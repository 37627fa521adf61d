-- The laws of locks, orders and erasure, of programs with placed operations.
use Rattle.std.proofs.Common.{◌≡◌, ◌≢◌, ◌⊎◌, ⊎_elim, inl, inr, ℕ, zero, suc, ◌+◌, ◌<◌, ◌≤◌, ℤ, Bool, true, false, List, [], ◌∷◌, ◌++◌, Option, Some, None, slice_get, refl, sym, ap, ◌∙◌, subst, arith}
use Rattle.std.proofs.Math.Dec.{eqb}
use Rattle.std.proofs.lemmas.Bool.Decides.{eqb_tells}
use Rattle.cfix_base.specs.declared.access.AccessId.{AccessId}
use Rattle.cfix_base.specs.declared.entry.Entry.{Entry}
use Rattle.cfix_base.specs.declared.mark.Marks.{Marks}
use Rattle.cfix_base.specs.declared.place.Place.{Place}
use Rattle.c_prog.specs.Marks.{tree_marks}
use Rattle.c_prog.specs.Strip.{strip_tree}
use Rattle.c_prog.specs.Valid.{IsValid}
use Rattle.c_prog.specs.declared.tree.Tree.{Tree}
use Rattle.flow_graph.specs.Flow.{tree_edges}
use Rattle.flow_graph.specs.Paths.{Link}
use Rattle.step_state.specs.Code.{Code}
use Rattle.step_state.specs.Erase.{strip_code}
use Rattle.step_state.specs.declared.item.Item.{Item}
use Rattle.step_state.specs.declared.item.Operand.{Operand}
use Rattle.step_tables.specs.TreeCode.{tree_code}
use Rattle.layout_laws.specs.Layout.{Live}
use Rattle.layout_laws.specs.TreeLayout.{layout_of}
use Rattle.erase_laws.specs.Repairs.{AddsNothing}
use Rattle.erase_laws.proofs.Adds.{adds_nothing}
use Rattle.erase_laws.proofs.TreeStrip.{code_strip}
use Rattle.lock_laws.specs.Coverage.{Covers}
use Rattle.atom_laws.specs.NextVisit.{Leads}
use Rattle.atom_laws.proofs.AtomLaws.{no_atom_same}
use Rattle.atom_laws.proofs.ForcedOrder.{no_atom_later}
use Rattle.order_laws.specs.OrderRuns.{IsCertain}
use Rattle.order_laws.specs.Tokens.{HasAccess, Signals}
use Rattle.order_laws.proofs.OrderLaws.{no_all_before, no_first_before}
use Rattle.placed_trees.specs.Placement.{ClassPlan, OrderPlan, Plan}
use Rattle.placed_trees.specs.TreeOps.{placed_tree}
use Rattle.placed_trees.proofs.Comings.{live_link, next_some}
use Rattle.placed_trees.proofs.Creating.{creates_once}
use Rattle.placed_trees.proofs.PlacedLaws.{lock_placed, order_begins, order_placed, order_sets_none}
use Rattle.placed_trees.proofs.StripIs.{strip_is}
use Rattle.placed_trees.proofs.TreeSignals.{next_is, same_layout}
use Rattle.frame_laws.specs.Trail.{Every, SomeStep}
use Rattle.frame_laws.proofs.Trails.{every_left, every_right}
use Rattle.step_state.specs.Run.{Seen, run}
use Rattle.step_state.specs.declared.state.Configuration.{Configuration}
use Rattle.layout_laws.proofs.TreeLaid.{laid_out}
use Rattle.lock_laws.specs.Coverage.{kept_in}
use Rattle.lock_laws.specs.Guard.{bit, in_set}
use Rattle.atom_laws.specs.Violations.{Remote}
use Rattle.visit_laws.specs.Unvisited.{IsShut, NoEvent}
use Rattle.visit_laws.proofs.OpsBelow.{no_such_lock, no_such_order}
use Rattle.visit_laws.proofs.Unvisited.{no_access, no_covered_access}
use Rattle.repair_laws.specs.NoViolations.{NoAtomicityViolation, NoOrderViolation}
use Rattle.repair_laws.specs.Plans.{IsPlan}
use Rattle.repair_laws.specs.Regions.{Region}

-- the placed program does what the program does
pub placed_adds_nothing : (tree : Tree) (m : Marks) (plan : Plan) → m ≡ tree_marks tree → (input : List ℤ) (es : List Entry)
    → AddsNothing tree (placed_tree tree m plan) m input es
placed_adds_nothing tree m plan marks input es = adds_nothing tree (placed_tree tree m plan) m marks (strip_is tree m plan marks) input es

below_or_not : (k n : ℕ) → (k < n) ⊎ (n ≤ k)
below_or_not k zero = inr (omega arith)
below_or_not zero (suc n) = inl (omega arith)
below_or_not (suc k) (suc n) = up (below_or_not k n)
  where
    up : (k < n) ⊎ (n ≤ k) → (suc k < suc n) ⊎ (suc n ≤ suc k)
    up (inl e) = inl (omega arith)
    up (inr e) = inr (omega arith)

own_number : (a b : ℕ) → a ≡ b → eqb a b ≡ true
own_number a b e = ⊎_elim (λ (p : (eqb a b ≡ true) × (a ≡ b)). p.0) (λ (p : (eqb a b ≡ false) × (a ≢ b)). absurd (p.1 e)) (eqb_tells a b)

-- steps of which none is an event of the access
no_remote : (t : ℕ) (id : AccessId) (ms : List Seen) → Every (NoEvent id) ms → SomeStep (Remote t id) ms → ⊥
no_remote t id [] none some = some
no_remote t id (s ∷ ms) none (inl h) = none.0 h.access
no_remote t id (s ∷ ms) none (inr h) = no_remote t id ms none.1 h

module _ (tree : Tree) (m : Marks) (plan : Plan) (marks : m ≡ tree_marks tree) (good : IsPlan tree plan) where
  abbrev q : Tree
  q = placed_tree tree m plan

  abbrev NoneMade : AccessId → Type 0
  NoneMade id = (input : List ℤ) (es : List Entry) (ms : List Seen) (last : Configuration) → run (tree_code q) input es ≡ Some (ms, last)
      → Every (NoEvent id) ms

  is : strip_tree m q ≡ tree
  is = strip_is tree m plan marks

  same : layout_of tree ≡ layout_of q
  same = sym (same_layout tree m plan good.nodes is)

  -- an edge of the placed program is one of the program
  link : (place : Place) (u v : ℕ) → Leads (tree_code q) (layout_of q) place u v → Link (tree_edges tree) u v
  link place u v l =
      live_link tree place u v (subst (λ y. Live y place) (sym same) l.live) l.from
      (next_some tree place v (sym (next_is tree m plan good.nodes is place) ∙ l.into))

  guarded : (n : ℕ) (class : ClassPlan) → slice_get plan.classes n ≡ Some class → m.lock + n < (tree_code q).locks
      → (g : Region) (input : List ℤ) (es : List Entry) → NoAtomicityViolation tree q class (m.lock + n) g input es
  guarded n class at few g input es =
      let carries = lock_placed tree m plan marks good.nodes n class at in
      let covers : Covers (layout_of q) class.nodes class.covered = subst (λ y. Covers y class.nodes class.covered) same (good.covers n class at) in
      record {
        in_one_visit = λ h.
            no_atom_same q class.nodes class.covered (m.lock + n) carries covers few g.np g.p g.c g.r g.p_path g.c_path h.begins h.remote h.later input es;
        to_next_visit = λ h.
            no_atom_later q class.nodes class.covered (m.lock + n) carries covers few (tree_edges tree) link
            g.np g.nc g.p g.c g.r g.p_path g.c_path h.inner h.path h.avoids h.on h.remote h.later input es;
      }

  -- a lock that the placed program has not: no edge leads into its class, so no access is made there
  lock_missed : (n : ℕ) (class : ClassPlan) → slice_get plan.classes n ≡ Some class → (tree_code q).locks ≤ m.lock + n
      → (id : AccessId) → class.nodes id.node.number ≡ true → NoneMade id
  lock_missed n class at many id inside input es ms last ran =
      let k = m.lock + n in
      let kept = kept_in (layout_of q) class.nodes class.covered in
      let carries = lock_placed tree m plan marks good.nodes n class at in
      let covers : Covers (layout_of q) class.nodes class.covered = subst (λ y. Covers y class.nodes class.covered) same (good.covers n class at) in
      let shut : IsShut (tree_code q) (layout_of q) kept = record {
        out = λ place live outside.
            let none = no_such_lock q k many place in
            let entered = carries.entered place live in
            omega arith;
      } in
      no_covered_access (tree_code q) (layout_of q) (laid_out q) class.nodes class.covered covers shut id inside input es ms last ran

  unguarded : (n : ℕ) (class : ClassPlan) → slice_get plan.classes n ≡ Some class → (tree_code q).locks ≤ m.lock + n
      → (g : Region) (input : List ℤ) (es : List Entry) → NoAtomicityViolation tree q class (m.lock + n) g input es
  unguarded n class at many g input es = record {
    in_one_visit = λ h. record {
      none = λ ms end ran missed v.
          let all = subst (Every (NoEvent g.r)) v.whole (lock_missed n class at many g.r h.remote input es ms end ran) in
          let late = (every_right (NoEvent g.r) v.before (v.begin ∷ (v.early ++ v.p_step ∷ (v.late ++ v.c_step ∷ v.after))) all).1 in
          let rest = (every_right (NoEvent g.r) v.early (v.p_step ∷ (v.late ++ v.c_step ∷ v.after)) late).1 in
          no_remote v.t g.r v.late (every_left (NoEvent g.r) v.late (v.c_step ∷ v.after) rest) v.between;
    };
    to_next_visit = λ h. record {
      none = λ ms end ran missed v.
          let front = v.before_p ++ v.begin_p ∷ (v.early ++ v.p_step ∷ v.later) in
          let all = subst (Every (NoEvent g.r)) v.whole (lock_missed n class at many g.r h.remote input es ms end ran) in
          let past = (every_right (NoEvent g.r) v.before_p (v.begin_p ∷ (v.early ++ v.p_step ∷ v.later))
          (every_left (NoEvent g.r) front (v.c_step ∷ v.after) all)).1 in
          no_remote v.t g.r v.later (every_right (NoEvent g.r) v.early (v.p_step ∷ v.later) past).1 v.between;
    };
  }

  pub no_atomicity_violation : (n : ℕ) (class : ClassPlan) → slice_get plan.classes n ≡ Some class
      → (g : Region) (input : List ℤ) (es : List Entry) → NoAtomicityViolation tree q class (m.lock + n) g input es
  no_atomicity_violation n class at g input es =
      ⊎_elim (λ few. guarded n class at few g input es) (λ many. unguarded n class at many g input es) (below_or_not (m.lock + n) (tree_code q).locks)

  -- nodes of the placed program make the accesses that those of the program make
  code : tree_code tree ≡ strip_code m (tree_code q)
  code = ap tree_code (sym is) ∙ code_strip m q (marks ∙ ap tree_marks (sym is))

  same_items : (k : ℕ) → (tree_code tree).items k ≡ (tree_code q).items k
  same_items k = ap (λ (c : Code). c.items k) code

  same_operand : (r : Operand) → (tree_code tree).operand r ≡ (tree_code q).operand r
  same_operand r = ap (λ (c : Code). c.operand r) code

  certain : (a : AccessId) → IsCertain (tree_code tree) a → IsCertain (tree_code q) a
  certain a h = record {
    access = subst (HasAccess a) (same_items a.node.number) h.access;
    operands = λ r rest has. subst (λ (x : List Item). HasAccess a (x ++ rest)) (same_operand r) (h.operands r rest has);
  }

  abbrev root : ℕ → Bool
  root u = (layout_of q).is_root ((layout_of q).function u)

  ordered : IsValid tree → (n : ℕ) (o : OrderPlan) → slice_get plan.orders n ≡ Some o → m.order + n < (tree_code q).orders
      → (a b : AccessId) → a.node.number ≡ o.a → b.node.number ≡ o.b → (input : List ℤ) (es : List Entry)
      → NoOrderViolation tree q o (m.order + n) a b input es
  ordered valid n o at room a b at_a at_b input es =
      let placed = order_placed tree m plan marks good.nodes n o at valid (good.orders n o at) good.roots in
      let signals : Signals (tree_code q) (layout_of q) (m.order + n) a.node.number b.node.number o.may root =
      subst (λ k. Signals (tree_code q) (layout_of q) (m.order + n) k b.node.number o.may root) (sym at_a)
      (subst (λ k. Signals (tree_code q) (layout_of q) (m.order + n) o.a k o.may root) (sym at_b) placed) in
      let once = creates_once q o.may in
      let begins = order_begins tree m plan marks good.nodes n o at room in
      record {
        all_before = λ all.
            no_all_before q a b (m.order + n) o.may root signals once begins (order_sets_none tree m plan marks good.nodes n o at all) input es;
        first_before = λ sure. no_first_before q a b (m.order + n) o.may root signals once begins (certain a sure) input es;
      }

  -- an order that the placed program has not: no edge leads to its second node
  order_missed : IsValid tree → (n : ℕ) (o : OrderPlan) → slice_get plan.orders n ≡ Some o → (tree_code q).orders ≤ m.order + n
      → (b : AccessId) → b.node.number ≡ o.b → NoneMade b
  order_missed valid n o at many b at_b input es ms last ran =
      no_access (tree_code q) (layout_of q) (laid_out q) (λ u. eqb u o.b) (record { out = λ place live outside. none place live ((tree_code q).next place) refl })
      b (own_number b.node.number o.b at_b) input es ms last ran
    where
      placed : Signals (tree_code q) (layout_of q) (m.order + n) o.a o.b o.may root
      placed = order_placed tree m plan marks good.nodes n o at valid (good.orders n o at) good.roots

      none : (place : Place) → Live (layout_of q) place → (next : Option ℕ) → (tree_code q).next place ≡ next → in_set (λ u. eqb u o.b) next ≡ 0
      none place live None into = refl
      none place live (Some v) into = ⊎_elim
          (λ (p : (eqb v o.b ≡ true) × (v ≡ o.b)).
          let waited = placed.waited place live (into ∙ ap Some p.1) in
          let no = no_such_order q (m.order + n) many place in
          absurd (omega arith))
          (λ (p : (eqb v o.b ≡ false) × (v ≢ o.b)). ap bit p.0) (eqb_tells v o.b)

  unordered : IsValid tree → (n : ℕ) (o : OrderPlan) → slice_get plan.orders n ≡ Some o → (tree_code q).orders ≤ m.order + n
      → (a b : AccessId) → b.node.number ≡ o.b → (input : List ℤ) (es : List Entry) → NoOrderViolation tree q o (m.order + n) a b input es
  unordered valid n o at many a b at_b input es = record {
    all_before = λ all. record {
      none = λ ms last ran late v.
          let made = subst (Every (NoEvent b)) v.whole (order_missed valid n o at many b at_b input es ms last ran) in
          (every_right (NoEvent b) v.before (v.first ∷ (v.between ++ v.second ∷ v.after)) made).0 v.is_b;
    };
    first_before = λ sure. record {
      none = λ ms last ran late v.
          let made = subst (Every (NoEvent b)) v.whole (order_missed valid n o at many b at_b input es ms last ran) in
          (every_right (NoEvent b) v.before (v.first ∷ (v.between ++ v.second ∷ v.after)) made).0 v.is_b;
    };
  }

  pub no_order_violation : IsValid tree → (n : ℕ) (o : OrderPlan) → slice_get plan.orders n ≡ Some o
      → (a b : AccessId) → a.node.number ≡ o.a → b.node.number ≡ o.b → (input : List ℤ) (es : List Entry)
      → NoOrderViolation tree q o (m.order + n) a b input es
  no_order_violation valid n o at a b at_a at_b input es = ⊎_elim
      (λ few. ordered valid n o at few a b at_a at_b input es) (λ many. unordered valid n o at many a b at_b input es)
      (below_or_not (m.order + n) (tree_code q).orders)
