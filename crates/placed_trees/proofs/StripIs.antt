-- What the placement adds is new, and what a program has is old: so the placed program without its new operations is the program.
use Rattle.std.proofs.Common.{◌≡◌, ℕ, ◌+◌, ◌≤◌, max, Bool, true, false, List, [], ◌∷◌, ◌++◌, Option, Some, None, ap, arith}
use Rattle.std.specs.Prelude.{nat_le}
use Rattle.cfix_base.specs.declared.number.OrderId.{OrderId}
use Rattle.cfix_base.specs.declared.op.Op.{Op}
use Rattle.cfix_base.specs.declared.op.Op.TheVariants.{Leave, First, Done, Wait, Enter, Add}
use Rattle.cfix_base.specs.declared.place.Place.{Place}
use Rattle.c_prog.specs.declared.tree.Tree.{Tree}
use Rattle.flow_graph.specs.Flow as flows
use Rattle.flow_graph.specs.Flow.{tree_edges}
use Rattle.cfix_base.specs.declared.mark.Marks.{Marks}
use Rattle.c_prog.specs.Marks.{is_new, is_new_start, greatest, above_lock, above_order, above_start, tree_all, tree_marks}
use Rattle.layout_laws.specs.Layout.{Layout, place_function}
use Rattle.placed_trees.specs.Placement.{OrderPlan, Plan, Edge, within, one_if, each_from, lock, order, leaves_class, enters_class, passes_first, finishes, awaits, adds_order, new_ops}
use Rattle.c_prog.specs.Strip.{strip_tree}
use Rattle.layout_laws.specs.TreeLayout.{layout_of}
use Rattle.placed_trees.specs.TreeOps.{edge_at, edge_ops, tree_ops, start_if, starts_from, tree_starts, placed_tree}
use Rattle.placed_trees.proofs.StripPlaced.{AllAre, are_append, tree_back}

le_true : (a b : ℕ) → a ≤ b → nat_le a b ≡ true
le_true a b h = grind arith

gt_false : (a b : ℕ) → b + 1 ≤ a → nat_le a b ≡ false
gt_false a b h = grind arith

module _ (m : Marks) where
  each_fresh : {X : Type 0} (test : X → Bool) (op : ℕ → Op) (low : ℕ) → ((i : ℕ) → low ≤ i → is_new m (op i) ≡ true) → (k : ℕ) → low ≤ k → (xs : List X)
      → AllAre (is_new m) true (each_from test op k xs)
  each_fresh test op low ok k above [] = tt
  each_fresh test op low ok k above (x ∷ xs) = more (test x) (each_fresh test op low ok (k + 1) (omega arith) xs)
    where
      more : (b : Bool) → AllAre (is_new m) true (each_from test op (k + 1) xs) → AllAre (is_new m) true (one_if b (op k) ++ each_from test op (k + 1) xs)
      more true h = (ok k above, h)
      more false h = h

  new_fresh : (y : Layout) (plan : Plan) (f : ℕ) (e : Edge) → AllAre (is_new m) true (new_ops y m plan f e)
  new_fresh y plan f e =
      let a = each_fresh (leaves_class f e) (λ k. Leave (lock k)) m.lock (λ i h. le_true m.lock i h) m.lock (omega arith) plan.classes in
      let b = each_fresh (passes_first e) (λ j. First (order j)) m.order (λ i h. le_true m.order i h) m.order (omega arith) plan.orders in
      let d = each_fresh (finishes (plan.roots f) e) (λ j. Done (order j)) m.order (λ i h. le_true m.order i h) m.order (omega arith) plan.orders in
      let w = each_fresh (awaits e) (λ j. Wait (order j)) m.order (λ i h. le_true m.order i h) m.order (omega arith) plan.orders in
      let x = each_fresh (enters_class f e) (λ k. Enter (lock k)) m.lock (λ i h. le_true m.lock i h) m.lock (omega arith) plan.classes in
      let z = each_fresh (adds_order y e) (λ j. Add (order j)) m.order (λ i h. le_true m.order i h) m.order (omega arith) plan.orders in
      let at = is_new m in
      are_append at true _ _ a (are_append at true _ _ b (are_append at true _ _ d (are_append at true _ _ w (are_append at true _ _ x z))))

  edge_fresh : (y : Layout) (plan : Plan) (p : Place) (o : Option flows.Edge) → AllAre (is_new m) true (edge_ops y m plan p o)
  edge_fresh y plan p None = tt
  edge_fresh y plan p (Some e) = new_fresh y plan (place_function y p) (record { from = e.source; into = e.target })

  starts_fresh : (first : Option ℕ) (k : ℕ) (os : List OrderPlan) → m.order ≤ k → AllAre (is_new_start m) true (starts_from first k os)
  starts_fresh first k [] above = tt
  starts_fresh first k (o ∷ os) above = more (within o.may first) (starts_fresh first (k + 1) os (omega arith))
    where
      more : (b : Bool) → AllAre (is_new_start m) true (starts_from first (k + 1) os) → AllAre (is_new_start m) true (start_if b k ++ starts_from first (k + 1) os)
      more true h = (le_true m.order k above, h)
      more false h = h

  op_old : (o : Op) → above_lock o ≤ m.lock → above_order o ≤ m.order → is_new m o ≡ false
  op_old (Leave k) a b = gt_false m.lock k.number a
  op_old (Enter k) a b = gt_false m.lock k.number a
  op_old (First j) a b = gt_false m.order j.number b
  op_old (Done j) a b = gt_false m.order j.number b
  op_old (Wait j) a b = gt_false m.order j.number b
  op_old (Add j) a b = gt_false m.order j.number b

  all_old : (ops : List Op) → greatest above_lock ops ≤ m.lock → greatest above_order ops ≤ m.order → AllAre (is_new m) false ops
  all_old [] a b = tt
  all_old (o ∷ ops) a b = (op_old o (omega arith) (omega arith), all_old ops (omega arith) (omega arith))

  starts_old : (js : List OrderId) → greatest above_start js ≤ m.order → AllAre (is_new_start m) false js
  starts_old [] b = tt
  starts_old (j ∷ js) b = (gt_false m.order j.number (omega arith), starts_old js (omega arith))

-- the program that the placement makes, without its new operations, is the program
pub strip_is : (tree : Tree) (m : Marks) (plan : Plan) → m ≡ tree_marks tree → strip_tree m (placed_tree tree m plan) ≡ tree
strip_is tree m plan marks =
    let locks : m.lock ≡ greatest above_lock (tree_all tree) = ap (λ k. k.lock) marks in
    let orders : m.order ≡ max (greatest above_order (tree_all tree)) (greatest above_start tree.starts) = ap (λ k. k.order) marks in
    tree_back m (tree_ops tree m plan) (λ p. edge_fresh m (layout_of tree) plan p (edge_at p (tree_edges tree))) tree (tree_starts tree m plan)
    (all_old m (tree_all tree) (omega arith) (omega arith)) (starts_old m tree.starts (omega arith))
    (starts_fresh m _ m.order plan.orders (omega arith))
