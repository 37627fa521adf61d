-- The nodes of a program with further operations are its nodes with these operations.
use Rattle.std.proofs.Common.{◌≡◌, ℕ, zero, suc, ◌+◌, List, [], ◌∷◌, ◌++◌, map, length, slice_get, Option, Some, None, refl, ap, sym, ◌∙◌, subst, arith}
use Rattle.std.specs.Prelude.{option_map}
use Rattle.cfix_base.specs.declared.number.OrderId.{OrderId}
use Rattle.cfix_base.specs.declared.op.Op.{Op}
use Rattle.cfix_base.specs.declared.place.Place.{Place}
use Rattle.c_prog.specs.declared.stmt.Step.{Step}
use Rattle.c_prog.specs.declared.stmt.Stmt.{Stmt}
use Rattle.c_prog.specs.declared.stmt.Stmt.TheVariants as stmt
use Rattle.c_prog.specs.declared.stmt.Stmt.TheViews.{roll-Stmt}
use Rattle.c_prog.specs.declared.stmt.Stmt.TheOpen.{Stmt-F}
use Rattle.c_prog.specs.declared.stmt.Stmt.TheFolds.{fold-roll-Stmt, ind-Stmt, map-Stmt}
use Rattle.c_prog.specs.declared.function.Function.{Function}
use Rattle.c_prog.specs.declared.tree.Tree.{Tree}
use Rattle.c_prog.specs.Nodes.{step_nodes}
use Rattle.c_prog.specs.Order.{Node, cond, order, order_of, step_order, function_order, functions_order, tree_order, node_at}
use Rattle.c_prog.proofs.Equations.{order-Simple, order-Jump, order-If, order-Loop, order-Block}
use Rattle.std.proofs.lemmas.List.{length-append}
use Rattle.placed_trees.specs.AddOps.{Placed, sizes, build_all, cond_with, step_with, placed, placed_level, functions_with, add_ops}
use Rattle.placed_trees.specs.NodesWith.{node_with, nodes_with}

module _ (ops : Place → List Op) where
  with_append : (n : ℕ) (a b : List Node) → nodes_with ops n (a ++ b) ≡ nodes_with ops n a ++ nodes_with ops (n + length a) b
  with_append n [] b = let same : n ≡ n + 0 = omega arith in ap (λ m. nodes_with ops m b) same
  with_append n (w ∷ a) b =
      let same : n + 1 + length a ≡ n + suc (length a) = omega arith in
      ap (λ r. node_with ops n w ∷ r) (with_append (n + 1) a b ∙ ap (λ m. nodes_with ops (n + 1) a ++ nodes_with ops m b) same)

  -- the nodes of a statement that was built, from the number of its first node; and the size
  abbrev Built : Stmt → Type 0
  Built s = ((n : ℕ) → order ((placed s).build ops n) ≡ nodes_with ops n (order s)) × ((placed s).size ≡ length (order s))

  abbrev E : Type 0
  E = (s : Stmt) × Built s

  abbrev stmts : List E → List Stmt
  stmts es = map (λ e. e.0) es

  all_size : (es : List E) → sizes (map placed (stmts es)) ≡ length (order_of (stmts es))
  all_size [] = refl
  all_size (e ∷ es) = omega (arith, e.1.1, all_size es, length-append (order e.0) (order_of (stmts es)))

  all_built : (es : List E) (n : ℕ) → order_of (build_all (map placed (stmts es)) ops n) ≡ nodes_with ops n (order_of (stmts es))
  all_built [] n = refl
  all_built (e ∷ es) n =
      ap (λ r. r ++ order_of (build_all (map placed (stmts es)) ops (n + (placed e.0).size))) (e.1.0 n)
      ∙ (ap (λ r. nodes_with ops n (order e.0) ++ r) (all_built es (n + (placed e.0).size))
      ∙ (ap (λ k. nodes_with ops n (order e.0) ++ nodes_with ops (n + k) (order_of (stmts es))) e.1.1
      ∙ sym (with_append n (order e.0) (order_of (stmts es)))))

  step_built : (s : Option Step) (n : ℕ) → step_order (step_with s ops n) ≡ nodes_with ops n (step_order s)
  step_built None n = refl
  step_built (Some s) n = refl

  step_length : (s : Option Step) → step_nodes s ≡ length (step_order s)
  step_length None = refl
  step_length (Some s) = refl

  level : (y : Stmt-F E) → Built (roll-Stmt (map-Stmt E Stmt (λ e. e.0) y))
  level (Stmt-F.Simple a after) = (
    λ n. ap (λ p. order (p.build ops n)) (fold-roll-Stmt Placed placed_level (Stmt-F.Simple a after)) ∙ (order-Simple a _
        ∙ sym (ap (nodes_with ops n) (ap order (stmt.rolls-Simple a after) ∙ order-Simple a after))),
    ap (λ p. p.size) (fold-roll-Stmt Placed placed_level (Stmt-F.Simple a after)) ∙ sym (ap length (ap order (stmt.rolls-Simple a after) ∙ order-Simple a after)),
  )
  level (Stmt-F.Jump j after) = (
    λ n. ap (λ p. order (p.build ops n)) (fold-roll-Stmt Placed placed_level (Stmt-F.Jump j after)) ∙ (order-Jump j _
        ∙ sym (ap (nodes_with ops n) (ap order (stmt.rolls-Jump j after) ∙ order-Jump j after))),
    ap (λ p. p.size) (fold-roll-Stmt Placed placed_level (Stmt-F.Jump j after)) ∙ sym (ap length (ap order (stmt.rolls-Jump j after) ∙ order-Jump j after)),
  )
  level (Stmt-F.If c x y) =
      let first = order_of (stmts x) in
      let second = order_of (stmts y) in
      let rolled = ap order (stmt.rolls-If c (stmts x) (stmts y)) ∙ order-If c (stmts x) (stmts y) in (
        λ n. ap (λ p. order (p.build ops n)) (fold-roll-Stmt Placed placed_level (Stmt-F.If c (stmts x) (stmts y)))
            ∙ (order-If (cond_with c ops n) (build_all (map placed (stmts x)) ops (n + 1)) (build_all (map placed (stmts y)) ops (n + 1 + sizes (map placed (stmts x))))
            ∙ ((λ i. cond (cond_with c ops n) ∷ (all_built x (n + 1) i ++ all_built y (n + 1 + all_size x i) i))
            ∙ (ap (λ r. cond (cond_with c ops n) ∷ r) (sym (with_append (n + 1) first second)) ∙ sym (ap (nodes_with ops n) rolled)))),
        ap (λ p. p.size) (fold-roll-Stmt Placed placed_level (Stmt-F.If c (stmts x) (stmts y)))
            ∙ (omega (arith, all_size x, all_size y, length-append first second) ∙ sym (ap length rolled)),
      )
  level (Stmt-F.Loop c s x) =
      let body = order_of (stmts x) in
      let rolled = ap order (stmt.rolls-Loop c s (stmts x)) ∙ order-Loop c s (stmts x) in (
        λ n. ap (λ p. order (p.build ops n)) (fold-roll-Stmt Placed placed_level (Stmt-F.Loop c s (stmts x)))
            ∙ (order-Loop (cond_with c ops n) (step_with s ops (n + 1)) (build_all (map placed (stmts x)) ops (n + 1 + step_nodes s))
            ∙ ((λ i. cond (cond_with c ops n) ∷ (step_built s (n + 1) i ++ all_built x (n + 1 + step_length s i) i))
            ∙ (ap (λ r. cond (cond_with c ops n) ∷ r) (sym (with_append (n + 1) (step_order s) body)) ∙ sym (ap (nodes_with ops n) rolled)))),
        ap (λ p. p.size) (fold-roll-Stmt Placed placed_level (Stmt-F.Loop c s (stmts x)))
            ∙ (omega (arith, all_size x, step_length s, length-append (step_order s) body) ∙ sym (ap length rolled)),
      )
  level (Stmt-F.Block x) =
      let rolled = ap order (stmt.rolls-Block (stmts x)) ∙ order-Block (stmts x) in (
        λ n. ap (λ p. order (p.build ops n)) (fold-roll-Stmt Placed placed_level (Stmt-F.Block (stmts x)))
            ∙ (order-Block (build_all (map placed (stmts x)) ops n) ∙ (all_built x n ∙ sym (ap (nodes_with ops n) rolled))),
        ap (λ p. p.size) (fold-roll-Stmt Placed placed_level (Stmt-F.Block (stmts x))) ∙ (all_size x ∙ sym (ap length rolled)),
      )

  built : (s : Stmt) → Built s
  built = ind-Stmt Built (λ x y is. subst (λ z. Built (roll-Stmt z)) is (level y))

  list_size : (list : List Stmt) → sizes (map placed list) ≡ length (order_of list)
  list_size [] = refl
  list_size (s ∷ list) = omega (arith, (built s).1, list_size list, length-append (order s) (order_of list))

  list_built : (list : List Stmt) (n : ℕ) → order_of (build_all (map placed list) ops n) ≡ nodes_with ops n (order_of list)
  list_built [] n = refl
  list_built (s ∷ list) n =
      ap (λ r. r ++ order_of (build_all (map placed list) ops (n + (placed s).size))) ((built s).0 n)
      ∙ (ap (λ r. nodes_with ops n (order s) ++ r) (list_built list (n + (placed s).size))
      ∙ (ap (λ k. nodes_with ops n (order s) ++ nodes_with ops (n + k) (order_of list)) (built s).1
      ∙ sym (with_append n (order s) (order_of list))))

  functions_built : (fs : List Function) (number n : ℕ) → functions_order (functions_with ops number n fs) ≡ nodes_with ops n (functions_order fs)
  functions_built [] number n = refl
  functions_built (f ∷ fs) number n =
      ap (λ r. r ++ functions_order (functions_with ops (number + 1) (n + sizes (map placed f.body)) fs)) (list_built f.body n)
      ∙ (ap (λ r. nodes_with ops n (function_order f) ++ r) (functions_built fs (number + 1) (n + sizes (map placed f.body)))
      ∙ (ap (λ k. nodes_with ops n (function_order f) ++ nodes_with ops (n + k) (functions_order fs)) (list_size f.body)
      ∙ sym (with_append n (function_order f) (functions_order fs))))

  got : (ws : List Node) (n i : ℕ) → slice_get (nodes_with ops n ws) i ≡ option_map (node_with ops (n + i)) (slice_get ws i)
  got [] n i = refl
  got (w ∷ ws) n zero = let same : n ≡ n + 0 = omega arith in ap (λ m. Some (node_with ops m w)) same
  got (w ∷ ws) n (suc i) = let same : n + 1 + i ≡ n + suc i = omega arith in got ws (n + 1) i ∙ ap (λ m. option_map (node_with ops m) (slice_get ws i)) same

  -- a node of the program with further operations
  pub added_node : (tree : Tree) (starts : List OrderId) (n : ℕ) → node_at (add_ops ops starts tree) n ≡ option_map (node_with ops n) (node_at tree n)
  added_node tree starts n =
      let same : 0 + n ≡ n = omega arith in
      ap (λ l. slice_get l n) (functions_built tree.functions 0 0) ∙ (got (tree_order tree) 0 n ∙ ap (λ m. option_map (node_with ops m) (node_at tree n)) same)
