-- The operations at the places of a program are among all its operations, and so below its marks.
use Rattle.std.proofs.Common.{◌≡◌, ℕ, zero, suc, ◌≤◌, max, false, List, [], ◌∷◌, ◌++◌, map, slice_get, Option, Some, None, refl, sym, ap, ◌∙◌, subst, arith}
use Rattle.cfix_base.specs.declared.op.Op.{Op}
use Rattle.cfix_base.specs.declared.op.Op.TheVariants.{Leave, First, Done, Wait, Enter, Add}
use Rattle.cfix_base.specs.declared.place.Place.{Place}
use Rattle.cfix_base.specs.declared.place.Place.TheVariants.{Start, After, True, False}
use Rattle.c_prog.specs.declared.function.Function.{Function}
use Rattle.c_prog.specs.declared.stmt.Step.{Step}
use Rattle.c_prog.specs.declared.stmt.Stmt.{Stmt}
use Rattle.c_prog.specs.declared.stmt.Stmt.TheViews.{roll-Stmt}
use Rattle.c_prog.specs.declared.stmt.Stmt.TheOpen.{Stmt-F}
use Rattle.c_prog.specs.declared.stmt.Stmt.TheFolds.{fold-roll-Stmt, ind-Stmt, map-Stmt}
use Rattle.c_prog.specs.declared.tree.Tree.{Tree}
use Rattle.c_prog.specs.Marks.{above_lock, above_order, all_level, all_of, all_ops, cond_ops, function_all, functions_all, greatest, step_ops, tree_all}
use Rattle.c_prog.specs.Order.{Node, act, cond, step, jump, function_order, functions_order, node_at, order, order_level, order_of, step_order, tree_order}
use Rattle.c_prog.specs.Places.{after_ops, false_ops, ops, start_ops, true_ops}
use Rattle.step_state.specs.Items.{some_ops}
use Rattle.step_tables.specs.TreeCode.{tree_code}
use Rattle.lock_laws.specs.Guard.{enters}
use Rattle.lock_laws.proofs.Counts.{other_bit}
use Rattle.order_laws.specs.Tokens.{waits}

-- the operations of a node
abbrev node_all : Node → List Op
node_all (act a after) = after
node_all (cond c) = cond_ops c
node_all (step s) = s.after
node_all (jump j after) = after

module _ (f : Op → ℕ) where
  abbrev most : List Node → ℕ
  most [] = 0
  most (w ∷ ws) = max (greatest f (node_all w)) (most ws)

  greatest_append : (a b : List Op) → greatest f (a ++ b) ≡ max (greatest f a) (greatest f b)
  greatest_append [] b = omega arith
  greatest_append (x ∷ a) b = omega (arith, greatest_append a b)

  most_append : (a b : List Node) → most (a ++ b) ≡ max (most a) (most b)
  most_append [] b = omega arith
  most_append (x ∷ a) b = omega (arith, most_append a b)

  abbrev Told : Stmt → Type 0
  Told s = greatest f (all_ops s) ≡ most (order s)

  abbrev E : Type 0
  E = (s : Stmt) × Told s

  abbrev stmts : List E → List Stmt
  stmts es = map (λ e. e.0) es

  all_told : (es : List E) → greatest f (all_of (stmts es)) ≡ most (order_of (stmts es))
  all_told [] = refl
  all_told (e ∷ es) =
      greatest_append (all_ops e.0) (all_of (stmts es)) ∙ (λ i. max (e.1 i) (all_told es i)) ∙ sym (most_append (order e.0) (order_of (stmts es)))

  step_told : (s : Option Step) → greatest f (step_ops s) ≡ most (step_order s)
  step_told None = refl
  step_told (Some s) = omega arith

  -- parts, one after the other
  two_told : (a b : List Op) (x y : List Node) → greatest f a ≡ most x → greatest f b ≡ most y → greatest f (a ++ b) ≡ most (x ++ y)
  two_told a b x y p q = greatest_append a b ∙ (λ i. max (p i) (q i)) ∙ sym (most_append x y)

  own : (n : ℕ) → n ≡ max n 0
  own n = omega arith

  level : (y : Stmt-F E) → Told (roll-Stmt (map-Stmt E Stmt (λ e. e.0) y))
  level (Stmt-F.Simple a after) =
      ap (greatest f) (fold-roll-Stmt (List Op) all_level (Stmt-F.Simple a after)) ∙ own (greatest f after)
      ∙ sym (ap most (fold-roll-Stmt (List Node) order_level (Stmt-F.Simple a after)))
  level (Stmt-F.Jump j after) =
      ap (greatest f) (fold-roll-Stmt (List Op) all_level (Stmt-F.Jump j after)) ∙ own (greatest f after)
      ∙ sym (ap most (fold-roll-Stmt (List Node) order_level (Stmt-F.Jump j after)))
  level (Stmt-F.If c x y) =
      ap (greatest f) (fold-roll-Stmt (List Op) all_level (Stmt-F.If c (stmts x) (stmts y)))
      ∙ greatest_append (cond_ops c) (all_of (stmts x) ++ all_of (stmts y))
      ∙ ap (max (greatest f (cond_ops c)))
      (two_told (all_of (stmts x)) (all_of (stmts y)) (order_of (stmts x)) (order_of (stmts y)) (all_told x) (all_told y))
      ∙ sym (ap most (fold-roll-Stmt (List Node) order_level (Stmt-F.If c (stmts x) (stmts y))))
  level (Stmt-F.Loop c s x) =
      ap (greatest f) (fold-roll-Stmt (List Op) all_level (Stmt-F.Loop c s (stmts x)))
      ∙ greatest_append (cond_ops c) (step_ops s ++ all_of (stmts x))
      ∙ ap (max (greatest f (cond_ops c)))
      (two_told (step_ops s) (all_of (stmts x)) (step_order s) (order_of (stmts x)) (step_told s) (all_told x))
      ∙ sym (ap most (fold-roll-Stmt (List Node) order_level (Stmt-F.Loop c s (stmts x))))
  level (Stmt-F.Block x) =
      ap (greatest f) (fold-roll-Stmt (List Op) all_level (Stmt-F.Block (stmts x))) ∙ all_told x
      ∙ sym (ap most (fold-roll-Stmt (List Node) order_level (Stmt-F.Block (stmts x))))

  told : (s : Stmt) → Told s
  told = ind-Stmt Told (λ x y is. subst (λ z. Told (roll-Stmt z)) is (level y))

  body_told : (list : List Stmt) → greatest f (all_of list) ≡ most (order_of list)
  body_told [] = refl
  body_told (s ∷ list) = two_told (all_ops s) (all_of list) (order s) (order_of list) (told s) (body_told list)

  nodes_less : (fs : List Function) → most (functions_order fs) ≤ greatest f (functions_all fs)
  nodes_less [] = omega arith
  nodes_less (g ∷ fs) =
      let a = greatest_append (function_all g) (functions_all fs) in
      let b = greatest_append g.start (all_of g.body) in
      let t = body_told g.body in
      let m = most_append (function_order g) (functions_order fs) in
      omega (arith, nodes_less fs)

  start_less : (fs : List Function) (i : ℕ) → greatest f (some_ops (start_ops (slice_get fs i))) ≤ greatest f (functions_all fs)
  start_less [] i = omega arith
  start_less (g ∷ fs) zero =
      let a = greatest_append (function_all g) (functions_all fs) in
      let b = greatest_append g.start (all_of g.body) in
      omega arith
  start_less (g ∷ fs) (suc i) = let a = greatest_append (function_all g) (functions_all fs) in omega (arith, start_less fs i)

  abbrev node_most : Option Node → ℕ
  node_most None = 0
  node_most (Some w) = greatest f (node_all w)

  node_less : (ws : List Node) (n : ℕ) → node_most (slice_get ws n) ≤ most ws
  node_less [] n = omega arith
  node_less (w ∷ ws) zero = omega arith
  node_less (w ∷ ws) (suc n) = omega (arith, node_less ws n)

  after_less : (o : Option Node) → greatest f (some_ops (after_ops o)) ≤ node_most o
  after_less None = omega arith
  after_less (Some (act a after)) = omega arith
  after_less (Some (cond c)) = omega arith
  after_less (Some (step s)) = omega arith
  after_less (Some (jump j after)) = omega arith

  true_less : (o : Option Node) → greatest f (some_ops (true_ops o)) ≤ node_most o
  true_less None = omega arith
  true_less (Some (act a after)) = omega arith
  true_less (Some (cond c)) = let a = greatest_append c.on_true c.on_false in omega arith
  true_less (Some (step s)) = omega arith
  true_less (Some (jump j after)) = omega arith

  false_less : (o : Option Node) → greatest f (some_ops (false_ops o)) ≤ node_most o
  false_less None = omega arith
  false_less (Some (act a after)) = omega arith
  false_less (Some (cond c)) = let a = greatest_append c.on_true c.on_false in omega arith
  false_less (Some (step s)) = omega arith
  false_less (Some (jump j after)) = omega arith

  -- the operations at a place
  place_less : (tree : Tree) (place : Place) → greatest f (some_ops (ops tree place)) ≤ greatest f (tree_all tree)
  place_less tree (Start g) = start_less tree.functions g.number
  place_less tree (After n) =
      let a = after_less (node_at tree n.number) in let b = node_less (tree_order tree) n.number in let c = nodes_less tree.functions in omega arith
  place_less tree (True n) =
      let a = true_less (node_at tree n.number) in let b = node_less (tree_order tree) n.number in let c = nodes_less tree.functions in omega arith
  place_less tree (False n) =
      let a = false_less (node_at tree n.number) in let b = node_less (tree_order tree) n.number in let c = nodes_less tree.functions in omega arith

-- operations below a number neither enter a lock from there on nor wait for an order from there on
none_entered : (k : ℕ) (list : List Op) → greatest above_lock list ≤ k → enters k list ≡ 0
none_entered k [] below = refl
none_entered k (Enter j ∷ list) below =
    let other = other_bit (λ n. false) k j.number (λ e. absurd (omega arith)) in omega (arith, none_entered k list (omega arith))
none_entered k (Leave j ∷ list) below = none_entered k list (omega arith)
none_entered k (First j ∷ list) below = none_entered k list (omega arith)
none_entered k (Done j ∷ list) below = none_entered k list (omega arith)
none_entered k (Wait j ∷ list) below = none_entered k list (omega arith)
none_entered k (Add j ∷ list) below = none_entered k list (omega arith)

none_awaited : (k : ℕ) (list : List Op) → greatest above_order list ≤ k → waits k list ≡ 0
none_awaited k [] below = refl
none_awaited k (Wait j ∷ list) below =
    let other = other_bit (λ n. false) k j.number (λ e. absurd (omega arith)) in omega (arith, none_awaited k list (omega arith))
none_awaited k (Leave j ∷ list) below = none_awaited k list (omega arith)
none_awaited k (First j ∷ list) below = none_awaited k list (omega arith)
none_awaited k (Done j ∷ list) below = none_awaited k list (omega arith)
none_awaited k (Enter j ∷ list) below = none_awaited k list (omega arith)
none_awaited k (Add j ∷ list) below = none_awaited k list (omega arith)

pub no_such_lock : (tree : Tree) (k : ℕ) → (tree_code tree).locks ≤ k → (place : Place) → enters k ((tree_code tree).ops place) ≡ 0
unfolding tree_code
no_such_lock tree k above place =
    let less = place_less above_lock tree place in none_entered k (some_ops (ops tree place)) (omega arith)

pub no_such_order : (tree : Tree) (j : ℕ) → (tree_code tree).orders ≤ j → (place : Place) → waits j ((tree_code tree).ops place) ≡ 0
unfolding tree_code
no_such_order tree j above place =
    let less = place_less above_order tree place in none_awaited j (some_ops (ops tree place)) (omega arith)
