-- The number of nodes is the length of their order, and each number below it is that of a node.
use Rattle.std.proofs.Common.{◌≡◌, ℕ, zero, suc, ◌<◌, List, [], ◌∷◌, map, length, slice_get, Option, Some, None, subst, refl, ap, sym, ◌∙◌, arith}
use Rattle.std.proofs.lemmas.List.{length-append}
use Rattle.c_prog.specs.declared.function.Function.{Function}
use Rattle.c_prog.specs.declared.stmt.Step.{Step}
use Rattle.c_prog.specs.declared.stmt.Stmt.{Stmt}
use Rattle.c_prog.specs.declared.stmt.Stmt.TheVariants as stmt
use Rattle.c_prog.specs.declared.stmt.Stmt.TheViews.{roll-Stmt}
use Rattle.c_prog.specs.declared.stmt.Stmt.TheOpen.{Stmt-F}
use Rattle.c_prog.specs.declared.stmt.Stmt.TheFolds.{ind-Stmt, map-Stmt}
use Rattle.c_prog.specs.declared.tree.Tree.{Tree}
use Rattle.c_prog.specs.Nodes.{nodes, nodes_of, step_nodes, functions_nodes, tree_nodes}
use Rattle.c_prog.specs.Order.{Node, order, order_of, step_order, function_order, functions_order, tree_order, node_at}
use Rattle.c_prog.proofs.Equations.{nodes-Simple, nodes-Jump, nodes-If, nodes-Loop, nodes-Block, order-Simple, order-Jump, order-If, order-Loop, order-Block}

abbrev Counts : Stmt → Type 0
Counts s = length (order s) ≡ nodes s

abbrev E : Type 0
E = (s : Stmt) × Counts s

abbrev stmts : List E → List Stmt
stmts es = map (λ e. e.0) es

all-count : (es : List E) → length (order_of (stmts es)) ≡ nodes_of (stmts es)
all-count [] = refl
all-count (e ∷ es) = omega (arith, length-append (order e.0) (order_of (stmts es)), e.1, all-count es)

step-count : (s : Option Step) → length (step_order s) ≡ step_nodes s
step-count None = refl
step-count (Some s) = refl

level : (y : Stmt-F E) → Counts (roll-Stmt (map-Stmt E Stmt (λ e. e.0) y))
level (Stmt-F.Simple a ops) =
    subst Counts (sym (stmt.rolls-Simple a ops)) (ap length (order-Simple a ops) ∙ sym (nodes-Simple a ops))
level (Stmt-F.Jump j ops) =
    subst Counts (sym (stmt.rolls-Jump j ops)) (ap length (order-Jump j ops) ∙ sym (nodes-Jump j ops))
level (Stmt-F.If c x y) =
    subst Counts (sym (stmt.rolls-If c (stmts x) (stmts y)))
    (ap length (order-If c (stmts x) (stmts y))
    ∙ omega (arith, length-append (order_of (stmts x)) (order_of (stmts y)), all-count x, all-count y, nodes-If c (stmts x) (stmts y)))
level (Stmt-F.Loop c s x) =
    subst Counts (sym (stmt.rolls-Loop c s (stmts x)))
    (ap length (order-Loop c s (stmts x))
    ∙ omega (arith, length-append (step_order s) (order_of (stmts x)), step-count s, all-count x, nodes-Loop c s (stmts x)))
level (Stmt-F.Block x) =
    subst Counts (sym (stmt.rolls-Block (stmts x)))
    (ap length (order-Block (stmts x)) ∙ all-count x ∙ sym (nodes-Block (stmts x)))

-- of a statement
pub order-length : (s : Stmt) → length (order s) ≡ nodes s
order-length = ind-Stmt Counts (λ x y is. subst (λ z. Counts (roll-Stmt z)) is (level y))

-- of statements, one after another
pub order_of-length : (list : List Stmt) → length (order_of list) ≡ nodes_of list
order_of-length [] = refl
order_of-length (s ∷ list) = omega (arith, length-append (order s) (order_of list), order-length s, order_of-length list)

-- of functions, one after another
pub functions_order-length : (list : List Function) → length (functions_order list) ≡ functions_nodes list
functions_order-length [] = refl
functions_order-length (f ∷ list) =
    omega (arith, length-append (function_order f) (functions_order list), order_of-length f.body, functions_order-length list)

-- of a program
pub tree_order-length : (t : Tree) → length (tree_order t) ≡ tree_nodes t
tree_order-length t = functions_order-length t.functions

within-list : {A : Type 0} (list : List A) (n : ℕ) → n < length list → (x : A) × (slice_get list n ≡ Some x)
within-list [] n is = absurd (omega (arith, is))
within-list (x ∷ list) zero is = (x, refl)
within-list (x ∷ list) (suc n) is = within-list list n (omega (arith, is))

-- a number below the number of nodes is that of a node
pub node_at-within : (t : Tree) (n : ℕ) → n < tree_nodes t → (node : Node) × (node_at t n ≡ Some node)
node_at-within t n is = within-list (tree_order t) n (omega (arith, is, tree_order-length t))
