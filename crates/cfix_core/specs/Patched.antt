-- The patched program: the program with the operations of every edge, and the orders that begin
-- with a token.
use Rattle.std.specs.Prelude.{ℕ, ◌≡◌, ◌+◌, Bool, true, false, List, [], ◌∷◌, ◌++◌, map, length, All, Option, Some, None, if◌then◌else◌}
use Rattle.cfix_base.specs.declared.number.OrderId.{OrderId}
use Rattle.cfix_base.specs.declared.op.Op.{Op}
use Rattle.cfix_base.specs.declared.place.Place.{Place}
use Rattle.cfix_base.specs.declared.place.Place.TheVariants.{Start, After, True, False}
use Rattle.cfix_base.specs.declared.access.AccessId.{AccessId}
use Rattle.c_prog.specs.declared.stmt.Cond.{Cond}
use Rattle.c_prog.specs.declared.stmt.Step.{Step}
use Rattle.c_prog.specs.declared.stmt.Stmt.{Stmt}
use Rattle.c_prog.specs.declared.stmt.Stmt.TheVariants.{Simple, Jump, If, Loop, Block}
use Rattle.c_prog.specs.declared.stmt.Stmt.TheOpen.{Stmt-F}
use Rattle.c_prog.specs.declared.stmt.Stmt.TheFolds.{fold-Stmt}
use Rattle.c_prog.specs.declared.function.Function.{Function}
use Rattle.c_prog.specs.declared.tree.Tree.{Tree}
use Rattle.c_prog.specs.Nodes.{total, step_nodes, tree_nodes}
use Rattle.call_graph.specs.Calls.{IsRoot}
use Rattle.call_graph.specs.Chains.{IsCovered}
use Rattle.call_graph.specs.Sites.{calls_of}
use Rattle.flow_graph.specs.Flow.{Edge, Next, node, fn_id, function_edges, same_place}
use Rattle.flow_graph.specs.Paths.{entry}
use Rattle.plan_types.specs.declared.bound.Bound.{Bound}
use Rattle.plan_types.specs.declared.bound.Bound.TheVariants as bound
use Rattle.plan_types.specs.declared.order_plan.OrderPlan.{OrderPlan}
use Rattle.plan_types.specs.Classes.{AreClasses}
use Rattle.plan_types.specs.Sets.{IsIn}
use Rattle.cfix_core.specs.Bounds.{IsSetOf, atoms_of, AreGuards}
use Rattle.cfix_core.specs.Orders.{Reaches, MayCome}
use Rattle.cfix_core.specs.Operations.{ClassPlan, Plan, order, within, edge_ops}

-- ---- operations put at each place of a tree

-- the number of nodes of a statement, and the statement with these operations at its places, from
-- the number of its first node
pub record Placed : Type 0 where
  pub size : ℕ
  pub build : (Place → List Op) → ℕ → Stmt

abbrev pub placed_size : Placed → ℕ
placed_size placed = placed.size

abbrev pub sizes : List Placed → ℕ
sizes list = total (map placed_size list)

abbrev pub build_all : List Placed → (Place → List Op) → ℕ → List Stmt
build_all [] ops start = []
build_all (placed ∷ rest) ops start = placed.build ops start ∷ build_all rest ops (start + placed.size)

abbrev pub cond_with : Cond → (Place → List Op) → ℕ → Cond
cond_with cond ops n = record { test = cond.test; on_true = ops (True (node n)); on_false = ops (False (node n)) }

abbrev pub step_with : Option Step → (Place → List Op) → ℕ → Option Step
step_with None ops n = None
step_with (Some step) ops n = Some (record { act = step.act; after = ops (After (node n)) })

-- one level of a statement
abbrev pub placed_level : Stmt-F Placed → Placed
placed_level (Stmt-F.Simple act after) = record { size = 1; build = λ ops n. Simple act (ops (After (node n))) }
placed_level (Stmt-F.Jump jump after) = record { size = 1; build = λ ops n. Jump jump (ops (After (node n))) }
placed_level (Stmt-F.If cond as_true as_false) = record {
  size = 1 + sizes as_true + sizes as_false;
  build = λ ops n. If (cond_with cond ops n) (build_all as_true ops (n + 1)) (build_all as_false ops (n + 1 + sizes as_true));
}
placed_level (Stmt-F.Loop cond step body) = record {
  size = 1 + step_nodes step + sizes body;
  build = λ ops n. Loop (cond_with cond ops n) (step_with step ops (n + 1)) (build_all body ops (n + 1 + step_nodes step));
}
placed_level (Stmt-F.Block body) = record { size = sizes body; build = λ ops n. Block (build_all body ops n) }

abbrev pub placed : Stmt → Placed
placed = fold-Stmt Placed placed_level

-- statements with these operations at their places, from the number of their first node
abbrev pub with_ops_from : (Place → List Op) → ℕ → List Stmt → List Stmt
with_ops_from ops start list = build_all (map placed list) ops start

-- ---- the operations at a place

-- the edge of a place, unless the place is dead
abbrev pub edge_at : Place → List Edge → Option Edge
edge_at place [] = None
edge_at place (edge ∷ rest) = if same_place edge.place place then Some edge else edge_at place rest

abbrev pub ops_of_edge : Tree → Plan → ℕ → Option Edge → List Op
ops_of_edge tree plan function None = []
ops_of_edge tree plan function (Some edge) = edge_ops tree plan function edge

-- the operations at a place of the function with this number, whose edges these are
abbrev pub place_ops : Tree → Plan → ℕ → List Edge → Place → List Op
place_ops tree plan function edges place = ops_of_edge tree plan function (edge_at place edges)

abbrev pub function_with : (Place → List Op) → ℕ → ℕ → Function → Function
function_with ops number first function = record {
  name = function.name;
  kind = function.kind;
  params = function.params;
  start = ops (Start (fn_id number));
  body = with_ops_from ops first function.body;
}

abbrev pub functions_with : Tree → Plan → ℕ → ℕ → List Function → List Function
functions_with tree plan number first [] = []
functions_with tree plan number first (function ∷ rest) =
    function_with (place_ops tree plan number (function_edges tree number function)) number first function
    ∷ functions_with tree plan (number + 1) (first + total (map placed_size (map placed function.body))) rest

-- the orders that begin with a token, the numbers from j on
abbrev pub starts_from : ℕ → List OrderPlan → List OrderId
starts_from j [] = []
starts_from j (plan ∷ rest) = (if plan.starts then order j ∷ [] else []) ++ starts_from (j + 1) rest

-- the program with the operations and starts of a plan
abbrev pub with_plan : Tree → Plan → Tree
with_plan tree plan = record {
  globals = tree.globals;
  functions = functions_with tree plan 0 0 tree.functions;
  starts = starts_from 0 plan.orders;
}

-- ---- the plan of bound reports

-- the functions covered for a class
abbrev pub IsClassPlan : Tree → ClassPlan → Type 0
IsClassPlan tree plan =
    IsSetOf (length tree.functions) plan.covered (λ f. IsCovered (calls_of tree) plan.class.nodes (fn_id f))

-- the plan of the order report with this number; `entry` is the first node of main
pub record IsOrderPlan (tree : Tree) (entry : Next) (j : ℕ) (first : Bool) (a b : AccessId) (plan : OrderPlan) : Type 0 where
  pub number : plan.order ≡ order j
  pub kind : plan.first ≡ first
  pub is_a : plan.a ≡ a
  pub is_b : plan.b ≡ b
  pub may : IsSetOf (tree_nodes tree) plan.may (MayCome tree a.node.number)
  pub reaches : IsSetOf (length tree.functions) plan.reaches (Reaches tree a.node.number)
  pub starts : plan.starts ≡ within plan.may entry

-- the order reports, in order, the numbers from j on
abbrev pub AreOrderPlans : Tree → Next → ℕ → List Bound → List OrderPlan → Type 0
AreOrderPlans tree entry j [] [] = Unit {0}
AreOrderPlans tree entry j (bound.Atom atom ∷ rest) plans = AreOrderPlans tree entry j rest plans
AreOrderPlans tree entry j (bound.All a b ∷ rest) (plan ∷ plans) =
    IsOrderPlan tree entry j false a b plan × AreOrderPlans tree entry (j + 1) rest plans
AreOrderPlans tree entry j (bound.First a b ∷ rest) (plan ∷ plans) =
    IsOrderPlan tree entry j true a b plan × AreOrderPlans tree entry (j + 1) rest plans
AreOrderPlans tree entry j _ _ = ⊥

pub record IsPlan (tree : Tree) (entry : Next) (bounds : List Bound) (plan : Plan) : Type 0 where
  pub guards : List (List Bool)
  pub are_guards : AreGuards tree (atoms_of bounds) guards
  pub classes : AreClasses guards (map (λ class. class.class) plan.classes)
  pub covered : All (IsClassPlan tree) plan.classes
  pub orders : AreOrderPlans tree entry 0 bounds plan.orders
  pub roots : IsSetOf (length tree.functions) plan.roots (λ f. IsRoot (calls_of tree) (fn_id f))

-- q is the program patched for these bound reports
pub record IsPatched (tree : Tree) (bounds : List Bound) (q : Tree) : Type 0 where
  pub main : ℕ
  pub is_main : IsIn (calls_of tree).mains main
  pub plan : Plan
  pub is_plan : IsPlan tree (entry tree main) bounds plan
  pub is_q : q ≡ with_plan tree plan
