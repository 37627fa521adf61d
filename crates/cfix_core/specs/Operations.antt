-- The operations of an edge of control flow.
use Rattle.std.specs.Prelude.{ℕ, ◌+◌, Bool, true, false, not, ◌&&◌, eqb, List, [], ◌∷◌, ◌++◌, Option, Some, None, option_and_then, option_map}
use Rattle.cfix_base.specs.declared.number.FnId.{FnId}
use Rattle.cfix_base.specs.declared.number.LockId.{LockId}
use Rattle.cfix_base.specs.declared.number.OrderId.{OrderId}
use Rattle.cfix_base.specs.declared.op.Op.{Op}
use Rattle.cfix_base.specs.declared.op.Op.TheVariants.{Leave, First, Done, Wait, Enter, Add}
use Rattle.c_prog.specs.declared.tree.Tree.{Tree}
use Rattle.c_prog.specs.Calls.{created}
use Rattle.c_prog.specs.Order.{node_at}
use Rattle.flow_graph.specs.Flow.{Edge, Next}
use Rattle.plan_types.specs.declared.class.Class.{Class}
use Rattle.plan_types.specs.declared.order_plan.OrderPlan.{OrderPlan}
use Rattle.plan_types.specs.Sets.{is_in}

-- a class of atomicity reports, and the functions covered for it
pub record ClassPlan : Type 0 where
  pub class : Class
  pub covered : List Bool

-- the classes and the orders by their numbers, and the roots
pub record Plan : Type 0 where
  pub classes : List ClassPlan
  pub orders : List OrderPlan
  pub roots : List Bool

-- the exit and the start of a function are in no set of nodes
abbrev pub within : List Bool → Option ℕ → Bool
within set None = false
within set (Some n) = is_in set n

abbrev pub one_if : Bool → Op → List Op
one_if true op = op ∷ []
one_if false op = []

-- an operation for each item for which the test holds, the numbers from k on
abbrev pub each_from : {X : Type 0} → (X → Bool) → (ℕ → Op) → ℕ → List X → List Op
each_from test op k [] = []
each_from test op k (x ∷ rest) = one_if (test x) (op k) ++ each_from test op (k + 1) rest

abbrev pub each : {X : Type 0} → (X → Bool) → (ℕ → Op) → List X → List Op
each test op items = each_from test op 0 items

abbrev pub lock : ℕ → LockId
lock k = record { number = k }

abbrev pub order : ℕ → OrderId
order j = record { number = j }

abbrev pub leaves : ℕ → Edge → ClassPlan → Bool
leaves function edge plan =
    within plan.class.nodes edge.source && (not (within plan.class.nodes edge.target) && not (is_in plan.covered function))

abbrev pub enters : ℕ → Edge → ClassPlan → Bool
enters function edge plan =
    within plan.class.nodes edge.target && (not (within plan.class.nodes edge.source) && not (is_in plan.covered function))

abbrev pub is_node : Option ℕ → ℕ → Bool
is_node None n = false
is_node (Some m) n = eqb m n

abbrev pub passes_first : Edge → OrderPlan → Bool
passes_first edge order = order.first && is_node edge.source order.a.node.number

-- a function's start may come exactly where its first node may
abbrev pub source_or : Option ℕ → Next → Option ℕ
source_or None target = target
source_or (Some n) target = Some n

abbrev pub source_may : Edge → List Bool → Bool
source_may edge may = within may (source_or edge.source edge.target)

abbrev pub finishes : Bool → Edge → OrderPlan → Bool
finishes is_root edge order = is_root && (source_may edge order.may && not (within order.may edge.target))

abbrev pub awaits : Edge → OrderPlan → Bool
awaits edge order = is_node edge.target order.b.node.number

abbrev pub function_number : FnId → ℕ
function_number function = function.number

abbrev pub created_at : Tree → Next → Option ℕ
created_at tree None = None
created_at tree (Some n) = option_map function_number (option_and_then created (node_at tree n))

abbrev pub adds : Tree → Edge → OrderPlan → Bool
adds tree edge order = within order.reaches (created_at tree edge.target)

-- the operations of an edge of this function, in order
abbrev pub edge_ops : Tree → Plan → ℕ → Edge → List Op
edge_ops tree plan function edge =
    each (leaves function edge) (λ k. Leave (lock k)) plan.classes
    ++ (each (passes_first edge) (λ j. First (order j)) plan.orders
    ++ (each (finishes (is_in plan.roots function) edge) (λ j. Done (order j)) plan.orders
    ++ (each (awaits edge) (λ j. Wait (order j)) plan.orders
    ++ (each (enters function edge) (λ k. Enter (lock k)) plan.classes
    ++ each (adds tree edge) (λ j. Add (order j)) plan.orders))))
