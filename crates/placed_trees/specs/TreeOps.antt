-- The program that the placement makes of a program: the new operations of the edge of each place, and the orders that begin
-- with a token.
use Rattle.std.specs.Prelude.{◌≡◌, ◌≤◌, ℕ, ◌+◌, Bool, true, false, eqb, List, [], ◌∷◌, ◌++◌, Option, Some, None, if◌then◌else◌}
use Rattle.cfix_base.specs.declared.number.OrderId.{OrderId}
use Rattle.cfix_base.specs.declared.op.Op.{Op}
use Rattle.cfix_base.specs.declared.place.Place.{Place}
use Rattle.cfix_base.specs.declared.place.Place.TheVariants.{Start}
use Rattle.c_prog.specs.declared.tree.Tree.{Tree}
use Rattle.c_prog.specs.Nodes.{tree_nodes}
use Rattle.flow_graph.specs.Flow as flows
use Rattle.flow_graph.specs.Flow.{same_place, tree_edges}
use Rattle.step_state.specs.Code.{fn_id}
use Rattle.step_state.specs.Items.{main_of}
use Rattle.cfix_base.specs.declared.mark.Marks.{Marks}
use Rattle.layout_laws.specs.Layout.{Layout, place_function}
use Rattle.placed_trees.specs.Placement.{ClassPlan, OrderPlan, Plan, within, order, new_ops}
use Rattle.placed_trees.specs.AddOps.{add_ops}
use Rattle.step_tables.specs.TreeCode.{next_of}
use Rattle.layout_laws.specs.TreeLayout.{layout_of}

-- the edge of a place, unless the place is dead
abbrev pub edge_at : Place → List flows.Edge → Option flows.Edge
edge_at place [] = None
edge_at place (edge ∷ rest) = if same_place edge.place place then Some edge else edge_at place rest

-- the new operations of an edge, if there is one
abbrev pub edge_ops : Layout → Marks → Plan → Place → Option flows.Edge → List Op
edge_ops y m plan place None = []
edge_ops y m plan place (Some e) = new_ops y m plan (place_function y place) (record { from = e.source; into = e.target })

-- the new operations of a place
abbrev pub tree_ops : Tree → Marks → Plan → Place → List Op
tree_ops tree m plan place = edge_ops (layout_of tree) m plan place (edge_at place (tree_edges tree))

-- the order, where it is so
abbrev pub start_if : Bool → ℕ → List OrderId
start_if true j = order j ∷ []
start_if false j = []

-- the orders to whose first access a thread that begins at this node may come
abbrev pub starts_from : Option ℕ → ℕ → List OrderPlan → List OrderId
starts_from first j [] = []
starts_from first j (o ∷ rest) = start_if (within o.may first) j ++ starts_from first (j + 1) rest

-- the new orders that begin with a token
abbrev pub tree_starts : Tree → Marks → Plan → List OrderId
tree_starts tree m plan = starts_from (next_of tree (Start (fn_id (main_of tree.functions)))) m.order plan.orders

-- the program with the plan's operations, numbered from the marks
abbrev pub placed_tree : Tree → Marks → Plan → Tree
placed_tree tree m plan = add_ops (tree_ops tree m plan) (tree_starts tree m plan) tree

-- a number that is no node is in no set of the plan
abbrev pub NoClass : ℕ → List ClassPlan → Type 0
NoClass n [] = Unit {0}
NoClass n (c ∷ rest) = (c.nodes n ≡ false) × NoClass n rest

-- and in no set of an order
abbrev pub NoOrder : ℕ → List OrderPlan → Type 0
NoOrder n [] = Unit {0}
NoOrder n (o ∷ rest) = (eqb n o.a ≡ false) × (o.may n ≡ false) × NoOrder n rest

-- the sets of the plan hold nodes of the program alone
pub record HasNodes (tree : Tree) (plan : Plan) : Type 0 where
  pub classes : (n : ℕ) → tree_nodes tree ≤ n → NoClass n plan.classes
  pub orders : (n : ℕ) → tree_nodes tree ≤ n → NoOrder n plan.orders
