-- What is asked of a plan for a program.
use Rattle.std.specs.Prelude.{◌≡◌, ℕ, Some, slice_get}
use Rattle.c_prog.specs.declared.tree.Tree.{Tree}
use Rattle.layout_laws.specs.TreeLayout.{layout_of}
use Rattle.lock_laws.specs.Coverage.{Covers}
use Rattle.placed_trees.specs.Coming.{IsOrder}
use Rattle.placed_trees.specs.Placement.{ClassPlan, OrderPlan, Plan}
use Rattle.placed_trees.specs.TreeOps.{HasNodes}

-- its sets hold nodes of the program, its covered functions are entered only through nodes of their classes, its orders' sets are
-- the nodes and functions that may come to the first accesses, and its roots are the functions in which threads begin
pub record IsPlan (tree : Tree) (plan : Plan) : Type 0 where
  pub nodes : HasNodes tree plan
  pub covers : (n : ℕ) (class : ClassPlan) → slice_get plan.classes n ≡ Some class → Covers (layout_of tree) class.nodes class.covered
  pub orders : (n : ℕ) (o : OrderPlan) → slice_get plan.orders n ≡ Some o → IsOrder tree o
  pub roots : (f : ℕ) → plan.roots f ≡ (layout_of tree).is_root f
