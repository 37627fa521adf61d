-- Where control leaves a function.
use Rattle.std.specs.Prelude.{ℕ, ◌≡◌, Bool, true, false, Option, Some, None, IsTrue}
use Rattle.std.specs.List.{Contains}
use Rattle.c_prog.specs.declared.function.Function.{Function}
use Rattle.c_prog.specs.declared.stmt.Jump.{Jump}
use Rattle.c_prog.specs.declared.stmt.Jump.TheVariants.{Break, Continue}
use Rattle.c_prog.specs.declared.tree.Tree.{Tree}
use Rattle.c_prog.specs.Order.{Node, jump, node_at}
use Rattle.flow_graph.specs.Flow.{Edge, function_edges}
use Rattle.flow_graph.specs.Paths.{Comes, entry}

-- the jump leaves the function (6.8.6.4 of ISO/IEC 9899:2011)
abbrev pub is_return : Jump → Bool
is_return Break = false
is_return Continue = false
is_return _ = true

-- the node is a `return`
abbrev pub is_return_node : Option Node → Bool
is_return_node (Some (jump j after)) = is_return j
is_return_node _ = false

-- Control enters the function at a node, and each edge by which it leaves the function from a node that a path leads to from
-- there is that of a `return`.
pub record IsLeftByReturns (tree : Tree) (number : ℕ) (function : Function) : Type 0 where
  pub first : ℕ
  pub enters : entry tree number ≡ Some first
  pub leaves : (u : ℕ) (edge : Edge) → Comes (function_edges tree number function) first u → Contains (function_edges tree number function) edge
      → edge.source ≡ Some u → edge.target ≡ None → IsTrue (is_return_node (node_at tree u))
