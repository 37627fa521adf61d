-- The paths of one function among those of its program.
use Rattle.std.specs.Prelude.{ℕ, ◌+◌, ◌≤◌, ◌<◌, List}
use Rattle.c_prog.specs.declared.function.Function.{Function}
use Rattle.c_prog.specs.declared.tree.Tree.{Tree}
use Rattle.c_prog.specs.Nodes.{first_node, nodes_of}
use Rattle.flow_graph.specs.Flow.{function_edges, tree_edges}
use Rattle.flow_graph.specs.Paths.{Path}

-- The node is one of the function with this number.
pub record IsNodeOf (tree : Tree) (number : ℕ) (function : Function) (u : ℕ) : Type 0 where
  pub from : first_node tree number ≤ u
  pub below : u < first_node tree number + nodes_of function.body

-- A path by the function's edges is one of the program, and a path of the program from a node of the function goes by the
-- function's edges, to a node of the function.
pub record HasOwnPaths (tree : Tree) (number : ℕ) (function : Function) : Type 0 where
  pub outward : (u : ℕ) (inner : List ℕ) (v : ℕ) → Path (function_edges tree number function) u inner v → Path (tree_edges tree) u inner v
  pub inward : (u : ℕ) (inner : List ℕ) (v : ℕ) → IsNodeOf tree number function u → Path (tree_edges tree) u inner v → Path (function_edges tree number function) u inner v
  pub stays : (u : ℕ) (inner : List ℕ) (v : ℕ) → Path (function_edges tree number function) u inner v → IsNodeOf tree number function v
