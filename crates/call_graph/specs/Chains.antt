-- Chains of calls, and the functions that each of them enters through a set of nodes.
use Rattle.std.specs.Prelude.{◌≡◌, Bool, List, [], ◌∷◌, Some, Any}
use Rattle.cfix_base.specs.declared.number.FnId.{FnId}
use Rattle.cfix_base.specs.declared.number.NodeId.{NodeId}
use Rattle.call_graph.specs.Calls.{function_of, callee_of, IsRoot}
use Rattle.call_graph.specs.Sites.{CallGraph}
use Rattle.plan_types.specs.Sets.{IsIn}

-- call nodes that lead from one function to another: the first stands in the first function, each
-- later one in the callee of the one before, and the last one calls the last function; no node
-- leads from a function to itself
abbrev pub LeadsTo : CallGraph → FnId → List NodeId → FnId → Type 0
LeadsTo graph from [] to = from ≡ to
LeadsTo graph from (node ∷ rest) to =
    (next : FnId) × (function_of graph.sites node ≡ Some from) × (callee_of graph.sites node ≡ Some next) × LeadsTo graph next rest to

-- a chain leads from a root to the function; the empty chain leads to each root
pub record Chain (graph : CallGraph) (nodes : List NodeId) (to : FnId) : Type 0 where
  pub root : FnId
  pub is_root : IsRoot graph root
  pub leads : LeadsTo graph root nodes to

-- each chain that leads to the function has a call node in the set
abbrev pub IsCovered : CallGraph → List Bool → FnId → Type 0
IsCovered graph inside function =
    (nodes : List NodeId) → Chain graph nodes function → Any (λ node. IsIn inside node.number) nodes
