-- The lines of a source: that of each access and that of the called name of each call.
use Rattle.std.specs.Prelude.{◌≡◌, ℕ, ◌+◌, Bool, ◌==◌, nat_lt, ◌&&◌, ◌||◌, List, [], ◌∷◌, ◌++◌, map, Option, Some, None}
use Rattle.cfix_base.specs.declared.access.AccessId.{AccessId}
use Rattle.cfix_base.specs.declared.number.FnId.{FnId}
use Rattle.cfix_base.specs.declared.number.NodeId.{NodeId}
use Rattle.c_prog.specs.declared.access_item.AccessItem.{AccessItem}
use Rattle.c_prog.specs.declared.tree.Tree.{Tree}
use Rattle.c_prog.specs.Accesses.{numbered, touches}
use Rattle.c_prog.specs.Calls.{callee}
use Rattle.c_prog.specs.Order.{Node, tree_order}
use Rattle.c_prog.specs.Rising.{keys, Rises, line_in}

abbrev pub same_node : NodeId → NodeId → Bool
same_node a b = a.number == b.number

-- the order of nodes is that of their numbers
abbrev pub node_before : NodeId → NodeId → Bool
node_before a b = nat_lt a.number b.number

abbrev pub same_access : AccessId → AccessId → Bool
same_access a b = same_node a.node b.node && (a.index == b.index)

-- accesses are ordered by their nodes, and in a node by evaluation order
abbrev pub access_before : AccessId → AccessId → Bool
access_before a b = node_before a.node b.node || (same_node a.node b.node && nat_lt a.index b.index)

-- the lines of accesses and of calls
pub record LineTable : Type 0 where
  pub accesses : List (AccessId × ℕ)
  pub calls : List (NodeId × ℕ)

-- both lists are in rising order
pub record InOrder (lines : LineTable) : Type 0 where
  pub accesses : Rises access_before (keys lines.accesses)
  pub calls : Rises node_before (keys lines.calls)

-- the line of an access
abbrev pub access_line : LineTable → AccessId → Option ℕ
access_line lines id = line_in same_access id lines.accesses

-- the line of the called name of a call
abbrev pub call_line : LineTable → NodeId → Option ℕ
call_line lines node = line_in same_node node lines.calls

-- the accesses of nodes whose numbers begin here, node after node and in evaluation order
abbrev pub accesses_from : ℕ → List Node → List AccessItem
accesses_from n [] = []
accesses_from n (node ∷ rest) = numbered (record { number = n }) 0 (touches node) ++ accesses_from (n + 1) rest

-- the accesses of a program, node after node and in evaluation order
abbrev pub tree_accesses : Tree → List AccessItem
tree_accesses tree = accesses_from 0 (tree_order tree)

-- this node, if it calls a function
abbrev pub if_call : NodeId → Option FnId → List NodeId
if_call node None = []
if_call node (Some function) = node ∷ []

-- the nodes that call a function, among nodes whose numbers begin here
abbrev pub calls_from : ℕ → List Node → List NodeId
calls_from n [] = []
calls_from n (node ∷ rest) = if_call (record { number = n }) (callee node) ++ calls_from (n + 1) rest

-- the nodes of a program that call a function
abbrev pub tree_calls : Tree → List NodeId
tree_calls tree = calls_from 0 (tree_order tree)

-- the lines have exactly one entry for each access and for each call of the program
pub record IsLined (tree : Tree) (lines : LineTable) : Type 0 where
  pub accesses : keys lines.accesses ≡ map (λ item. item.id) (tree_accesses tree)
  pub calls : keys lines.calls ≡ tree_calls tree

-- a program with its lines
pub record SourceTree : Type 0 where
  pub tree : Tree
  pub lines : LineTable
