-- What the tables keep of the nodes of a program, in the order of the nodes.
use Rattle.std.specs.Prelude.{◌≡◌, ℕ, ◌+◌, ◌<◌, ◌^◌, ◌++◌, List, [], ◌∷◌, map, length, Option, Some, None}
use Rattle.cfix_base.specs.declared.mark.Marks.{Marks}
use Rattle.cfix_base.specs.declared.number.VarId.{VarId}
use Rattle.cfix_base.specs.declared.number.FnId.{FnId}
use Rattle.c_prog.specs.declared.act.LocalKind.{LocalKind}
use Rattle.c_prog.specs.declared.function.Function.{Function}
use Rattle.c_prog.specs.declared.tree.Tree.{Tree}
use Rattle.c_prog.specs.Accesses.{touches}
use Rattle.c_prog.specs.Marks.{tree_marks}
use Rattle.c_prog.specs.Order.{Node, act, function_order, joined}
use Rattle.c_prog.specs.View.{seen}
use Rattle.c_prog.specs.Valid.Locals.{act_locals, locals_of}
use Rattle.flow_graph.specs.Flow.{Graph, graphs_of}
use Rattle.step_state.specs.declared.item.Item.{Item}
use Rattle.step_state.specs.Items.{node_part, at_node, declared, main_of}
use Rattle.step_tables.specs.declared.row.Row.{Row}
use Rattle.step_tables.specs.Adds.{variables}

-- a node's function, what the node is, its items, those of its right operands, and the variables of its accesses
pub record Kept : Type 0 where
  pub of : ℕ
  pub node : Node
  pub items : List Item
  pub operands : List (List Item)
  pub variables : List VarId

-- what is kept of the node with this number, of a function with this number, which declares the local with this number
-- if it is a declaration
abbrev pub kept_of : ℕ → ℕ → ℕ → Node → Kept
kept_of of n x node = record {
  of = of;
  node = node;
  items = (node_part x node).items (at_node n);
  operands = (node_part x node).operands (at_node n);
  variables = variables (touches node);
}

-- the same for nodes one after another
abbrev pub kept_from : ℕ → ℕ → ℕ → List Node → List Kept
kept_from of n x [] = []
kept_from of n x (node ∷ rest) = kept_of of n x node ∷ kept_from of (n + 1) (x + declared node) rest

-- for functions, from the numbers of the first one and of its first node
abbrev pub kept_functions : ℕ → ℕ → List Function → List Kept
kept_functions of n [] = []
kept_functions of n (f ∷ rest) =
    kept_from of n (length f.params) (function_order f) ++ kept_functions (of + 1) (n + length (function_order f)) rest

-- for a program
abbrev pub kept_tree : Tree → List Kept
kept_tree tree = kept_functions 0 0 tree.functions

-- what a row keeps
abbrev pub kept : Row → Kept
kept row = record {
  of = row.of.number;
  node = seen row.node;
  items = row.items;
  operands = row.operands;
  variables = row.variables;
}

-- the locals that a node declares, and those that nodes declare
abbrev pub node_locals : Node → List LocalKind
node_locals (act a after) = act_locals a
node_locals _ = []

abbrev pub nodes_locals : List Node → List LocalKind
nodes_locals nodes = joined (map node_locals nodes)

-- a kind, if there is one
abbrev pub listed : Option LocalKind → List LocalKind
listed None = []
listed (Some kind) = kind ∷ []

-- each node has few enough accesses for their numbers
abbrev pub AreFew : List Node → Type 0
AreFew [] = Unit {0}
AreFew (node ∷ rest) = (length (touches node) < 2 ^ 32) × AreFew rest

-- behind so many rows and locals these nodes are few enough for their numbers
pub record HaveRoom (row_count local_count : ℕ) (nodes : List Node) : Type 0 where
  pub rows : row_count + length nodes < 2 ^ 32
  pub locals : local_count + length (nodes_locals nodes) < 2 ^ 32
  pub accesses : AreFew nodes

-- these nodes of a function, which has so many parameters, were added to rows and locals
pub record Grows (of params : ℕ) (nodes : List Node) (old : List Row) (before : List LocalKind) (new : List Row) (after : List LocalKind) : Type 0 where
  pub rows : map kept new ≡ map kept old ++ kept_from of (length old) (params + length before) nodes
  pub locals : after ≡ before ++ nodes_locals nodes

-- what the tables of this program hold
pub record AreTables (tree : Tree) (table : List Row) (kinds : List (List LocalKind)) (graphs : List Graph) (first : FnId) (above : Marks) : Type 0 where
  pub rows : map kept table ≡ kept_tree tree
  pub locals : kinds ≡ map (λ f. locals_of f.body) tree.functions
  pub flows : graphs ≡ graphs_of tree
  pub main : first.number ≡ main_of tree.functions
  pub marks : above ≡ tree_marks tree
