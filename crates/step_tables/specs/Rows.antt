-- What a row of the tables tells of the node with its number.
use Rattle.std.specs.Prelude.{◌≡◌, ℕ, ◌<◌, Bool, true, false, [], length, slice_get, Some, None, IsSome}
use Rattle.cfix_base.specs.declared.place.Place.{Place}
use Rattle.cfix_base.specs.declared.place.Place.TheVariants.{Start, After, True, False}
use Rattle.c_prog.specs.declared.tree.Tree.{Tree}
use Rattle.c_prog.specs.Accesses.{touches}
use Rattle.c_prog.specs.Order.{Node, act, cond, step, jump, node_at}
use Rattle.c_prog.specs.View.{seen}
use Rattle.flow_graph.specs.Flow.{next, next_at, graph_of}
use Rattle.step_state.specs.Items.{tree_parts, items_of, part_operands}
use Rattle.step_tables.specs.declared.row.Row.{Row}
use Rattle.step_tables.specs.Adds.{variables}

-- whether a node is a condition
abbrev pub is_cond : Node → Bool
is_cond (act a after) = false
is_cond (cond c) = true
is_cond (step s) = false
is_cond (jump j after) = false

-- the place stands behind the node with this number, which is a condition or not
abbrev pub IsBehind : Place → ℕ → Bool → Type 0
IsBehind (Start f) n b = ⊥
IsBehind (After node) n b = (node.number ≡ n) × (b ≡ false)
IsBehind (True node) n b = (node.number ≡ n) × (b ≡ true)
IsBehind (False node) n b = (node.number ≡ n) × (b ≡ true)

-- the program has no node with this number
pub record IsAbsent (tree : Tree) (n : ℕ) : Type 0 where
  pub node : node_at tree n ≡ None
  pub items : items_of tree n ≡ []
  pub operands : part_operands n (slice_get (tree_parts tree) n) ≡ []
  pub leads : (place : Place) (b : Bool) → IsBehind place n b → next tree place ≡ None

-- the row is that of the node with this number
pub record IsRow (tree : Tree) (n : ℕ) (row : Row) : Type 0 where
  pub node : node_at tree n ≡ Some (seen row.node)
  pub items : items_of tree n ≡ row.items
  pub operands : part_operands n (slice_get (tree_parts tree) n) ≡ row.operands
  pub variables : variables (touches (seen row.node)) ≡ row.variables
  pub function : row.of.number < length tree.functions
  pub leads : (place : Place) (b : Bool) → IsBehind place n b → next tree place ≡ next_at place (graph_of tree row.of.number).ways
  pub has : (place : Place) (b : Bool) → IsBehind place n b → is_cond (seen row.node) ≡ b → IsSome (next_at place (graph_of tree row.of.number).ways)
  pub lacks : (place : Place) (b : Bool) → IsBehind place n b → (is_cond (seen row.node) ≡ b → ⊥) → next tree place ≡ None
