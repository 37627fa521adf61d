-- Which trees are programs: those that some text spells, with counts that fit.
pub mod Scope
pub mod Kinds
pub mod Strings
pub mod Expressions
pub mod Acts
pub mod Statements
pub mod Falls
pub mod Operations
pub mod Locals
pub mod Functions
use Rattle.std.specs.Prelude.{ℕ, ◌<◌, ◌-◌, ◌^◌, Bool, ◌&&◌, List, map, length, slice_get, IsTrue}
use Rattle.std.specs.List.{list_all, list_any}
use Rattle.c_prog.specs.declared.function.Function.{Function}
use Rattle.c_prog.specs.declared.global.Global.{Global}
use Rattle.c_prog.specs.declared.global.GlobalKind.{GlobalKind}
use Rattle.c_prog.specs.declared.global.GlobalKind.TheVariants.{IntArray, ThreadArray}
use Rattle.c_prog.specs.declared.tree.Tree.{Tree}
use Rattle.c_prog.specs.Nodes.{total, tree_nodes}
use Rattle.c_prog.specs.Order.{node_at}
use Rattle.c_prog.specs.Accesses.{touches_of}
use Rattle.c_prog.specs.Valid.Kinds.{file_of}
use Rattle.c_prog.specs.Valid.Operations.{are_valid_ops, have_valid_ops, are_valid_starts}
use Rattle.c_prog.specs.Valid.Locals.{function_locals, function_cells}
use Rattle.c_prog.specs.Valid.Functions.{are_declared_names, file_names, is_valid_global, is_valid_function, is_main}

-- how many cells a global variable has
abbrev pub kind_cells : GlobalKind → ℕ
kind_cells (IntArray n) = n
kind_cells (ThreadArray n) = n
kind_cells _ = 1

-- how many cells the global variables have
abbrev pub global_cells : List Global → ℕ
global_cells list = total (map (λ g. kind_cells g.kind) list)

-- the operations in a function have numbers that a text spells
abbrev pub has_valid_function_ops : Function → Bool
has_valid_function_ops function = are_valid_ops function.start && have_valid_ops function.body

-- The tree keeps every rule of the tokens, the grammar and the names, so that a text spells it; and it has few enough
-- nodes, functions, variables (the globals, and the parameters and locals of each function), cells of them, and accesses
-- in each node for their numbers. No other limit is asked.
pub record IsValid (tree : Tree) : Type 0 where
  pub names : IsTrue (are_declared_names (file_names tree))
  pub globals : IsTrue (list_all (λ global. is_valid_global global.kind) tree.globals)
  pub has_main : IsTrue (list_any is_main tree.functions)
  pub functions : IsTrue (list_all (is_valid_function (file_of tree)) tree.functions)
  pub operations : IsTrue (list_all has_valid_function_ops tree.functions)
  pub starts : IsTrue (are_valid_starts tree.starts)
  pub few_nodes : tree_nodes tree < 2 ^ 32 - 1
  pub few_functions : length tree.functions < 2 ^ 32 - 1
  pub few_variables : length tree.globals < 2 ^ 32 - 1
  pub few_cells : global_cells tree.globals < 2 ^ 32 - 1
  pub few_locals : (n : ℕ) → function_locals (slice_get tree.functions n) < 2 ^ 32 - 1
  pub few_local_cells : (n : ℕ) → function_cells (slice_get tree.functions n) < 2 ^ 32 - 1
  pub few_accesses : (n : ℕ) → length (touches_of (node_at tree n)) < 2 ^ 32 - 1
