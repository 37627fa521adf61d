-- How many nodes statements, functions and programs have: each simple statement, condition, step
-- and jump is one node.
use Rattle.std.specs.Prelude.{ℕ, ◌+◌, List, [], ◌∷◌, map, take, Option, Some, None}
use Rattle.c_prog.specs.declared.stmt.Stmt.{Stmt}
use Rattle.c_prog.specs.declared.stmt.Stmt.TheOpen.{Stmt-F}
use Rattle.c_prog.specs.declared.stmt.Stmt.TheFolds.{fold-Stmt}
use Rattle.c_prog.specs.declared.stmt.Step.{Step}
use Rattle.c_prog.specs.declared.function.Function.{Function}
use Rattle.c_prog.specs.declared.tree.Tree.{Tree}

-- the sum of a list of numbers
abbrev pub total : List ℕ → ℕ
total [] = 0
total (n ∷ rest) = n + total rest

-- the nodes of a step: one, if it is there
abbrev pub step_nodes : Option Step → ℕ
step_nodes None = 0
step_nodes (Some step) = 1

-- one level of a statement, with the numbers of nodes of the statements inside
abbrev pub nodes_level : Stmt-F ℕ → ℕ
nodes_level (Stmt-F.Simple act after) = 1
nodes_level (Stmt-F.Jump jump after) = 1
nodes_level (Stmt-F.If cond as_true as_false) = 1 + total as_true + total as_false
nodes_level (Stmt-F.Loop cond step body) = 1 + step_nodes step + total body
nodes_level (Stmt-F.Block body) = total body

-- the number of nodes of a statement
abbrev pub nodes : Stmt → ℕ
nodes = fold-Stmt ℕ nodes_level

-- the number of nodes of statements, one after another
abbrev pub nodes_of : List Stmt → ℕ
nodes_of list = total (map nodes list)

-- the number of nodes of a function
abbrev pub function_nodes : Function → ℕ
function_nodes function = nodes_of function.body

-- the number of nodes of functions, one after another
abbrev pub functions_nodes : List Function → ℕ
functions_nodes list = total (map function_nodes list)

-- the number of nodes of a program
abbrev pub tree_nodes : Tree → ℕ
tree_nodes tree = functions_nodes tree.functions

-- the number of the first node of the function with this number, if it has a node: the nodes of a
-- program are numbered function after function
abbrev pub first_node : Tree → ℕ → ℕ
first_node tree function = functions_nodes (take function tree.functions)
