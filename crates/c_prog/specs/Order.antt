-- The nodes of a program in their order, by what they are: the node with number n is the one at
-- place n, counted from 0.
use Rattle.std.specs.Prelude.{ℕ, List, [], ◌∷◌, ◌++◌, map, slice_get, Option, Some, None}
use Rattle.cfix_base.specs.declared.op.Op.{Op}
use Rattle.c_prog.specs.declared.act.Act.{Act}
use Rattle.c_prog.specs.declared.stmt.Cond.{Cond}
use Rattle.c_prog.specs.declared.stmt.Step.{Step}
use Rattle.c_prog.specs.declared.stmt.Jump.{Jump}
use Rattle.c_prog.specs.declared.stmt.Stmt.{Stmt}
use Rattle.c_prog.specs.declared.stmt.Stmt.TheOpen.{Stmt-F}
use Rattle.c_prog.specs.declared.stmt.Stmt.TheFolds.{fold-Stmt}
use Rattle.c_prog.specs.declared.function.Function.{Function}
use Rattle.c_prog.specs.declared.tree.Tree.{Tree}

-- a simple statement with the operations behind it, a condition, the step of a `for`, or a jump
-- with the operations behind it
pub data Node : Type 0 where
  act : Act → List Op → Node
  cond : Cond → Node
  step : Step → Node
  jump : Jump → List Op → Node

-- lists, one after another
abbrev pub joined : {A : Type 0} → List (List A) → List A
joined [] = []
joined (list ∷ rest) = list ++ joined rest

-- the node of a step, if it is there
abbrev pub step_order : Option Step → List Node
step_order None = []
step_order (Some s) = step s ∷ []

-- one level of a statement, with the nodes of the statements inside: of a loop the condition, the
-- step and the body
abbrev pub order_level : Stmt-F (List Node) → List Node
order_level (Stmt-F.Simple a after) = act a after ∷ []
order_level (Stmt-F.Jump j after) = jump j after ∷ []
order_level (Stmt-F.If c as_true as_false) = cond c ∷ (joined as_true ++ joined as_false)
order_level (Stmt-F.Loop c s body) = cond c ∷ (step_order s ++ joined body)
order_level (Stmt-F.Block body) = joined body

-- the nodes of a statement
abbrev pub order : Stmt → List Node
order = fold-Stmt (List Node) order_level

-- the nodes of statements, one after another
abbrev pub order_of : List Stmt → List Node
order_of list = joined (map order list)

-- the nodes of a function
abbrev pub function_order : Function → List Node
function_order function = order_of function.body

-- the nodes of functions, one after another
abbrev pub functions_order : List Function → List Node
functions_order list = joined (map function_order list)

-- the nodes of a program
abbrev pub tree_order : Tree → List Node
tree_order tree = functions_order tree.functions

-- the node with this number
abbrev pub node_at : Tree → ℕ → Option Node
node_at tree number = slice_get (tree_order tree) number
