-- The parameters and locals of a function, and how many cells they have.
use Rattle.std.specs.Prelude.{ℕ, ◌+◌, List, [], ◌∷◌, ◌++◌, map, length, Option, Some, None}
use Rattle.c_prog.specs.declared.act.Act.{Act}
use Rattle.c_prog.specs.declared.act.Act.TheVariants.{Declare}
use Rattle.c_prog.specs.declared.act.LocalKind.{LocalKind}
use Rattle.c_prog.specs.declared.act.LocalKind.TheVariants.{IntArray, ThreadArray}
use Rattle.c_prog.specs.declared.function.Function.{Function}
use Rattle.c_prog.specs.declared.stmt.Stmt.{Stmt}
use Rattle.c_prog.specs.declared.stmt.Stmt.TheOpen.{Stmt-F}
use Rattle.c_prog.specs.declared.stmt.Stmt.TheFolds.{fold-Stmt}
use Rattle.c_prog.specs.Nodes.{total}
use Rattle.c_prog.specs.Order.{joined}

-- the kind of the local that a simple statement declares, if it does
abbrev pub act_locals : Act → List LocalKind
act_locals (Declare name kind initial) = kind ∷ []
act_locals _ = []

-- one level of a statement
abbrev pub locals_level : Stmt-F (List LocalKind) → List LocalKind
locals_level (Stmt-F.Simple act ops) = act_locals act
locals_level (Stmt-F.Jump jump ops) = []
locals_level (Stmt-F.If cond on_true on_false) = joined on_true ++ joined on_false
locals_level (Stmt-F.Loop cond step body) = joined body
locals_level (Stmt-F.Block body) = joined body

-- the kinds of the locals that a statement declares, in the order of the text
abbrev pub locals : Stmt → List LocalKind
locals = fold-Stmt (List LocalKind) locals_level

-- the kinds of the locals that statements declare, in the order of the text
abbrev pub locals_of : List Stmt → List LocalKind
locals_of body = joined (map locals body)

-- how many cells a local has
abbrev pub local_cells : LocalKind → ℕ
local_cells (IntArray count) = count
local_cells (ThreadArray count) = count
local_cells _ = 1

-- how many parameters and locals a function has
abbrev pub function_locals : Option Function → ℕ
function_locals None = 0
function_locals (Some function) = length function.params + length (locals_of function.body)

-- how many cells the parameters and locals of a function have, one for each parameter
abbrev pub function_cells : Option Function → ℕ
function_cells None = 0
function_cells (Some function) = length function.params + total (map local_cells (locals_of function.body))
