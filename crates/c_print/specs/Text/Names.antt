-- What each variable and function is called.
use Rattle.std.specs.Prelude.{ℕ, List, [], ◌∷◌, ◌++◌, map, slice_get, Option, Some, None}
use Rattle.c_prog.specs.declared.act.Act.{Act}
use Rattle.c_prog.specs.declared.act.Act.TheVariants as act
use Rattle.c_prog.specs.declared.expr.Var.{Var}
use Rattle.c_prog.specs.declared.expr.Var.TheVariants.{Global, Local}
use Rattle.c_prog.specs.declared.stmt.Step.{Step}
use Rattle.c_prog.specs.declared.stmt.Stmt.{Stmt}
use Rattle.c_prog.specs.declared.stmt.Stmt.TheOpen.{Stmt-F}
use Rattle.c_prog.specs.declared.stmt.Stmt.TheFolds.{fold-Stmt}
use Rattle.c_prog.specs.declared.function.Function.{Function}
use Rattle.c_prog.specs.declared.tree.Tree.{Tree}
use Rattle.c_prog.specs.Order.{joined}

-- the names in the order of their numbers
pub record Names : Type 0 where
  pub globals : List (List ℕ)
  pub functions : List (List ℕ)
  pub locals : List (List ℕ)

abbrev pub or_nothing : Option (List ℕ) → List ℕ
or_nothing None = []
or_nothing (Some name) = name

-- the name with this number; nothing where there is none
abbrev pub name_at : List (List ℕ) → ℕ → List ℕ
name_at names number = or_nothing (slice_get names number)

abbrev pub var_name : Names → Var → List ℕ
var_name names (Global v) = name_at names.globals v.number
var_name names (Local n) = name_at names.locals n

-- the name that a simple statement declares
abbrev pub act_names : Act → List (List ℕ)
act_names (act.Declare name kind value) = name ∷ []
act_names _ = []

abbrev pub step_names : Option Step → List (List ℕ)
step_names None = []
step_names (Some step) = act_names step.act

-- one level of a statement, with the names that the statements inside declare
abbrev pub names_level : Stmt-F (List (List ℕ)) → List (List ℕ)
names_level (Stmt-F.Simple a after) = act_names a
names_level (Stmt-F.Jump jump after) = []
names_level (Stmt-F.If cond as_true as_false) = joined as_true ++ joined as_false
names_level (Stmt-F.Loop cond step body) = step_names step ++ joined body
names_level (Stmt-F.Block body) = joined body

-- the names that a statement declares, in the order of the text
abbrev pub declared_names : Stmt → List (List ℕ)
declared_names = fold-Stmt (List (List ℕ)) names_level

-- the names of the locals of a function: its parameters, then its declarations
abbrev pub local_names : Function → List (List ℕ)
local_names function = function.params ++ joined (map declared_names function.body)

-- the names in a function of a program
abbrev pub names_in : Tree → Function → Names
names_in tree function = record {
  globals = map (λ g. g.name) tree.globals;
  functions = map (λ f. f.name) tree.functions;
  locals = local_names function;
}
