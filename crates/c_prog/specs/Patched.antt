-- Whether a program has an operation somewhere, or an order that begins with a token.
use Rattle.std.specs.Prelude.{Bool, true, false, ◌||◌, List, [], ◌∷◌, map, Option, Some, None}
use Rattle.c_prog.specs.declared.stmt.Stmt.{Stmt}
use Rattle.c_prog.specs.declared.stmt.Stmt.TheOpen.{Stmt-F}
use Rattle.c_prog.specs.declared.stmt.Stmt.TheFolds.{fold-Stmt}
use Rattle.c_prog.specs.declared.stmt.Cond.{Cond}
use Rattle.c_prog.specs.declared.stmt.Step.{Step}
use Rattle.c_prog.specs.declared.function.Function.{Function}
use Rattle.c_prog.specs.declared.tree.Tree.{Tree}

-- whether a list has an item
abbrev pub has_some : {A : Type 0} → List A → Bool
has_some [] = false
has_some (item ∷ rest) = true

-- whether some of these is true
abbrev pub any_true : List Bool → Bool
any_true [] = false
any_true (b ∷ rest) = b || any_true rest

-- whether a condition has an operation
abbrev pub cond_patched : Cond → Bool
cond_patched cond = has_some cond.on_true || has_some cond.on_false

-- whether a step has an operation
abbrev pub step_patched : Option Step → Bool
step_patched None = false
step_patched (Some step) = has_some step.after

-- one level of a statement, with whether each statement inside has an operation
abbrev pub patched_level : Stmt-F Bool → Bool
patched_level (Stmt-F.Simple act after) = has_some after
patched_level (Stmt-F.Jump jump after) = has_some after
patched_level (Stmt-F.If cond as_true as_false) = cond_patched cond || any_true as_true || any_true as_false
patched_level (Stmt-F.Loop cond step body) = cond_patched cond || step_patched step || any_true body
patched_level (Stmt-F.Block body) = any_true body

-- whether a statement has an operation
abbrev pub patched : Stmt → Bool
patched = fold-Stmt Bool patched_level

-- whether one of these statements has an operation
abbrev pub patched_of : List Stmt → Bool
patched_of list = any_true (map patched list)

-- whether a function has an operation
abbrev pub function_patched : Function → Bool
function_patched function = has_some function.start || patched_of function.body

-- whether one of these functions has an operation
abbrev pub functions_patched : List Function → Bool
functions_patched list = any_true (map function_patched list)

-- whether a program has an operation or a start
abbrev pub tree_patched : Tree → Bool
tree_patched tree = has_some tree.starts || functions_patched tree.functions
