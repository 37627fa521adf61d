-- Straight-line programs: `int` globals that begin with 0, and main alone, whose statements set a global to a number or to
-- a global, or add 1 to one.
use Rattle.std.specs.Prelude.{Bool, true, false, not, ◌&&◌, pos, List, [], ◌∷◌, map, is_some, is_none, slice_get}
use Rattle.std.specs.List.{list_all, list_any}
use Rattle.std.specs.Ordering.{int_eq}
use Rattle.c_prog.specs.declared.act.Act.{Act}
use Rattle.c_prog.specs.declared.act.Act.TheVariants.{Assign, Up}
use Rattle.c_prog.specs.declared.act.How.TheVariants.{Set}
use Rattle.c_prog.specs.declared.act.Value.TheVariants as value
use Rattle.c_prog.specs.declared.expr.Expr.{Expr}
use Rattle.c_prog.specs.declared.expr.Expr.TheOpen.{Expr-F, Target-F}
use Rattle.c_prog.specs.declared.expr.Expr.TheFolds.{fold-Expr}
use Rattle.c_prog.specs.declared.expr.Target.{Target}
use Rattle.c_prog.specs.declared.expr.Var.{Var}
use Rattle.c_prog.specs.declared.expr.Var.TheVariants.{Global, Local}
use Rattle.c_prog.specs.declared.function.Function.{Function}
use Rattle.c_prog.specs.declared.global.Global as global_struct
use Rattle.c_prog.specs.declared.global.GlobalKind.{GlobalKind}
use Rattle.c_prog.specs.declared.global.GlobalKind.TheVariants.{Int}
use Rattle.c_prog.specs.declared.stmt.Stmt.{Stmt}
use Rattle.c_prog.specs.declared.stmt.Stmt.TheOpen.{Stmt-F}
use Rattle.c_prog.specs.declared.stmt.Stmt.TheFolds.{fold-Stmt}
use Rattle.c_prog.specs.declared.tree.Tree.{Tree}
use Rattle.c_prog.specs.Valid.Expressions.{is_number, is_main_name}
use Rattle.c_prog.specs.Valid.Operations.{are_valid_ops}
use Rattle.c_prog.specs.Valid.Functions.{are_declared_names, is_main}

-- an `int` that begins with 0
abbrev pub begins_with_zero : GlobalKind → Bool
begins_with_zero (Int number) = int_eq number (pos 0)
begins_with_zero _ = false

-- one of these globals
abbrev pub is_one_of : List global_struct.Global → Var → Bool
is_one_of globals (Global id) = is_some (slice_get globals id.number)
is_one_of globals (Local number) = false

-- one of these globals, without an index
abbrev pub is_scalar : List global_struct.Global → Target → Bool
is_scalar globals target = is_none target.index && is_one_of globals target.var

-- one level of an expression
abbrev pub straight_expr_level : Expr-F Bool Bool → Bool
straight_expr_level (Expr-F.Number number) = is_number number
straight_expr_level (Expr-F.Read target) = target
straight_expr_level _ = false

-- one level of what is read
abbrev pub straight_target_level : List global_struct.Global → Target-F Bool Bool → Bool
straight_target_level globals target = is_none target.index && is_one_of globals target.var

-- a number, or one of these globals
abbrev pub is_straight_expr : List global_struct.Global → Expr → Bool
is_straight_expr globals = fold-Expr Bool Bool straight_expr_level (straight_target_level globals)

-- what a statement does
abbrev pub is_straight_act : List global_struct.Global → Act → Bool
is_straight_act globals (Assign target Set (value.Expr expr)) = is_scalar globals target && is_straight_expr globals expr
is_straight_act globals (Up target) = is_scalar globals target
is_straight_act globals _ = false

-- one level of a statement
abbrev pub straight_level : List global_struct.Global → Stmt-F Bool → Bool
straight_level globals (Stmt-F.Simple act ops) = is_straight_act globals act && are_valid_ops ops
straight_level globals _ = false

-- a statement, with operations behind it or not
abbrev pub is_straight_stmt : List global_struct.Global → Stmt → Bool
is_straight_stmt globals = fold-Stmt Bool (straight_level globals)

-- main with such a body, and no other function
abbrev pub is_straight_main : List global_struct.Global → List Function → Bool
is_straight_main globals (function ∷ []) =
    is_main function && are_valid_ops function.start && list_all (is_straight_stmt globals) function.body
is_straight_main globals _ = false

-- no item
abbrev pub is_empty : {A : Type 0} → List A → Bool
is_empty [] = true
is_empty (item ∷ rest) = false

-- a program of this form: names that can be declared together and are not main, and no order that begins with a token
abbrev pub is_straight : Tree → Bool
is_straight tree =
    are_declared_names (map (λ global. global.name) tree.globals) && not (list_any is_main_name (map (λ global. global.name) tree.globals))
    && list_all (λ global. begins_with_zero global.kind) tree.globals && is_straight_main tree.globals tree.functions
    && is_empty tree.starts
