-- The first form of a program: no operation and no start, main alone, globals that are `int` and begin
-- with 0, and statements that set a global to a number or to a global, or add 1 to one.
use Rattle.std.specs.Prelude.{ℕ, ℤ, Bool, false, not, ◌&&◌, nat_lt, List, [], ◌∷◌, length, map, Option, Some, None, option_and_then, option_map, is_some, if◌then◌else◌}
use Rattle.std.specs.List.{list_all, filter_map}
use Rattle.cfix_base.specs.declared.number.VarId.{VarId}
use Rattle.c_prog.specs.declared.act.Act.{Act}
use Rattle.c_prog.specs.declared.act.Act.TheVariants.{Assign, Up}
use Rattle.c_prog.specs.declared.act.How.TheVariants.{Set}
use Rattle.c_prog.specs.declared.act.Value.TheVariants as value
use Rattle.c_prog.specs.declared.expr.Expr.{Expr}
use Rattle.c_prog.specs.declared.expr.Expr.TheVariants as expr
use Rattle.c_prog.specs.declared.expr.Expr.TheOpen.{Expr-F, Target-F}
use Rattle.c_prog.specs.declared.expr.Expr.TheFolds.{fold-Expr}
use Rattle.c_prog.specs.declared.expr.Target.{Target}
use Rattle.c_prog.specs.declared.expr.Var.{Var}
use Rattle.c_prog.specs.declared.expr.Var.TheVariants.{Global, Local}
use Rattle.c_prog.specs.declared.function.Function.{Function}
use Rattle.c_prog.specs.declared.stmt.Stmt.{Stmt}
use Rattle.c_prog.specs.declared.stmt.Stmt.TheOpen.{Stmt-F}
use Rattle.c_prog.specs.declared.stmt.Stmt.TheFolds.{fold-Stmt}
use Rattle.c_prog.specs.declared.tree.Tree.{Tree}
use Rattle.c_prog.specs.Patched.{has_some}
use Rattle.straight_laws.specs.Straight.{begins_with_zero}
use Rattle.c_prog.specs.Valid.Expressions.{is_number}
use Rattle.c_prog.specs.Valid.Functions.{is_main}
use Rattle.first_form.specs.declared.plain.Given.{Given}
use Rattle.first_form.specs.declared.plain.Given.TheVariants as given
use Rattle.first_form.specs.declared.plain.Plain.{Plain}
use Rattle.first_form.specs.declared.plain.Plain.TheVariants as plain

-- one of so many globals
abbrev pub one_of : ℕ → Var → Option VarId
one_of count (Global id) = if nat_lt id.number count then Some id else None
one_of count (Local n) = None

abbrev pub without_index : {X : Type 0} → ℕ → Option X → Var → Option VarId
without_index count None var = one_of count var
without_index count (Some index) var = None

-- one of so many globals, without an index
abbrev pub scalar : ℕ → Target → Option VarId
scalar count target = without_index count target.index target.var

abbrev pub number_given : ℤ → Option Given
number_given n = if is_number n then Some (given.Number n) else None

-- one level of an expression: a number, or one of so many globals
abbrev pub given_level : Expr-F (Option Given) (Option VarId) → Option Given
given_level (Expr-F.Number n) = number_given n
given_level (Expr-F.Read target) = option_map given.Variable target
given_level _ = None

abbrev pub given_target : ℕ → Target-F (Option Given) (Option VarId) → Option VarId
given_target count target = without_index count target.index target.var

-- what an expression is that is a number or a global
abbrev pub given_by : ℕ → Expr → Option Given
given_by count = fold-Expr (Option Given) (Option VarId) given_level (given_target count)

abbrev pub assigned : VarId → Given → Plain
assigned to (given.Number n) = plain.SetNumber to n
assigned to (given.Variable from) = plain.SetVariable to from

abbrev pub assigned_by : ℕ → Expr → VarId → Option Plain
assigned_by count expr to = option_map (assigned to) (given_by count expr)

-- what a simple statement does, if it is one of the three
abbrev pub plain_act : ℕ → Act → Option Plain
plain_act count (Assign target Set (value.Expr expr)) = option_and_then (assigned_by count expr) (scalar count target)
plain_act count (Up target) = option_map plain.Up (scalar count target)
plain_act count _ = None

-- one level of a statement
abbrev pub plain_level : ℕ → Stmt-F (Option Plain) → Option Plain
plain_level count (Stmt-F.Simple act ops) = if has_some ops then None else plain_act count act
plain_level count _ = None

-- a statement of the first form in a program with so many globals
abbrev pub plain_of : ℕ → Stmt → Option Plain
plain_of count = fold-Stmt (Option Plain) (plain_level count)

abbrev pub is_plain : ℕ → Stmt → Bool
is_plain count stmt = is_some (plain_of count stmt)

-- main, without operations, whose statements are of the first form
abbrev pub is_plain_main : ℕ → Function → Bool
is_plain_main count function = is_main function && (not (has_some function.start) && list_all (is_plain count) function.body)

abbrev pub is_only_main : ℕ → List Function → Bool
is_only_main count (function ∷ []) = is_plain_main count function
is_only_main count _ = false

-- a program of the first form
abbrev pub is_first_form : Tree → Bool
is_first_form tree =
    not (has_some tree.starts)
    && (list_all (λ global. begins_with_zero global.kind) tree.globals && is_only_main (length tree.globals) tree.functions)

abbrev pub first_body : List Function → List Stmt
first_body [] = []
first_body (function ∷ rest) = function.body

-- the statements of a program of the first form
abbrev pub plains_of : Tree → List Plain
plains_of tree = filter_map (plain_of (length tree.globals)) (first_body tree.functions)

-- ---- the trees of such statements

abbrev pub target_of : VarId → Target
target_of id = record { var = Global id; index = None }

-- what a statement of the first form does
abbrev pub act_of : Plain → Act
act_of (plain.SetNumber to n) = Assign (target_of to) Set (value.Expr (expr.Number n))
act_of (plain.SetVariable to from) = Assign (target_of to) Set (value.Expr (expr.Read (target_of from)))
act_of (plain.Up id) = Up (target_of id)

abbrev pub acts_of : List Plain → List Act
acts_of plains = map act_of plains
