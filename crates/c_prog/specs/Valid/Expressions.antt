-- Expressions, variables and calls at a place of a body.
use Rattle.std.specs.Prelude.{ℕ, Bool, true, false, not, ◌&&◌, ◌==◌, ℤ, pos, int_le, List, length, Option, Some, None, codes, option_map}
use Rattle.std.specs.List.{list_all}
use Rattle.std.specs.Str.{bytes_eq}
use Rattle.c_prog.specs.declared.act.CallForm.{CallForm}
use Rattle.c_prog.specs.declared.act.Value.{Value}
use Rattle.c_prog.specs.declared.act.Value.TheVariants as value
use Rattle.c_prog.specs.declared.expr.Expr.{Expr}
use Rattle.c_prog.specs.declared.expr.Target.{Target}
use Rattle.c_prog.specs.declared.expr.Expr.TheOpen.{Expr-F, Target-F}
use Rattle.c_prog.specs.declared.expr.Expr.TheFolds.{fold-Expr, fold-Target}
use Rattle.c_prog.specs.declared.function.FnKind.{FnKind}
use Rattle.c_prog.specs.declared.function.FnKind.TheVariants as fn_kind
use Rattle.c_prog.specs.Valid.Scope.{VarKind, int, int_array, thread, thread_array, mutex, cond, argument, Scope, local_here}
use Rattle.c_prog.specs.Valid.Kinds.{Signature, File, kind_here, function_here}

-- A variable as it is used at a place: its kind, where its name means it there, and whether its index keeps the rules,
-- where there is one.
pub record Use : Type 0 where
  pub kind : Option VarKind
  pub index : Option Bool

-- an `int`: a scalar without an index, or the element of an array
abbrev pub is_int_use : Option VarKind → Option Bool → Bool
is_int_use (Some int) None = true
is_int_use (Some int_array) (Some index) = index
is_int_use _ _ = false

-- a thread: a scalar without an index, or the element of an array
abbrev pub is_thread_use : Option VarKind → Option Bool → Bool
is_thread_use (Some thread) None = true
is_thread_use (Some thread_array) (Some index) = index
is_thread_use _ _ = false

-- the parameter of a thread function, which only a cast reads
abbrev pub is_argument : Option VarKind → Bool
is_argument (Some argument) = true
is_argument _ = false

-- a mutex
abbrev pub is_mutex : Option VarKind → Bool
is_mutex (Some mutex) = true
is_mutex _ = false

-- a condition variable
abbrev pub is_cond : Option VarKind → Bool
is_cond (Some cond) = true
is_cond _ = false

-- a number that a text spells: it has no sign, and is at most 2147483647
abbrev pub is_number : ℤ → Bool
is_number number = int_le (pos 0) number && int_le number (pos 2147483647)

-- one level of an expression
abbrev pub expr_rules : File → Scope → Expr-F Bool Use → Bool
expr_rules file scope (Expr-F.Number number) = is_number number
expr_rules file scope (Expr-F.Read target) = is_int_use target.kind target.index
expr_rules file scope (Expr-F.Cast number) = is_argument (option_map (λ local. local.kind) (local_here number scope))
expr_rules file scope (Expr-F.Neg operand) = operand
expr_rules file scope (Expr-F.Not operand) = operand
expr_rules file scope (Expr-F.Binary op left right) = left && right

-- one level of a variable or element
abbrev pub target_rules : File → Scope → Target-F Bool Use → Use
target_rules file scope target = record { kind = kind_here file scope target.var; index = target.index }

-- an expression that keeps the rules at this place
abbrev pub is_valid_expr : File → Scope → Expr → Bool
is_valid_expr file scope = fold-Expr Bool Use (expr_rules file scope) (target_rules file scope)

-- a variable or element as it is used at this place
abbrev pub use_of : File → Scope → Target → Use
use_of file scope = fold-Target Bool Use (expr_rules file scope) (target_rules file scope)

-- an `int` variable or element at this place
abbrev pub is_int_target : File → Scope → Target → Bool
is_int_target file scope target = is_int_use (use_of file scope target).kind (use_of file scope target).index

-- a thread variable or element at this place
abbrev pub is_thread_target : File → Scope → Target → Bool
is_thread_target file scope target = is_thread_use (use_of file scope target).kind (use_of file scope target).index

-- gives back an `int`
abbrev pub is_int_kind : FnKind → Bool
is_int_kind fn_kind.Int = true
is_int_kind _ = false

-- gives back nothing
abbrev pub is_void_kind : FnKind → Bool
is_void_kind fn_kind.Void = true
is_void_kind _ = false

-- is the function of a thread
abbrev pub is_thread_kind : FnKind → Bool
is_thread_kind fn_kind.Thread = true
is_thread_kind _ = false

-- the function in which a run begins (5.1.2.2.1 of ISO/IEC 9899:2011)
abbrev pub is_main_name : List ℕ → Bool
is_main_name name = bytes_eq name (codes "main")

-- a function that can be called with so many arguments: neither main nor the function of a thread
abbrev pub is_callable : ℕ → Option Signature → Bool
is_callable args None = false
is_callable args (Some function) =
    not (is_main_name function.name) && not (is_thread_kind function.kind) && function.params == args

-- a function whose call has a value
abbrev pub has_value : Option Signature → Bool
has_value None = false
has_value (Some function) = is_int_kind function.kind

-- a function that a thread can be created with
abbrev pub is_thread_function : Option Signature → Bool
is_thread_function None = false
is_thread_function (Some function) = is_thread_kind function.kind

-- a call that keeps the rules at this place
abbrev pub is_valid_call : File → Scope → CallForm → Bool
is_valid_call file scope call =
    is_callable (length call.args) (function_here file scope call.of) && list_all (is_valid_expr file scope) call.args

-- what can be assigned, returned or begun with at this place: the value of a void function cannot be
abbrev pub is_valid_value : File → Scope → Value → Bool
is_valid_value file scope (value.Expr expr) = is_valid_expr file scope expr
is_valid_value file scope (value.Call call) = is_valid_call file scope call && has_value (function_here file scope call.of)
