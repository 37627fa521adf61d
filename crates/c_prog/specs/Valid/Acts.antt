-- Simple statements and steps at a place of a body.
use Rattle.std.specs.Prelude.{ℕ, Bool, true, false, not, ◌&&◌, nat_le, List, length, Option, Some, None}
use Rattle.std.specs.List.{list_all}
use Rattle.cfix_base.specs.Words.{is_name_text, is_reserved_text}
use Rattle.c_prog.specs.declared.act.Act.{Act}
use Rattle.c_prog.specs.declared.act.Act.TheVariants.{Declare, Assign, Up, Down, Call, Create, Join, Lock, Unlock, Print, Scan, Wait, Signal, Broadcast}
use Rattle.c_prog.specs.declared.act.How.{How}
use Rattle.c_prog.specs.declared.act.How.TheVariants.{Set}
use Rattle.c_prog.specs.declared.act.LocalKind.{LocalKind}
use Rattle.c_prog.specs.declared.act.LocalKind.TheVariants.{Int, IntArray, Thread, ThreadArray}
use Rattle.c_prog.specs.declared.act.Value.{Value}
use Rattle.c_prog.specs.declared.act.Value.TheVariants as value
use Rattle.c_prog.specs.declared.expr.Var.TheVariants as var
use Rattle.c_prog.specs.Valid.Scope.{Scope, is_in_block, declared}
use Rattle.c_prog.specs.Valid.Kinds.{File, local_var_kind, kind_here, function_here}
use Rattle.c_prog.specs.Valid.Strings.{is_string, directives, is_count}
use Rattle.c_prog.specs.Valid.Expressions.{is_valid_expr, is_int_target, is_thread_target, is_mutex, is_cond, is_thread_function, is_valid_call, is_valid_value}

-- a name that can be declared: no word, and with none of the beginnings that are reserved
abbrev pub is_declared_name : List ℕ → Bool
is_declared_name name = is_name_text name && not (is_reserved_text name)

-- the length of an array, as a number spells it
abbrev pub is_length : ℕ → Bool
is_length count = nat_le count 2147483647

-- the kind of a local, with the length that a text spells
abbrev pub is_valid_kind : LocalKind → Bool
is_valid_kind Int = true
is_valid_kind (IntArray count) = is_length count
is_valid_kind Thread = true
is_valid_kind (ThreadArray count) = is_length count

-- what a local begins with: only an `int` scalar has an initialiser
abbrev pub is_valid_initial : File → Scope → LocalKind → Option Value → Bool
is_valid_initial file scope kind None = true
is_valid_initial file scope Int (Some value) = is_valid_value file scope value
is_valid_initial file scope _ (Some value) = false

-- a declaration: its name is new in its block, and its initialiser sees it
abbrev pub is_valid_declaration : File → Scope → List ℕ → LocalKind → Option Value → Bool
is_valid_declaration file scope name kind initial =
    is_declared_name name && not (is_in_block name scope) && is_valid_kind kind
    && is_valid_initial file (declared name (local_var_kind kind) scope) kind initial

-- what an assignment takes: only `=` takes a call
abbrev pub is_valid_assigned : File → Scope → How → Value → Bool
is_valid_assigned file scope how (value.Expr expr) = is_valid_expr file scope expr
is_valid_assigned file scope Set (value.Call call) = is_valid_value file scope (value.Call call)
is_valid_assigned file scope _ (value.Call call) = false

-- a simple statement that keeps the rules at this place
abbrev pub is_valid_act : File → Scope → Act → Bool
is_valid_act file scope (Declare name kind initial) = is_valid_declaration file scope name kind initial
is_valid_act file scope (Assign target how value) = is_int_target file scope target && is_valid_assigned file scope how value
is_valid_act file scope (Up target) = is_int_target file scope target
is_valid_act file scope (Down target) = is_int_target file scope target
is_valid_act file scope (Call call) = is_valid_call file scope call
is_valid_act file scope (Create target function arg) =
    is_thread_target file scope target && is_thread_function (function_here file scope function) && is_valid_expr file scope arg
is_valid_act file scope (Join target) = is_thread_target file scope target
is_valid_act file scope (Lock lock) = is_mutex (kind_here file scope (var.Global lock))
is_valid_act file scope (Unlock lock) = is_mutex (kind_here file scope (var.Global lock))
is_valid_act file scope (Print text args) =
    is_string text && is_count (length args) (directives text) && list_all (is_valid_expr file scope) args
is_valid_act file scope (Scan target) = is_int_target file scope target
is_valid_act file scope (Wait waited lock) =
    is_cond (kind_here file scope (var.Global waited)) && is_mutex (kind_here file scope (var.Global lock))
is_valid_act file scope (Signal waited) = is_cond (kind_here file scope (var.Global waited))
is_valid_act file scope (Broadcast waited) = is_cond (kind_here file scope (var.Global waited))

-- what can be the step of a `for`: an assignment of an expression, `++` or `--`
abbrev pub is_step : Act → Bool
is_step (Assign target how (value.Expr expr)) = true
is_step (Up target) = true
is_step (Down target) = true
is_step _ = false
