-- Functions and the names of a file.
use Rattle.std.specs.Prelude.{ℕ, Bool, true, false, not, ◌&&◌, ◌||◌, ◌==◌, ℤ, pos, negsuc, int_le, List, [], ◌∷◌, ◌++◌, map, length}
use Rattle.std.specs.List.{list_all, list_any}
use Rattle.std.specs.Str.{bytes_eq}
use Rattle.c_prog.specs.declared.function.FnKind.{FnKind}
use Rattle.c_prog.specs.declared.function.FnKind.TheVariants.{Thread}
use Rattle.c_prog.specs.declared.function.Function.{Function}
use Rattle.c_prog.specs.declared.global.GlobalKind.{GlobalKind}
use Rattle.c_prog.specs.declared.global.GlobalKind.TheVariants as global_kind
use Rattle.c_prog.specs.declared.tree.Tree.{Tree}
use Rattle.c_prog.specs.Valid.Scope.{VarKind, int, argument, Scope, nothing_declared, declared}
use Rattle.c_prog.specs.Valid.Kinds.{File}
use Rattle.c_prog.specs.Valid.Expressions.{is_int_kind, is_main_name}
use Rattle.c_prog.specs.Valid.Acts.{is_declared_name, is_length}
use Rattle.c_prog.specs.Valid.Statements.{Around, all_valid, parts_of}
use Rattle.c_prog.specs.Valid.Falls.{falls_through}

-- no name stands twice in the list
abbrev pub are_distinct : List (List ℕ) → Bool
are_distinct [] = true
are_distinct (name ∷ names) = not (list_any (bytes_eq name) names) && are_distinct names

-- names that can be declared together
abbrev pub are_declared_names : List (List ℕ) → Bool
are_declared_names names = list_all is_declared_name names && are_distinct names

-- the names that a file declares: globals and functions share one name space
abbrev pub file_names : Tree → List (List ℕ)
file_names tree = map (λ global. global.name) tree.globals ++ map (λ function. function.name) tree.functions

-- the initial value of a global, as a text spells it: a number, and a `-` before it or not
abbrev pub is_initial_number : ℤ → Bool
is_initial_number number = int_le (negsuc 2147483646) number && int_le number (pos 2147483647)

-- a global with the number or the length that a text spells
abbrev pub is_valid_global : GlobalKind → Bool
is_valid_global (global_kind.Int number) = is_initial_number number
is_valid_global (global_kind.IntArray count) = is_length count
is_valid_global global_kind.Thread = true
is_valid_global (global_kind.ThreadArray count) = is_length count
is_valid_global global_kind.Mutex = true
is_valid_global global_kind.Cond = true

-- the kind of the parameters of a function
abbrev pub param_kind : FnKind → VarKind
param_kind Thread = argument
param_kind _ = int

-- the scope after parameters
abbrev pub with_params : VarKind → List (List ℕ) → Scope → Scope
with_params kind [] scope = scope
with_params kind (name ∷ names) scope = with_params kind names (declared name kind scope)

-- the scope in which a body begins: the parameters are in its outermost block
abbrev pub body_scope : Function → Scope
body_scope function = with_params (param_kind function.kind) function.params nothing_declared

-- so many parameters: the function of a thread has one
abbrev pub is_valid_count : FnKind → ℕ → Bool
is_valid_count Thread count = count == 1
is_valid_count _ count = true

-- what a body stands in
abbrev pub body_around : Function → Around
body_around function = record { kind = function.kind; in_loop = false }

-- the statements of a body keep the rules
abbrev pub is_valid_body : File → Function → Bool
is_valid_body file function = all_valid (parts_of file function.body) (body_around function) (body_scope function)

-- an `int` function other than main does not fall through its end
abbrev pub is_valid_end : Function → Bool
is_valid_end function = not (is_int_kind function.kind) || is_main_name function.name || not (falls_through function.body)

-- a function that keeps the rules in this file
abbrev pub is_valid_function : File → Function → Bool
is_valid_function file function =
    are_declared_names function.params && is_valid_count function.kind (length function.params)
    && is_valid_body file function && is_valid_end function

-- `int main` without parameters (5.1.2.2.1 of ISO/IEC 9899:2011)
abbrev pub is_main : Function → Bool
is_main function = is_main_name function.name && is_int_kind function.kind && length function.params == 0
