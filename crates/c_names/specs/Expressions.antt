-- Expressions, targets and calls: the faults of their names.
use Rattle.std.specs.Prelude.{ℕ, Bool, true, false, not, ◌&&◌, ◌||◌, ◌==◌, nat_lt, List, [], ◌∷◌, ◌++◌, map, length, Option, Some, None}
use Rattle.cfix_base.specs.declared.limits.TheConstants.{MAX_ARGUMENTS}
use Rattle.c_grammar.specs.Marks.{each}
use Rattle.c_grammar.specs.Token.{Ident}
use Rattle.c_grammar.specs.Expr.{Expr, Number, Name, Index, Paren, Cast, Unary, Operation}
use Rattle.c_grammar.specs.Simple.{Place, Target, TargetOf, Args, Call, CallOf, Value, Computed, Called}
use Rattle.c_prog.specs.declared.function.FnKind.{FnKind}
use Rattle.c_prog.specs.Valid.Scope.{Scope}
use Rattle.c_prog.specs.Valid.Expressions.{is_int_use, is_thread_use, is_argument, is_void_kind, is_thread_kind, is_main_name}
use Rattle.c_names.specs.declared.fault.Fault.{Fault}
use Rattle.c_names.specs.declared.fault.FaultKind.TheVariants.{Unknown, Arity, WrongUse, RootCalled, Limit}
use Rattle.c_names.specs.Faults.{fault, fault_if}
use Rattle.c_names.specs.Uses.{Names, Use, IsFunction, IsUnknown, use_of, kind_of, is_defined_use}
use Rattle.c_names.specs.Names.{reserved_faults, use_faults}

-- a name that is read without an index: an `int` that is no array, or a defined name
abbrev pub is_read : Use → Bool
is_read found = is_defined_use found || is_int_use (kind_of found) None

-- a name that is read with an index: an array of `int`
abbrev pub is_element : Use → Bool
is_element found = is_int_use (kind_of found) (Some true)

-- the parameter of a thread function, which only a cast reads
abbrev pub is_cast : Use → Bool
is_cast found = is_argument (kind_of found)

-- the names of an expression
abbrev pub expr_faults : Names → Scope → Expr → List Fault
expr_faults names scope (Number n) = []
expr_faults names scope (Name x) = reserved_faults x ++ use_faults (is_read (use_of names scope x.text)) (use_of names scope x.text) x.spot
expr_faults names scope (Index x before e after) =
    reserved_faults x ++ (use_faults (is_element (use_of names scope x.text)) (use_of names scope x.text) x.spot ++ expr_faults names scope e)
expr_faults names scope (Paren before e after) = expr_faults names scope e
expr_faults names scope (Cast before word after long x) = reserved_faults x ++ use_faults (is_cast (use_of names scope x.text)) (use_of names scope x.text) x.spot
expr_faults names scope (Unary op at e) = expr_faults names scope e
expr_faults names scope (Operation a op at b) = expr_faults names scope a ++ expr_faults names scope b

-- the names of expressions
abbrev pub exprs_faults : Names → Scope → List Expr → List Fault
exprs_faults names scope = each (expr_faults names scope)

-- the names of an index, if there is one
abbrev pub index_faults : Names → Scope → Option Place → List Fault
index_faults names scope None = []
index_faults names scope (Some i) = expr_faults names scope i.1.0

-- whether there is an index
abbrev pub indexed : Option Place → Option Bool
indexed None = None
indexed (Some i) = Some true

-- an `int` variable or element that is changed
abbrev pub int_target_faults : Names → Scope → Target → List Fault
int_target_faults names scope (TargetOf x index) =
    reserved_faults x ++ (use_faults (is_int_use (kind_of (use_of names scope x.text)) (indexed index)) (use_of names scope x.text) x.spot
    ++ index_faults names scope index)

-- a thread variable or element
abbrev pub thread_target_faults : Names → Scope → Target → List Fault
thread_target_faults names scope (TargetOf x index) =
    reserved_faults x ++ (use_faults (is_thread_use (kind_of (use_of names scope x.text)) (indexed index)) (use_of names scope x.text) x.spot
    ++ index_faults names scope index)

-- the arguments of a call
abbrev pub args_list : Args → List Expr
args_list None = []
args_list (Some x) = x.0 ∷ map (λ y. y.1) x.1

-- main and the functions of threads are not called
abbrev pub is_root_name : Ident → FnKind → Bool
is_root_name f kind = is_main_name f.text || is_thread_kind kind

-- a function that is called with so many arguments: it is no root, and has as many parameters
abbrev pub callee_faults : Use → Ident → ℕ → List Fault
callee_faults (IsFunction n kind params) f count =
    fault_if (is_root_name f kind) f.spot RootCalled ++ fault_if (not (is_root_name f kind) && not (params == count)) f.spot Arity
callee_faults IsUnknown f count = fault f.spot Unknown ∷ []
callee_faults _ f count = fault f.spot WrongUse ∷ []

-- a call or printf has at most 16 arguments
abbrev pub count_faults : ℕ → Ident → List Fault
count_faults count f = fault_if (nat_lt MAX_ARGUMENTS count) f.spot Limit

-- a call (6.5.2.2 of ISO/IEC 9899:2011)
abbrev pub call_faults : Names → Scope → Call → List Fault
call_faults names scope (CallOf f before args after) =
    reserved_faults f ++ (callee_faults (use_of names scope f.text) f (length (args_list args))
    ++ (count_faults (length (args_list args)) f ++ exprs_faults names scope (args_list args)))

-- a void function, whose call has no value
abbrev pub is_void_use : Use → Bool
is_void_use (IsFunction n kind params) = is_void_kind kind
is_void_use _ = false

-- a call has a value
abbrev pub valued_faults : Names → Scope → Call → List Fault
valued_faults names scope (CallOf f before args after) = fault_if (is_void_use (use_of names scope f.text)) f.spot WrongUse

-- what is assigned, returned or begun with
abbrev pub value_faults : Names → Scope → Value → List Fault
value_faults names scope (Computed e) = expr_faults names scope e
value_faults names scope (Called c) = call_faults names scope c ++ valued_faults names scope c
