-- Simple statements and operations: the faults of their names, strings and numbers.
use Rattle.std.specs.Prelude.{ℕ, Bool, false, not, ◌==◌, nat_lt, List, [], ◌++◌, map, length, unsigned_abs}
use Rattle.cfix_base.specs.declared.limits.TheConstants.{MAX_ARGUMENTS, MAX_OPERATION_NUMBER}
use Rattle.cfix_base.specs.declared.Spot.{Spot}
use Rattle.c_grammar.specs.Marks.{each}
use Rattle.c_grammar.specs.Token.{Ident}
use Rattle.c_grammar.specs.Op.{Op, OpOf, Ops}
use Rattle.c_grammar.specs.Simple.{ThreadArg, NullArg, CastArg, Plain, SetTo, Changed, SteppedAfter, SteppedBefore, Library, Create, Join, Lock, Unlock, Print, Scan, Wait, Signal, Broadcast, Simple, PlainPart, SetCall, OnlyCall, LibraryPart}
use Rattle.c_prog.specs.Valid.Scope.{Scope}
use Rattle.c_prog.specs.Valid.Expressions.{is_mutex, is_cond, is_thread_kind}
use Rattle.c_names.specs.declared.fault.Fault.{Fault}
use Rattle.c_names.specs.declared.fault.FaultKind.TheVariants.{Arity, WrongUse, Limit}
use Rattle.c_names.specs.Faults.{fault_if}
use Rattle.c_names.specs.Uses.{Names, Use, IsFunction, use_of, kind_of}
use Rattle.c_names.specs.Names.{reserved_faults, use_faults}
use Rattle.c_names.specs.Expressions.{expr_faults, exprs_faults, int_target_faults, thread_target_faults, call_faults, valued_faults}
use Rattle.c_names.specs.Strings.{numbers_in, has_other, is_scan_text}

-- the number of an operation is at most 999
abbrev pub op_faults : Op → List Fault
op_faults (OpOf verb at before n after) = fault_if (nat_lt MAX_OPERATION_NUMBER (unsigned_abs n.value)) at Limit

-- operations, each with the token behind it
abbrev pub ops_faults : Ops → List Fault
ops_faults = each (λ x. op_faults x.0)

-- operations, each with the comma before it
abbrev pub more_ops_faults : List (Spot × Op) → List Fault
more_ops_faults = each (λ x. op_faults x.1)

-- an assignment, `++` or `--`
abbrev pub plain_faults : Names → Scope → Plain → List Fault
plain_faults names scope (SetTo t at e) = int_target_faults names scope t ++ expr_faults names scope e
plain_faults names scope (Changed t how at e) = int_target_faults names scope t ++ expr_faults names scope e
plain_faults names scope (SteppedAfter t step at) = int_target_faults names scope t
plain_faults names scope (SteppedBefore step at t) = int_target_faults names scope t

-- the argument that a thread is created with
abbrev pub thread_arg_faults : Names → Scope → ThreadArg → List Fault
thread_arg_faults names scope (NullArg at) = []
thread_arg_faults names scope (CastArg before void star after long e) = expr_faults names scope e

-- the function of a thread
abbrev pub is_thread_function_use : Use → Bool
is_thread_function_use (IsFunction n kind params) = is_thread_kind kind
is_thread_function_use _ = false

-- a thread is created with the function of a thread
abbrev pub created_faults : Names → Scope → Ident → List Fault
created_faults names scope f =
    reserved_faults f ++ use_faults (is_thread_function_use (use_of names scope f.text)) (use_of names scope f.text) f.spot

-- a mutex
abbrev pub mutex_faults : Names → Scope → Ident → List Fault
mutex_faults names scope m = reserved_faults m ++ use_faults (is_mutex (kind_of (use_of names scope m.text))) (use_of names scope m.text) m.spot

-- a condition variable
abbrev pub cond_variable_faults : Names → Scope → Ident → List Fault
cond_variable_faults names scope c = reserved_faults c ++ use_faults (is_cond (kind_of (use_of names scope c.text))) (use_of names scope c.text) c.spot

-- The word printf: as many arguments as the string has `%d`, and at most 16.
abbrev pub printf_faults : ℕ → List ℕ → Spot → List Fault
printf_faults count text at = fault_if (not (numbers_in text == count)) at Arity ++ fault_if (nat_lt MAX_ARGUMENTS count) at Limit

-- a call of the headers
abbrev pub library_faults : Names → Scope → Library → List Fault
library_faults names scope (Create at before amp t comma1 null comma2 f comma3 arg after) =
    thread_target_faults names scope t ++ (created_faults names scope f ++ thread_arg_faults names scope arg)
library_faults names scope (Join at before t comma null after) = thread_target_faults names scope t
library_faults names scope (Lock at before amp m after) = mutex_faults names scope m
library_faults names scope (Unlock at before amp m after) = mutex_faults names scope m
library_faults names scope (Print at before text more after) =
    printf_faults (length more) text.bytes at ++ (fault_if (has_other text.bytes) text.spot WrongUse ++ exprs_faults names scope (map (λ y. y.1) more))
library_faults names scope (Scan at before text comma amp t after) =
    fault_if (not (is_scan_text text.bytes)) text.spot WrongUse ++ int_target_faults names scope t
library_faults names scope (Wait at before amp1 c comma amp2 m after) = cond_variable_faults names scope c ++ mutex_faults names scope m
library_faults names scope (Signal at before amp c after) = cond_variable_faults names scope c
library_faults names scope (Broadcast at before amp c after) = cond_variable_faults names scope c

-- a simple statement that is no declaration
abbrev pub simple_faults : Names → Scope → Simple → List Fault
simple_faults names scope (PlainPart p) = plain_faults names scope p
simple_faults names scope (SetCall t at c) = int_target_faults names scope t ++ (call_faults names scope c ++ valued_faults names scope c)
simple_faults names scope (OnlyCall c) = call_faults names scope c
simple_faults names scope (LibraryPart l) = library_faults names scope l
