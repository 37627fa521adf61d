-- The lines of the accesses and of the called names of expressions and simple statements: the line of an access is that of
-- the name of its variable. The accesses stand in the order of evaluation.
use Rattle.std.specs.Prelude.{ℕ, List, [], ◌∷◌, ◌++◌, map, Option, Some, None}
use Rattle.cfix_base.specs.declared.Spot.{Spot}
use Rattle.c_grammar.specs.Marks.{each}
use Rattle.c_grammar.specs.Expr.{Expr, Number, Name, Index, Paren, Cast, Unary, Operation}
use Rattle.c_grammar.specs.Simple.{Place, Target, TargetOf, Call, CallOf, Value, Computed, Called, Plain, SetTo, Changed, SteppedAfter, SteppedBefore, ThreadArg, NullArg, CastArg, Library, Create, Join, Lock, Unlock, Print, Scan, Wait, Signal, Broadcast, Simple, PlainPart, SetCall, OnlyCall, LibraryPart}
use Rattle.c_prog.specs.declared.expr.Var.{Var}
use Rattle.c_prog.specs.declared.expr.Var.TheVariants as var
use Rattle.c_prog.specs.Valid.Scope.{Scope}
use Rattle.c_names.specs.Uses.{Names, Use, IsDefined, use_of, var_of}
use Rattle.c_names.specs.Expressions.{args_list}

-- an access to the variable, unless it is a local
abbrev pub touch_lines : Var → Spot → List ℕ
touch_lines (var.Global id) spot = spot.line ∷ []
touch_lines (var.Local n) spot = []

-- a name that is read: a defined name is no access
abbrev pub read_lines : Use → Spot → List ℕ
read_lines (IsDefined n) spot = []
read_lines other spot = touch_lines (var_of other) spot

-- an expression
abbrev pub expr_lines : Names → Scope → Expr → List ℕ
expr_lines names scope (Number n) = []
expr_lines names scope (Name x) = read_lines (use_of names scope x.text) x.spot
expr_lines names scope (Index x before e after) = expr_lines names scope e ++ touch_lines (var_of (use_of names scope x.text)) x.spot
expr_lines names scope (Paren before e after) = expr_lines names scope e
expr_lines names scope (Cast before word after long x) = []
expr_lines names scope (Unary op at e) = expr_lines names scope e
expr_lines names scope (Operation a op at b) = expr_lines names scope a ++ expr_lines names scope b

-- expressions
abbrev pub exprs_lines : Names → Scope → List Expr → List ℕ
exprs_lines names scope = each (expr_lines names scope)

-- the index of a target, if there is one
abbrev pub place_lines : Names → Scope → Option Place → List ℕ
place_lines names scope None = []
place_lines names scope (Some i) = expr_lines names scope i.1.0

abbrev pub index_lines : Names → Scope → Target → List ℕ
index_lines names scope (TargetOf x index) = place_lines names scope index

-- the variable of a target itself
abbrev pub target_lines : Names → Scope → Target → List ℕ
target_lines names scope (TargetOf x index) = touch_lines (var_of (use_of names scope x.text)) x.spot

-- the arguments of a call
abbrev pub args_lines : Names → Scope → Call → List ℕ
args_lines names scope (CallOf f before args after) = exprs_lines names scope (args_list args)

-- what is assigned, returned or begun with
abbrev pub value_lines : Names → Scope → Value → List ℕ
value_lines names scope (Computed e) = expr_lines names scope e
value_lines names scope (Called c) = args_lines names scope c

-- an assignment, `++` or `--`: a compound one reads its target before its right side
abbrev pub plain_lines : Names → Scope → Plain → List ℕ
plain_lines names scope (SetTo t at e) = index_lines names scope t ++ (expr_lines names scope e ++ target_lines names scope t)
plain_lines names scope (Changed t how at e) =
    index_lines names scope t ++ (target_lines names scope t ++ (expr_lines names scope e ++ target_lines names scope t))
plain_lines names scope (SteppedAfter t step at) = index_lines names scope t ++ (target_lines names scope t ++ target_lines names scope t)
plain_lines names scope (SteppedBefore step at t) = index_lines names scope t ++ (target_lines names scope t ++ target_lines names scope t)

-- the argument that a thread is created with
abbrev pub thread_arg_lines : Names → Scope → ThreadArg → List ℕ
thread_arg_lines names scope (NullArg at) = []
thread_arg_lines names scope (CastArg before void star after long e) = expr_lines names scope e

-- a call of the headers: thread variables, mutexes and condition variables are no accesses
abbrev pub library_lines : Names → Scope → Library → List ℕ
library_lines names scope (Create at before amp t comma1 null comma2 f comma3 arg after) = index_lines names scope t ++ thread_arg_lines names scope arg
library_lines names scope (Join at before t comma null after) = index_lines names scope t
library_lines names scope (Lock at before amp m after) = []
library_lines names scope (Unlock at before amp m after) = []
library_lines names scope (Print at before text more after) = exprs_lines names scope (map (λ y. y.1) more)
library_lines names scope (Scan at before text comma amp t after) = index_lines names scope t ++ target_lines names scope t
library_lines names scope (Wait at before amp1 c comma amp2 m after) = []
library_lines names scope (Signal at before amp c after) = []
library_lines names scope (Broadcast at before amp c after) = []

-- a simple statement that is no declaration
abbrev pub simple_lines : Names → Scope → Simple → List ℕ
simple_lines names scope (PlainPart p) = plain_lines names scope p
simple_lines names scope (SetCall t at c) = index_lines names scope t ++ (args_lines names scope c ++ target_lines names scope t)
simple_lines names scope (OnlyCall c) = args_lines names scope c
simple_lines names scope (LibraryPart l) = library_lines names scope l

-- ---- the called names

abbrev pub call_line : Call → ℕ
call_line (CallOf f before args after) = f.spot.line

abbrev pub value_calls : Value → List ℕ
value_calls (Computed e) = []
value_calls (Called c) = call_line c ∷ []

abbrev pub simple_calls : Simple → List ℕ
simple_calls (PlainPart p) = []
simple_calls (SetCall t at c) = call_line c ∷ []
simple_calls (OnlyCall c) = call_line c ∷ []
simple_calls (LibraryPart l) = []
