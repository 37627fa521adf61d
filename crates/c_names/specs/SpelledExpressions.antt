-- What expressions, targets, calls and simple statements spell, whatever their faults.
use Rattle.std.specs.Prelude.{pos, List, map, Option, Some, None}
use Rattle.c_grammar.specs.Expr as g
use Rattle.c_grammar.specs.Expr.{Expr, Prefix, Negate, Invert, Binary, Number, Name, Index, Paren, Cast, Unary, Operation}
use Rattle.c_grammar.specs.Simple.{Place, Target, TargetOf, Call, CallOf, Value, Computed, Called, Change, AddTo, SubtractFrom, MultiplyBy, DivideBy, RemainderBy, Step, Up, Down, Plain, SetTo, Changed, SteppedAfter, SteppedBefore, ThreadArg, NullArg, CastArg, Library, Create, Join, Lock, Unlock, Print, Scan, Wait, Signal, Broadcast, Simple, PlainPart, SetCall, OnlyCall, LibraryPart}
use Rattle.c_prog.specs.declared.act.Act.{Act}
use Rattle.c_prog.specs.declared.act.Act.TheVariants as act
use Rattle.c_prog.specs.declared.act.CallForm.{CallForm}
use Rattle.c_prog.specs.declared.act.How.{How}
use Rattle.c_prog.specs.declared.act.How.TheVariants as how
use Rattle.c_prog.specs.declared.act.Value as v
use Rattle.c_prog.specs.declared.act.Value.TheVariants as value
use Rattle.c_prog.specs.declared.expr.BinOp.{BinOp}
use Rattle.c_prog.specs.declared.expr.BinOp.TheVariants as bin_op
use Rattle.c_prog.specs.declared.expr.Expr as e
use Rattle.c_prog.specs.declared.expr.Expr.TheVariants as expr
use Rattle.c_prog.specs.declared.expr.Target as t
use Rattle.c_prog.specs.Valid.Scope.{Scope}
use Rattle.c_names.specs.Uses.{Names, Use, IsDefined, use_of, var_of, local_number, global_number, function_number}
use Rattle.c_names.specs.Expressions.{args_list}

-- a binary operator
abbrev pub op_of : Binary → BinOp
op_of g.Or = bin_op.Or
op_of g.And = bin_op.And
op_of g.Equal = bin_op.Eq
op_of g.NotEqual = bin_op.Ne
op_of g.Less = bin_op.Lt
op_of g.LessEqual = bin_op.Le
op_of g.Greater = bin_op.Gt
op_of g.GreaterEqual = bin_op.Ge
op_of g.Add = bin_op.Add
op_of g.Subtract = bin_op.Sub
op_of g.Multiply = bin_op.Mul
op_of g.Divide = bin_op.Div
op_of g.Remainder = bin_op.Rem

-- a unary operator
abbrev pub prefixed : Prefix → e.Expr → e.Expr
prefixed Negate operand = expr.Neg operand
prefixed Invert operand = expr.Not operand

-- a name that is read: a defined name spells its number
abbrev pub read_of : Use → e.Expr
read_of (IsDefined n) = expr.Number n
read_of other = expr.Read (record { var = var_of other; index = None })

-- an expression; a cast spells the same with and without `(long)`
abbrev pub expr_of : Names → Scope → Expr → e.Expr
expr_of names scope (Number n) = expr.Number n.value
expr_of names scope (Name x) = read_of (use_of names scope x.text)
expr_of names scope (Index x before i after) = expr.Read (record { var = var_of (use_of names scope x.text); index = Some (expr_of names scope i) })
expr_of names scope (Paren before inner after) = expr_of names scope inner
expr_of names scope (Cast before word after long x) = expr.Cast (local_number (use_of names scope x.text))
expr_of names scope (Unary op at operand) = prefixed op (expr_of names scope operand)
expr_of names scope (Operation a op at b) = expr.Binary (op_of op) (expr_of names scope a) (expr_of names scope b)

-- expressions
abbrev pub exprs_of : Names → Scope → List Expr → List e.Expr
exprs_of names scope = map (expr_of names scope)

-- an index, if there is one
abbrev pub index_of : Names → Scope → Option Place → Option e.Expr
index_of names scope None = None
index_of names scope (Some i) = Some (expr_of names scope i.1.0)

-- a variable or element
abbrev pub target_of : Names → Scope → Target → t.Target
target_of names scope (TargetOf x index) = record { var = var_of (use_of names scope x.text); index = index_of names scope index }

-- a call
abbrev pub call_of : Names → Scope → Call → CallForm
call_of names scope (CallOf f before args after) = record {
  of = record { number = function_number (use_of names scope f.text) };
  args = exprs_of names scope (args_list args);
}

-- what is assigned, returned or begun with
abbrev pub value_of : Names → Scope → Value → v.Value
value_of names scope (Computed e) = value.Expr (expr_of names scope e)
value_of names scope (Called c) = value.Call (call_of names scope c)

-- an assignment operator
abbrev pub how_of : Change → How
how_of AddTo = how.Add
how_of SubtractFrom = how.Sub
how_of MultiplyBy = how.Mul
how_of DivideBy = how.Div
how_of RemainderBy = how.Rem

-- `++x` spells `x++`
abbrev pub stepped : Step → t.Target → Act
stepped Up target = act.Up target
stepped Down target = act.Down target

-- an assignment, `++` or `--`
abbrev pub plain_of : Names → Scope → Plain → Act
plain_of names scope (SetTo t at e) = act.Assign (target_of names scope t) how.Set (value.Expr (expr_of names scope e))
plain_of names scope (Changed t change at e) = act.Assign (target_of names scope t) (how_of change) (value.Expr (expr_of names scope e))
plain_of names scope (SteppedAfter t step at) = stepped step (target_of names scope t)
plain_of names scope (SteppedBefore step at t) = stepped step (target_of names scope t)

-- `NULL` as the argument of a thread spells the number 0
abbrev pub thread_arg_of : Names → Scope → ThreadArg → e.Expr
thread_arg_of names scope (NullArg at) = expr.Number (pos 0)
thread_arg_of names scope (CastArg before void star after long e) = expr_of names scope e

-- a call of the headers
abbrev pub library_of : Names → Scope → Library → Act
library_of names scope (Create at before amp t comma1 null comma2 f comma3 arg after) =
    act.Create (target_of names scope t) (record { number = function_number (use_of names scope f.text) }) (thread_arg_of names scope arg)
library_of names scope (Join at before t comma null after) = act.Join (target_of names scope t)
library_of names scope (Lock at before amp m after) = act.Lock (record { number = global_number (use_of names scope m.text) })
library_of names scope (Unlock at before amp m after) = act.Unlock (record { number = global_number (use_of names scope m.text) })
library_of names scope (Print at before text more after) = act.Print text.bytes (exprs_of names scope (map (λ y. y.1) more))
library_of names scope (Scan at before text comma amp t after) = act.Scan (target_of names scope t)
library_of names scope (Wait at before amp1 c comma amp2 m after) =
    act.Wait (record { number = global_number (use_of names scope c.text) }) (record { number = global_number (use_of names scope m.text) })
library_of names scope (Signal at before amp c after) = act.Signal (record { number = global_number (use_of names scope c.text) })
library_of names scope (Broadcast at before amp c after) = act.Broadcast (record { number = global_number (use_of names scope c.text) })

-- a simple statement that is no declaration
abbrev pub simple_of : Names → Scope → Simple → Act
simple_of names scope (PlainPart p) = plain_of names scope p
simple_of names scope (SetCall t at c) = act.Assign (target_of names scope t) how.Set (value.Call (call_of names scope c))
simple_of names scope (OnlyCall c) = act.Call (call_of names scope c)
simple_of names scope (LibraryPart l) = library_of names scope l
