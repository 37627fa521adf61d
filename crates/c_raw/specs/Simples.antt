-- What stands in simple statements, as trees of the grammar.
use Rattle.std.specs.Prelude.{List, map, Option, Some, None}
use Rattle.cfix_base.specs.declared.Spot.{Spot}
use Rattle.c_raw.specs.declared.expr.Expr.{Expr}
use Rattle.c_raw.specs.declared.simple.Place.{Place}
use Rattle.c_raw.specs.declared.simple.Target.{Target}
use Rattle.c_raw.specs.declared.simple.Args.{Args}
use Rattle.c_raw.specs.declared.simple.Call.{Call}
use Rattle.c_raw.specs.declared.simple.Value.{Value}
use Rattle.c_raw.specs.declared.simple.Value.TheVariants as value
use Rattle.c_raw.specs.declared.simple.Change.{Change}
use Rattle.c_raw.specs.declared.simple.Change.TheVariants as change
use Rattle.c_raw.specs.declared.simple.Step.{Step}
use Rattle.c_raw.specs.declared.simple.Step.TheVariants as step
use Rattle.c_raw.specs.declared.simple.Plain.{Plain}
use Rattle.c_raw.specs.declared.simple.Plain.TheVariants as plain
use Rattle.c_raw.specs.declared.simple.ThreadArg.{ThreadArg}
use Rattle.c_raw.specs.declared.simple.ThreadArg.TheVariants as arg
use Rattle.c_raw.specs.declared.simple.Create.{Create}
use Rattle.c_raw.specs.declared.simple.Library.{Library}
use Rattle.c_raw.specs.declared.simple.Library.TheVariants as library
use Rattle.c_raw.specs.declared.simple.Simple.{Simple}
use Rattle.c_raw.specs.declared.simple.Simple.TheVariants as simple
use Rattle.c_raw.specs.Tokens.{ident_view, text_view}
use Rattle.c_raw.specs.Exprs.{long_view, expr_view}
use Rattle.c_grammar.specs.Expr as e
use Rattle.c_grammar.specs.Simple as g

abbrev pub place_view : Place → g.Place
place_view p = (p.before, (expr_view p.index, p.after))

abbrev pub index_view : Option Place → Option g.Place
index_view None = None
index_view (Some p) = Some (place_view p)

abbrev pub target_view : Target → g.Target
target_view t = g.TargetOf (ident_view t.name) (index_view t.index)

-- an expression with the comma before it
abbrev pub next_view : Spot × Expr → Spot × e.Expr
next_view x = (x.0, expr_view x.1)

abbrev pub more_view : List (Spot × Expr) → List (Spot × e.Expr)
more_view more = map next_view more

abbrev pub args_view : Option Args → g.Args
args_view None = None
args_view (Some a) = Some (expr_view a.first, more_view a.more)

abbrev pub call_view : Call → g.Call
call_view c = g.CallOf (ident_view c.name) c.before (args_view c.args) c.after

abbrev pub value_view : Value → g.Value
value_view (value.Computed e) = g.Computed (expr_view e)
value_view (value.Called c) = g.Called (call_view c)

abbrev pub change_view : Change → g.Change
change_view change.AddTo = g.AddTo
change_view change.SubtractFrom = g.SubtractFrom
change_view change.MultiplyBy = g.MultiplyBy
change_view change.DivideBy = g.DivideBy
change_view change.RemainderBy = g.RemainderBy

abbrev pub step_view : Step → g.Step
step_view step.Up = g.Up
step_view step.Down = g.Down

abbrev pub plain_view : Plain → g.Plain
plain_view (plain.SetTo t at e) = g.SetTo (target_view t) at (expr_view e)
plain_view (plain.Changed t how at e) = g.Changed (target_view t) (change_view how) at (expr_view e)
plain_view (plain.SteppedAfter t s at) = g.SteppedAfter (target_view t) (step_view s) at
plain_view (plain.SteppedBefore s at t) = g.SteppedBefore (step_view s) at (target_view t)

abbrev pub thread_arg_view : ThreadArg → g.ThreadArg
thread_arg_view (arg.Null at) = g.NullArg at
thread_arg_view (arg.Cast before void star after long e) = g.CastArg before void star after (long_view long) (expr_view e)

abbrev pub create_view : Create → g.Library
create_view c =
    g.Create c.at c.before c.amp (target_view c.target) c.first_comma c.null c.second_comma (ident_view c.function) c.third_comma (thread_arg_view c.arg) c.after

abbrev pub library_view : Library → g.Library
library_view (library.Create c) = create_view c
library_view (library.Join at before t comma null after) = g.Join at before (target_view t) comma null after
library_view (library.Lock at before amp m after) = g.Lock at before amp (ident_view m) after
library_view (library.Unlock at before amp m after) = g.Unlock at before amp (ident_view m) after
library_view (library.Print at before text more after) = g.Print at before (text_view text) (more_view more) after
library_view (library.Scan at before text comma amp t after) = g.Scan at before (text_view text) comma amp (target_view t) after
library_view (library.Wait at before amp1 c comma amp2 m after) = g.Wait at before amp1 (ident_view c) comma amp2 (ident_view m) after
library_view (library.Signal at before amp c after) = g.Signal at before amp (ident_view c) after
library_view (library.Broadcast at before amp c after) = g.Broadcast at before amp (ident_view c) after

abbrev pub simple_view : Simple → g.Simple
simple_view (simple.Plain p) = g.PlainPart (plain_view p)
simple_view (simple.SetCall t at c) = g.SetCall (target_view t) at (call_view c)
simple_view (simple.Call c) = g.OnlyCall (call_view c)
simple_view (simple.Library l) = g.LibraryPart (library_view l)
