-- Which operators and verbs tokens are.
use Rattle.std.specs.Prelude.{Bool, true, false, Option, Some, None}
use Rattle.cfix_base.specs.declared.Spot.{Spot}
use Rattle.c_grammar.specs.declared.word.Word.TheVariants as w
use Rattle.c_grammar.specs.declared.sign.Sign.TheVariants as s
use Rattle.c_grammar.specs.Expr as e
use Rattle.c_grammar.specs.Simple as g
use Rattle.c_grammar.specs.Op as o
use Rattle.c_cursor.specs.declared.look.Look.{Look}
use Rattle.c_cursor.specs.declared.look.Look.TheVariants as look
use Rattle.c_raw.specs.declared.expr.Prefix.{Prefix}
use Rattle.c_raw.specs.declared.expr.Prefix.TheVariants as prefix
use Rattle.c_raw.specs.declared.expr.Binary.{Binary}
use Rattle.c_raw.specs.declared.expr.Binary.TheVariants as binary
use Rattle.c_raw.specs.declared.simple.Change.{Change}
use Rattle.c_raw.specs.declared.simple.Change.TheVariants as change
use Rattle.c_raw.specs.declared.simple.Step.{Step}
use Rattle.c_raw.specs.declared.simple.Step.TheVariants as step
use Rattle.c_raw.specs.declared.op.Verb.{Verb}
use Rattle.c_raw.specs.declared.op.Verb.TheVariants as verb
use Rattle.c_raw.specs.Exprs.{prefix_view, binary_view}
use Rattle.c_raw.specs.Simples.{change_view, step_view}
use Rattle.c_raw.specs.Ops.{verb_view}

abbrev pub prefix_look : Look → Option Prefix
prefix_look (look.Sign s.Minus) = Some prefix.Negate
prefix_look (look.Sign s.Not) = Some prefix.Invert
prefix_look _ = None

abbrev pub binary_look : Look → Option Binary
binary_look (look.Sign s.OrOr) = Some binary.Or
binary_look (look.Sign s.AndAnd) = Some binary.And
binary_look (look.Sign s.Equal) = Some binary.Equal
binary_look (look.Sign s.NotEqual) = Some binary.NotEqual
binary_look (look.Sign s.Less) = Some binary.Less
binary_look (look.Sign s.LessEqual) = Some binary.LessEqual
binary_look (look.Sign s.Greater) = Some binary.Greater
binary_look (look.Sign s.GreaterEqual) = Some binary.GreaterEqual
binary_look (look.Sign s.Plus) = Some binary.Add
binary_look (look.Sign s.Minus) = Some binary.Subtract
binary_look (look.Sign s.Star) = Some binary.Multiply
binary_look (look.Sign s.Slash) = Some binary.Divide
binary_look (look.Sign s.Percent) = Some binary.Remainder
binary_look _ = None

abbrev pub change_look : Look → Option Change
change_look (look.Sign s.PlusAssign) = Some change.AddTo
change_look (look.Sign s.MinusAssign) = Some change.SubtractFrom
change_look (look.Sign s.StarAssign) = Some change.MultiplyBy
change_look (look.Sign s.SlashAssign) = Some change.DivideBy
change_look (look.Sign s.PercentAssign) = Some change.RemainderBy
change_look _ = None

abbrev pub step_look : Look → Option Step
step_look (look.Sign s.PlusPlus) = Some step.Up
step_look (look.Sign s.MinusMinus) = Some step.Down
step_look _ = None

abbrev pub verb_look : Look → Option Verb
verb_look (look.Word w.Enter) = Some verb.Enter
verb_look (look.Word w.Leave) = Some verb.Leave
verb_look (look.Word w.Wait) = Some verb.Wait
verb_look (look.Word w.Done) = Some verb.Done
verb_look (look.Word w.First) = Some verb.First
verb_look (look.Word w.Add) = Some verb.Add
verb_look _ = None

-- whether an expression begins so
abbrev pub begins_expr_look : Look → Bool
begins_expr_look look.Name = true
begins_expr_look (look.Number n) = true
begins_expr_look (look.Sign s.OpenParen) = true
begins_expr_look (look.Sign s.Minus) = true
begins_expr_look (look.Sign s.Not) = true
begins_expr_look _ = false

-- each with its place, in the terms of the grammar
abbrev pub prefix_at_view : Prefix × Spot → e.Prefix × Spot
prefix_at_view x = (prefix_view x.0, x.1)

abbrev pub binary_at_view : Binary × Spot → e.Binary × Spot
binary_at_view x = (binary_view x.0, x.1)

abbrev pub change_at_view : Change × Spot → g.Change × Spot
change_at_view x = (change_view x.0, x.1)

abbrev pub step_at_view : Step × Spot → g.Step × Spot
step_at_view x = (step_view x.0, x.1)

abbrev pub verb_at_view : Verb × Spot → o.Verb × Spot
verb_at_view x = (verb_view x.0, x.1)
