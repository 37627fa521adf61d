-- Expressions, as trees of the grammar.
use Rattle.std.specs.Prelude.{Option, Some, None}
use Rattle.c_raw.specs.declared.expr.Prefix.{Prefix}
use Rattle.c_raw.specs.declared.expr.Prefix.TheVariants as prefix
use Rattle.c_raw.specs.declared.expr.Binary.{Binary}
use Rattle.c_raw.specs.declared.expr.Binary.TheVariants as binary
use Rattle.c_raw.specs.declared.expr.Long.{Long}
use Rattle.c_raw.specs.declared.expr.Cast.{Cast}
use Rattle.c_raw.specs.declared.expr.Expr.{Expr}
use Rattle.c_raw.specs.declared.expr.Expr.TheOpen.{Expr-F}
use Rattle.c_raw.specs.declared.expr.Expr.TheFolds.{fold-Expr}
use Rattle.c_raw.specs.Tokens.{ident_view, numeral_view}
use Rattle.c_grammar.specs.Expr as g

abbrev pub prefix_view : Prefix → g.Prefix
prefix_view prefix.Negate = g.Negate
prefix_view prefix.Invert = g.Invert

abbrev pub binary_view : Binary → g.Binary
binary_view binary.Or = g.Or
binary_view binary.And = g.And
binary_view binary.Equal = g.Equal
binary_view binary.NotEqual = g.NotEqual
binary_view binary.Less = g.Less
binary_view binary.LessEqual = g.LessEqual
binary_view binary.Greater = g.Greater
binary_view binary.GreaterEqual = g.GreaterEqual
binary_view binary.Add = g.Add
binary_view binary.Subtract = g.Subtract
binary_view binary.Multiply = g.Multiply
binary_view binary.Divide = g.Divide
binary_view binary.Remainder = g.Remainder

abbrev pub long_view : Option Long → g.Long
long_view None = None
long_view (Some l) = Some (l.before, (l.word, l.after))

abbrev pub cast_view : Cast → g.Expr
cast_view c = g.Cast c.before c.int c.after (long_view c.long) (ident_view c.name)

-- one level of an expression, where its parts are trees of the grammar already
abbrev pub expr_level : Expr-F g.Expr → g.Expr
expr_level (Expr-F.Number n) = g.Number (numeral_view n)
expr_level (Expr-F.Name x) = g.Name (ident_view x)
expr_level (Expr-F.Index x before index after) = g.Index (ident_view x) before index after
expr_level (Expr-F.Paren before inside after) = g.Paren before inside after
expr_level (Expr-F.Cast c) = cast_view c
expr_level (Expr-F.Unary op at operand) = g.Unary (prefix_view op) at operand
expr_level (Expr-F.Operation left op at right) = g.Operation left (binary_view op) at right

-- an expression as a tree of the grammar
abbrev pub expr_view : Expr → g.Expr
expr_view = fold-Expr g.Expr expr_level
