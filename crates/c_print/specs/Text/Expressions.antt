-- Expressions in text, with no more parentheses than they need (6.5 of ISO/IEC 9899:2011).
use Rattle.std.specs.Prelude.{ℕ, ◌+◌, nat_lt, ℤ, pos, negsuc, Bool, false, eqb, List, [], ◌++◌, codes, Option, Some, None, if◌then◌else◌}
use Rattle.std.specs.Fmt.{signed_decimal}
use Rattle.c_prog.specs.declared.expr.BinOp.{BinOp}
use Rattle.c_prog.specs.declared.expr.BinOp.TheVariants as op
use Rattle.c_prog.specs.declared.expr.Expr.{Expr}
use Rattle.c_prog.specs.declared.expr.Target.{Target}
use Rattle.c_prog.specs.declared.expr.Expr.TheOpen.{Expr-F, Target-F}
use Rattle.c_prog.specs.declared.expr.Expr.TheFolds.{fold-Expr, fold-Target}
use Rattle.c_print.specs.Text.Names.{Names, name_at, var_name}
use Rattle.c_print.specs.Text.Pieces.{in_parentheses, in_brackets}

-- the sign of a binary operator
abbrev pub sign_of : BinOp → List ℕ
sign_of op.Add = codes "+"
sign_of op.Sub = codes "-"
sign_of op.Mul = codes "*"
sign_of op.Div = codes "/"
sign_of op.Rem = codes "%"
sign_of op.Lt = codes "<"
sign_of op.Le = codes "<="
sign_of op.Gt = codes ">"
sign_of op.Ge = codes ">="
sign_of op.Eq = codes "=="
sign_of op.Ne = codes "!="
sign_of op.And = codes "&&"
sign_of op.Or = codes "||"

-- how tightly a binary operator binds, from 1 to 6 (6.5.5 to 6.5.14 of ISO/IEC 9899:2011)
abbrev pub binding : BinOp → ℕ
binding op.Or = 1
binding op.And = 2
binding op.Eq = 3
binding op.Ne = 3
binding op.Lt = 4
binding op.Le = 4
binding op.Gt = 4
binding op.Ge = 4
binding op.Add = 5
binding op.Sub = 5
binding op.Mul = 6
binding op.Div = 6
binding op.Rem = 6

-- an expression in text, and how tightly it binds: as its outermost operator if that is binary, 7 if
-- that is a unary `-`, and 8 otherwise
pub record Printed : Type 0 where
  pub binds : ℕ
  pub text : List ℕ

abbrev pub whole : List ℕ → Printed
whole text = record { binds = 8; text = text }

-- an operand, in parentheses if it binds less than this
abbrev pub operand : ℕ → Printed → List ℕ
operand least inner = if nat_lt inner.binds least then in_parentheses inner.text else inner.text

abbrev pub index_text : Option Printed → List ℕ
index_text None = []
index_text (Some index) = in_brackets index.text

-- one level of an expression, with the expressions inside in text: the left operand may bind as its
-- operator does and the right one binds more; no binary operator stands bare under a unary one, and
-- no `-` under `-`
abbrev pub expr_level : Names → Expr-F Printed Printed → Printed
expr_level names (Expr-F.Number n) = whole (signed_decimal n)
expr_level names (Expr-F.Read target) = target
expr_level names (Expr-F.Cast n) = whole (codes "(int)(long)" ++ name_at names.locals n)
expr_level names (Expr-F.Neg inner) = record { binds = 7; text = codes "-" ++ operand 8 inner }
expr_level names (Expr-F.Not inner) = whole (codes "!" ++ operand 7 inner)
expr_level names (Expr-F.Binary o left right) = record {
  binds = binding o;
  text = operand (binding o) left ++ codes " " ++ sign_of o ++ codes " " ++ operand (binding o + 1) right;
}

-- one level of a variable or element
abbrev pub target_level : Names → Target-F Printed Printed → Printed
target_level names target = whole (var_name names target.var ++ index_text target.index)

abbrev pub printed : Names → Expr → Printed
printed names = fold-Expr Printed Printed (expr_level names) (target_level names)

-- an expression
abbrev pub expr_text : Names → Expr → List ℕ
expr_text names e = (printed names e).text

abbrev pub printed_target : Names → Target → Printed
printed_target names = fold-Target Printed Printed (expr_level names) (target_level names)

-- a variable, or the element of an array
abbrev pub target_text : Names → Target → List ℕ
target_text names target = (printed_target names target).text

abbrev pub is_zero_value : ℤ → Bool
is_zero_value (pos n) = eqb n 0
is_zero_value (negsuc n) = false

-- whether one level of an expression is the number 0
abbrev pub zero_level : Expr-F Bool Bool → Bool
zero_level (Expr-F.Number n) = is_zero_value n
zero_level _ = false

-- whether an expression is the number 0
abbrev pub is_zero : Expr → Bool
is_zero = fold-Expr Bool Bool zero_level (λ target. false)

-- the argument of a thread that is created: `NULL` for the number 0, and otherwise a cast of an operand
-- as under a unary operator
abbrev pub thread_argument : Names → Expr → List ℕ
thread_argument names e = if is_zero e then codes "NULL" else codes "(void *)(long)" ++ operand 7 (printed names e)
