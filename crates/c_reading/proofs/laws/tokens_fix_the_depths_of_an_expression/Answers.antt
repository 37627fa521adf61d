use Rattle.c_reading.proofs.Expr.{expr_fixes_depths}
use Rattle.c_reading.proofs.laws.tokens_fix_the_depths_of_an_expression.Goals as goal

pub returns : goal.returns
returns c = expr_fixes_depths
