use Rattle.c_reading.proofs.Expr.{expr_one_tree}
use Rattle.c_reading.proofs.laws.an_expression_has_one_tree.Goals as goal

pub returns : goal.returns
returns c = expr_one_tree
