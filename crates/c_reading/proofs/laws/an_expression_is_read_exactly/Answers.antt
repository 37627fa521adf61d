use Rattle.c_reading.proofs.Expr.{expr_reads_exactly}
use Rattle.c_reading.proofs.laws.an_expression_is_read_exactly.Goals as goal

pub returns : goal.returns
returns c = expr_reads_exactly
