use Rattle.std.proofs.Common.{refl}
use Rattle.c_raw.proofs.Equations.{stmt-If, else-is}
use Rattle.c_stmt.proofs.choice.choice_else.Goals as goal

pub returns : goal.returns
returns c = rw (stmt-If, c.in_ok-then.ensures) (rw (else-is, c.in_ok-body.ensures) refl)
