use Rattle.std.proofs.Common.{None, refl}
use Rattle.c_raw.proofs.Equations.{stmt-If}
use Rattle.c_stmt.proofs.choice.choice.Goals as goal

pub returns : goal.returns
returns c = rw (stmt-If c.args.test c.in_ok-then.then None, c.in_ok-then.ensures) refl
