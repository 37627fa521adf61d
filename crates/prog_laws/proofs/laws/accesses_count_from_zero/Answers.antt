use Rattle.prog_laws.proofs.Counted.{counts-from-zero}
use Rattle.prog_laws.proofs.laws.accesses_count_from_zero.Goals as goal

pub returns : goal.returns
returns c = counts-from-zero
