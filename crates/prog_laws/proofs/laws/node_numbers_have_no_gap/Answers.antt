use Rattle.prog_laws.proofs.Numbers.{no_gap}
use Rattle.prog_laws.proofs.laws.node_numbers_have_no_gap.Goals as goal

pub returns : goal.returns
returns c = no_gap
