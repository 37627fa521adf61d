use Rattle.layout_laws.proofs.TreeLaid.{laid_out}
use Rattle.layout_laws.proofs.laws.programs_are_laid_out.Goals as goal

pub returns : goal.returns
returns c = laid_out
