use Rattle.lift_laws.proofs.Repeats.{repeated}
use Rattle.lift_laws.proofs.laws.source_runs_are_repeated.Goals as goal

pub returns : goal.returns
returns c = repeated
