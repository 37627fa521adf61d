use Rattle.order_laws.proofs.FlagRuns.{flag_tells}
use Rattle.order_laws.proofs.laws.flag_tells.Goals as goal

pub returns : goal.returns
returns c = flag_tells
