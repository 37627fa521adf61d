use Rattle.order_laws.proofs.OrderEnds.{ends_set}
use Rattle.order_laws.proofs.laws.ended_visits_set_flags.Goals as goal

pub returns : goal.returns
returns c = ends_set
