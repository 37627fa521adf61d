use Rattle.order_laws.proofs.OrderLaws.{no_first_before}
use Rattle.order_laws.proofs.laws.no_first_before_violation.Goals as goal

pub returns : goal.returns
returns c = no_first_before
