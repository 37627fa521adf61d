use Rattle.order_laws.proofs.OrderLaws.{no_all_before}
use Rattle.order_laws.proofs.laws.no_all_before_violation.Goals as goal

pub returns : goal.returns
returns c = no_all_before
