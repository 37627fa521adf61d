use Rattle.flow_laws.proofs.Returns.{left_by_returns}
use Rattle.flow_laws.proofs.laws.a_body_that_does_not_fall_through_is_left_by_returns.Goals as goal

pub returns : goal.returns
returns c = left_by_returns
