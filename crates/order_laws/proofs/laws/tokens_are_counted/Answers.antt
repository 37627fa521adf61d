use Rattle.order_laws.proofs.TokenRuns.{tokens_counted}
use Rattle.order_laws.proofs.laws.tokens_are_counted.Goals as goal

pub returns : goal.returns
returns c = tokens_counted
