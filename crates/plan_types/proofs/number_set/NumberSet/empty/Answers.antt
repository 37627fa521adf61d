use Rattle.plan_types.proofs.Bits.{empty-words}
use Rattle.plan_types.proofs.number_set.NumberSet.empty.Goals as goal

pub returns : goal.returns
returns c = empty-words c.args.size _ c.in_ok-words.ensures.zeros
