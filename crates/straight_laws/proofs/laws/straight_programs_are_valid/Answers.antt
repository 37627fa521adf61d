use Rattle.straight_laws.proofs.ValidStraight.{valid-straight}
use Rattle.straight_laws.proofs.laws.straight_programs_are_valid.Goals as goal

pub returns : goal.returns
returns c = valid-straight
