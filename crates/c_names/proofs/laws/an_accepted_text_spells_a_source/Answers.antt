use Rattle.c_names.proofs.Accepted.{accepted}
use Rattle.c_names.proofs.laws.an_accepted_text_spells_a_source.Goals as goal

pub returns : goal.returns
returns c = accepted
