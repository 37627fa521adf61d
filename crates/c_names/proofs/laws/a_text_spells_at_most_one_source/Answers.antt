use Rattle.c_names.proofs.OneSource.{one_source}
use Rattle.c_names.proofs.laws.a_text_spells_at_most_one_source.Goals as goal

pub returns : goal.returns
returns c = one_source
