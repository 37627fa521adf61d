use Rattle.valid_law.proofs.ValidSpelled.{valid_spelled}
use Rattle.valid_law.proofs.laws.a_file_without_faults_spells_a_valid_program.Goals as goal

pub returns : goal.returns
returns c = valid_spelled
