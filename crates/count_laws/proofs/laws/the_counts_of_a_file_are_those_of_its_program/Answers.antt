use Rattle.count_laws.proofs.Counted.{counted}
use Rattle.count_laws.proofs.laws.the_counts_of_a_file_are_those_of_its_program.Goals as goal

pub returns : goal.returns
returns c = counted
