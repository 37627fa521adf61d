use Rattle.c_reading.proofs.ReadFile.{file_one_tree}
use Rattle.c_reading.proofs.laws.a_file_has_one_tree.Goals as goal

pub returns : goal.returns
returns c = file_one_tree
