use Rattle.c_reading.proofs.ReadFile.{file_fixes_depths}
use Rattle.c_reading.proofs.laws.tokens_fix_the_depths_of_a_file.Goals as goal

pub returns : goal.returns
returns c = file_fixes_depths
