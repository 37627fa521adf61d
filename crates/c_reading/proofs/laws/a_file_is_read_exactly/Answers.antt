use Rattle.c_reading.proofs.ReadFile.{file_reads_exactly}
use Rattle.c_reading.proofs.laws.a_file_is_read_exactly.Goals as goal

pub returns : goal.returns
returns c = file_reads_exactly
