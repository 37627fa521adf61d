use Rattle.std.proofs.Common.{length}
use Rattle.c_source.proofs.search.+access_line.Given as goal

abbrev pub decreases-access_line : goal.decreases-access_line
decreases-access_line l = length l.entries.now
