use Rattle.std.proofs.Common.{length}
use Rattle.c_source.proofs.search.+call_line.Given as goal

abbrev pub decreases-call_line : goal.decreases-call_line
decreases-call_line l = length l.entries.now
