use Rattle.std.proofs.Common.{◌≡◌, max, drop}
use Rattle.c_prog.specs.Marks.{above_start, greatest}
use Rattle.c_marks.proofs.marking.above_starts.Given as goal

abbrev pub invariant-loop-order : goal.invariant-loop-order
invariant-loop-order l = max l.above (greatest above_start (drop l.order-index l.list)) ≡ greatest above_start l.list
