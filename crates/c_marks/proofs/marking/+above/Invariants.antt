use Rattle.std.proofs.Common.{◌≡◌, max, drop}
use Rattle.c_prog.specs.Marks.{above_lock, above_order, all_of, greatest}
use Rattle.c_marks.proofs.marking.+above.Given as goal

abbrev pub invariant-above_stmts-loop-stmt : goal.invariant-above_stmts-loop-stmt
invariant-above_stmts-loop-stmt l = record {
  lock : max l.above.lock (greatest above_lock (all_of (drop l.stmt-index l.list))) ≡ greatest above_lock (all_of l.list);
  order : max l.above.order (greatest above_order (all_of (drop l.stmt-index l.list))) ≡ greatest above_order (all_of l.list);
}
