use Rattle.std.proofs.Common.{◌≡◌, max, drop}
use Rattle.c_prog.specs.Marks.{above_lock, above_order, greatest}
use Rattle.c_marks.proofs.marking.above_ops.Given as goal

abbrev pub invariant-loop-op : goal.invariant-loop-op
invariant-loop-op l = record {
  lock : max l.above.lock (greatest above_lock (drop l.op-index l.list)) ≡ greatest above_lock l.list;
  order : max l.above.order (greatest above_order (drop l.op-index l.list)) ≡ greatest above_order l.list;
}
