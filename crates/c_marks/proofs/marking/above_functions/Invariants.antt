use Rattle.std.proofs.Common.{◌≡◌, max, drop}
use Rattle.c_prog.specs.Marks.{above_lock, above_order, functions_all, greatest}
use Rattle.c_marks.proofs.marking.above_functions.Given as goal

abbrev pub invariant-loop-function : goal.invariant-loop-function
invariant-loop-function l = record {
  lock : max l.above.lock (greatest above_lock (functions_all (drop l.function-index l.list))) ≡ greatest above_lock (functions_all l.list);
  order : max l.above.order (greatest above_order (functions_all (drop l.function-index l.list))) ≡ greatest above_order (functions_all l.list);
}
