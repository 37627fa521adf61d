use Rattle.std.proofs.Common.{◌≡◌, ◌++◌, drop}
use Rattle.c_prog.specs.Marks.{old_ops}
use Rattle.c_marks.proofs.old.old_ops.Given as goal

abbrev pub invariant-loop-op : goal.invariant-loop-op
invariant-loop-op l = l.copy ++ old_ops l.marks (drop l.op-index l.list) ≡ old_ops l.marks l.list
