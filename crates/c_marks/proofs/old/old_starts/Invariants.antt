use Rattle.std.proofs.Common.{◌≡◌, ◌++◌, drop}
use Rattle.c_prog.specs.Marks.{is_new_start, old_of}
use Rattle.c_marks.proofs.old.old_starts.Given as goal

abbrev pub invariant-loop-order : goal.invariant-loop-order
invariant-loop-order l = l.copy ++ old_of (is_new_start l.marks) (drop l.order-index l.list) ≡ old_of (is_new_start l.marks) l.list
