use Rattle.std.proofs.Common.{◌≡◌, ◌++◌, drop}
use Rattle.c_print.specs.Written.{ops_at}
use Rattle.c_print.proofs.operations.add_op_lines.Given as goal

abbrev pub invariant-loop-op : goal.invariant-loop-op
invariant-loop-op l = l.text.items ++ ops_at l.indent (drop l.op-index l.ops) ≡ l.initial.text.items ++ ops_at l.indent l.ops
