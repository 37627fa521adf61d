use Rattle.std.proofs.Common.{drop, map}
use Rattle.c_reading.specs.ReadOp.{is_verb}
use Rattle.c_stmt.specs.Conds.{guard_op_view, guard_op}
use Rattle.c_stmt.proofs.Loop.{SoFar}
use Rattle.c_stmt.proofs.guard.guard_ops_of.Given as goal

abbrev pub invariant-ops : goal.invariant-ops
invariant-ops l = SoFar is_verb guard_op (drop l.at l.cursor.tokens) (map guard_op_view l.more) l.counter (drop l.place l.cursor.tokens)
