use Rattle.std.proofs.Common.{◌≡◌, take, length}
use Rattle.c_same.proofs.same_stmt.+same.Given as goal

abbrev pub invariant-same_stmts-loop-i : goal.invariant-same_stmts-loop-i
invariant-same_stmts-loop-i l = (take l.i l.a ≡ take l.i l.b) × (length l.a ≡ length l.b)
