use Rattle.std.proofs.Common.{◌≡◌, take}
use Rattle.c_copy.proofs.statements.+copy.Given as goal

abbrev pub invariant-copy_stmts-loop-stmt : goal.invariant-copy_stmts-loop-stmt
invariant-copy_stmts-loop-stmt l = l.copy ≡ take l.stmt-index l.list
