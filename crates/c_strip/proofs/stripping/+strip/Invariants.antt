use Rattle.std.proofs.Common.{◌≡◌, take}
use Rattle.c_prog.specs.Strip.{strip_all}
use Rattle.c_strip.proofs.stripping.+strip.Given as goal

abbrev pub invariant-strip_stmts-loop-stmt : goal.invariant-strip_stmts-loop-stmt
invariant-strip_stmts-loop-stmt l = l.copy ≡ strip_all l.marks (take l.stmt-index l.list)
