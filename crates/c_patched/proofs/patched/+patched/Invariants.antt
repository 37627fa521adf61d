use Rattle.std.proofs.Common.{◌≡◌, drop}
use Rattle.c_prog.specs.Patched.{patched_of}
use Rattle.c_patched.proofs.patched.+patched.Given as goal

abbrev pub invariant-list_patched-loop-stmt : goal.invariant-list_patched-loop-stmt
invariant-list_patched-loop-stmt l = patched_of (drop l.stmt-index l.list) ≡ patched_of l.list
