use Rattle.std.proofs.Common.{◌≡◌, drop}
use Rattle.c_prog.specs.Patched.{functions_patched}
use Rattle.c_patched.proofs.patched.functions_patched.Given as goal

abbrev pub invariant-loop-function : goal.invariant-loop-function
invariant-loop-function l = functions_patched (drop l.function-index l.list) ≡ functions_patched l.list
