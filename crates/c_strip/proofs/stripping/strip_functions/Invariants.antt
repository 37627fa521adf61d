use Rattle.std.proofs.Common.{◌≡◌, take}
use Rattle.c_prog.specs.Strip.{strip_functions}
use Rattle.c_strip.proofs.stripping.strip_functions.Given as goal

abbrev pub invariant-loop-function : goal.invariant-loop-function
invariant-loop-function l = l.copy ≡ strip_functions l.marks (take l.function-index l.list)
