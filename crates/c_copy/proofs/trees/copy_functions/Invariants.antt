use Rattle.std.proofs.Common.{◌≡◌, take}
use Rattle.c_copy.proofs.trees.copy_functions.Given as goal

abbrev pub invariant-loop-function : goal.invariant-loop-function
invariant-loop-function l = l.copy ≡ take l.function-index l.function-items
