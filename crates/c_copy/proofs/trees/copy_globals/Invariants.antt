use Rattle.std.proofs.Common.{◌≡◌, take}
use Rattle.c_copy.proofs.trees.copy_globals.Given as goal

abbrev pub invariant-loop-global : goal.invariant-loop-global
invariant-loop-global l = l.copy ≡ take l.global-index l.global-items
