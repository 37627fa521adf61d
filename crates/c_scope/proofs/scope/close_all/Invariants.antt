use Rattle.std.proofs.Common.{◌≡◌, ◌≤◌, length, take}
use Rattle.c_scope.specs.Places.{Indexed}
use Rattle.c_scope.proofs.scope.close_all.Given as goal

abbrev pub invariant-loop-locals : goal.invariant-loop-locals
invariant-loop-locals l = record {
  indexed : Indexed l.places l.locals;
  within : l.first ≤ length l.locals;
  shorter : take l.first l.locals ≡ take l.first l.initial.locals;
}

abbrev pub decreases-loop-locals : goal.decreases-loop-locals
decreases-loop-locals l = length l.locals
