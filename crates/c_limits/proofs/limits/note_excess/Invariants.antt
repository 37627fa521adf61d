use Rattle.std.proofs.Common.{◌≡◌, drop}
use Rattle.c_names.specs.Faults.{noted_all}
use Rattle.c_names.specs.Limits.{excess_faults}
use Rattle.c_limits.proofs.limits.note_excess.Given as goal

abbrev pub invariant-loop-spot : goal.invariant-loop-spot
invariant-loop-spot l = noted_all l.least (excess_faults l.left (drop l.spot-index l.spots)) ≡ noted_all l.initial.least (excess_faults l.limit l.spots)
