use Rattle.std.proofs.Common.{take}
use Rattle.walks.specs.Walks.{Grows}
use Rattle.walks.proofs.walking.follow.Given as goal

abbrev pub invariant-loop-target : goal.invariant-loop-target
invariant-loop-target l =
    Grows l.avoiding (take l.target-index l.targets) l.initial.found l.initial.work.items l.found l.work.items
