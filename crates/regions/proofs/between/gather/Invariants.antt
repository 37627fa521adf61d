use Rattle.regions.specs.Between.{IsGathered}
use Rattle.regions.proofs.between.gather.Given as goal

abbrev pub invariant-loop-number : goal.invariant-loop-number
invariant-loop-number l = IsGathered l.ahead l.behind l.from.number l.to.number l.number l.set
