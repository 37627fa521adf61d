use Rattle.std.proofs.Common.{take}
use Rattle.walks.specs.Links.{IsWithAll}
use Rattle.walks.proofs.linked.insert_all.Given as goal

abbrev pub invariant-loop-number : goal.invariant-loop-number
invariant-loop-number l = IsWithAll l.initial.set (take l.number-index l.numbers) l.set
