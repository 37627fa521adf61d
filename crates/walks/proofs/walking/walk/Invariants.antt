use Rattle.std.proofs.Common.{◌≡◌, ◌+◌, length}
use Rattle.walks.specs.Walks.{targets_in, missing}
use Rattle.walks.proofs.Walks.{Walking}
use Rattle.walks.proofs.walking.walk.Given as goal

abbrev pub invariant-loop-node : goal.invariant-loop-node
invariant-loop-node l =
    (length l.found ≡ l.size) × Walking (targets_in l.lists l.first) l.avoiding l.fn.starts.items l.found l.work.items

abbrev pub decreases-loop-node : goal.decreases-loop-node
decreases-loop-node l = missing l.found + length l.work.items
