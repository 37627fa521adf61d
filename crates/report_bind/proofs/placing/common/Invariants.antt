use Rattle.std.proofs.Common.{◌≡◌, ◌+◌, ◌≤◌, drop, length}
use Rattle.report_bind.specs.Places.{common}
use Rattle.report_bind.proofs.placing.common.Given as goal

abbrev pub invariant-loop-place : goal.invariant-loop-place
invariant-loop-place l =
    (l.place ≤ length l.others) × (common l.nodes l.others ≡ l.place + common (drop l.place l.nodes) (drop l.place l.others))
