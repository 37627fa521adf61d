use Rattle.std.proofs.Common.{◌≡◌, ◌+◌, ◌-◌, ◌≤◌, length, drop}
use Rattle.step_state.specs.Reads.{leading_ops}
use Rattle.step_state.proofs.state.count_ops.Given as goal

abbrev pub invariant-loop-count : goal.invariant-loop-count
invariant-loop-count l =
    record { within : l.count ≤ length l.work; counted : leading_ops l.work ≡ l.count + leading_ops (drop l.count l.work) }

abbrev pub decreases-loop-count : goal.decreases-loop-count
decreases-loop-count l = length l.work - l.count
