use Rattle.std.proofs.Common.{◌≡◌, ◌≤◌, length, drop}
use Rattle.step_state.specs.Start.{initial_tokens}
use Rattle.step_machine.proofs.start.tokens.Given as goal

abbrev pub invariant-loop-left : goal.invariant-loop-left
invariant-loop-left l =
    record { within : l.left ≤ length l.orders; made : l.tokens ≡ initial_tokens l.count (drop l.left l.orders) }

abbrev pub decreases-loop-left : goal.decreases-loop-left
decreases-loop-left l = l.left
