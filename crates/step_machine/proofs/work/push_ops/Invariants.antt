use Rattle.std.proofs.Common.{◌≡◌, ◌++◌, ◌≤◌, map, length, drop}
use Rattle.step_state.specs.declared.item.Item.TheVariants as item
use Rattle.step_machine.proofs.work.push_ops.Given as goal

abbrev pub invariant-loop-left : goal.invariant-loop-left
invariant-loop-left l =
    record { within : l.left ≤ length l.ops; done : l.work ≡ map item.Op (drop l.left l.ops) ++ l.initial.work }

abbrev pub decreases-loop-left : goal.decreases-loop-left
decreases-loop-left l = l.left
