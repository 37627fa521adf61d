use Rattle.std.proofs.Common.{◌≤◌, ◌-◌, length, take}
use Rattle.cfix_outside.specs.Sinks.{Gained}
use Rattle.cfix_outside.proofs.pieces.put_text.Given as goal

abbrev pub invariant-loop-at : goal.invariant-loop-at
invariant-loop-at g l =
    Gained (g.O.Sink.taken l.initial.out) (g.O.Sink.taken l.out) (take l.at l.text)
    × (g.O.Sink.faults l.initial.out ≤ g.O.Sink.faults l.out) × (l.at ≤ length l.text)

abbrev pub decreases-loop-at : goal.decreases-loop-at
decreases-loop-at g l = length l.text - l.at
