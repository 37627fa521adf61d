use Rattle.std.proofs.Common.{◌≤◌}
use Rattle.run_replay.specs.Steps.{IsUnderWay}
use Rattle.run_replay.proofs.replaying.replay.Given as goal

abbrev pub invariant-loop-entry : goal.invariant-loop-entry
invariant-loop-entry g l =
    IsUnderWay l.machine l.input l.schedule l.entry-index l.state (g.O.Sink.taken l.initial.out) (g.O.Sink.taken l.out)
    × (g.O.Sink.faults l.initial.out ≤ g.O.Sink.faults l.out)
