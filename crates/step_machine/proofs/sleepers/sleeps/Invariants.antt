use Rattle.std.proofs.Common.{◌≡◌, drop}
use Rattle.step_state.specs.Sleepers.{sleeps}
use Rattle.step_machine.proofs.sleepers.sleeps.Given as goal

abbrev pub invariant-loop-sleeper : goal.invariant-loop-sleeper
invariant-loop-sleeper l = sleeps l.thread (drop l.sleeper-index l.sleepers) ≡ sleeps l.thread l.sleepers
