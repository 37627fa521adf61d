use Rattle.std.proofs.Common.{◌≡◌, ◌++◌, take, drop}
use Rattle.step_state.specs.Sleepers.{with_sleeper}
use Rattle.step_machine.proofs.sleepers.place_among.Given as goal

abbrev pub invariant-loop-sleeper : goal.invariant-loop-sleeper
invariant-loop-sleeper l = record {
  place : l.place ≡ l.sleeper-index;
  passed : with_sleeper l.thread l.sleepers ≡ take l.sleeper-index l.sleepers ++ with_sleeper l.thread (drop l.sleeper-index l.sleepers);
}
