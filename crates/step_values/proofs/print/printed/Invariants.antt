use Rattle.std.proofs.Common.{◌≡◌, ◌++◌, ◌≤◌, ◌-◌, length, drop}
use Rattle.step_state.specs.Act.{shown}
use Rattle.step_values.proofs.print.printed.Given as goal

abbrev pub invariant-loop-so_far : goal.invariant-loop-so_far
invariant-loop-so_far l = record {
  within : l.so_far.at ≤ length l.text;
  used : l.so_far.used ≤ l.so_far.at;
  written : l.bytes.items ++ shown (drop l.so_far.at l.text) (drop l.so_far.used l.values) ≡ shown l.text l.values;
}

abbrev pub decreases-loop-so_far : goal.decreases-loop-so_far
decreases-loop-so_far l = length l.text - l.so_far.at
