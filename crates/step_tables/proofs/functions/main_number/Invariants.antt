use Rattle.std.proofs.Common.{◌≡◌, ◌+◌, drop}
use Rattle.step_state.specs.Items.{main_of}
use Rattle.step_tables.proofs.functions.main_number.Given as goal

abbrev pub invariant-loop-function : goal.invariant-loop-function
invariant-loop-function l = (l.number ≡ l.function-index) × (main_of l.list ≡ l.number + main_of (drop l.function-index l.list))
