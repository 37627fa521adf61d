use Rattle.std.proofs.Common.{◌≡◌, ◌++◌, take, drop}
use Rattle.step_state.specs.Values.{cleared}
use Rattle.step_values.proofs.cells.clear.Given as goal

abbrev pub invariant-loop-place : goal.invariant-loop-place
invariant-loop-place g l =
    l.cells ≡ cleared l.nought (take l.place l.initial.cells) ++ drop l.place l.initial.cells
