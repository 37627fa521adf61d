use Rattle.std.proofs.Common.{◌≡◌, map, drop}
use Rattle.c_prog.specs.Order.{joined}
use Rattle.c_prog.specs.Patched.{has_some}
use Rattle.c_print.specs.Text.Canonical.{prototype_lines}
use Rattle.c_print.proofs.heads.has_prototype.Given as goal

abbrev pub invariant-loop-function : goal.invariant-loop-function
invariant-loop-function l =
    has_some (joined (map prototype_lines (drop l.function-index l.functions))) ≡ has_some (joined (map prototype_lines l.functions))
