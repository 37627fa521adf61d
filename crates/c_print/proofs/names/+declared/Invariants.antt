use Rattle.std.proofs.Common.{◌≡◌, ◌++◌, map, drop}
use Rattle.c_prog.specs.Order.{joined}
use Rattle.c_print.specs.Text.Names.{declared_names}
use Rattle.c_print.proofs.names.+declared.Given as goal

abbrev pub invariant-add_all_declared-loop-stmt : goal.invariant-add_all_declared-loop-stmt
invariant-add_all_declared-loop-stmt l =
    l.names ++ joined (map declared_names (drop l.stmt-index l.list)) ≡ l.initial.names ++ joined (map declared_names l.list)
