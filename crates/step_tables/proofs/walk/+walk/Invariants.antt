use Rattle.std.proofs.Common.{◌≡◌, ◌++◌, map, drop}
use Rattle.c_prog.specs.Order.{order_of}
use Rattle.c_prog.specs.View.{seen}
use Rattle.step_tables.proofs.walk.+walk.Given as goal

abbrev pub invariant-add_all-loop-stmt : goal.invariant-add_all-loop-stmt
invariant-add_all-loop-stmt l =
    map seen l.nodes ++ order_of (drop l.stmt-index l.list) ≡ map seen l.initial.nodes ++ order_of l.initial.list
