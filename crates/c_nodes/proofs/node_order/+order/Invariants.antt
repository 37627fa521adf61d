use Rattle.std.proofs.Common.{◌≡◌, ◌++◌, map, drop}
use Rattle.c_prog.specs.Order.{order_of}
use Rattle.c_prog.specs.View.{seen}
use Rattle.c_nodes.proofs.node_order.+order.Given as goal

abbrev pub invariant-add_list-loop-stmt : goal.invariant-add_list-loop-stmt
invariant-add_list-loop-stmt l = map seen l.nodes.items ++ order_of (drop l.stmt-index l.list) ≡ map seen l.initial.nodes.items ++ order_of l.initial.list
