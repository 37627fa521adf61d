use Rattle.std.proofs.Common.{◌≡◌, ◌++◌, map, drop}
use Rattle.c_prog.specs.Order.{functions_order}
use Rattle.c_prog.specs.View.{seen}
use Rattle.c_nodes.proofs.node_order.nodes_in.Given as goal

abbrev pub invariant-loop-function : goal.invariant-loop-function
invariant-loop-function l = map seen l.nodes.items ++ functions_order (drop l.function-index l.functions) ≡ functions_order l.functions
