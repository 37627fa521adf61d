use Rattle.std.proofs.Common.{◌≡◌, ◌+◌, drop, length, slice_get}
use Rattle.c_prog.specs.Order.{functions_order}
use Rattle.c_nodes.proofs.find.find_node.Given as goal

abbrev pub invariant-loop-function : goal.invariant-loop-function
invariant-loop-function l =
    (slice_get (functions_order (drop l.function-index l.list)) l.left ≡ slice_get (functions_order l.list) l.number)
    × (l.left + length (functions_order l.list) ≡ l.number + length (functions_order (drop l.function-index l.list)))
