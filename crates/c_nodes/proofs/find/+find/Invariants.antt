use Rattle.std.proofs.Common.{◌≡◌, ◌+◌, drop, length, slice_get}
use Rattle.c_prog.specs.Order.{order_of}
use Rattle.c_nodes.proofs.find.+find.Given as goal

abbrev pub invariant-find_in-loop-stmt : goal.invariant-find_in-loop-stmt
invariant-find_in-loop-stmt l =
    (slice_get (order_of (drop l.stmt-index l.list)) l.left ≡ slice_get (order_of l.list) l.number)
    × (l.left + length (order_of l.list) ≡ l.number + length (order_of (drop l.stmt-index l.list)))
