-- The numbers above those of a valid program are small.
use Rattle.std.proofs.Common.{◌≡◌, ap, ◌∙◌, arith}
use Rattle.c_prog.specs.Marks.{above_lock, above_order, above_start, functions_all, greatest, tree_all}
use Rattle.c_marks.proofs.Greatest.{small-locks, small-orders, small-starts}
use Rattle.c_marks.proofs.marking.marks.Goals as goal

pub overflow_cast-result : goal.overflow_cast-result
overflow_cast-result c =
    let is : c.above_functions-above.result.lock ≡ greatest above_lock (tree_all c.tree-tree.result.now) =
    c.above_functions-above.ensures.lock ∙ ap (λ list. greatest above_lock (functions_all list)) c.as_slice.ensures in
    let small = small-locks c.tree-tree.result.now c.tree-tree.ensures.valid in
    omega (arith, is, small)

pub overflow_cast-result-2 : goal.overflow_cast-result-2
overflow_cast-result-2 c =
    let orders : c.above_functions-above.result.order ≡ greatest above_order (tree_all c.tree-tree.result.now) =
    c.above_functions-above.ensures.order ∙ ap (λ list. greatest above_order (functions_all list)) c.as_slice.ensures in
    let starts : c.above_starts.result ≡ greatest above_start c.tree-tree.result.now.starts =
    c.above_starts.ensures ∙ ap (greatest above_start) c.as_slice-2.ensures in
    let small = small-orders c.tree-tree.result.now c.tree-tree.ensures.valid in
    let few = small-starts c.tree-tree.result.now c.tree-tree.ensures.valid in
    omega (arith, orders, starts, small, few, c.greater-order.ensures)
