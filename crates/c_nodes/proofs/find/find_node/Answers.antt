use Rattle.std.proofs.Common.{◌≡◌, ◌+◌, drop, length, ◌++◌, slice_get, ap, sym, ◌∙◌, arith}
use Rattle.std.proofs.lemmas.List.{length-append}
use Rattle.c_prog.specs.Order.{order_of, function_order, functions_order}
use Rattle.c_prog.proofs.Gets.{get-front, get-after, one-more}
use Rattle.c_nodes.proofs.find.find_node.Goals as goal

pub returns-in-Node : goal.returns-in-Node
returns-in-Node c =
    sym c.loop-function.invariant.0
    ∙ ap (λ xs. slice_get xs c.loop-function.left) (one-more function_order c.args.list.now c.loop-function.function-index c.function-item.result c.function-item.is c.loop-function-test.true)
    ∙ get-front (function_order c.function-item.result) _ c.loop-function.left _
    (ap (λ xs. slice_get (order_of xs) c.loop-function.left) (sym c.as_slice.ensures) ∙ c.in-Node.ensures)

pub loop-function-preserved : goal.loop-function-preserved
loop-function-preserved c =
    let mine = function_order c.function-item.result in
    let left = functions_order (drop (c.loop-function.function-index + 1) c.args.list.now) in
    let more : functions_order (drop c.loop-function.function-index c.args.list.now) ≡ mine ++ left = one-more function_order c.args.list.now c.loop-function.function-index c.function-item.result c.function-item.is c.loop-function-test.true in
    let passed : c.in-Left.rest + length mine ≡ c.loop-function.left = ap (λ xs. c.in-Left.rest + length (order_of xs)) (sym c.as_slice.ensures) ∙ c.in-Left.ensures in (
      sym (get-after mine left c.in-Left.rest)
          ∙ ap (λ k. slice_get (mine ++ left) k) passed
          ∙ ap (λ xs. slice_get xs c.loop-function.left) (sym more) ∙ c.loop-function.invariant.0,
      omega (arith, passed, c.loop-function.invariant.1, ap length more, length-append mine left),
    )
