use Rattle.std.proofs.Common.{rules, ◌≡◌, ◌+◌, ◌-◌, ◌<◌, drop, length, ◌++◌, slice_get, ap, sym, ◌∙◌, arith}
use Rattle.std.proofs.lemmas.List.{length-append}
use Rattle.c_nodes.specs.declared.found.Found.TheVariants as found
use Rattle.c_prog.specs.Order.{order, order_of}
use Rattle.c_nodes.specs.Finding.{Finds}
use Rattle.c_prog.proofs.Equations.{order-If}
use Rattle.c_nodes.proofs.FindNodes.{finds-among, finds-later, finds-front, finds-after}
use Rattle.c_prog.proofs.Gets.{get-front, get-after, one-more}
use Rattle.c_nodes.proofs.find.+find.Goals as goal

pub find-returns-in-Node : goal.find-returns-in-Node
find-returns-in-Node t c =
    let some : 0 < c.args.number = search rules in
    finds-among (found.Node c.in-Node.node) _ _ c.args.number (ap order c.in-If.is ∙ order-If c.in-If.cond c.in-If.yes c.in-If.no)
    (finds-later (found.Node c.in-Node.node) _ _ c.args.number some
    (finds-front c.in-Node.node (order_of c.in-If.yes) (order_of c.in-If.no) (c.args.number - 1)
    (ap (λ xs. slice_get (order_of xs) (c.args.number - 1)) (sym c.as_slice.ensures) ∙ c.in-Node.ensures)))

pub find-returns-in-Left : goal.find-returns-in-Left
find-returns-in-Left t c =
    let some : 0 < c.args.number = search rules in
    let passed : c.in-Left.left + length (order_of c.in-If.yes) ≡ c.args.number - 1 = ap (λ xs. c.in-Left.left + length (order_of xs)) (sym c.as_slice.ensures) ∙ c.in-Left.ensures in
    let other : Finds c.find_in-in-Left.result (order_of c.in-If.no) c.in-Left.left = finds-among c.find_in-in-Left.result _ _ c.in-Left.left (ap order_of (sym c.as_slice-in-Left.ensures)) c.find_in-in-Left.ensures in
    finds-among c.find_in-in-Left.result _ _ c.args.number (ap order c.in-If.is ∙ order-If c.in-If.cond c.in-If.yes c.in-If.no)
    (finds-later c.find_in-in-Left.result _ _ c.args.number some
    (finds-after c.find_in-in-Left.result (order_of c.in-If.yes) (order_of c.in-If.no) c.in-Left.left (c.args.number - 1) passed other))

pub find_in-returns-in-Node : goal.find_in-returns-in-Node
find_in-returns-in-Node t c =
    sym c.loop-stmt.invariant.0
    ∙ ap (λ xs. slice_get xs c.loop-stmt.left) (one-more order c.args.list.now c.loop-stmt.stmt-index c.stmt-item.result c.stmt-item.is c.loop-stmt-test.true)
    ∙ get-front (order c.stmt-item.result) _ c.loop-stmt.left _ c.in-Node.ensures

pub find_in-loop-stmt-preserved : goal.find_in-loop-stmt-preserved
find_in-loop-stmt-preserved t c =
    let left = order_of (drop (c.loop-stmt.stmt-index + 1) c.args.list.now) in
    let more : order_of (drop c.loop-stmt.stmt-index c.args.list.now) ≡ order c.stmt-item.result ++ left = one-more order c.args.list.now c.loop-stmt.stmt-index c.stmt-item.result c.stmt-item.is c.loop-stmt-test.true in (
      sym (get-after (order c.stmt-item.result) left c.in-Left.rest)
          ∙ ap (λ k. slice_get (order c.stmt-item.result ++ left) k) c.in-Left.ensures
          ∙ ap (λ xs. slice_get xs c.loop-stmt.left) (sym more) ∙ c.loop-stmt.invariant.0,
      omega (arith, c.in-Left.ensures, c.loop-stmt.invariant.1, ap length more, length-append (order c.stmt-item.result) left),
    )
