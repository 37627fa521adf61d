use Rattle.std.proofs.Common.{rules, ◌≡◌, ◌++◌, not, ◌&&◌, sym, ◌∙◌, ap}
use Rattle.std.proofs.lemmas.Result.{on_ok_weaker}
use Rattle.c_prog.specs.Accesses.{expr_accesses, marked, stops_early}
use Rattle.c_prog.proofs.Equations.{accesses-Binary}
use Rattle.c_access.proofs.Certain.{marked-both}
use Rattle.c_access.proofs.touches.+expr.Goals as goal

pub add_expr-returns-in_ok-add_expr-in-Binary : goal.add_expr-returns-in_ok-add_expr-in-Binary
add_expr-returns-in_ok-add_expr-in-Binary t c =
    let first = c.add_expr-in-Binary in
    let whole : expr_accesses c.args.expr.now ≡ expr_accesses c.in-Binary.left ++ marked (not (stops_early c.in-Binary.op)) (expr_accesses c.in-Binary.right) = ap expr_accesses c.in-Binary.is ∙ accesses-Binary _ _ _ in
    on_ok_weaker first.result (λ e.
    let left : c.add_expr.new.items ≡ c.args.items.now ++ marked c.args.certain (expr_accesses c.in-Binary.left) = search rules in
    let right : first.new.items ≡ c.add_expr.new.items ++ marked (c.args.certain && not (stops_early c.in-Binary.op)) (expr_accesses c.in-Binary.right) = search rules in
    marked-both c.args.certain (not (stops_early c.in-Binary.op)) c.args.items.now c.add_expr.new.items first.new.items
    (expr_accesses c.in-Binary.left) (expr_accesses c.in-Binary.right) left right
    ∙ ap (λ zs. c.args.items.now ++ marked c.args.certain zs) (sym whole)) first.ensures
