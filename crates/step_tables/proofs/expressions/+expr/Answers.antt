use Rattle.std.proofs.Common.{rules, ◌≡◌, List, length, slice_set, ap}
use Rattle.step_state.specs.declared.item.Item.{Item}
use Rattle.step_tables.specs.declared.sheet.Sheet.{Sheet}
use Rattle.step_tables.proofs.Adding.{added_strict, added_early}
use Rattle.step_tables.proofs.expressions.+expr.Goals as goal

pub add_expr-returns-in_ok-push-in-Strict : goal.add_expr-returns-in_ok-push-in-Strict
add_expr-returns-in_ok-push-in-Strict t c =
    added_strict c.args.expr.now c.in-Binary.left c.in-Binary.right c.in-Binary.op c.in-Strict.op c.args.items.now c.args.sheet.now
    c.add_expr-in-Binary.new.items c.add_expr-in-Binary.new.sheet c.add_expr-in-Strict.new.items c.add_expr-in-Strict.new.sheet c.push-in-Strict.new.self
    c.in-Binary.is c.in-Strict.ensures (search rules) (search rules) (search rules)

pub add_expr-returns-in_ok-add_expr-in-Early : goal.add_expr-returns-in_ok-add_expr-in-Early
add_expr-returns-in_ok-add_expr-in-Early t c =
    let with : List (List Item) → Sheet = λ os. record { node = c.add_expr-in-Early.new.sheet.node; variables = c.add_expr-in-Early.new.sheet.variables; operands = os } in
    let put : c.set.new.self ≡ slice_set c.add_expr-in-Early.new.sheet.operands (length c.add_expr-in-Binary.new.sheet.operands) c.add_expr-in-Early.new.items = search rules in
    added_early c.args.expr.now c.in-Binary.left c.in-Binary.right c.in-Binary.op c.in-Early.op c.args.items.now c.args.sheet.now
    c.add_expr-in-Binary.new.items c.add_expr-in-Binary.new.sheet c.begin_operand.new.items c.begin_operand.new.sheet
    c.add_expr-in-Early.new.items c.add_expr-in-Early.new.sheet (with c.set.new.self)
    c.in-Binary.is c.in-Early.ensures (search rules) (search rules) (search rules) (search rules) (ap with put)
