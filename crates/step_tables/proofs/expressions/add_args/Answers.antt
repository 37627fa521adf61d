use Rattle.std.proofs.Common.{◌+◌, ◌^◌, drop}
use Rattle.c_prog.specs.Accesses.{args_accesses, expr_accesses}
use Rattle.c_prog.proofs.Gets.{one-more}
use Rattle.step_tables.proofs.Adding.{room_left}
use Rattle.step_tables.proofs.expressions.add_args.Goals as goal

pub add_expr-requires : goal.add_expr-requires
add_expr-requires c =
    room_left c.loop-expr.sheet.variables c.args.sheet.now.variables (args_accesses c.args.args.now)
    (args_accesses (drop c.loop-expr.expr-index c.args.args.now)) (expr_accesses c.expr-item.result)
    (args_accesses (drop (c.loop-expr.expr-index + 1) c.args.args.now)) (2 ^ 32) c.loop-expr.invariant.variables
    (one-more expr_accesses c.args.args.now c.loop-expr.expr-index c.expr-item.result c.expr-item.is c.loop-expr-test.true) c.requires
