use Rattle.std.proofs.Common.{rules, ◌≡◌, ◌++◌, codes}
use Rattle.c_print.specs.Table.{named}
use Rattle.c_print.specs.Text.Expressions.{expr_text}
use Rattle.c_print.specs.Text.Operations.{with_true}
use Rattle.c_print.specs.Written.{guard_start, guard_end}
use Rattle.c_print.proofs.Guards.{false-written}
use Rattle.c_print.proofs.operations.add_cond.Goals as goal

pub returns : goal.returns
returns c =
    let ops = c.args.cond.now.on_false in
    let test = with_true (expr_text (named c.args.names.now) c.args.cond.now.test) c.args.cond.now.on_true in
    let start : c.add_guard_start.new.text.items ≡ c.args.text.now.items ++ guard_start ops = search rules in
    let middle : c.add_true_test.new.text.items ≡ c.add_guard_start.new.text.items ++ test = search rules in
    let end : c.add_guard.new.text.items ≡ c.add_true_test.new.text.items ++ guard_end (codes ") || (") ops (codes "0)") = search rules in
    false-written c.args.text.now.items c.add_guard_start.new.text.items c.add_true_test.new.text.items c.add_guard.new.text.items test ops start middle end
