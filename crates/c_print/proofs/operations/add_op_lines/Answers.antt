use Rattle.std.proofs.Common.{arith, ◌≡◌, ◌++◌, ap, sym, ◌∙◌}
use Rattle.std.proofs.lemmas.Grind.{common_steps}
use Rattle.c_print.specs.Written.{ops_at}
use Rattle.c_print.proofs.Indented.{at-ops}
use Rattle.c_print.proofs.operations.add_op_lines.Goals as goal

pub returns : goal.returns
returns c =
    let written : c.loop-op.text.items ≡ c.args.text.now.items ++ ops_at c.args.indent.now c.args.ops.now = grind (arith, common_steps) in
    written ∙ ap (λ t. c.args.text.now.items ++ t) (sym (at-ops c.args.indent.now c.args.ops.now))
