use Rattle.std.proofs.Common.{rules, ◌≡◌, ◌++◌, codes, map, ap, sym, ◌∙◌}
use Rattle.c_prog.specs.Order.{joined}
use Rattle.c_print.specs.Table.{named}
use Rattle.c_print.specs.Text.Acts.{act_text}
use Rattle.c_print.specs.Text.Operations.{op_text}
use Rattle.c_print.proofs.Betweens.{between-texts}
use Rattle.c_print.proofs.LinesWritten.{two-pieces}
use Rattle.c_print.proofs.steps.add_step.Goals as goal

pub returns : goal.returns
returns c =
    let act = act_text (named c.args.names.now) c.args.step.now.act in
    let ops = c.args.step.now.after in
    let first : c.add_act.new.text.items ≡ c.args.text.now.items ++ act = search rules in
    let last : c.add_more_ops.new.text.items ≡ c.add_act.new.text.items ++ joined (map (λ o. codes ", " ++ op_text o) ops) = search rules in
    two-pieces c.args.text.now.items act (joined (map (λ o. codes ", " ++ op_text o) ops)) c.add_act.new.text.items c.add_more_ops.new.text.items first last
    ∙ ap (λ t. c.args.text.now.items ++ t) (sym (between-texts (codes ", ") op_text act ops))
