use Rattle.std.proofs.Common.{rules, ◌≡◌, ◌++◌, codes}
use Rattle.c_print.specs.Table.{named}
use Rattle.c_print.specs.Text.Acts.{act_text}
use Rattle.c_print.specs.Text.Operations.{op_lines}
use Rattle.c_print.specs.Written.{at}
use Rattle.c_print.proofs.LinesWritten.{line-written}
use Rattle.c_print.proofs.jumps.add_simple.Goals as goal

pub returns : goal.returns
returns c =
    let indent = c.args.indent.now in
    let line = act_text (named c.args.names.now) c.args.act.now in
    let first : c.add.new.text.items ≡ c.args.text.now.items ++ indent = c.in_ok-add.ensures in
    let second : c.add_act.new.text.items ≡ c.add.new.text.items ++ line = search rules in
    let third : c.add-2.new.text.items ≡ c.add_act.new.text.items ++ codes ";\n" = c.in_ok-add-2.ensures in
    let last : c.add_op_lines.new.text.items ≡ c.add-2.new.text.items ++ at indent (op_lines c.args.after.now) = search rules in
    line-written c.args.text.now.items c.add.new.text.items c.add_act.new.text.items c.add-2.new.text.items c.add_op_lines.new.text.items
    indent line (op_lines c.args.after.now) first second third last
