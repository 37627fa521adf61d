use Rattle.std.proofs.Common.{rules, ◌≡◌, ◌++◌, codes}
use Rattle.c_print.specs.Table.{named}
use Rattle.c_print.specs.Text.Acts.{value_text}
use Rattle.c_print.specs.Text.Operations.{op_lines}
use Rattle.c_print.specs.Written.{at}
use Rattle.c_print.proofs.LinesWritten.{line-written, two-pieces}
use Rattle.c_print.proofs.jumps.add_taken.Goals as goal

pub returns : goal.returns
returns c =
    let indent = c.args.indent.now in
    let value = value_text (named c.args.names.now) c.args.value.now in
    let first : c.add.new.text.items ≡ c.args.text.now.items ++ indent = c.in_ok-add.ensures in
    let second : c.add-2.new.text.items ≡ c.add.new.text.items ++ codes "int cfix_value = " = c.in_ok-add-2.ensures in
    let third : c.add_value.new.text.items ≡ c.add-2.new.text.items ++ value = search rules in
    let fourth : c.add-3.new.text.items ≡ c.add_value.new.text.items ++ codes ";\n" = c.in_ok-add-3.ensures in
    let last : c.add_op_lines.new.text.items ≡ c.add-3.new.text.items ++ at indent (op_lines c.args.ops.now) = search rules in
    line-written c.args.text.now.items c.add.new.text.items c.add_value.new.text.items c.add-3.new.text.items c.add_op_lines.new.text.items
    indent (codes "int cfix_value = " ++ value) (op_lines c.args.ops.now) first
    (two-pieces c.add.new.text.items (codes "int cfix_value = ") value c.add-2.new.text.items c.add_value.new.text.items second third) fourth last
