use Rattle.std.proofs.Common.{rules, ◌≡◌, ◌++◌, codes}
use Rattle.c_print.specs.Table.{named}
use Rattle.c_print.specs.Text.Canonical.{head_of}
use Rattle.c_print.specs.Text.Operations.{op_lines}
use Rattle.c_print.specs.Text.Statements.{body_lines}
use Rattle.c_print.specs.Written.{at}
use Rattle.c_print.proofs.Programs.{function-written}
use Rattle.c_print.proofs.functions.add_body.Goals as goal

pub returns : goal.returns
returns c =
    let f = c.args.function.now in
    let names = named c.args.names.now in
    let first : c.add_head.new.text.items ≡ c.args.text.now.items ++ head_of f = search rules in
    let second : c.add.new.text.items ≡ c.add_head.new.text.items ++ codes " {\n" = search rules in
    let third : c.add_op_lines.new.text.items ≡ c.add.new.text.items ++ at (codes "    ") (op_lines f.start) = search rules in
    let fourth : c.add_list.new.text.items ≡ c.add_op_lines.new.text.items ++ at (codes "    ") (body_lines names f.body) = search rules in
    let last : c.add-2.new.text.items ≡ c.add_list.new.text.items ++ codes "}\n" = search rules in
    function-written c.args.text.now.items c.add_head.new.text.items c.add.new.text.items c.add_op_lines.new.text.items
    c.add_list.new.text.items c.add-2.new.text.items (head_of f) (op_lines f.start) (body_lines names f.body) first second third fourth last
