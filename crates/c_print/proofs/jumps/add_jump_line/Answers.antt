use Rattle.std.proofs.Common.{rules, ◌≡◌, ◌++◌, codes}
use Rattle.c_print.specs.Table.{named}
use Rattle.c_print.specs.Text.Statements.{jump_text}
use Rattle.c_print.proofs.LinesWritten.{only-written}
use Rattle.c_print.proofs.jumps.add_jump_line.Goals as goal

pub returns : goal.returns
returns c =
    let indent = c.args.indent.now in
    let line = jump_text (named c.args.names.now) c.args.jump.now in
    let first : c.add.new.text.items ≡ c.args.text.now.items ++ indent = c.in_ok-add.ensures in
    let second : c.add_jump_text.new.text.items ≡ c.add.new.text.items ++ line = search rules in
    let last : c.add-2.new.text.items ≡ c.add_jump_text.new.text.items ++ codes ";\n" = c.in_ok-add-2.ensures in
    only-written c.args.text.now.items c.add.new.text.items c.add_jump_text.new.text.items c.add-2.new.text.items indent line first second last
