use Rattle.std.proofs.Common.{rules, ◌≡◌, ◌++◌, codes}
use Rattle.c_print.specs.Table.{named}
use Rattle.c_print.specs.Text.Statements.{block_lines}
use Rattle.c_print.specs.Written.{at, inside}
use Rattle.c_print.proofs.LinesWritten.{block-written, braces-written}
use Rattle.c_print.proofs.jumps.add_braced_jump.Goals as goal

pub returns : goal.returns
returns c =
    let indent = c.args.indent.now in
    let lines = block_lines (named c.args.names.now) c.args.jump.now c.args.ops.now in
    let first : c.add.new.text.items ≡ c.args.text.now.items ++ indent = c.in_ok-add.ensures in
    let opened : c.add-2.new.text.items ≡ c.add.new.text.items ++ codes "{\n" = c.in_ok-add-2.ensures in
    let middle : c.add_jump_block.new.text.items ≡ c.add-2.new.text.items ++ at (inside indent) lines = search rules in
    let back : c.add-3.new.text.items ≡ c.add_jump_block.new.text.items ++ indent = c.in_ok-add-3.ensures in
    let last : c.add-4.new.text.items ≡ c.add-3.new.text.items ++ codes "}\n" = c.in_ok-add-4.ensures in
    block-written c.args.text.now.items c.add.new.text.items c.add-4.new.text.items indent lines first
    (braces-written c.add.new.text.items c.add-2.new.text.items c.add_jump_block.new.text.items c.add-3.new.text.items c.add-4.new.text.items
    indent lines opened middle back last)
