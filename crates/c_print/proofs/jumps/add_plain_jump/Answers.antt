use Rattle.std.proofs.Common.{rules, ◌≡◌, [], ◌∷◌, ◌++◌}
use Rattle.c_print.specs.Table.{named}
use Rattle.c_print.specs.Text.Operations.{op_lines}
use Rattle.c_print.specs.Text.Pieces.{ended}
use Rattle.c_print.specs.Text.Statements.{jump_text}
use Rattle.c_print.specs.Written.{at}
use Rattle.c_print.proofs.LinesWritten.{both-written}
use Rattle.c_print.proofs.jumps.add_plain_jump.Goals as goal

pub returns : goal.returns
returns c =
    let indent = c.args.indent.now in
    let line = ended (jump_text (named c.args.names.now) c.args.jump.now) in
    let first : c.add_op_lines.new.text.items ≡ c.args.text.now.items ++ at indent (op_lines c.args.ops.now) = search rules in
    let last : c.add_jump_line.new.text.items ≡ c.add_op_lines.new.text.items ++ at indent (line ∷ []) = search rules in
    both-written c.args.text.now.items c.add_op_lines.new.text.items c.add_jump_line.new.text.items indent (op_lines c.args.ops.now) (line ∷ []) first last
