use Rattle.std.proofs.Common.{rules, ◌≡◌, [], ◌∷◌, ◌++◌, codes, ap, sym, ◌∙◌}
use Rattle.c_print.specs.Table.{named}
use Rattle.c_print.specs.Text.Acts.{value_text}
use Rattle.c_print.specs.Text.Operations.{op_lines}
use Rattle.c_print.specs.Text.Pieces.{ended}
use Rattle.c_print.specs.Written.{at}
use Rattle.c_print.proofs.Indented.{at-only}
use Rattle.c_print.proofs.LinesWritten.{both-written, two-pieces}
use Rattle.c_print.proofs.jumps.add_taken_return.Goals as goal

pub returns : goal.returns
returns c =
    let indent = c.args.indent.now in
    let taken = ended (codes "int cfix_value = " ++ value_text (named c.args.names.now) c.args.value.now) ∷ op_lines c.args.ops.now in
    let first : c.add_taken.new.text.items ≡ c.args.text.now.items ++ at indent taken = search rules in
    let second : c.add.new.text.items ≡ c.add_taken.new.text.items ++ indent = c.in_ok-add.ensures in
    let last : c.add-2.new.text.items ≡ c.add.new.text.items ++ codes "return cfix_value;\n" = c.in_ok-add-2.ensures in
    both-written c.args.text.now.items c.add_taken.new.text.items c.add-2.new.text.items indent taken (codes "return cfix_value;" ∷ []) first
    (two-pieces c.add_taken.new.text.items indent (codes "return cfix_value;\n") c.add.new.text.items c.add-2.new.text.items second last
    ∙ ap (λ t. c.add_taken.new.text.items ++ t) (sym (at-only indent (codes "return cfix_value;"))))
