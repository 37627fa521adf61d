use Rattle.std.proofs.Common.{◌≡◌, ◌++◌, map, ap, sym, ◌∙◌}
use Rattle.c_print.specs.Text.Canonical.{global_line}
use Rattle.c_print.specs.Text.Pieces.{text_of}
use Rattle.c_print.specs.Written.{gap}
use Rattle.c_print.proofs.LinesWritten.{two-pieces}
use Rattle.c_print.proofs.Programs.{text-spaced}
use Rattle.c_print.proofs.printing.add_globals.Goals as goal

pub returns : goal.returns
returns c =
    let lines = map global_line c.args.globals.now in
    let first : c.add_global_lines.new.text.items ≡ c.args.text.now.items ++ text_of lines = c.in_ok-add_global_lines.ensures in
    let last : c.add_global_gap.new.text.items ≡ c.add_global_lines.new.text.items ++ gap lines = c.in_ok-add_global_gap.ensures in
    two-pieces c.args.text.now.items (text_of lines) (gap lines) c.add_global_lines.new.text.items c.add_global_gap.new.text.items first last
    ∙ ap (λ t. c.args.text.now.items ++ t) (sym (text-spaced lines))
