use Rattle.std.proofs.Common.{◌≡◌, ◌++◌, map, codes, ap, sym, ◌∙◌}
use Rattle.c_print.specs.Text.Canonical.{start_line}
use Rattle.c_print.specs.Text.Pieces.{text_of}
use Rattle.c_print.proofs.LinesWritten.{two-pieces}
use Rattle.c_print.proofs.Programs.{own-true}
use Rattle.c_print.proofs.heads.add_included.Goals as goal

pub returns : goal.returns
returns c =
    let starts = c.args.starts.now in
    let before = c.args.text.now.items in
    let first : c.add_starts.new.text.items ≡ before ++ text_of (map start_line starts) = c.in_ok-add_starts.ensures in
    let last : c.add.new.text.items ≡ c.add_starts.new.text.items ++ codes "#include \"cfix.h\"\n" = c.in_ok-add.ensures in
    two-pieces before (text_of (map start_line starts)) (codes "#include \"cfix.h\"\n") c.add_starts.new.text.items c.add.new.text.items first last
    ∙ ap (λ t. before ++ t) (sym (own-true starts))
