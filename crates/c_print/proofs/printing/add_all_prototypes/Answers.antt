use Rattle.std.proofs.Common.{◌≡◌, ◌++◌, map, ap, sym, ◌∙◌}
use Rattle.c_prog.specs.Order.{joined}
use Rattle.c_print.specs.Text.Canonical.{prototype_lines}
use Rattle.c_print.specs.Text.Pieces.{text_of}
use Rattle.c_print.specs.Written.{gap}
use Rattle.c_print.proofs.LinesWritten.{two-pieces}
use Rattle.c_print.proofs.Programs.{text-joined, text-spaced}
use Rattle.c_print.proofs.printing.add_all_prototypes.Goals as goal

pub returns : goal.returns
returns c =
    let lines = joined (map prototype_lines c.args.functions.now) in
    let told : c.add_prototypes.new.text.items ≡ c.args.text.now.items ++ joined (map (λ f. text_of (prototype_lines f)) c.args.functions.now) = c.in_ok-add_prototypes.ensures in
    let first : c.add_prototypes.new.text.items ≡ c.args.text.now.items ++ text_of lines =
    told ∙ ap (λ t. c.args.text.now.items ++ t) (sym (text-joined prototype_lines c.args.functions.now)) in
    let last : c.add_prototype_gap.new.text.items ≡ c.add_prototypes.new.text.items ++ gap lines = c.in_ok-add_prototype_gap.ensures in
    two-pieces c.args.text.now.items (text_of lines) (gap lines) c.add_prototypes.new.text.items c.add_prototype_gap.new.text.items first last
    ∙ ap (λ t. c.args.text.now.items ++ t) (sym (text-spaced lines))
