use Rattle.std.proofs.Common.{◌≡◌, ◌++◌, codes, decimal, ap, sym, ◌∙◌, append_assoc}
use Rattle.c_print.proofs.LinesWritten.{two-pieces}
use Rattle.c_print.proofs.heads.add_start.Goals as goal

pub returns : goal.returns
returns c =
    let front = codes "#define CFIX_START_" in
    let number = decimal c.args.order.number in
    let before = c.args.text.now.items in
    let first : c.add.new.text.items ≡ before ++ front = c.in_ok-add.ensures in
    let second : c.add_number.new.text.items ≡ c.add.new.text.items ++ number = c.in_ok-add_number.ensures in
    let last : c.add-2.new.text.items ≡ c.add_number.new.text.items ++ codes " 1\n" = c.in_ok-add-2.ensures in
    two-pieces before (front ++ number) (codes " 1\n") c.add_number.new.text.items c.add-2.new.text.items
    (two-pieces before front number c.add.new.text.items c.add_number.new.text.items first second) last
    ∙ ap (λ t. before ++ t) (sym (append_assoc (front ++ number) (codes " 1") (codes "\n")))
