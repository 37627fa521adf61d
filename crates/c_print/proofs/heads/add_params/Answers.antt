use Rattle.std.proofs.Common.{rules, ◌≡◌, ◌++◌, ◌-◌, List, ℕ, codes, length, map, take, drop, ap, sym, ◌∙◌}
use Rattle.c_prog.specs.Order.{joined}
use Rattle.c_print.proofs.Betweens.{list-written}
use Rattle.c_print.proofs.LinesWritten.{two-pieces}
use Rattle.c_print.proofs.Programs.{params-some}
use Rattle.c_print.proofs.heads.add_params.Goals as goal

pub returns-in_ok-add_more_params-in-len1-up : goal.returns-in_ok-add_more_params-in-len1-up
returns-in_ok-add_more_params-in-len1-up c =
    let f = λ (name : List ℕ). codes "int " ++ name in
    let xs = c.args.params.now in
    let word : c.add-in-len1-up.new.text.items ≡ c.args.text.now.items ++ codes "int " = search rules in
    let name : c.add-in-len1-up-2.new.text.items ≡ c.add-in-len1-up.new.text.items ++ c.first-item.result = search rules in
    let more : c.add_more_params.new.text.items ≡ c.add-in-len1-up-2.new.text.items ++ joined (map (λ e. codes ", " ++ f e) (take (length xs - 1) (drop 1 xs))) = c.in_ok-add_more_params-in-len1-up.ensures in
    list-written (codes ", ") f xs c.first-item.result c.args.text.now.items c.add-in-len1-up-2.new.text.items c.add_more_params.new.text.items
    c.in-len1-up.len_at_least c.first-item.is
    (two-pieces c.args.text.now.items (codes "int ") c.first-item.result c.add-in-len1-up.new.text.items c.add-in-len1-up-2.new.text.items word name) more
    ∙ ap (λ t. c.args.text.now.items ++ t) (sym (params-some xs c.in-len1-up.len_at_least))
