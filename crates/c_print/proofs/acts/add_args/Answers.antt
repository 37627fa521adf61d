use Rattle.std.proofs.Common.{rules, ◌≡◌, ◌++◌, ◌-◌, codes, length, map, take, drop}
use Rattle.c_prog.specs.Order.{joined}
use Rattle.c_print.specs.Table.{named}
use Rattle.c_print.specs.Text.Expressions.{expr_text}
use Rattle.c_print.proofs.Betweens.{list-written}
use Rattle.c_print.proofs.acts.add_args.Goals as goal

pub returns-in_ok-add_more-in-len1-up : goal.returns-in_ok-add_more-in-len1-up
returns-in_ok-add_more-in-len1-up c =
    let f = expr_text (named c.args.names.now) in
    let xs = c.args.args.now in
    let first : c.add_expr.new.text.items ≡ c.args.text.now.items ++ f c.first-item.result = search rules in
    let more : c.add_more.new.text.items ≡ c.add_expr.new.text.items ++ joined (map (λ e. codes ", " ++ f e) (take (length xs - 1) (drop 1 xs))) = search rules in
    list-written (codes ", ") f xs c.first-item.result c.args.text.now.items c.add_expr.new.text.items c.add_more.new.text.items
    c.in-len1-up.len_at_least c.first-item.is first more
