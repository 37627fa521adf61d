use Rattle.std.proofs.Common.{◌≡◌, ◌++◌, codes, map, drop}
use Rattle.c_prog.specs.Order.{joined}
use Rattle.c_print.specs.Table.{named}
use Rattle.c_print.specs.Text.Expressions.{expr_text}
use Rattle.c_print.proofs.acts.add_more.Given as goal

abbrev pub invariant-loop-expr : goal.invariant-loop-expr
invariant-loop-expr l =
    l.text.items ++ joined (map (λ e. codes ", " ++ expr_text (named l.names) e) (drop l.expr-index l.args))
    ≡ l.initial.text.items ++ joined (map (λ e. codes ", " ++ expr_text (named l.names) e) l.args)
