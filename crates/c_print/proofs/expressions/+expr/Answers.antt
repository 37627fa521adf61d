use Rattle.std.proofs.Common.{rules, ◌≡◌, ◌++◌, ◌+◌, codes, ap, sym, ◌∙◌}
use Rattle.c_print.specs.Table.{named}
use Rattle.c_print.specs.Text.Expressions.{sign_of, binding, operand, printed}
use Rattle.c_print.specs.Written.{opening, closing}
use Rattle.c_print.proofs.Operands.{combined-written}
use Rattle.c_print.proofs.TextEquations.{printed-Binary}
use Rattle.c_print.proofs.expressions.+expr.Goals as goal

pub add_operand-returns-in_ok-add_closing-in-Binary :
    goal.add_operand-returns-in_ok-add_closing-in-Binary
add_operand-returns-in_ok-add_closing-in-Binary t c =
    let names = named c.args.names.now in
    let o = c.in-Binary.op in
    let opened : c.add_opening.new.text.items ≡ c.args.text.now.items ++ opening (binding o) c.args.least = search rules in
    let first : c.add_operand.new.text.items ≡ c.add_opening.new.text.items ++ operand (binding o) (printed names c.in-Binary.left) = search rules in
    let signed : c.add_sign.new.text.items ≡ c.add_operand.new.text.items ++ (codes " " ++ sign_of o ++ codes " ") = search rules in
    let second : c.add_operand-in-Binary.new.text.items ≡ c.add_sign.new.text.items ++ operand (binding o + 1) (printed names c.in-Binary.right) = search rules in
    let ended : c.add_closing.new.text.items ≡ c.add_operand-in-Binary.new.text.items ++ closing (binding o) c.args.least = search rules in
    combined-written c.args.text.now.items c.add_opening.new.text.items c.add_operand.new.text.items c.add_sign.new.text.items
    c.add_operand-in-Binary.new.text.items c.add_closing.new.text.items c.args.least o (printed names c.in-Binary.left)
    (printed names c.in-Binary.right) opened first signed second ended
    ∙ ap (λ p. c.args.text.now.items ++ operand c.args.least p)
    (sym (ap (printed names) c.in-Binary.is ∙ printed-Binary names o c.in-Binary.left c.in-Binary.right))
