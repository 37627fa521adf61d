use Rattle.std.proofs.Common.{◌≡◌, ℕ, ◌+◌, ◌-◌, ◌*◌, ◌<◌, List, sym, ap, ◌∙◌, arith}
use Rattle.c_lex.specs.Meaning.{decimal_after}
use Rattle.c_lex.proofs.Numbers.{decimal_after-ge, too_great}
use Rattle.c_lex.proofs.number.digits_value.Goals as goal

pub returns-then-value-gt-MAX_NUMBER : goal.returns-then-value-gt-MAX_NUMBER
returns-then-value-gt-MAX_NUMBER c =
    let next : ℕ = 10 * c.digits.value + (c.in-Some.digit.now - 48) in
    let same : decimal_after next c.in-Some.behind.now ≡ decimal_after 0 c.args.text.now =
    ap (λ (z : List ℕ). decimal_after c.digits.value z) (sym c.in-Some.ensures.cases.0) ∙ c.digits.invariant.1 in
    let above : 2147483647 < decimal_after 0 c.args.text.now = omega (arith, same, decimal_after-ge next c.in-Some.behind.now) in
    too_great _ _ above
