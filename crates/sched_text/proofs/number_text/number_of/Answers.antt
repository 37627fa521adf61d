use Rattle.std.proofs.Common.{refl}
use Rattle.sched_text.proofs.Numbers.{needless_front, found_number, not_utf8}
use Rattle.sched_text.proofs.number_text.number_of.Goals as goal

pub returns-then-has_needless_front : goal.returns-then-has_needless_front
returns-then-has_needless_front c = needless_front c.args.digits.now (c.if-has_needless_front.ensures.0 refl)

pub returns-in-Ok : goal.returns-in-Ok
returns-in-Ok c =
    found_number c.args.digits.now c.in-Ok.text.now c.parse.result c.ok.result c.in-Ok.ensures.cases.0 c.parse.ensures.value.0 c.ok.ensures.value
    (λ front. cc (c.if-has_needless_front.ensures.1 front))

pub returns-in-Err : goal.returns-in-Err
returns-in-Err c = not_utf8 c.args.digits.now c.in-Err.ensures.cases.0
