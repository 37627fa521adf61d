use Rattle.sched_text.proofs.Values.{numeral_utf8}
use Rattle.sched_text.proofs.value_text.value_of.Goals as goal

pub returns-in-Err : goal.returns-in-Err
returns-in-Err c value number = c.in-Err.ensures.cases.0 (numeral_utf8 c.args.word.now number.digits)
