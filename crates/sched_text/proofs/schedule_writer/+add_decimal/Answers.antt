use Rattle.std.proofs.Common.{◌∙◌, ap, arith}
use Rattle.sched_text.proofs.Schedules.{one_digit, last_digit}
use Rattle.sched_text.proofs.schedule_writer.+add_decimal.Goals as goal
use Rattle.sched_text.proofs.schedule_writer.+add_decimal.Goals.{then-number-ge10+in_ok-add_decimal, else-number-ge10}

pub returns : goal.returns
returns t c =
    elim c.if-number-ge10.branch [
      | then-number-ge10+in_ok-add_decimal w ↦
          c.in_ok-push.ensures.items
          ∙ last_digit c.args.text.now.items c.if-number-ge10.text.items c.args.number (omega arith) (omega arith) (ap (λ v. v.items) w.text-is ∙ w.in_ok-add_decimal.ensures)
      | else-number-ge10 w ↦ c.in_ok-push.ensures.items ∙ one_digit c.args.text.now.items c.if-number-ge10.text.items c.args.number (omega arith) (ap (λ v. v.items) w.text-is)
    ]
