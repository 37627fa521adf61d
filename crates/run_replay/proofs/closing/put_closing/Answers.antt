use Rattle.std.proofs.Common.{ap, ◌∙◌}
use Rattle.std.proofs.lemmas.Result.{on_err_weaker}
use Rattle.trace_text.specs.Closings.{closing_line}
use Rattle.run_replay.proofs.closing.put_closing.Goals as goal

pub returns-clause-err : goal.returns-clause-err
returns-clause-err g c =
    on_err_weaker c.put.result (λ front. record {
      line = c.closing_line.result.now;
      closes = record {
        stuck = c.is_stuck-stuck.result;
        tells = c.is_stuck-stuck.ensures;
        is_line = c.closing_line.ensures ∙ ap (λ ending. closing_line ending c.is_stuck-stuck.result) c.ending.ensures;
      };
      gained = front;
    }) c.put.ensures.front
