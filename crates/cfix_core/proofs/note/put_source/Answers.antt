use Rattle.std.proofs.Common.{rules}
use Rattle.cfix_core.specs.Stops.{ended, kind_text, source_start}
use Rattle.cfix_outside.proofs.Gains.{front-more, front-then}
use Rattle.cfix_core.proofs.note.put_source.Goals as goal

pub returns-in_err-put_source_start-clause-front : goal.returns-in_err-put_source_start-clause-front
returns-in_err-put_source_start-clause-front g c =
    let h = front-more _ _ (source_start c.args.flaw.spot.line) (ended (kind_text c.args.flaw.kind)) c.in_err-put_source_start.ensures.front in
    search (rules, h)

pub returns-in_err-put_kind_end-clause-front : goal.returns-in_err-put_kind_end-clause-front
returns-in_err-put_kind_end-clause-front g c =
    let h = front-then _ _ _ (source_start c.args.flaw.spot.line) (ended (kind_text c.args.flaw.kind)) c.in_ok-put_source_start.ensures.taken
    c.in_err-put_kind_end.ensures.front in
    search (rules, h)
