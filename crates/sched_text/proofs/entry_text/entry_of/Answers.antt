use Rattle.sched_text.proofs.EntryLines.{malformed_line}
use Rattle.sched_text.proofs.entry_text.entry_of.Goals as goal

pub returns-in-None : goal.returns-in-None
returns-in-None c =
    malformed_line c.args.line.now c.without_mark-timeout.result.0.now c.without_mark-timeout.result.1
    c.without_mark-timeout.ensures.parts c.without_mark-timeout.ensures.unmarked c.in-None.ensures
