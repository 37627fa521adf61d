use Rattle.sched_text.proofs.Schedules.{spells_written}
use Rattle.sched_text.proofs.schedule_writer.schedule_text.Goals as goal

pub returns-clause-reads_again : goal.returns-clause-reads_again
returns-clause-reads_again c few =
    spells_written c.loop-entry.text.items c.as_slice-entry-items.result.now c.args.schedule.now c.loop-entry.entry-index
    c.loop-entry-test.false c.loop-entry.invariant.text c.loop-entry.invariant.ranges c.as_slice-entry-items.ensures few
