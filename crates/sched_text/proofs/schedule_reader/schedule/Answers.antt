use Rattle.sched_text.proofs.Schedules.{reads, bad_line, too_many}
use Rattle.sched_text.proofs.schedule_reader.schedule.Goals as goal

pub returns-clause-reads : goal.returns-clause-reads
returns-clause-reads c = reads c.args.text.now c.read_lines.result c.read_lines.ensures.ok c.read_lines.ensures.refused

pub returns-clause-bad_line : goal.returns-clause-bad_line
returns-clause-bad_line c = bad_line c.args.text.now c.read_lines.result c.read_lines.ensures.ok c.read_lines.ensures.refused

pub returns-clause-too_many : goal.returns-clause-too_many
returns-clause-too_many c = too_many c.args.text.now c.read_lines.result c.read_lines.ensures.ok c.read_lines.ensures.refused
