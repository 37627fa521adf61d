use Rattle.std.proofs.Common.{◌≡◌, ◌≤◌, ◌++◌, length, map}
use Rattle.std.specs.List.{All}
use Rattle.cfix_base.specs.declared.limits.TheConstants.{MAX_SCHEDULE_ENTRIES}
use Rattle.sched_text.specs.Lines.{lines}
use Rattle.sched_text.specs.Schedules.{IsEntry, entry_line}
use Rattle.sched_text.proofs.schedule_reader.read_lines.Given as goal

abbrev pub invariant-lines : goal.invariant-lines
invariant-lines l = record {
  ranges : All IsEntry l.entries;
  read : lines l.text ≡ map entry_line l.entries ++ lines l.rest;
  counted : l.count ≡ length l.entries;
  few : l.count ≤ MAX_SCHEDULE_ENTRIES;
}

abbrev pub decreases-lines : goal.decreases-lines
decreases-lines l = length l.rest
