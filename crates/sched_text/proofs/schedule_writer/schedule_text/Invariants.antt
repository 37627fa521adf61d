use Rattle.std.proofs.Common.{◌≡◌, ℕ, ◌<◌, ◌++◌, drop, get_or}
use Rattle.cfix_base.specs.declared.entry.Entry.{Entry}
use Rattle.sched_text.specs.Schedules.{written, IsEntry}
use Rattle.sched_text.proofs.schedule_writer.schedule_text.Given as goal

abbrev pub invariant-loop-entry : goal.invariant-loop-entry
invariant-loop-entry l = record {
  text : l.text.items ++ written (drop l.entry-index l.entry-items) ≡ written l.entry-items;
  ranges : (k : ℕ) (d : Entry) → k < l.entry-index → IsEntry (get_or l.entry-items k d);
}
