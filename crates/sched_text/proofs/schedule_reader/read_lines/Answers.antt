use Rattle.std.proofs.Common.{◌+◌, ◌∷◌, [], ℕ, List, length, take, arith, sym, ap, subst, ◌∙◌}
use Rattle.std.proofs.lemmas.List.{length-append}
use Rattle.std.specs.List.{All}
use Rattle.cfix_base.specs.declared.entry.Entry.{Entry}
use Rattle.sched_text.specs.Schedules.{IsEntry, IsMalformedLine}
use Rattle.sched_text.proofs.Schedules.{some_bytes, next_line, first_bad, one_more, ranges-push}
use Rattle.sched_text.proofs.schedule_reader.read_lines.Goals as goal

pub returns-then-count-eq-MAX_SCHEDULE_ENTRIES-clause-refused : goal.returns-then-count-eq-MAX_SCHEDULE_ENTRIES-clause-refused
returns-then-count-eq-MAX_SCHEDULE_ENTRIES-clause-refused c =
    one_more c.args.text.now c.lines.entries c.lines.rest.now c.lines.invariant.ranges c.lines.invariant.read
    (some_bytes c.lines.rest.now (sym c.is_empty.ensures ∙ c.lines-test.true)) (sym c.lines.invariant.counted ∙ c.if-count-eq-MAX_SCHEDULE_ENTRIES.true)

pub returns-in-None-clause-refused : goal.returns-in-None-clause-refused
returns-in-None-clause-refused c =
    first_bad c.args.text.now c.lines.entries c.lines.rest.now c.lines.invariant.ranges c.lines.invariant.read
    (some_bytes c.lines.rest.now (sym c.is_empty.ensures ∙ c.lines-test.true))
    (c.lines.count + 1) (omega arith) (omega arith)
    (subst (λ (n : ℕ). IsMalformedLine (take n c.lines.rest.now)) c.line_len-len.ensures c.in-None.ensures)

pub lines-preserved : goal.lines-preserved
lines-preserved c =
    let line = next_line c.args.text.now c.lines.entries c.lines.rest.now c.lines.invariant.ranges c.lines.invariant.read
    (some_bytes c.lines.rest.now (sym c.is_empty.ensures ∙ c.lines-test.true))
    c.in-Some.entry (ap (λ (n : ℕ). take n c.lines.rest.now) (sym c.line_len-len.ensures) ∙ c.in-Some.ensures.1) in
    let pushed = c.in_ok-push-in-Some.ensures.pushed in
    record {
      ranges = subst (λ (z : List Entry). All IsEntry z) (sym pushed) (ranges-push c.lines.entries c.in-Some.entry c.lines.invariant.ranges c.in-Some.ensures.0);
      read = rw (pushed, c.after_line-rest.ensures, c.line_len-len.ensures) line;
      counted = omega (arith, ap length pushed, length-append c.lines.entries (c.in-Some.entry ∷ []));
      few = omega arith;
    }
