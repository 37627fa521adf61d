use Rattle.std.proofs.Common.{Err, map, take, drop, suc, sym, ap, refl, inr}
use Rattle.serde_json.specs.View.{view}
use Rattle.report_json.specs.Shapes.{IsReport}
use Rattle.report_json.specs.Reading.{IsFirstMisshapen}
use Rattle.report_json.proofs.Related.{each-push, seen_more, seen_parts, seen_len}
use Rattle.report_json.proofs.read_reports.read_all.Goals as goal

pub returns-in-Err-Shape-clause-refused : goal.returns-in-Err-Shape-clause-refused
returns-in-Err-Shape-clause-refused c =
    let first : IsFirstMisshapen (map view c.args.values.now) c.loop-number.number = record {
      good = map view (take c.loop-number.number c.args.values.now);
      reports = c.loop-number.reports;
      bad = view c.index-values-number.result;
      more = map view (drop (suc c.loop-number.number) c.args.values.now);
      parts = seen_parts view c.args.values.now c.loop-number.number c.index-values-number.result c.loop-number-test.true c.index-values-number.is;
      each = c.loop-number.invariant;
      misshapen = c.in-Err-Shape.ensures.refused (ap Err c.in-Err-Shape.field-0-is);
      counted = sym (seen_len view c.args.values.now c.loop-number.number c.loop-number-test.true);
    } in
    inr (c.loop-number.number, refl, first)

pub loop-number-preserved : goal.loop-number-preserved
loop-number-preserved c =
    let more = seen_more view c.args.values.now c.loop-number.number c.index-values-number.result c.loop-number-test.true c.index-values-number.is in
    let pushed = c.in_ok-push-in-Ok.ensures.pushed in
    rw (more, pushed) (each-push IsReport (map view (take c.loop-number.number c.args.values.now)) (view c.index-values-number.result) c.loop-number.reports
    c.in-Ok.report c.loop-number.invariant c.in-Ok.ensures.ok)
