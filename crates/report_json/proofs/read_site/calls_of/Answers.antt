use Rattle.std.proofs.Common.{◌≡◌, List, Err, map, take, drop, suc, ap, subst}
use Rattle.std.proofs.lemmas.Result.{err_from_is_err_and}
use Rattle.serde_json.specs.Data.{Data}
use Rattle.serde_json.specs.View.{view}
use Rattle.report_json.specs.declared.fault.Refusal.TheVariants.{Shape}
use Rattle.report_json.specs.Members.{Each}
use Rattle.report_json.specs.Sites.{IsCallSite}
use Rattle.report_json.proofs.Related.{each-push, each-bad, seen_more, seen_parts}
use Rattle.report_json.proofs.read_site.calls_of.Goals as goal

pub returns-in_err-call_site_of-clause-refused : goal.returns-in_err-call_site_of-clause-refused
returns-in_err-call_site_of-clause-refused c shape calls each =
    let p = err_from_is_err_and c.from_residual.result c.from_residual.ensures.1 in
    let was : c.in_err-call_site_of.field-0.0 ≡ Shape = cc in
    let parts = seen_parts view c.args.values.now c.loop-value.value-index c.value-item.result c.loop-value-test.true c.value-item.is in
    each-bad IsCallSite (map view (take c.loop-value.value-index c.args.values.now)) (view c.value-item.result)
    (map view (drop (suc c.loop-value.value-index) c.args.values.now)) calls
    (subst (λ (z : List Data). Each IsCallSite z calls) parts each) (c.in_err-call_site_of.ensures.refused (ap Err was))

pub loop-value-preserved : goal.loop-value-preserved
loop-value-preserved c =
    let more = seen_more view c.args.values.now c.loop-value.value-index c.value-item.result c.loop-value-test.true c.value-item.is in
    let pushed = c.in_ok-push.ensures.pushed in
    rw (more, pushed) (each-push IsCallSite (map view (take c.loop-value.value-index c.args.values.now)) (view c.value-item.result) c.loop-value.calls
    c.in_ok-call_site_of.field-0 c.loop-value.invariant c.in_ok-call_site_of.ensures.ok)
