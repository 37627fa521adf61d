use Rattle.std.proofs.Common.{◌≡◌, Err, ap}
use Rattle.std.proofs.lemmas.Result.{err_from_is_err_and}
use Rattle.serde_json.specs.View.{view}
use Rattle.report_json.specs.declared.fault.Refusal.TheVariants.{Shape}
use Rattle.report_json.proofs.ReportKinds.{kind_from, no_atomicity, no_all_before, no_first_before}
use Rattle.report_json.proofs.read_report.report_of.Goals as goal

pub returns-in_err-p-in-Some-atomicity-clause-refused : goal.returns-in_err-p-in-Some-atomicity-clause-refused
returns-in_err-p-in-Some-atomicity-clause-refused c shape =
    let p = err_from_is_err_and c.from_residual.result c.from_residual.ensures.1 in
    let was : c.in_err-p-in-Some-atomicity.field-0.0 ≡ Shape = cc in
    let kind = kind_from (view c.args.object.now) c.in-Some-atomicity.field-0.now _ c.in-Some-atomicity.ensures c.in-Some-atomicity.is-atomicity in
    no_atomicity (view c.args.object.now) kind (λ p s r hp hs hr. c.in_err-p-in-Some-atomicity.ensures.refused (ap Err was) p hp)

pub returns-in_err-c-in-Some-atomicity-clause-refused : goal.returns-in_err-c-in-Some-atomicity-clause-refused
returns-in_err-c-in-Some-atomicity-clause-refused c shape =
    let p = err_from_is_err_and c.from_residual-in_err-c-in-Some-atomicity.result c.from_residual-in_err-c-in-Some-atomicity.ensures.1 in
    let was : c.in_err-c-in-Some-atomicity.field-0.0 ≡ Shape = cc in
    let kind = kind_from (view c.args.object.now) c.in-Some-atomicity.field-0.now _ c.in-Some-atomicity.ensures c.in-Some-atomicity.is-atomicity in
    no_atomicity (view c.args.object.now) kind (λ p s r hp hs hr. c.in_err-c-in-Some-atomicity.ensures.refused (ap Err was) s hs)

pub returns-in_err-r-in-Some-atomicity-clause-refused : goal.returns-in_err-r-in-Some-atomicity-clause-refused
returns-in_err-r-in-Some-atomicity-clause-refused c shape =
    let p = err_from_is_err_and c.from_residual-in_err-r-in-Some-atomicity.result c.from_residual-in_err-r-in-Some-atomicity.ensures.1 in
    let was : c.in_err-r-in-Some-atomicity.field-0.0 ≡ Shape = cc in
    let kind = kind_from (view c.args.object.now) c.in-Some-atomicity.field-0.now _ c.in-Some-atomicity.ensures c.in-Some-atomicity.is-atomicity in
    no_atomicity (view c.args.object.now) kind (λ p s r hp hs hr. c.in_err-r-in-Some-atomicity.ensures.refused (ap Err was) r hr)

pub returns-in_err-a-in-Some-text-clause-refused : goal.returns-in_err-a-in-Some-text-clause-refused
returns-in_err-a-in-Some-text-clause-refused c shape =
    let p = err_from_is_err_and c.from_residual-in_err-a-in-Some-text.result c.from_residual-in_err-a-in-Some-text.ensures.1 in
    let was : c.in_err-a-in-Some-text.field-0.0 ≡ Shape = cc in
    let kind = kind_from (view c.args.object.now) c.in-Some-text.field-0.now _ c.in-Some-text.ensures c.in-Some-text.is-all_before in
    no_all_before (view c.args.object.now) kind (λ a b ha hb. c.in_err-a-in-Some-text.ensures.refused (ap Err was) a ha)

pub returns-in_err-b-in-Some-text-clause-refused : goal.returns-in_err-b-in-Some-text-clause-refused
returns-in_err-b-in-Some-text-clause-refused c shape =
    let p = err_from_is_err_and c.from_residual-in_err-b-in-Some-text.result c.from_residual-in_err-b-in-Some-text.ensures.1 in
    let was : c.in_err-b-in-Some-text.field-0.0 ≡ Shape = cc in
    let kind = kind_from (view c.args.object.now) c.in-Some-text.field-0.now _ c.in-Some-text.ensures c.in-Some-text.is-all_before in
    no_all_before (view c.args.object.now) kind (λ a b ha hb. c.in_err-b-in-Some-text.ensures.refused (ap Err was) b hb)

pub returns-in_err-a-in-Some-text-2-clause-refused : goal.returns-in_err-a-in-Some-text-2-clause-refused
returns-in_err-a-in-Some-text-2-clause-refused c shape =
    let p = err_from_is_err_and c.from_residual-in_err-a-in-Some-text-2.result c.from_residual-in_err-a-in-Some-text-2.ensures.1 in
    let was : c.in_err-a-in-Some-text-2.field-0.0 ≡ Shape = cc in
    let kind = kind_from (view c.args.object.now) c.in-Some-text-2.field-0.now _ c.in-Some-text-2.ensures c.in-Some-text-2.is-first_before in
    no_first_before (view c.args.object.now) kind (λ a b ha hb. c.in_err-a-in-Some-text-2.ensures.refused (ap Err was) a ha)

pub returns-in_err-b-in-Some-text-2-clause-refused : goal.returns-in_err-b-in-Some-text-2-clause-refused
returns-in_err-b-in-Some-text-2-clause-refused c shape =
    let p = err_from_is_err_and c.from_residual-in_err-b-in-Some-text-2.result c.from_residual-in_err-b-in-Some-text-2.ensures.1 in
    let was : c.in_err-b-in-Some-text-2.field-0.0 ≡ Shape = cc in
    let kind = kind_from (view c.args.object.now) c.in-Some-text-2.field-0.now _ c.in-Some-text-2.ensures c.in-Some-text-2.is-first_before in
    no_first_before (view c.args.object.now) kind (λ a b ha hb. c.in_err-b-in-Some-text-2.ensures.refused (ap Err was) b hb)
