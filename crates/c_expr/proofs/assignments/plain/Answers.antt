use Rattle.std.proofs.Common.{◌≡◌, true, false, drop}
use Rattle.std.proofs.lemmas.Result.{err_from_is_err_and}
use Rattle.c_reading.specs.Reader.{begins}
use Rattle.c_reading.specs.Read.{is_name}
use Rattle.c_reading.specs.ReadSimple.{target_at}
use Rattle.c_raw.specs.Simples.{target_view, step_view}
use Rattle.c_cursor.proofs.Exits.{stops-by}
use Rattle.c_expr.proofs.ValueSteps.{plain-name, plain-name_stop, plain-none, plain-step, plain-step_stop}
use Rattle.c_expr.proofs.assignments.plain.Goals as goal

pub returns-in_err-target : goal.returns-in_err-target
returns-in_err-target c =
    let ts = c.args.cursor.now.tokens in
    let here = drop c.args.at ts in
    let name : begins is_name here ≡ true = cc in
    let p = err_from_is_err_and c.from_residual.result c.from_residual.ensures.1 in
    rw (p.1, p.2) (stops-by ts c.in_err-target.field-0.0 (target_at 200 c.args.depth here) _ (plain-name_stop 200 c.args.depth here name) c.in_err-target.ensures)

pub returns-then-is_name : goal.returns-then-is_name
returns-then-is_name c =
    let ts = c.args.cursor.now.tokens in
    let here = drop c.args.at ts in
    let name : begins is_name here ≡ true = cc in
    rw (plain-name 200 c.args.depth here name (target_view c.in_ok-target.target) (drop c.in_ok-target.at ts) c.in_ok-target.ensures) c.plain_of.ensures

pub returns-in_err-target-in-Some : goal.returns-in_err-target-in-Some
returns-in_err-target-in-Some c =
    let ts = c.args.cursor.now.tokens in
    let here = drop c.args.at ts in
    let behind = drop c.in-Some.next ts in
    let no_name : begins is_name here ≡ false = cc in
    let p = err_from_is_err_and c.from_residual-in_err-target-in-Some.result c.from_residual-in_err-target-in-Some.ensures.1 in
    rw (p.1, p.2) (stops-by ts c.in_err-target-in-Some.field-0.0 (target_at 200 c.args.depth behind) _
    (plain-step_stop 200 c.args.depth here no_name (step_view c.in-Some.step, c.in-Some.spot) behind c.in-Some.ensures.1) c.in_err-target-in-Some.ensures)

pub returns-in_ok-target-in-Some : goal.returns-in_ok-target-in-Some
returns-in_ok-target-in-Some c =
    let ts = c.args.cursor.now.tokens in
    let here = drop c.args.at ts in
    let no_name : begins is_name here ≡ false = cc in
    plain-step 200 c.args.depth here no_name (step_view c.in-Some.step, c.in-Some.spot) (drop c.in-Some.next ts) c.in-Some.ensures.1 (target_view c.in_ok-target-in-Some.target) (drop c.in_ok-target-in-Some.next ts) c.in_ok-target-in-Some.ensures

pub returns-in-None : goal.returns-in-None
returns-in-None c =
    let here = drop c.args.at c.args.cursor.now.tokens in
    let no_name : begins is_name here ≡ false = cc in
    plain-none 200 c.args.depth here no_name c.in-None.ensures.1
