use Rattle.std.proofs.Common.{◌≡◌, true, false, drop, ap, ◌∙◌}
use Rattle.std.proofs.lemmas.Result.{err_from_is_err_and}
use Rattle.c_reading.specs.Reader.{map_out, begins}
use Rattle.c_grammar.specs.Simple as gs
use Rattle.c_reading.specs.Read.{is_name}
use Rattle.c_reading.specs.ReadSimple.{target_at, library_at}
use Rattle.c_raw.specs.Simples.{target_view, step_view}
use Rattle.c_cursor.proofs.Exits.{stops-by}
use Rattle.c_expr.proofs.ValueSteps.{simple-name, simple-step, simple-step_stop, simple-library}
use Rattle.c_expr.proofs.statements.simple.Goals as goal

pub returns-then-is_name : goal.returns-then-is_name
returns-then-is_name c =
    let here = drop c.args.at c.args.cursor.now.tokens in
    let name : begins is_name here ≡ true = cc in
    rw (simple-name 200 c.args.depth here name) c.named_simple.ensures

pub returns-in_err-target : goal.returns-in_err-target
returns-in_err-target c =
    let ts = c.args.cursor.now.tokens in
    let here = drop c.args.at ts in
    let behind = drop c.in-Some.next ts in
    let no_name : begins is_name here ≡ false = cc in
    let p = err_from_is_err_and c.from_residual.result c.from_residual.ensures.1 in
    rw (p.1, p.2) (stops-by ts c.in_err-target.field-0.0 (target_at 200 c.args.depth behind) _
    (simple-step_stop 200 c.args.depth here no_name c.in-Some.ensures.0 (step_view c.in-Some.step, c.in-Some.spot) behind c.in-Some.ensures.1) c.in_err-target.ensures)

pub returns-in-Some : goal.returns-in-Some
returns-in-Some c =
    let ts = c.args.cursor.now.tokens in
    let here = drop c.args.at ts in
    let no_name : begins is_name here ≡ false = cc in
    simple-step 200 c.args.depth here no_name c.in-Some.ensures.0 (step_view c.in-Some.step, c.in-Some.spot) (drop c.in-Some.next ts) c.in-Some.ensures.1 (target_view c.in_ok-target.target) (drop c.in_ok-target.next ts) c.in_ok-target.ensures

pub returns-in_err-library : goal.returns-in_err-library
returns-in_err-library c =
    let ts = c.args.cursor.now.tokens in
    let here = drop c.args.at ts in
    let no_name : begins is_name here ≡ false = cc in
    let p = err_from_is_err_and c.from_residual-in_err-library.result c.from_residual-in_err-library.ensures.1 in
    rw (p.1, p.2) (stops-by ts c.in_err-library.field-0.0 (library_at 200 c.args.depth here) _
    (λ f r h. simple-library 200 c.args.depth here no_name c.in_default.ensures.0 ∙ ap (map_out (λ x. gs.LibraryPart x)) h) c.in_err-library.ensures)

pub returns : goal.returns
returns c =
    let here = drop c.args.at c.args.cursor.now.tokens in
    let no_name : begins is_name here ≡ false = cc in
    simple-library 200 c.args.depth here no_name c.in_default.ensures.0 ∙ ap (map_out (λ x. gs.LibraryPart x)) c.in_ok-library.ensures
