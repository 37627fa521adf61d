use Rattle.std.proofs.Common.{◌≡◌, true, false, drop, ap, ◌∙◌}
use Rattle.std.proofs.lemmas.Result.{err_from_is_err_and}
use Rattle.c_reading.specs.Reader.{map_out, begins}
use Rattle.c_grammar.specs.Simple as gs
use Rattle.c_reading.specs.Read.{is_name}
use Rattle.c_reading.specs.ReadExpr.{expr_at}
use Rattle.c_cursor.proofs.Exits.{stops-by}
use Rattle.c_expr.proofs.ValueSteps.{value-name, value-other}
use Rattle.c_expr.proofs.values.value.Goals as goal

pub returns-then-is_name : goal.returns-then-is_name
returns-then-is_name c =
    let here = drop c.args.at c.args.cursor.now.tokens in
    let name : begins is_name here ≡ true = cc in
    rw (value-name 200 c.args.depth here name) c.named_value.ensures

pub returns-in_err-expr : goal.returns-in_err-expr
returns-in_err-expr c =
    let ts = c.args.cursor.now.tokens in
    let here = drop c.args.at ts in
    let no_name : begins is_name here ≡ false = cc in
    let p = err_from_is_err_and c.from_residual.result c.from_residual.ensures.1 in
    rw (p.1, p.2) (stops-by ts c.in_err-expr.field-0.0 (expr_at c.args.depth 200 here) _ (λ f r h. value-other 200 c.args.depth here no_name ∙ ap (map_out (λ e. gs.Computed e)) h) c.in_err-expr.ensures)

pub returns : goal.returns
returns c =
    let here = drop c.args.at c.args.cursor.now.tokens in
    let no_name : begins is_name here ≡ false = cc in
    value-other 200 c.args.depth here no_name ∙ ap (map_out (λ e. gs.Computed e)) c.in_ok-expr.ensures
