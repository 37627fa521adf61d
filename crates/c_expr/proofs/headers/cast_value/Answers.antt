use Rattle.std.proofs.Common.{◌≡◌, false, drop, ap, ◌∙◌}
use Rattle.std.proofs.lemmas.Result.{err_from_is_err_and}
use Rattle.c_reading.specs.Reader.{map_out, begins}
use Rattle.c_reading.specs.ReadExpr.{unary_at}
use Rattle.c_reading.specs.ReadSimple.{is_paren}
use Rattle.c_cursor.proofs.Exits.{stops-by}
use Rattle.c_expr.proofs.CallSteps.{no_long, cast-other}
use Rattle.c_expr.proofs.headers.cast_value.Goals as goal

pub returns-in_err-operand : goal.returns-in_err-operand
returns-in_err-operand c =
    let ts = c.args.cursor.now.tokens in
    let here = drop c.args.at ts in
    let no_paren : begins is_paren here ≡ false = cc in
    let p = err_from_is_err_and c.from_residual.result c.from_residual.ensures.1 in
    rw (p.1, p.2) (stops-by ts c.in_err-operand.field-0.0 (unary_at c.args.depth 200 here) _ (λ f r h. cast-other 200 here c.args.depth no_paren ∙ ap (map_out no_long) h) c.in_err-operand.ensures.read)

pub returns : goal.returns
returns c =
    let here = drop c.args.at c.args.cursor.now.tokens in
    let no_paren : begins is_paren here ≡ false = cc in
    cast-other 200 here c.args.depth no_paren ∙ ap (map_out no_long) c.in_ok-operand.ensures.read
