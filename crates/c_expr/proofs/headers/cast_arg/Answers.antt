use Rattle.std.proofs.Common.{drop, ap, ◌∙◌}
use Rattle.c_reading.specs.Reader.{map_out}
use Rattle.c_grammar.specs.Simple as gs
use Rattle.c_expr.proofs.CallSteps.{arg-in}
use Rattle.c_expr.proofs.headers.cast_arg.Goals as goal

pub returns : goal.returns
returns c =
    let ts = c.args.cursor.now.tokens in
    arg-in 200 c.args.depth (drop c.args.at ts) c.if-depth-eq0.false c.in_ok-before.before (drop c.in_ok-before.at ts) c.in_ok-before.ensures c.in_ok-void.void (drop c.in_ok-void.at ts) c.in_ok-void.ensures
    c.in_ok-star.star (drop c.in_ok-star.at ts) c.in_ok-star.ensures c.in_ok-after.after (drop c.in_ok-after.at ts) c.in_ok-after.ensures
    ∙ ap (map_out (λ x. gs.CastArg c.in_ok-before.before c.in_ok-void.void c.in_ok-star.star c.in_ok-after.after x.0 x.1)) c.in_ok-inner.ensures
