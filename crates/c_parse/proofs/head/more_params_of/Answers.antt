use Rattle.std.proofs.Common.{◌≡◌, ◌<◌, true, false, drop, map, arith, rules}
use Rattle.std.proofs.lemmas.Result.{err_from_is_err_and}
use Rattle.std.proofs.lemmas.List.{map_push}
use Rattle.c_reading.specs.Reader.{begins, size}
use Rattle.c_grammar.specs.declared.sign.Sign.TheVariants as s
use Rattle.c_reading.specs.Read.{is_sign}
use Rattle.c_parse.specs.Heads.{next_param_view, next_param}
use Rattle.c_stmt.proofs.Loop as loop
use Rattle.c_stmt.proofs.Stop.{stops_by}
use Rattle.c_parse.proofs.head.more_params_of.Goals as goal

pub returns-then-not-is_sign : goal.returns-then-not-is_sign
returns-then-not-is_sign c =
    let none : begins (is_sign s.Comma) (drop c.params.place c.args.cursor.now.tokens) ≡ false = first_of (cc, search rules) in
    loop.ends (is_sign s.Comma) next_param (drop c.args.at c.args.cursor.now.tokens) (map next_param_view c.params.more) c.params.counter (drop c.params.place c.args.cursor.now.tokens) c.params.invariant none

pub returns-in_err-next : goal.returns-in_err-next
returns-in_err-next c =
    let p = err_from_is_err_and c.from_residual.result c.from_residual.ensures.1 in
    let room : c.params.counter < size (drop c.args.at c.args.cursor.now.tokens) = omega (arith, c.left-end.ensures, c.params-test.true) in
    let more : begins (is_sign s.Comma) (drop c.params.place c.args.cursor.now.tokens) ≡ true = first_of (cc, search rules) in
    rw (p.1, p.2) (stops_by c.args.cursor.now.tokens (next_param (drop c.params.place c.args.cursor.now.tokens)) _ c.in_err-next.field-0.0 (loop.stops (is_sign s.Comma) next_param (drop c.args.at c.args.cursor.now.tokens) (map next_param_view c.params.more) c.params.counter (drop c.params.place c.args.cursor.now.tokens) c.params.invariant room more) c.in_err-next.ensures)

pub params-preserved : goal.params-preserved
params-preserved c =
    let room : c.params.counter < size (drop c.args.at c.args.cursor.now.tokens) = omega (arith, c.left-end.ensures, c.params-test.true) in
    let more : begins (is_sign s.Comma) (drop c.params.place c.args.cursor.now.tokens) ≡ true = first_of (cc, search rules) in
    rw (c.in_ok-push.ensures.pushed, map_push next_param_view c.params.more c.in_ok-next.next) (loop.turns (is_sign s.Comma) next_param (drop c.args.at c.args.cursor.now.tokens) (map next_param_view c.params.more) c.params.counter (drop c.params.place c.args.cursor.now.tokens) c.params.invariant room more _ _ c.in_ok-next.ensures)
