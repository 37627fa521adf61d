use Rattle.std.proofs.Common.{◌≡◌, ◌<◌, true, false, drop, map, arith, rules}
use Rattle.std.proofs.lemmas.Result.{err_from_is_err_and}
use Rattle.std.proofs.lemmas.List.{map_push}
use Rattle.c_reading.specs.Reader.{begins, size, one_of}
use Rattle.c_reading.specs.ReadFile.{is_inside, inside_of}
use Rattle.c_raw.specs.Tokens.{token_view}
use Rattle.c_stmt.proofs.Loop as loop
use Rattle.c_stmt.proofs.Stop.{stops_by}
use Rattle.c_parse.proofs.directive.inside.Goals as goal

pub returns-then-not-is_inside : goal.returns-then-not-is_inside
returns-then-not-is_inside c =
    let none : begins (is_inside c.args.line) (drop c.tokens.place c.args.cursor.now.tokens) ≡ false = first_of (cc, search rules) in
    loop.ends (is_inside c.args.line) (one_of (inside_of c.args.line)) (drop c.args.at c.args.cursor.now.tokens) (map token_view c.tokens.tokens) c.tokens.counter (drop c.tokens.place c.args.cursor.now.tokens) c.tokens.invariant none

pub returns-in_err-next : goal.returns-in_err-next
returns-in_err-next c =
    let p = err_from_is_err_and c.from_residual.result c.from_residual.ensures.1 in
    let room : c.tokens.counter < size (drop c.args.at c.args.cursor.now.tokens) = omega (arith, c.left-end.ensures, c.tokens-test.true) in
    let more : begins (is_inside c.args.line) (drop c.tokens.place c.args.cursor.now.tokens) ≡ true = first_of (cc, search rules) in
    rw (p.1, p.2) (stops_by c.args.cursor.now.tokens ((one_of (inside_of c.args.line)) (drop c.tokens.place c.args.cursor.now.tokens)) _ c.in_err-next.field-0.0 (loop.stops (is_inside c.args.line) (one_of (inside_of c.args.line)) (drop c.args.at c.args.cursor.now.tokens) (map token_view c.tokens.tokens) c.tokens.counter (drop c.tokens.place c.args.cursor.now.tokens) c.tokens.invariant room more) c.in_err-next.ensures)

pub tokens-preserved : goal.tokens-preserved
tokens-preserved c =
    let room : c.tokens.counter < size (drop c.args.at c.args.cursor.now.tokens) = omega (arith, c.left-end.ensures, c.tokens-test.true) in
    let more : begins (is_inside c.args.line) (drop c.tokens.place c.args.cursor.now.tokens) ≡ true = first_of (cc, search rules) in
    rw (c.in_ok-push.ensures.pushed, map_push token_view c.tokens.tokens c.in_ok-next.next) (loop.turns (is_inside c.args.line) (one_of (inside_of c.args.line)) (drop c.args.at c.args.cursor.now.tokens) (map token_view c.tokens.tokens) c.tokens.counter (drop c.tokens.place c.args.cursor.now.tokens) c.tokens.invariant room more _ _ c.in_ok-next.ensures)
