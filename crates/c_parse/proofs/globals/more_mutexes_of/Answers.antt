use Rattle.std.proofs.Common.{◌≡◌, ◌<◌, true, false, drop, map, arith, rules}
use Rattle.std.proofs.lemmas.Result.{err_from_is_err_and}
use Rattle.std.proofs.lemmas.List.{map_push}
use Rattle.c_reading.specs.Reader.{begins, size}
use Rattle.c_grammar.specs.declared.sign.Sign.TheVariants as s
use Rattle.c_reading.specs.Read.{is_sign}
use Rattle.c_parse.specs.Globals.{next_mutex_view, next_mutex}
use Rattle.c_stmt.proofs.Loop as loop
use Rattle.c_stmt.proofs.Stop.{stops_by}
use Rattle.c_parse.proofs.globals.more_mutexes_of.Goals as goal

pub returns-then-not-is_sign : goal.returns-then-not-is_sign
returns-then-not-is_sign c =
    let none : begins (is_sign s.Comma) (drop c.mutexes.place c.args.cursor.now.tokens) ≡ false = first_of (cc, search rules) in
    loop.ends (is_sign s.Comma) next_mutex (drop c.args.at c.args.cursor.now.tokens) (map next_mutex_view c.mutexes.more) c.mutexes.counter (drop c.mutexes.place c.args.cursor.now.tokens) c.mutexes.invariant none

pub returns-in_err-next : goal.returns-in_err-next
returns-in_err-next c =
    let p = err_from_is_err_and c.from_residual.result c.from_residual.ensures.1 in
    let room : c.mutexes.counter < size (drop c.args.at c.args.cursor.now.tokens) = omega (arith, c.left-end.ensures, c.mutexes-test.true) in
    let more : begins (is_sign s.Comma) (drop c.mutexes.place c.args.cursor.now.tokens) ≡ true = first_of (cc, search rules) in
    rw (p.1, p.2) (stops_by c.args.cursor.now.tokens (next_mutex (drop c.mutexes.place c.args.cursor.now.tokens)) _ c.in_err-next.field-0.0 (loop.stops (is_sign s.Comma) next_mutex (drop c.args.at c.args.cursor.now.tokens) (map next_mutex_view c.mutexes.more) c.mutexes.counter (drop c.mutexes.place c.args.cursor.now.tokens) c.mutexes.invariant room more) c.in_err-next.ensures)

pub mutexes-preserved : goal.mutexes-preserved
mutexes-preserved c =
    let room : c.mutexes.counter < size (drop c.args.at c.args.cursor.now.tokens) = omega (arith, c.left-end.ensures, c.mutexes-test.true) in
    let more : begins (is_sign s.Comma) (drop c.mutexes.place c.args.cursor.now.tokens) ≡ true = first_of (cc, search rules) in
    rw (c.in_ok-push.ensures.pushed, map_push next_mutex_view c.mutexes.more c.in_ok-next.next) (loop.turns (is_sign s.Comma) next_mutex (drop c.args.at c.args.cursor.now.tokens) (map next_mutex_view c.mutexes.more) c.mutexes.counter (drop c.mutexes.place c.args.cursor.now.tokens) c.mutexes.invariant room more _ _ c.in_ok-next.ensures)
