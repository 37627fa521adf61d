use Rattle.std.proofs.Common.{◌≡◌, ◌<◌, true, false, drop, map, arith, rules}
use Rattle.std.proofs.lemmas.Result.{err_from_is_err_and}
use Rattle.std.proofs.lemmas.List.{map_push}
use Rattle.c_reading.specs.Reader.{begins, size}
use Rattle.c_reading.specs.ReadFile.{begins_top, checked, top_at}
use Rattle.c_raw.specs.Files.{top_view}
use Rattle.c_stmt.proofs.Loop as loop
use Rattle.c_stmt.proofs.Stop.{stops_by}
use Rattle.c_parse.proofs.parsing.tops_of.Goals as goal

pub returns-then-not-begins_top : goal.returns-then-not-begins_top
returns-then-not-begins_top c =
    let none : begins begins_top (drop c.tops.place c.args.cursor.now.tokens) ≡ false = first_of (cc, search rules) in
    loop.ends begins_top (checked (top_at 200)) c.args.cursor.now.tokens (map top_view c.tops.tops) c.tops.counter (drop c.tops.place c.args.cursor.now.tokens) c.tops.invariant none

pub returns-in_err-next : goal.returns-in_err-next
returns-in_err-next c =
    let p = err_from_is_err_and c.from_residual.result c.from_residual.ensures.1 in
    let room : c.tops.counter < size c.args.cursor.now.tokens = omega (arith, c.left-end.ensures, c.tops-test.true) in
    let more : begins begins_top (drop c.tops.place c.args.cursor.now.tokens) ≡ true = first_of (cc, search rules) in
    rw (p.1, p.2) (stops_by c.args.cursor.now.tokens (checked (top_at 200) (drop c.tops.place c.args.cursor.now.tokens)) _ c.in_err-next.field-0.0 (loop.stops begins_top (checked (top_at 200)) c.args.cursor.now.tokens (map top_view c.tops.tops) c.tops.counter (drop c.tops.place c.args.cursor.now.tokens) c.tops.invariant room more) c.in_err-next.ensures)

pub tops-preserved : goal.tops-preserved
tops-preserved c =
    let room : c.tops.counter < size c.args.cursor.now.tokens = omega (arith, c.left-end.ensures, c.tops-test.true) in
    let more : begins begins_top (drop c.tops.place c.args.cursor.now.tokens) ≡ true = first_of (cc, search rules) in
    rw (c.in_ok-push.ensures.pushed, map_push top_view c.tops.tops c.in_ok-next.next) (loop.turns begins_top (checked (top_at 200)) c.args.cursor.now.tokens (map top_view c.tops.tops) c.tops.counter (drop c.tops.place c.args.cursor.now.tokens) c.tops.invariant room more _ _ c.in_ok-next.ensures)
