use Rattle.std.proofs.Common.{◌≡◌, ◌<◌, true, false, drop, map, arith, rules}
use Rattle.std.proofs.lemmas.Result.{err_from_is_err_and}
use Rattle.std.proofs.lemmas.List.{map_push}
use Rattle.c_reading.specs.Reader.{begins, size}
use Rattle.c_reading.specs.ReadOp.{is_verb}
use Rattle.c_stmt.specs.Conds.{guard_op_view, guard_op}
use Rattle.c_stmt.proofs.Loop as loop
use Rattle.c_stmt.proofs.Stop.{stops_by}
use Rattle.c_stmt.proofs.guard.guard_ops_of.Goals as goal

pub returns-then-not-is_verb : goal.returns-then-not-is_verb
returns-then-not-is_verb c =
    let none : begins is_verb (drop c.ops.place c.args.cursor.now.tokens) ≡ false = first_of (cc, search rules) in
    loop.ends is_verb guard_op (drop c.args.at c.args.cursor.now.tokens) (map guard_op_view c.ops.more) c.ops.counter (drop c.ops.place c.args.cursor.now.tokens) c.ops.invariant none

pub returns-in_err-next : goal.returns-in_err-next
returns-in_err-next c =
    let p = err_from_is_err_and c.from_residual.result c.from_residual.ensures.1 in
    let room : c.ops.counter < size (drop c.args.at c.args.cursor.now.tokens) = omega (arith, c.left-end.ensures, c.ops-test.true) in
    let more : begins is_verb (drop c.ops.place c.args.cursor.now.tokens) ≡ true = first_of (cc, search rules) in
    rw (p.1, p.2) (stops_by c.args.cursor.now.tokens (guard_op (drop c.ops.place c.args.cursor.now.tokens)) _ c.in_err-next.field-0.0 (loop.stops is_verb guard_op (drop c.args.at c.args.cursor.now.tokens) (map guard_op_view c.ops.more) c.ops.counter (drop c.ops.place c.args.cursor.now.tokens) c.ops.invariant room more) c.in_err-next.ensures)

pub ops-preserved : goal.ops-preserved
ops-preserved c =
    let room : c.ops.counter < size (drop c.args.at c.args.cursor.now.tokens) = omega (arith, c.left-end.ensures, c.ops-test.true) in
    let more : begins is_verb (drop c.ops.place c.args.cursor.now.tokens) ≡ true = first_of (cc, search rules) in
    rw (c.in_ok-push.ensures.pushed, map_push guard_op_view c.ops.more c.in_ok-next.next) (loop.turns is_verb guard_op (drop c.args.at c.args.cursor.now.tokens) (map guard_op_view c.ops.more) c.ops.counter (drop c.ops.place c.args.cursor.now.tokens) c.ops.invariant room more _ _ c.in_ok-next.ensures)
