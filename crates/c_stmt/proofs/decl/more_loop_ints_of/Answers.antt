use Rattle.std.proofs.Common.{◌≡◌, ◌<◌, true, false, drop, map, arith, rules}
use Rattle.std.proofs.lemmas.List.{map_push}
use Rattle.c_reading.specs.Reader.{begins, size}
use Rattle.c_grammar.specs.declared.sign.Sign.TheVariants as s
use Rattle.c_reading.specs.Read.{is_sign}
use Rattle.c_stmt.specs.Decls.{next_loop_int_view, next_loop_int}
use Rattle.c_stmt.proofs.Loop as loop
use Rattle.c_stmt.proofs.decl.more_loop_ints_of.Goals as goal

pub returns-then-not-is_sign : goal.returns-then-not-is_sign
returns-then-not-is_sign c =
    let none : begins (is_sign s.Comma) (drop c.ints.place c.args.cursor.now.tokens) ≡ false = first_of (cc, search rules) in
    loop.ends (is_sign s.Comma) (next_loop_int c.args.depth) (drop c.args.at c.args.cursor.now.tokens) (map next_loop_int_view c.ints.more) c.ints.counter (drop c.ints.place c.args.cursor.now.tokens) c.ints.invariant none

pub ints-preserved : goal.ints-preserved
ints-preserved c =
    let room : c.ints.counter < size (drop c.args.at c.args.cursor.now.tokens) = omega (arith, c.left-end.ensures, c.ints-test.true) in
    let more : begins (is_sign s.Comma) (drop c.ints.place c.args.cursor.now.tokens) ≡ true = first_of (cc, search rules) in
    rw (c.in_ok-push.ensures.pushed, map_push next_loop_int_view c.ints.more c.in_ok-next.next) (loop.turns (is_sign s.Comma) (next_loop_int c.args.depth) (drop c.args.at c.args.cursor.now.tokens) (map next_loop_int_view c.ints.more) c.ints.counter (drop c.ints.place c.args.cursor.now.tokens) c.ints.invariant room more _ _ c.in_ok-next.ensures)
