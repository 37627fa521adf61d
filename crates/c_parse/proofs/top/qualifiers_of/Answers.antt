use Rattle.std.proofs.Common.{◌<◌, drop, map, arith}
use Rattle.std.proofs.lemmas.List.{map_push}
use Rattle.c_reading.specs.Reader.{one_of, size}
use Rattle.c_reading.specs.ReadFile.{is_qualifier, qualifier_of}
use Rattle.c_parse.specs.Tops.{qualifier_at_view}
use Rattle.c_stmt.proofs.Loop as loop
use Rattle.c_parse.proofs.top.qualifiers_of.Goals as goal

pub returns-in_default : goal.returns-in_default
returns-in_default c = loop.ends is_qualifier (one_of qualifier_of) (drop c.args.at c.args.cursor.now.tokens) (map qualifier_at_view c.qualifiers.qualifiers) c.qualifiers.counter (drop c.qualifiers.place c.args.cursor.now.tokens) c.qualifiers.invariant c.in_default.ensures.0

pub qualifiers-preserved : goal.qualifiers-preserved
qualifiers-preserved c =
    let room : c.qualifiers.counter < size (drop c.args.at c.args.cursor.now.tokens) = omega (arith, c.left-end.ensures, c.qualifiers-test.true) in
    rw (c.in_ok-push.ensures.pushed, map_push qualifier_at_view c.qualifiers.qualifiers c.in-Some.next) (loop.turns is_qualifier (one_of qualifier_of) (drop c.args.at c.args.cursor.now.tokens) (map qualifier_at_view c.qualifiers.qualifiers) c.qualifiers.counter (drop c.qualifiers.place c.args.cursor.now.tokens) c.qualifiers.invariant room c.in-Some.ensures.0 _ _ c.in-Some.ensures.1)
