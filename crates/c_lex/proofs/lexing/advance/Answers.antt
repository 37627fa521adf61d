use Rattle.std.proofs.Common.{arith, take}
use Rattle.std.proofs.lemmas.List.{length-take-le}
use Rattle.std.proofs.lemmas.List.Sums.{count_by-le-length}
use Rattle.c_lex.specs.Bytes.{is_line_feed}
use Rattle.c_lex.proofs.lexing.advance.Goals as goal

pub overflow_add-result-2 : goal.overflow_add-result-2
overflow_add-result-2 c = omega (arith, c.line_feeds.ensures, count_by-le-length is_line_feed (take c.args.bytes c.args.text.now), length-take-le c.args.bytes c.args.text.now c.requires.within)
