use Rattle.std.proofs.Common.{drop, map}
use Rattle.c_grammar.specs.declared.sign.Sign.TheVariants as s
use Rattle.c_reading.specs.Read.{is_sign}
use Rattle.c_parse.specs.Globals.{next_int_view, next_int}
use Rattle.c_stmt.proofs.Loop.{SoFar}
use Rattle.c_parse.proofs.globals.more_ints_of.Given as goal

abbrev pub invariant-ints : goal.invariant-ints
invariant-ints l = SoFar (is_sign s.Comma) next_int (drop l.at l.cursor.tokens) (map next_int_view l.more) l.counter (drop l.place l.cursor.tokens)
