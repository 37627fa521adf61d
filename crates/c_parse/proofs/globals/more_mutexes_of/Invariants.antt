use Rattle.std.proofs.Common.{drop, map}
use Rattle.c_grammar.specs.declared.sign.Sign.TheVariants as s
use Rattle.c_reading.specs.Read.{is_sign}
use Rattle.c_parse.specs.Globals.{next_mutex_view, next_mutex}
use Rattle.c_stmt.proofs.Loop.{SoFar}
use Rattle.c_parse.proofs.globals.more_mutexes_of.Given as goal

abbrev pub invariant-mutexes : goal.invariant-mutexes
invariant-mutexes l = SoFar (is_sign s.Comma) next_mutex (drop l.at l.cursor.tokens) (map next_mutex_view l.more) l.counter (drop l.place l.cursor.tokens)
