use Rattle.std.proofs.Common.{drop, map}
use Rattle.c_grammar.specs.declared.sign.Sign.TheVariants as s
use Rattle.c_reading.specs.Read.{is_sign}
use Rattle.c_parse.specs.Globals.{next_cond_view, next_cond}
use Rattle.c_stmt.proofs.Loop.{SoFar}
use Rattle.c_parse.proofs.globals.more_conds_of.Given as goal

abbrev pub invariant-conds : goal.invariant-conds
invariant-conds l = SoFar (is_sign s.Comma) next_cond (drop l.at l.cursor.tokens) (map next_cond_view l.more) l.counter (drop l.place l.cursor.tokens)
