use Rattle.std.proofs.Common.{drop, map}
use Rattle.c_grammar.specs.declared.sign.Sign.TheVariants as s
use Rattle.c_reading.specs.Read.{is_sign}
use Rattle.c_parse.specs.Heads.{next_param_view, next_param}
use Rattle.c_stmt.proofs.Loop.{SoFar}
use Rattle.c_parse.proofs.head.more_params_of.Given as goal

abbrev pub invariant-params : goal.invariant-params
invariant-params l = SoFar (is_sign s.Comma) next_param (drop l.at l.cursor.tokens) (map next_param_view l.more) l.counter (drop l.place l.cursor.tokens)
