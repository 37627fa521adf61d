use Rattle.std.proofs.Common.{drop, map}
use Rattle.c_grammar.specs.declared.sign.Sign.TheVariants as s
use Rattle.c_reading.specs.Read.{is_sign}
use Rattle.c_stmt.specs.Decls.{next_hold_view, next_hold}
use Rattle.c_stmt.proofs.Loop.{SoFar}
use Rattle.c_stmt.proofs.decl.more_holds_of.Given as goal

abbrev pub invariant-holds : goal.invariant-holds
invariant-holds l = SoFar (is_sign s.Comma) next_hold (drop l.at l.cursor.tokens) (map next_hold_view l.more) l.counter (drop l.place l.cursor.tokens)
