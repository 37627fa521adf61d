use Rattle.std.proofs.Common.{drop, map}
use Rattle.c_grammar.specs.declared.sign.Sign.TheVariants as s
use Rattle.c_reading.specs.Read.{is_sign}
use Rattle.c_stmt.specs.Decls.{next_loop_int_view, next_loop_int}
use Rattle.c_stmt.proofs.Loop.{SoFar}
use Rattle.c_stmt.proofs.decl.more_loop_ints_of.Given as goal

abbrev pub invariant-ints : goal.invariant-ints
invariant-ints l = SoFar (is_sign s.Comma) (next_loop_int l.depth) (drop l.at l.cursor.tokens) (map next_loop_int_view l.more) l.counter (drop l.place l.cursor.tokens)
