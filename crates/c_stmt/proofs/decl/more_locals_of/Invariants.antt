use Rattle.std.proofs.Common.{drop, map}
use Rattle.c_grammar.specs.declared.sign.Sign.TheVariants as s
use Rattle.c_reading.specs.Read.{is_sign}
use Rattle.c_stmt.specs.Decls.{next_local_view, next_local}
use Rattle.c_stmt.proofs.Loop.{SoFar}
use Rattle.c_stmt.proofs.decl.more_locals_of.Given as goal

abbrev pub invariant-locals : goal.invariant-locals
invariant-locals l = SoFar (is_sign s.Comma) (next_local l.depth) (drop l.at l.cursor.tokens) (map next_local_view l.more) l.counter (drop l.place l.cursor.tokens)
