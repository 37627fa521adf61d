use Rattle.std.proofs.Common.{length}
use Rattle.c_lex.proofs.Turns.{Turn}
use Rattle.c_lex.proofs.lexing.read_pieces.Given as goal

abbrev pub invariant-pieces : goal.invariant-pieces
invariant-pieces l = Turn l.text l.tokens l.rest l.spot

abbrev pub decreases-pieces : goal.decreases-pieces
decreases-pieces l = length l.rest
