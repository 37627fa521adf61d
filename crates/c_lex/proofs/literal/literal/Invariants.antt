use Rattle.std.proofs.Common.{length}
use Rattle.c_lex.proofs.Literals.{Read}
use Rattle.c_lex.proofs.literal.literal.Given as goal

abbrev pub invariant-characters : goal.invariant-characters
invariant-characters l = Read l.after l.value l.rest l.escaped

abbrev pub decreases-characters : goal.decreases-characters
decreases-characters l = length l.rest
