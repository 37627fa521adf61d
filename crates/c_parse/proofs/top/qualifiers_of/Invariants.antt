use Rattle.std.proofs.Common.{drop, map}
use Rattle.c_reading.specs.Reader.{one_of}
use Rattle.c_reading.specs.ReadFile.{is_qualifier, qualifier_of}
use Rattle.c_parse.specs.Tops.{qualifier_at_view}
use Rattle.c_stmt.proofs.Loop.{SoFar}
use Rattle.c_parse.proofs.top.qualifiers_of.Given as goal

abbrev pub invariant-qualifiers : goal.invariant-qualifiers
invariant-qualifiers l = SoFar is_qualifier (one_of qualifier_of) (drop l.at l.cursor.tokens) (map qualifier_at_view l.qualifiers) l.counter (drop l.place l.cursor.tokens)
