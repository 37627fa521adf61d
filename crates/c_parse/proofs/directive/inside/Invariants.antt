use Rattle.std.proofs.Common.{drop, map}
use Rattle.c_reading.specs.ReadFile.{is_inside, inside_of}
use Rattle.c_reading.specs.Reader.{one_of}
use Rattle.c_raw.specs.Tokens.{token_view}
use Rattle.c_stmt.proofs.Loop.{SoFar}
use Rattle.c_parse.proofs.directive.inside.Given as goal

abbrev pub invariant-tokens : goal.invariant-tokens
invariant-tokens l = SoFar (is_inside l.line) (one_of (inside_of l.line)) (drop l.at l.cursor.tokens) (map token_view l.tokens) l.counter (drop l.place l.cursor.tokens)
