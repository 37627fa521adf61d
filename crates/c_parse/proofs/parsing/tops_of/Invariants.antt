use Rattle.std.proofs.Common.{drop, map}
use Rattle.c_reading.specs.ReadFile.{begins_top, checked, top_at}
use Rattle.c_raw.specs.Files.{top_view}
use Rattle.c_stmt.proofs.Loop.{SoFar}
use Rattle.c_parse.proofs.parsing.tops_of.Given as goal

abbrev pub invariant-tops : goal.invariant-tops
invariant-tops l = SoFar begins_top (checked (top_at 200)) l.cursor.tokens (map top_view l.tops) l.counter (drop l.place l.cursor.tokens)
