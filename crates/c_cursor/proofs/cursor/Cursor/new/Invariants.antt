use Rattle.std.proofs.Common.{◌≡◌, take}
use Rattle.c_cursor.specs.Marks.{marked}
use Rattle.c_cursor.proofs.cursor.Cursor.new.Given as goal

abbrev pub invariant-loop-place : goal.invariant-loop-place
invariant-loop-place l = l.marks ≡ marked (take l.place l.tokens.tokens)
