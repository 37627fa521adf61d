use Rattle.std.proofs.Common.{◌≡◌, ◌++◌, map, drop}
use Rattle.c_prog.specs.Order.{joined}
use Rattle.c_print.specs.Text.Pieces.{escaped}
use Rattle.trace_text.proofs.pieces.add_all_escaped.Given as goal

abbrev pub invariant-loop-byte : goal.invariant-loop-byte
invariant-loop-byte l = l.text.items ++ joined (map escaped (drop l.byte-index l.bytes)) ≡ l.initial.text.items ++ joined (map escaped l.bytes)
