use Rattle.std.proofs.Common.{◌≡◌, ◌++◌, map, drop}
use Rattle.c_print.specs.Text.Canonical.{start_line}
use Rattle.c_print.specs.Text.Pieces.{text_of}
use Rattle.c_print.proofs.heads.add_starts.Given as goal

abbrev pub invariant-loop-order : goal.invariant-loop-order
invariant-loop-order l =
    l.text.items ++ text_of (map start_line (drop l.order-index l.starts)) ≡ l.initial.text.items ++ text_of (map start_line l.starts)
