use Rattle.std.proofs.Common.{◌≡◌, ◌++◌, map, drop}
use Rattle.c_print.specs.Text.Canonical.{global_line}
use Rattle.c_print.specs.Text.Pieces.{text_of}
use Rattle.c_print.proofs.heads.add_global_lines.Given as goal

abbrev pub invariant-loop-global : goal.invariant-loop-global
invariant-loop-global l =
    l.text.items ++ text_of (map global_line (drop l.global-index l.globals)) ≡ l.initial.text.items ++ text_of (map global_line l.globals)
