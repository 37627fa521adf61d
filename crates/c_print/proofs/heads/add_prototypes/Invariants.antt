use Rattle.std.proofs.Common.{◌≡◌, ◌++◌, map, drop}
use Rattle.c_prog.specs.Order.{joined}
use Rattle.c_print.specs.Text.Canonical.{prototype_lines}
use Rattle.c_print.specs.Text.Pieces.{text_of}
use Rattle.c_print.proofs.heads.add_prototypes.Given as goal

abbrev pub invariant-loop-function : goal.invariant-loop-function
invariant-loop-function l =
    l.text.items ++ joined (map (λ f. text_of (prototype_lines f)) (drop l.function-index l.functions)) ≡ l.initial.text.items ++ joined (map (λ f. text_of (prototype_lines f)) l.functions)
