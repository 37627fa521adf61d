use Rattle.std.proofs.Common.{◌≡◌, ◌++◌, map, drop, codes}
use Rattle.c_prog.specs.Order.{joined}
use Rattle.c_print.proofs.heads.add_more_params.Given as goal

abbrev pub invariant-loop-name : goal.invariant-loop-name
invariant-loop-name l =
    l.text.items ++ joined (map (λ name. codes ", " ++ (codes "int " ++ name)) (drop l.name-index l.params)) ≡ l.initial.text.items ++ joined (map (λ name. codes ", " ++ (codes "int " ++ name)) l.params)
