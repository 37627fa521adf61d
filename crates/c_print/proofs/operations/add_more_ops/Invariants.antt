use Rattle.std.proofs.Common.{◌≡◌, ◌++◌, codes, map, drop}
use Rattle.c_prog.specs.Order.{joined}
use Rattle.c_print.specs.Text.Operations.{op_text}
use Rattle.c_print.proofs.operations.add_more_ops.Given as goal

abbrev pub invariant-loop-op : goal.invariant-loop-op
invariant-loop-op l =
    l.text.items ++ joined (map (λ o. codes ", " ++ op_text o) (drop l.op-index l.ops))
    ≡ l.initial.text.items ++ joined (map (λ o. codes ", " ++ op_text o) l.ops)
