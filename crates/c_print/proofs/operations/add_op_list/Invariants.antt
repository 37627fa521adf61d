use Rattle.std.proofs.Common.{◌≡◌, ◌++◌, codes, map, drop}
use Rattle.c_prog.specs.Order.{joined}
use Rattle.c_print.specs.Text.Operations.{op_text}
use Rattle.c_print.proofs.operations.add_op_list.Given as goal

abbrev pub invariant-loop-op : goal.invariant-loop-op
invariant-loop-op l =
    l.text.items ++ joined (map (λ o. op_text o ++ codes ", ") (drop l.op-index l.ops))
    ≡ l.initial.text.items ++ joined (map (λ o. op_text o ++ codes ", ") l.ops)
