-- The places of a program and the operations that stand there.
use Rattle.std.specs.Prelude.{List, slice_get, Option, Some, None}
use Rattle.cfix_base.specs.declared.op.Op.{Op}
use Rattle.cfix_base.specs.declared.place.Place.{Place}
use Rattle.cfix_base.specs.declared.place.Place.TheVariants.{Start, After, True, False}
use Rattle.c_prog.specs.declared.function.Function.{Function}
use Rattle.c_prog.specs.declared.tree.Tree.{Tree}
use Rattle.c_prog.specs.Order.{Node, act, cond, step, jump, node_at}

-- the operations at the start of a function
abbrev pub start_ops : Option Function → Option (List Op)
start_ops None = None
start_ops (Some function) = Some function.start

-- the operations behind a node that is no condition
abbrev pub after_ops : Option Node → Option (List Op)
after_ops None = None
after_ops (Some (act a after)) = Some after
after_ops (Some (cond c)) = None
after_ops (Some (step s)) = Some s.after
after_ops (Some (jump j after)) = Some after

-- the operations where a condition is not 0
abbrev pub true_ops : Option Node → Option (List Op)
true_ops (Some (cond c)) = Some c.on_true
true_ops _ = None

-- the operations where a condition is 0
abbrev pub false_ops : Option Node → Option (List Op)
false_ops (Some (cond c)) = Some c.on_false
false_ops _ = None

-- the operations at a place, or nothing where the program has no such place
abbrev pub ops : Tree → Place → Option (List Op)
ops tree (Start f) = start_ops (slice_get tree.functions f.number)
ops tree (After n) = after_ops (node_at tree n.number)
ops tree (True n) = true_ops (node_at tree n.number)
ops tree (False n) = false_ops (node_at tree n.number)
