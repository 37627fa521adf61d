-- A node that is lent, as a node of the definitions.
use Rattle.std.specs.Prelude.{Option, Some, None}
use Rattle.c_prog.specs.declared.node.NodeView.{NodeView}
use Rattle.c_prog.specs.declared.node.NodeView.TheVariants as view
use Rattle.c_prog.specs.Order.{Node, act, cond, step, jump}

-- the node that is seen
abbrev pub seen : NodeView → Node
seen (view.Act a after) = act a.now after.now
seen (view.Cond c) = cond c.now
seen (view.Step s) = step s.now
seen (view.Jump j after) = jump j.now after.now

-- the node that is seen, if there is one
abbrev pub seen_in : Option NodeView → Option Node
seen_in None = None
seen_in (Some v) = Some (seen v)
