use Rattle.std.proofs.Common.{map, drop}
use Rattle.c_prog.specs.View.{seen}
use Rattle.step_tables.specs.Walk.{IsLeft}
use Rattle.step_tables.proofs.keep.keep_nodes.Given as goal

abbrev pub invariant-loop-node : goal.invariant-loop-node
invariant-loop-node l =
    IsLeft l.within.of.number l.within.params (map seen l.initial.nodes) l.initial.rows l.initial.locals (map seen (drop l.node-index l.nodes)) l.rows l.locals
