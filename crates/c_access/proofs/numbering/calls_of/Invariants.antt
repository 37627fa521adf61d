use Rattle.std.proofs.Common.{◌≡◌, ◌++◌, map, drop}
use Rattle.c_prog.specs.Lines.{calls_from}
use Rattle.c_prog.specs.View.{seen}
use Rattle.c_access.proofs.numbering.calls_of.Given as goal

abbrev pub invariant-loop-node : goal.invariant-loop-node
invariant-loop-node l = record {
  number : l.number ≡ l.node-index;
  built : l.calls ++ calls_from l.number (map seen (drop l.node-index l.nodes)) ≡ calls_from 0 (map seen l.nodes);
}
