use Rattle.std.proofs.Common.{◌≡◌, ◌^◌, ◌++◌, true, map, drop, length}
use Rattle.std.specs.Prelude.{nat_lt}
use Rattle.std.specs.List.{list_all}
use Rattle.c_prog.specs.Accesses.{touches}
use Rattle.c_prog.specs.Lines.{accesses_from}
use Rattle.c_prog.specs.View.{seen}
use Rattle.c_access.proofs.numbering.accesses_of.Given as goal

abbrev pub invariant-loop-node : goal.invariant-loop-node
invariant-loop-node l = record {
  number : l.number ≡ l.node-index;
  few : list_all (λ node. nat_lt (length (touches node)) (2 ^ 32)) (map seen (drop l.node-index l.nodes)) ≡ true;
  built : l.items ++ accesses_from l.number (map seen (drop l.node-index l.nodes)) ≡ accesses_from 0 (map seen l.nodes);
}
