use Rattle.std.proofs.Common.{◌≡◌, ◌+◌, drop}
use Rattle.c_prog.specs.Nodes.{nodes_of}
use Rattle.c_nodes.proofs.nodes.+count.Given as goal

abbrev pub invariant-nodes_of-loop-stmt : goal.invariant-nodes_of-loop-stmt
invariant-nodes_of-loop-stmt l = l.count + nodes_of (drop l.stmt-index l.list) ≡ nodes_of l.initial.list
