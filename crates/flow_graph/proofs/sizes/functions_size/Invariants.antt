use Rattle.std.proofs.Common.{◌≡◌, ◌+◌, drop}
use Rattle.c_prog.specs.Nodes.{functions_nodes}
use Rattle.flow_graph.proofs.sizes.functions_size.Given as goal

abbrev pub invariant-loop-function : goal.invariant-loop-function
invariant-loop-function l = l.count + functions_nodes (drop l.function-index l.list) ≡ functions_nodes l.initial.list
