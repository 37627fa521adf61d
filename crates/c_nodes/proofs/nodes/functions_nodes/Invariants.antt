use Rattle.std.proofs.Common.{◌≡◌, ◌+◌, drop}
use Rattle.c_prog.specs.Nodes.{functions_nodes}
use Rattle.c_nodes.proofs.nodes.functions_nodes.Given as goal

abbrev pub invariant-loop-function : goal.invariant-loop-function
invariant-loop-function l = l.count + functions_nodes (drop l.function-index l.list) ≡ functions_nodes l.initial.list
