use Rattle.std.proofs.Common.{◌≡◌, map, take}
use Rattle.std.specs.List.{range_with_len}
use Rattle.c_prog.specs.Nodes.{functions_nodes}
use Rattle.flow_graph.specs.Flow.{graph_of}
use Rattle.flow_graph.proofs.build.flows.Given as goal

abbrev pub invariant-loop-function : goal.invariant-loop-function
invariant-loop-function l =
    (l.number ≡ l.function-index)
    × (l.first ≡ functions_nodes (take l.function-index l.functions))
    × (l.flows ≡ map (graph_of l.fn.program) (range_with_len 0 l.function-index))
