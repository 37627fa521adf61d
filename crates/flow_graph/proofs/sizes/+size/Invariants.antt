use Rattle.std.proofs.Common.{◌≡◌, ◌+◌, drop}
use Rattle.flow_graph.specs.Flow.{size_of, parts_of}
use Rattle.flow_graph.proofs.sizes.+size.Given as goal

abbrev pub invariant-size_all-loop-stmt : goal.invariant-size_all-loop-stmt
invariant-size_all-loop-stmt l = l.count + size_of (parts_of (drop l.stmt-index l.list)) ≡ size_of (parts_of l.initial.list)
