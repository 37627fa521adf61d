use Rattle.std.proofs.Common.{◌≡◌, ◌+◌, ◌++◌, drop}
use Rattle.flow_graph.specs.Flow.{size_of, parts_of}
use Rattle.flow_graph.specs.Counts.{counts_of}
use Rattle.flow_graph.proofs.counting.+count.Given as goal

abbrev pub invariant-count_all-loop-stmt : goal.invariant-count_all-loop-stmt
invariant-count_all-loop-stmt l =
    record {
      size : l.size + size_of (parts_of (drop l.stmt-index l.list)) ≡ size_of (parts_of l.list);
      sizes : l.sizes ++ counts_of (drop l.stmt-index l.list) ≡ l.initial.sizes ++ counts_of l.list;
    }
