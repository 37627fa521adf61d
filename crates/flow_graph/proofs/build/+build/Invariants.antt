use Rattle.std.proofs.Common.{◌≡◌, ◌+◌, ◌*◌, ◌++◌, List, length, drop}
use Rattle.flow_graph.specs.declared.inner_sizes.InnerSizes.{InnerSizes}
use Rattle.flow_graph.specs.Flow.{size_of, parts_of, along}
use Rattle.flow_graph.specs.Table.{table_ways, table_end}
use Rattle.flow_graph.specs.Counts.{counted, counts_of}
use Rattle.flow_graph.proofs.build.+build.Given as goal

abbrev pub invariant-add_all-loop-stmt : goal.invariant-add_all-loop-stmt
invariant-add_all-loop-stmt l =
    (l.left ≡ size_of (parts_of (drop l.stmt-index l.list)))
    × (l.at + l.left ≡ l.start + size_of (parts_of l.list))
    × (l.at ≡ table_end l.table)
    × (l.table.first ≡ l.initial.table.first)
    × (table_ways l.table ++ along (parts_of (drop l.stmt-index l.list)) l.at l.around ≡ table_ways l.initial.table ++ along (parts_of l.list) l.start l.around)
    × ((rest : List InnerSizes) → l.initial.counts ≡ counts_of l.list ++ rest → l.counts ≡ counts_of (drop l.stmt-index l.list) ++ rest)

-- Both fall with the number of statements that are inside.
abbrev pub decreases-add_stmt : goal.decreases-add_stmt
decreases-add_stmt l = 2 * length (counted l.stmt.now).within + 1

abbrev pub decreases-add_all : goal.decreases-add_all
decreases-add_all l = 2 * length (counts_of l.list.now)
