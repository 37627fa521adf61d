-- How a table of successors holds the places of a function.
use Rattle.std.specs.Prelude.{ℕ, ◌+◌, ◌-◌, nat_lt, List, [], ◌∷◌, ◌++◌, length, slice_get, Option, Some, None, if◌then◌else◌}
use Rattle.flow_graph.specs.declared.table.Out.{Out}
use Rattle.flow_graph.specs.declared.table.Out.TheVariants as out
use Rattle.flow_graph.specs.declared.table.Table.{Table}
use Rattle.flow_graph.specs.Flow.{Next, Way, Graph, first_of, start_way, after_way, true_way, false_way}

-- the places of a node
abbrev pub out_ways : ℕ → Out → List Way
out_ways n (out.After next) = after_way n next
out_ways n (out.Branch on_true on_false) =
    true_way n on_true.next on_true.is_dead ∷ false_way n on_false.next on_false.is_dead ∷ []

-- the places of nodes whose numbers begin here
abbrev pub ways_of : ℕ → List Out → List Way
ways_of n [] = []
ways_of n (o ∷ rest) = out_ways n o ++ ways_of (n + 1) rest

abbrev pub table_ways : Table → List Way
table_ways table = ways_of table.first table.outs

-- the number of the first node that the table does not have yet
abbrev pub table_end : Table → ℕ
table_end table = table.first + length table.outs

-- what is behind the node with this number, if the table has it
abbrev pub out_at : Table → ℕ → Option Out
out_at table n = if nat_lt n table.first then None else slice_get table.outs (n - table.first)

abbrev pub after_next : Option Out → Option Next
after_next (Some (out.After next)) = Some next
after_next _ = None

abbrev pub true_next : Option Out → Option Next
true_next (Some (out.Branch on_true on_false)) = Some on_true.next
true_next _ = None

abbrev pub false_next : Option Out → Option Next
false_next (Some (out.Branch on_true on_false)) = Some on_false.next
false_next _ = None

-- what control meets first in a function with these nodes
abbrev pub first_in : Table → Next
first_in table = first_of (length table.outs) table.first None

-- the function with this number whose nodes these are, in a program with so many nodes
abbrev pub graph_in : ℕ → Table → ℕ → Graph
graph_in function table size = record {
  function = function;
  ways = start_way function (first_in table) ∷ table_ways table;
  size = size;
}
