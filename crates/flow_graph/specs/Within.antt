-- Whether the nodes that places lead from and to have numbers in a range.
use Rattle.std.specs.Prelude.{ℕ, ◌<◌, ◌≤◌, List, [], ◌∷◌, Some, None}
use Rattle.flow_graph.specs.declared.table.Table.{Table}
use Rattle.flow_graph.specs.Flow.{Way, Next}
use Rattle.flow_graph.specs.Table.{table_ways, table_end}

-- a node that is met has a number from `low` on and below `high`
abbrev pub IsWithin : ℕ → ℕ → Next → Type 0
IsWithin low high None = Unit {0}
IsWithin low high (Some n) = (low ≤ n) × (n < high)

-- the nodes that these places lead from and to have such numbers
abbrev pub AreWithin : ℕ → ℕ → List Way → Type 0
AreWithin low high [] = Unit {0}
AreWithin low high (way ∷ rest) = IsWithin low high way.source × IsWithin low high way.target × AreWithin low high rest

-- the nodes of a table are nodes of a program with so many nodes, and its places lead from and to
-- nodes of the table
pub record IsFitting (table : Table) (size : ℕ) : Type 0 where
  pub within : AreWithin table.first (table_end table) (table_ways table)
  pub below : table_end table ≤ size
