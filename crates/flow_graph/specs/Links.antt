-- The nodes to which the edges of each node lead.
use Rattle.std.specs.Prelude.{ℕ, zero, suc, ◌≡◌, ◌+◌, ◌-◌, ◌<◌, ◌≤◌, ◌⊎◌, Bool, true, false, List, [], ◌∷◌, ◌++◌, map, length, slice_get, slice_set, Some, None}
use Rattle.std.specs.List.{Contains}
use Rattle.plan_types.specs.Sets.{is_in}
use Rattle.flow_graph.specs.declared.table.Out.{Out}
use Rattle.flow_graph.specs.declared.table.Out.TheVariants as out
use Rattle.flow_graph.specs.declared.table.Table.{Table}
use Rattle.flow_graph.specs.Flow.{Next}
use Rattle.walks.specs.Walks.{targets_in, list_or}
use Rattle.flow_graph.specs.Within.{IsFitting}

-- the node that is met, unless the way is dead or goes to the exit
abbrev pub met : Bool → Next → List ℕ
met true next = []
met false None = []
met false (Some n) = n ∷ []

-- the nodes to which the edges of a node lead
abbrev pub out_targets : Out → List ℕ
out_targets (out.After next) = met false next
out_targets (out.Branch on_true on_false) = met on_true.is_dead on_true.next ++ met on_false.is_dead on_false.next

-- the nodes to which the edges of a node lead, by the number of the node
abbrev pub onward : Table → ℕ → List ℕ
onward table = targets_in (map out_targets table.outs) table.first

-- the nodes of a list of lists at a place, if it has the place
abbrev pub listed : List (List ℕ) → ℕ → List ℕ
listed lists place = list_or (slice_get lists place)

-- lists as before, but that one list has one more node
abbrev pub with_link : List (List ℕ) → ℕ → ℕ → List (List ℕ)
with_link lists place from = slice_set lists place (listed lists place ++ from ∷ [])

-- the lists later have what they had, and `from` in the list of each node of `targets`; nodes count from `first`
pub record Gains (first : ℕ) (old later : List (List ℕ)) (from : ℕ) (targets : List ℕ) : Type 0 where
  pub sized : length later ≡ length old
  pub keeps : (place u : ℕ) → Contains (listed old place) u → Contains (listed later place) u
  pub has : (v : ℕ) → Contains targets v → Contains (listed later (v - first)) from
  pub only : (place u : ℕ) → Contains (listed later place) u → Contains (listed old place) u ⊎ ((u ≡ from) × Contains targets (first + place))

-- the lists turned hold u at v where those lists hold v at u, for the first `count` of them
pub record Turned (first count : ℕ) (lists turned : List (List ℕ)) : Type 0 where
  pub has : (place v : ℕ) → place < count → Contains (listed lists place) v → Contains (listed turned (v - first)) (first + place)
  pub only : (place u : ℕ) → Contains (listed turned place) u
      → (first ≤ u) × (u - first < count) × Contains (listed lists (u - first)) (first + place)

abbrev pub one_if : Bool → ℕ → List ℕ
one_if true n = n ∷ []
one_if false n = []

-- those of the `count` numbers from `low` on that are in a set, in order
abbrev pub members : List Bool → ℕ → ℕ → List ℕ
members set low zero = []
members set low (suc count) = members set low count ++ one_if (is_in set (low + count)) (low + count)

-- the links of a table of a program with so many nodes, onward and turned
pub record AreLinked (table : Table) (size : ℕ) (forward backward : List (List ℕ)) : Type 0 where
  pub fits : IsFitting table size
  pub forward_is : forward ≡ map out_targets table.outs
  pub backward_is : Turned table.first (length (map out_targets table.outs)) (map out_targets table.outs) backward
