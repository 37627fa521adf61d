use Rattle.std.proofs.Common.{ℕ, ◌≡◌, length}
use Rattle.std.specs.List.{Contains}
use Rattle.flow_graph.specs.Links.{listed}
use Rattle.flow_graph.proofs.backward.empty_lists.Given as goal

abbrev pub invariant-loop : goal.invariant-loop
invariant-loop l =
    (length l.lists.items ≡ l.counter) × ((place u : ℕ) → Contains (listed l.lists.items place) u → ⊥)
