use Rattle.std.proofs.Common.{◌≡◌, ◌+◌, length}
use Rattle.flow_graph.specs.Links.{Turned}
use Rattle.flow_graph.proofs.backward.turned.Given as goal

abbrev pub invariant-loop-list : goal.invariant-loop-list
invariant-loop-list l =
    (l.from ≡ l.first + l.list-index)
    × (length l.turned.items ≡ length l.lists)
    × Turned l.first l.list-index l.lists l.turned.items
