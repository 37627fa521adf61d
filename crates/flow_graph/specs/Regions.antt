-- Critical regions: the nodes between two nodes of one function.
use Rattle.std.specs.Prelude.{ℕ, ◌≡◌, Bool, true, false, List}
use Rattle.flow_graph.specs.Flow.{Edge}
use Rattle.flow_graph.specs.Paths.{OnPath}

-- the node is in the region from np to nc: np alone, where both accesses are in one visit of np; else
-- the nodes of all paths from np to nc of at least one edge whose inner nodes are neither np nor nc
abbrev pub InRegion : Bool → List Edge → ℕ → ℕ → ℕ → Type 0
InRegion true edges np nc n = n ≡ np
InRegion false edges np nc n = OnPath edges np nc n
