-- What a region has beside a node of it.
use Rattle.std.specs.Prelude.{ℕ, false, List}
use Rattle.flow_graph.specs.Flow.{Edge}
use Rattle.flow_graph.specs.Paths.{Comes}
use Rattle.flow_graph.specs.Regions.{InRegion}

-- The region of the paths from np to nc has both, and control comes from np to the node, and from it to nc.
pub record HasEnds (edges : List Edge) (np nc n : ℕ) : Type 0 where
  pub has_np : InRegion false edges np nc np
  pub has_nc : InRegion false edges np nc nc
  pub from_np : Comes edges np n
  pub to_nc : Comes edges n nc
