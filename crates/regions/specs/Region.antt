-- Critical regions as sets.
use Rattle.std.specs.Prelude.{ℕ, ◌≡◌, ◌↔◌, Bool, List, length}
use Rattle.flow_graph.specs.Flow.{Graph, edges_of}
use Rattle.flow_graph.specs.Paths.{OnPath}
use Rattle.flow_graph.specs.Regions.{InRegion}
use Rattle.plan_types.specs.declared.bound.Atom.{Atom}
use Rattle.plan_types.specs.Sets.{IsIn}

-- the set has the number of nodes of the program as its size, and exactly the nodes of the region
pub record IsRegion (graph : Graph) (atom : Atom) (set : List Bool) : Type 0 where
  pub sized : length set ≡ graph.size
  pub nodes : (n : ℕ) → IsIn set n ↔ InRegion atom.same_visit (edges_of graph.ways) atom.np.number atom.nc.number n

-- the same of the nodes of the paths from np to nc
pub record IsBetween (graph : Graph) (atom : Atom) (set : List Bool) : Type 0 where
  pub sized : length set ≡ graph.size
  pub nodes : (n : ℕ) → IsIn set n ↔ OnPath (edges_of graph.ways) atom.np.number atom.nc.number n
