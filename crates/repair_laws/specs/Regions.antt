-- Regions that a class guards.
use Rattle.std.specs.Prelude.{◌≡◌, ℕ, true, List}
use Rattle.cfix_base.specs.declared.access.AccessId.{AccessId}
use Rattle.c_prog.specs.declared.tree.Tree.{Tree}
use Rattle.flow_graph.specs.Flow.{tree_edges}
use Rattle.flow_graph.specs.Paths.{Avoids, OnPath, Path}
use Rattle.atom_laws.specs.Violations.{path_start}
use Rattle.placed_trees.specs.Placement.{ClassPlan}

-- an access p and a later access c, through these call nodes from the nodes np and nc of one function, and an access r of another
-- thread
pub record Region : Type 0 where
  pub np : ℕ
  pub nc : ℕ
  pub p : AccessId
  pub c : AccessId
  pub r : AccessId
  pub p_path : List ℕ
  pub c_path : List ℕ

-- the class guards a visit of np
pub record GuardsVisit (class : ClassPlan) (g : Region) : Type 0 where
  pub begins : class.nodes g.np ≡ true
  pub remote : class.nodes g.r.node.number ≡ true
  pub later : path_start g.c_path g.c.node.number ≡ g.np

-- the class guards the paths from np to nc
pub record GuardsPaths (tree : Tree) (class : ClassPlan) (g : Region) : Type 0 where
  pub inner : List ℕ
  pub path : Path (tree_edges tree) g.np inner g.nc
  pub avoids : Avoids g.np g.nc inner
  pub on : (n : ℕ) → OnPath (tree_edges tree) g.np g.nc n → class.nodes n ≡ true
  pub remote : class.nodes g.r.node.number ≡ true
  pub later : path_start g.c_path g.c.node.number ≡ g.nc
