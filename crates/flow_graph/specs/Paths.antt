-- Paths of control flow.
use Rattle.std.specs.Prelude.{ℕ, ◌≡◌, ◌≢◌, ◌⊎◌, Bool, List, [], ◌∷◌, Option, Some, None, slice_get, length, ◌↔◌}
use Rattle.std.specs.List.{Contains}
use Rattle.c_prog.specs.declared.function.Function.{Function}
use Rattle.c_prog.specs.declared.tree.Tree.{Tree}
use Rattle.c_prog.specs.Nodes.{first_node}
use Rattle.plan_types.specs.Sets.{IsIn}
use Rattle.walks.specs.Walks.{Clear}
use Rattle.flow_graph.specs.Flow.{Edge, Next, tree_edges, parts_of, size_of, first_of}

-- one edge leads from u to v
pub record Link (edges : List Edge) (u v : ℕ) : Type 0 where
  pub edge : Edge
  pub is_edge : Contains edges edge
  pub source : edge.source ≡ Some u
  pub target : edge.target ≡ Some v

-- a path of at least one edge from u to v with these nodes between them, in order
abbrev pub Path : List Edge → ℕ → List ℕ → ℕ → Type 0
Path edges u [] v = Link edges u v
Path edges u (m ∷ rest) v = Link edges u m × Path edges m rest v

-- a path of at least one edge leads from u to v, with no inner node in the set
pub record Leads (edges : List Edge) (avoiding : List Bool) (u v : ℕ) : Type 0 where
  pub inner : List ℕ
  pub path : Path edges u inner v
  pub clear : Clear avoiding inner

-- the set has this size, and exactly the ends of the paths of at least one edge from a node whose inner
-- nodes are not avoided
pub record IsReach (edges : List Edge) (avoiding : List Bool) (from size : ℕ) (set : List Bool) : Type 0 where
  pub sized : length set ≡ size
  pub ends : (n : ℕ) → (IsIn set n ↔ Leads edges avoiding from n)

-- such a path leads from u to a node of the set `to`
pub record LeadsInto (edges : List Edge) (avoiding to : List Bool) (u : ℕ) : Type 0 where
  pub end : ℕ
  pub is_end : IsIn to end
  pub leads : Leads edges avoiding u end

-- neither of the two
abbrev pub Avoids : ℕ → ℕ → List ℕ → Type 0
Avoids u v [] = Unit {0}
Avoids u v (m ∷ rest) = (m ≢ u) × (m ≢ v) × Avoids u v rest

-- the node stands on a path from u to v of at least one edge whose inner nodes are neither u nor v
pub record OnPath (edges : List Edge) (u v n : ℕ) : Type 0 where
  pub inner : List ℕ
  pub path : Path edges u inner v
  pub avoids : Avoids u v inner
  pub on : (n ≡ u) ⊎ ((n ≡ v) ⊎ Contains inner n)

-- the node that control meets first in a function
abbrev pub entry_of : Tree → ℕ → Option Function → Next
entry_of tree f None = None
entry_of tree f (Some function) = first_of (size_of (parts_of function.body)) (first_node tree f) None

abbrev pub entry : Tree → ℕ → Next
entry tree f = entry_of tree f (slice_get tree.functions f)

-- a path leads from u to n, or n is u
abbrev pub Comes : List Edge → ℕ → ℕ → Type 0
Comes edges u n = (n ≡ u) ⊎ ((inner : List ℕ) × Path edges u inner n)

-- the node stands on a path from the first node of the function
pub record Reached (tree : Tree) (f n : ℕ) : Type 0 where
  pub first : ℕ
  pub is_first : entry tree f ≡ Some first
  pub comes : Comes (tree_edges tree) first n

-- the set has this size, and exactly the nodes from which a path of at least one edge leads to a node of
-- `to` with no inner node that is avoided
pub record IsBack (edges : List Edge) (avoiding to : List Bool) (size : ℕ) (set : List Bool) : Type 0 where
  pub sized : length set ≡ size
  pub begins : (n : ℕ) → (IsIn set n ↔ LeadsInto edges avoiding to n)
