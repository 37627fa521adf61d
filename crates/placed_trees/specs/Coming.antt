-- Functions and nodes that come to the first access of an order, and what an order's plan says of them.
use Rattle.std.specs.Prelude.{ℕ, ◌≡◌, ◌⊎◌, true, List, [], ◌∷◌, Some}
use Rattle.c_prog.specs.declared.tree.Tree.{Tree}
use Rattle.flow_graph.specs.Flow.{tree_edges}
use Rattle.flow_graph.specs.Paths.{Comes, Reached}
use Rattle.layout_laws.specs.Layout.{Layout}
use Rattle.placed_trees.specs.Placement.{OrderPlan}
use Rattle.layout_laws.specs.TreeLayout.{layout_of}

-- the node stands in the function, on a path from its first node
abbrev pub IsReached : Tree → ℕ → ℕ → Type 0
IsReached tree f n = ((layout_of tree).function n ≡ f) × Reached tree f n

-- the node calls the function, or creates a thread of it
abbrev pub Starts : Tree → ℕ → ℕ → Type 0
Starts tree n g = ((layout_of tree).callee n ≡ Some g) ⊎ ((layout_of tree).created n ≡ Some g)

-- through a list of functions, each of which has a node on a path from its first node that calls or
-- creates the next, f comes to the node a on such a path of the last one
abbrev pub ReachesBy : Tree → ℕ → ℕ → List ℕ → Type 0
ReachesBy tree a f [] = IsReached tree f a
ReachesBy tree a f (g ∷ rest) = ((n : ℕ) × IsReached tree f n × Starts tree n g) × ReachesBy tree a g rest

-- through some functions f comes to the node a
abbrev pub Reaches : Tree → ℕ → ℕ → Type 0
Reaches tree a f = (through : List ℕ) × ReachesBy tree a f through

-- the node is a, or calls or creates a function that reaches it
abbrev pub Does : Tree → ℕ → ℕ → Type 0
Does tree a n = (n ≡ a) ⊎ ((g : ℕ) × Starts tree n g × Reaches tree a g)

-- some path of control from the node, itself included, meets a node that does a
abbrev pub MayCome : Tree → ℕ → ℕ → Type 0
MayCome tree a n = (m : ℕ) × Comes (tree_edges tree) n m × Does tree a m

-- the sets of an order's plan are those nodes and functions
pub record IsOrder (tree : Tree) (o : OrderPlan) : Type 0 where
  pub may : (n : ℕ) → o.may n ≡ true → MayCome tree o.a n
  pub all_may : (n : ℕ) → MayCome tree o.a n → o.may n ≡ true
  pub reaches : (f : ℕ) → o.reaches f ≡ true → Reaches tree o.a f
  pub all_reach : (f : ℕ) → Reaches tree o.a f → o.reaches f ≡ true

-- no node calls a function in which a thread begins
abbrev pub RootsUncalled : Layout → Type 0
RootsUncalled y = (n g : ℕ) → y.callee n ≡ Some g → y.is_root g ≡ true → ⊥
