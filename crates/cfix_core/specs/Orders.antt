-- Functions and nodes that come to the access a of an order report.
use Rattle.std.specs.Prelude.{ℕ, ◌≡◌, ◌⊎◌, List, [], ◌∷◌, Some}
use Rattle.c_prog.specs.declared.tree.Tree.{Tree}
use Rattle.call_graph.specs.Calls.{function_of, callee_of, created_of}
use Rattle.call_graph.specs.Sites.{calls_of}
use Rattle.flow_graph.specs.Flow.{node, fn_id, tree_edges}
use Rattle.flow_graph.specs.Paths.{Comes, Reached}

-- the node stands in the function, on a path from its first node
abbrev pub IsReached : Tree → ℕ → ℕ → Type 0
IsReached tree f n = (function_of (calls_of tree).sites (node n) ≡ Some (fn_id f)) × Reached tree f n

-- the node calls the function, or creates a thread of it
abbrev pub Starts : Tree → ℕ → ℕ → Type 0
Starts tree n g =
    (callee_of (calls_of tree).sites (node n) ≡ Some (fn_id g)) ⊎ (created_of (calls_of tree).sites (node n) ≡ Some (fn_id g))

-- through a list of functions, each of which has a node on a path from its first node that calls or
-- creates the next, f comes to the node a on such a path of the last one
abbrev pub ReachesBy : Tree → ℕ → ℕ → List ℕ → Type 0
ReachesBy tree a f [] = IsReached tree f a
ReachesBy tree a f (g ∷ rest) = ((n : ℕ) × IsReached tree f n × Starts tree n g) × ReachesBy tree a g rest

-- the function reaches the node a
abbrev pub Reaches : Tree → ℕ → ℕ → Type 0
Reaches tree a f = (through : List ℕ) × ReachesBy tree a f through

-- the node is a, or calls or creates a function that reaches it
abbrev pub Does : Tree → ℕ → ℕ → Type 0
Does tree a n = (n ≡ a) ⊎ ((g : ℕ) × Starts tree n g × Reaches tree a g)

-- some path of control from the node, itself included, meets a node that does a
abbrev pub MayCome : Tree → ℕ → ℕ → Type 0
MayCome tree a n = (m : ℕ) × Comes (tree_edges tree) n m × Does tree a m
