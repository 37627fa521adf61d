-- Where a bound atomicity report lies: the region's function, np and nc, the call paths, and the mode.
use Rattle.std.specs.Prelude.{ℕ, suc, Bool, false, ◌&&◌, nat_lt, List, [], ◌∷◌, take, drop, slice_get, Option, Some, None, if◌then◌else◌}
use Rattle.cfix_base.specs.declared.access.Access.{Access}
use Rattle.cfix_base.specs.declared.access.Access.TheVariants.{Read, Write}
use Rattle.cfix_base.specs.declared.access.AccessId.{AccessId}
use Rattle.cfix_base.specs.declared.number.FnId.{FnId}
use Rattle.cfix_base.specs.declared.number.NodeId.{NodeId}
use Rattle.c_prog.specs.declared.access_item.AccessItem.{AccessItem}
use Rattle.c_prog.specs.declared.tree.Tree.{Tree}
use Rattle.c_prog.specs.Accesses.{accesses}
use Rattle.c_prog.specs.Lines.{same_node}
use Rattle.call_graph.specs.Calls.{callee_of}
use Rattle.call_graph.specs.Sites.{calls_of}
use Rattle.call_graph.specs.declared.site.Site as call_module
use Rattle.flow_graph.specs.Flow.{Edge, edges_of, graph_of}
use Rattle.flow_graph.specs.Regions.{InRegion}
use Rattle.plan_types.specs.declared.bound.Atom.{Atom}
use Rattle.report_bind.specs.Sites.{same_kind}
use Rattle.report_bind.specs.declared.found.Sites.{Sites}

-- how many call nodes two stacks have in common at their front
abbrev pub common : List NodeId → List NodeId → ℕ
common [] others = 0
common (node ∷ rest) [] = 0
common (node ∷ rest) (other ∷ others) = if same_node node other then suc (common rest others) else 0

abbrev pub function_or : FnId → Option FnId → FnId
function_or function None = function
function_or function (Some callee) = callee

-- the function that calls lead to, from a function
abbrev pub entered : List call_module.Site → FnId → List NodeId → FnId
entered sites function [] = function
entered sites function (node ∷ rest) = entered sites (function_or function (callee_of sites node)) rest

-- the node at which a path begins: its first call, or the access's own node
abbrev pub start_of : List NodeId → NodeId → NodeId
start_of [] own = own
start_of (node ∷ rest) own = node

-- the item of an access
abbrev pub item_at : Tree → AccessId → Option AccessItem
item_at tree access = slice_get (accesses tree access.node) access.index

abbrev pub is_kind : Option AccessItem → Access → Bool
is_kind None kind = false
is_kind (Some item) kind = same_kind item.access kind

-- Whether p's position comes before c's in the one node at which both paths begin. An access below a call
-- stands at the call's position. A node that calls a function reads before its call, since what it reads are
-- indices, the old value of its target, and arguments; it writes behind it, to its target.
abbrev pub comes_before : Tree → List NodeId → AccessId → List NodeId → AccessId → Bool
comes_before tree [] p [] c = nat_lt p.index c.index
comes_before tree [] p (call ∷ more) c = is_kind (item_at tree p) Read
comes_before tree (call ∷ more) p [] c = is_kind (item_at tree c) Write
comes_before tree (call ∷ more) p (other ∷ others) c = false

-- whether p and c lie in one visit: the paths begin at one node, and p comes before c there
abbrev pub in_one_visit : Tree → List NodeId → AccessId → List NodeId → AccessId → Bool
in_one_visit tree p_path p c_path c = same_node (start_of p_path p.node) (start_of c_path c.node) && comes_before tree p_path p c_path c

-- a bound report with these paths
abbrev pub atom_with : Tree → FnId → List NodeId → List NodeId → Sites → Atom
atom_with tree function p_path c_path sites = record {
  of = function;
  np = start_of p_path sites.p.id.node;
  nc = start_of c_path sites.c.id.node;
  p = sites.p.id;
  c = sites.c.id;
  r = sites.r.id;
  p_path = p_path;
  c_path = c_path;
  same_visit = in_one_visit tree p_path sites.p.id c_path sites.c.id;
}

-- the bound report of these accesses, whose stacks begin in one function: the region's function is the one
-- reached behind the longest common front of the stacks
abbrev pub atom_of : Tree → Sites → FnId → List NodeId → List NodeId → Atom
atom_of tree sites function p_calls c_calls =
    atom_with tree (entered (calls_of tree).sites function (take (common p_calls c_calls) p_calls)) (drop (common p_calls c_calls) p_calls)
    (drop (common p_calls c_calls) c_calls) sites

-- the edges of the region's function
abbrev pub atom_edges : Tree → Atom → List Edge
atom_edges tree atom = edges_of (graph_of tree atom.of.number).ways

-- the region is not empty
abbrev pub HasRegion : Tree → Atom → Type 0
HasRegion tree atom = (n : ℕ) × InRegion atom.same_visit (atom_edges tree atom) atom.np.number atom.nc.number n

-- the same order of p and c, from their items
abbrev pub before_by : List NodeId → AccessItem → List NodeId → AccessItem → Bool
before_by [] p [] c = nat_lt p.id.index c.id.index
before_by [] p (call ∷ more) c = same_kind p.access Read
before_by (call ∷ more) p [] c = same_kind c.access Write
before_by (call ∷ more) p (other ∷ others) c = false

abbrev pub visit_by : List NodeId → AccessItem → List NodeId → AccessItem → Bool
visit_by p_path p c_path c = same_node (start_of p_path p.id.node) (start_of c_path c.id.node) && before_by p_path p c_path c

-- two nodes are known to be at their places and are one
abbrev pub is_node : Option NodeId → NodeId → Bool
is_node None node = false
is_node (Some other) node = same_node other node
