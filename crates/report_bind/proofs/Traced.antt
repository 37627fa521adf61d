-- What is known of accesses and calls that are found.
use Rattle.std.proofs.Common.{◌≡◌, ℕ, zero, suc, ◌+◌, ◌<◌, ◌≤◌, Bool, ◌&&◌, List, [], ◌∷◌, map, length, take, drop, get_or, slice_get, Some, refl, ap, sym, subst, ◌∙◌, arith}
use Rattle.std.specs.Prelude.{All}
use Rattle.std.specs.List.{range_with_len}
use Rattle.std.proofs.lemmas.Option.{none-some}
use Rattle.std.proofs.lemmas.List.Elements.{All-head, All-tail, All-append, All-map}
use Rattle.std.proofs.lemmas.List.FromFn.{length-map-range_with_len}
use Rattle.cfix_base.specs.declared.access.Access.TheVariants.{Read, Write}
use Rattle.cfix_base.specs.declared.number.FnId.{FnId}
use Rattle.cfix_base.specs.declared.number.NodeId.{NodeId}
use Rattle.c_prog.specs.declared.access_item.AccessItem.{AccessItem}
use Rattle.c_prog.specs.declared.function.Function.{Function}
use Rattle.c_prog.specs.declared.tree.Tree.{Tree}
use Rattle.c_prog.specs.Lines.{SourceTree, IsLined, tree_accesses, same_node}
use Rattle.c_prog.specs.Order.{function_order, tree_order}
use Rattle.c_prog.specs.Rising.{keys}
use Rattle.c_prog.proofs.NodeLaws.{tree_order-length}
use Rattle.call_graph.specs.Calls.{site_function, function_of}
use Rattle.call_graph.specs.Sites.{calls_of, site, sites_from}
use Rattle.call_graph.specs.declared.site.Site as call_module
use Rattle.call_graph.proofs.SiteLaws.{sites-length}
use Rattle.flow_graph.specs.Flow.{Graph, graph_of, graphs_of}
use Rattle.plan_types.specs.declared.bound.Atom.{Atom}
use Rattle.report_bind.specs.Fits.{IsCallPath}
use Rattle.report_bind.specs.Found.{AreTraced}
use Rattle.report_bind.specs.Places.{common, entered, start_of, item_at, is_kind, comes_before, in_one_visit, before_by, visit_by, atom_of}
use Rattle.report_bind.specs.Sites.{is_meant, site_of}
use Rattle.report_bind.specs.Stacks.{nodes_of}
use Rattle.report_bind.specs.declared.found.Found.{Found}
use Rattle.report_bind.specs.declared.found.Sites.{Sites}
use Rattle.report_bind.proofs.CallPaths.{start-stands, behind-front, common-is, stack-path}
use Rattle.report_bind.proofs.Kept.{kept, some-same}
use Rattle.report_bind.proofs.Known.{Stands, accesses-stand, stands-at, stands-below, calls-exist}
use Rattle.report_json.specs.declared.report.Site as site_module

-- Sizes.

pub nodes-length : (tree : Tree) → length (calls_of tree).sites ≡ length (tree_order tree)
nodes-length tree = sites-length tree ∙ sym (tree_order-length tree)

pub flows-length : (tree : Tree) → length (graphs_of tree) ≡ length tree.functions
flows-length tree = length-map-range_with_len (graph_of tree) 0 (length tree.functions)

get-range : {X : Type 0} (f : ℕ → X) (first count k : ℕ) (x : X) → slice_get (map f (range_with_len first count)) k ≡ Some x → x ≡ f (first + k)
get-range f first zero k x is = absurd (none-some x is)
get-range f first (suc count) zero x is =
    let here : first ≡ first + 0 = omega arith in sym (some-same (f first) x is) ∙ ap f here
get-range f first (suc count) (suc k) x is =
    let here : (first + 1) + k ≡ first + suc k = omega arith in get-range f (first + 1) count k x is ∙ ap f here

pub flow-at : (tree : Tree) (k : ℕ) (flow : Graph) → slice_get (graphs_of tree) k ≡ Some flow → flow ≡ graph_of tree k
flow-at tree k flow is = let here : 0 + k ≡ k = omega arith in get-range (graph_of tree) 0 (length tree.functions) k flow is ∙ ap (graph_of tree) here

-- Nodes that stand in functions exist, and so do the functions.

-- a node that stands in a function is one of the nodes
stands-here : (sites : List call_module.Site) (k : ℕ) (f : FnId) → site_function (slice_get sites k) ≡ Some f → k < length sites
stands-here [] k f is = absurd (none-some f is)
stands-here (s ∷ sites) zero f is = omega arith
stands-here (s ∷ sites) (suc k) f is = omega (arith, stands-here sites k f is)

pub node-exists : (sites : List call_module.Site) (node : NodeId) (f : FnId) → function_of sites node ≡ Some f → node.number < length sites
node-exists sites node f is = stands-here sites node.number f is

function-is : (P : FnId → Type 0) (sites : List call_module.Site) (k : ℕ) (f : FnId)
    → All (λ s. P s.of) sites → site_function (slice_get sites k) ≡ Some f → P f
function-is P [] k f all is = absurd (none-some f is)
function-is P (s ∷ sites) zero f all is = subst P (some-same s.of f is) (All-head (λ x. P x.of) s sites all)
function-is P (s ∷ sites) (suc k) f all is = function-is P sites k f (All-tail (λ x. P x.of) s sites all) is

functions-below : (first high : ℕ) (functions : List Function) → first + length functions ≤ high
    → All (λ s. s.of.number < high) (sites_from first functions)
functions-below first high [] fits = λ k d below. absurd (omega (arith, below))
functions-below first high (f ∷ rest) fits =
    All-append (λ s. s.of.number < high) (map (site first) (function_order f)) (sites_from (first + 1) rest)
    (All-map (λ s. s.of.number < high) (site first) (function_order f) (λ k d below. omega (arith, fits)))
    (functions-below (first + 1) high rest (omega (arith, fits)))

pub function-exists : (tree : Tree) (node : NodeId) (f : FnId) → function_of (calls_of tree).sites node ≡ Some f → f.number < length tree.functions
function-exists tree node f is =
    function-is (λ g. g.number < length tree.functions) (calls_of tree).sites node.number f
    (functions-below 0 (length tree.functions) tree.functions (omega arith)) is

-- Calls of a source are nodes of its program.

pub call-exists : (source : SourceTree) → IsLined source.tree source.lines
    → All (λ node. node.number < length (calls_of source.tree).sites) (keys source.lines.calls)
call-exists source lined =
    subst (λ high. All (λ node. node.number < high) (keys source.lines.calls)) (sym (nodes-length source.tree))
    (subst (All (λ node. node.number < length (tree_order source.tree))) (sym lined.calls) (calls-exist source.tree))

pub key-is : (P : NodeId → Type 0) (entries : List (NodeId × ℕ)) (i : ℕ) (d : NodeId × ℕ)
    → All P (keys entries) → i < length entries → P (get_or entries i d).0
key-is P [] i d all below = absurd (omega (arith, below))
key-is P (e ∷ entries) zero d all below = All-head P e.0 (keys entries) all
key-is P (e ∷ entries) (suc i) d all below = key-is P entries i d (All-tail P e.0 (keys entries) all) (omega (arith, below))

-- The access that a site means.

pub site-stands : (source : SourceTree) (site : site_module.Site) (item : AccessItem) → site_of source site ≡ Some item
    → Stands 0 (tree_order source.tree) item
site-stands source site item is =
    (kept (is_meant source site) (Stands 0 (tree_order source.tree)) (tree_accesses source.tree) site.nth item (accesses-stand source.tree) is).1

pub site-at : (source : SourceTree) (site : site_module.Site) (item : AccessItem) → site_of source site ≡ Some item
    → item_at source.tree item.id ≡ Some item
site-at source site item is = stands-at source.tree item (site-stands source site item is)

pub site-exists : (source : SourceTree) (site : site_module.Site) (item : AccessItem) → site_of source site ≡ Some item
    → item.id.node.number < length (calls_of source.tree).sites
site-exists source site item is =
    omega (arith, stands-below source.tree item (site-stands source site item is), nodes-length source.tree)

-- The order of p and c, from their items.

before-is : (tree : Tree) (p_path : List NodeId) (p : AccessItem) (c_path : List NodeId) (c : AccessItem)
    → item_at tree p.id ≡ Some p → item_at tree c.id ≡ Some c → before_by p_path p c_path c ≡ comes_before tree p_path p.id c_path c.id
before-is tree [] p [] c at_p at_c = refl
before-is tree [] p (call ∷ more) c at_p at_c = ap (λ o. is_kind o Read) (sym at_p)
before-is tree (call ∷ more) p [] c at_p at_c = ap (λ o. is_kind o Write) (sym at_c)
before-is tree (call ∷ more) p (other ∷ others) c at_p at_c = refl

pub visit-is : (tree : Tree) (p_path : List NodeId) (p : AccessItem) (c_path : List NodeId) (c : AccessItem)
    → item_at tree p.id ≡ Some p → item_at tree c.id ≡ Some c → visit_by p_path p c_path c ≡ in_one_visit tree p_path p.id c_path c.id
visit-is tree p_path p c_path c at_p at_c =
    ap (λ b. same_node (start_of p_path p.id.node) (start_of c_path c.id.node) && b) (before-is tree p_path p c_path c at_p at_c)

-- The two paths from the region's function.

abbrev front_of : Found → ℕ
front_of found = common found.p.calls found.c.calls

abbrev region_function : SourceTree → Found → FnId
region_function source found = entered (nodes_of source) found.p.function (take (front_of found) found.p.calls)

pub p-path : (source : SourceTree) (p c : site_module.Site) (found : Found) → AreTraced source p c found
    → IsCallPath (nodes_of source) (region_function source found) (drop (front_of found) found.p.calls) found.sites.p.id.node
p-path source p c found traced =
    behind-front (nodes_of source) found.p.function found.p.calls found.sites.p.id.node (front_of found)
    (common-is found.p.calls found.c.calls).below (stack-path source p.stack found.sites.p.id found.p traced.is_p)

pub c-path : (source : SourceTree) (p c : site_module.Site) (found : Found) → AreTraced source p c found
    → IsCallPath (nodes_of source) (region_function source found) (drop (front_of found) found.c.calls) found.sites.c.id.node
c-path source p c found traced =
    let shared = common-is found.p.calls found.c.calls in
    let one : entered (nodes_of source) found.c.function (take (front_of found) found.c.calls) ≡ region_function source found =
    ap (λ calls. entered (nodes_of source) found.c.function calls) (sym shared.same)
    ∙ ap (λ f. entered (nodes_of source) f (take (front_of found) found.p.calls)) (sym traced.meet) in
    subst (λ f. IsCallPath (nodes_of source) f (drop (front_of found) found.c.calls) found.sites.c.id.node) one
    (behind-front (nodes_of source) found.c.function found.c.calls found.sites.c.id.node (front_of found) shared.below_other
    (stack-path source c.stack found.sites.c.id found.c traced.is_c))

abbrev pub placed_atom : SourceTree → Found → Atom
placed_atom source found = atom_of source.tree found.sites found.p.function found.p.calls found.c.calls

-- the nodes and the function of the bound report exist
pub np-stands : (source : SourceTree) (p c : site_module.Site) (found : Found) → AreTraced source p c found
    → function_of (nodes_of source) (placed_atom source found).np ≡ Some (placed_atom source found).of
np-stands source p c found traced =
    start-stands (nodes_of source) (region_function source found) (drop (front_of found) found.p.calls) found.sites.p.id.node
    (p-path source p c found traced)

pub nc-stands : (source : SourceTree) (p c : site_module.Site) (found : Found) → AreTraced source p c found
    → function_of (nodes_of source) (placed_atom source found).nc ≡ Some (placed_atom source found).of
nc-stands source p c found traced =
    start-stands (nodes_of source) (region_function source found) (drop (front_of found) found.c.calls) found.sites.c.id.node
    (c-path source p c found traced)

pub outermost-stands : (source : SourceTree) (p c : site_module.Site) (found : Found) → AreTraced source p c found
    → function_of (nodes_of source) (start_of found.p.calls found.sites.p.id.node) ≡ Some found.p.function
outermost-stands source p c found traced =
    start-stands (nodes_of source) found.p.function found.p.calls found.sites.p.id.node
    (stack-path source p.stack found.sites.p.id found.p traced.is_p)

-- a bound report whose parts are those of the definition
pub placed : (tree : Tree) (sites : Sites) (f : FnId) (p_calls c_calls : List NodeId) (of : FnId) (np nc : NodeId) (p_path c_path : List NodeId) (visit : Bool)
    → of ≡ (atom_of tree sites f p_calls c_calls).of → np ≡ (atom_of tree sites f p_calls c_calls).np → nc ≡ (atom_of tree sites f p_calls c_calls).nc
    → p_path ≡ (atom_of tree sites f p_calls c_calls).p_path → c_path ≡ (atom_of tree sites f p_calls c_calls).c_path
    → visit ≡ (atom_of tree sites f p_calls c_calls).same_visit
    → record {
      of = of;
      np = np;
      nc = nc;
      p = sites.p.id;
      c = sites.c.id;
      r = sites.r.id;
      p_path = p_path;
      c_path = c_path;
      same_visit = visit;
    } ≡ atom_of tree sites f p_calls c_calls
placed tree sites f p_calls c_calls of np nc p_path c_path visit is_of is_np is_nc is_p is_c is_visit =
    let with : FnId → NodeId → NodeId → List NodeId → List NodeId → Bool → Atom = λ of np nc p_path c_path visit. record {
      of = of;
      np = np;
      nc = nc;
      p = sites.p.id;
      c = sites.c.id;
      r = sites.r.id;
      p_path = p_path;
      c_path = c_path;
      same_visit = visit;
    } in
    let atom = atom_of tree sites f p_calls c_calls in
    ap (λ x. with x np nc p_path c_path visit) is_of ∙ ap (λ x. with atom.of x nc p_path c_path visit) is_np
    ∙ ap (λ x. with atom.of atom.np x p_path c_path visit) is_nc ∙ ap (λ x. with atom.of atom.np atom.nc x c_path visit) is_p
    ∙ ap (λ x. with atom.of atom.np atom.nc atom.p_path x visit) is_c ∙ ap (λ x. with atom.of atom.np atom.nc atom.p_path atom.c_path x) is_visit
