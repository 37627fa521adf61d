-- What is written for a program of the first form and a report.
use Rattle.std.proofs.Common.{◌≡◌, ◌<◌, ◌⊎◌, inl, inr, ℕ, Bool, true, false, List, [], ◌∷◌, length, slice_get, Option, Some, None, IsSome, if◌then◌else◌, refl, sym, ap, subst, ◌∙◌, arith}
use Rattle.cfix_base.specs.declared.access.AccessId.{AccessId}
use Rattle.cfix_base.specs.declared.number.FnId.{FnId}
use Rattle.cfix_base.specs.declared.number.NodeId.{NodeId}
use Rattle.c_prog.specs.declared.tree.Tree.{Tree}
use Rattle.c_prog.specs.Accesses.{numbered, touches_of}
use Rattle.c_prog.specs.Lines.{SourceTree}
use Rattle.c_prog.specs.Nodes.{tree_nodes}
use Rattle.c_prog.specs.Order.{Node, tree_order}
use Rattle.c_prog.proofs.NodeLaws.{tree_order-length}
use Rattle.c_print.specs.Text.Canonical.{canonical}
use Rattle.call_graph.specs.declared.site.Site as call_module
use Rattle.call_graph.specs.Calls.{site_function, function_of}
use Rattle.call_graph.specs.Sites.{calls_of}
use Rattle.call_graph.proofs.Pushes.{get_below}
use Rattle.call_graph.proofs.SiteLaws.{sites-length}
use Rattle.plan_types.specs.declared.bound.Atom.{Atom}
use Rattle.plan_types.specs.declared.bound.Bound.{Bound}
use Rattle.plan_types.specs.declared.bound.Bound.TheVariants as bound
use Rattle.report_bind.specs.declared.fault.BindFault.{BindFault}
use Rattle.report_bind.specs.declared.fault.BindFault.TheVariants as unbound
use Rattle.report_bind.specs.Binds.{Refuses}
use Rattle.report_bind.specs.Fits.{IsAccess, IsCallPath, FitsAtom}
use Rattle.report_bind.specs.Places.{start_of}
use Rattle.report_json.specs.declared.report.Report.{Report}
use Rattle.report_json.specs.Reading.{SpellsReports}
use Rattle.first_form.specs.declared.plain.Plain.{Plain}
use Rattle.first_form.specs.declared.region.Region.{Region}
use Rattle.first_form.specs.Form.{is_first_form, plains_of, acts_of}
use Rattle.first_form.specs.Straight.{bare, guarded}
use Rattle.first_form.proofs.FirstTrees.{first-is, nodes-first}
use Rattle.cfix_core.specs.Patched.{IsPatched}
use Rattle.cfix_core.specs.Failures.{FailsBy}
use Rattle.cfix_core.specs.Sources.{IsFirstSource}
use Rattle.cfix_core.specs.Repair.{IsRepaired, Breaks, Unbound, IsBound, failure_for, region_of_atom, region_of, RepairedFor, Repaired, RefusedWith, RefusedBy}
use Rattle.cfix_core.specs.declared.failure.Failure.{Failure}
use Rattle.cfix_core.specs.declared.failure.Failure.TheVariants as failure
use Rattle.cfix_core.specs.declared.failure.Refusal.TheVariants.{OtherMode}
use Rattle.cfix_core.proofs.StraightPlan.{straight_is_patched}
use Rattle.cfix_core.proofs.Strip.{strip_guarded}

-- ---- nodes of a bound report are nodes of the program

in_sites : (sites : List call_module.Site) (o : Option call_module.Site) (n : ℕ) (f : FnId) → slice_get sites n ≡ o
    → site_function o ≡ Some f → n < length sites
in_sites sites None n f e h = cc
in_sites sites (Some site) n f e h = get_below sites site n e

stands : (tree : Tree) (node : NodeId) (f : FnId) → function_of (calls_of tree).sites node ≡ Some f → node.number < tree_nodes tree
stands tree node f h =
    omega (
      arith,
      sites-length tree,
      in_sites (calls_of tree).sites (slice_get (calls_of tree).sites node.number) node.number f refl h,
    )

path_stands : (tree : Tree) (f : FnId) (path : List NodeId) (own : NodeId) → IsCallPath (calls_of tree).sites f path own
    → (start_of path own).number < tree_nodes tree
path_stands tree f [] own h = stands tree own f h
path_stands tree f (node ∷ rest) own h = stands tree node f h.1

has_node : (nodes : List Node) (o : Option Node) (node : NodeId) (index : ℕ) → slice_get nodes node.number ≡ o
    → IsSome (slice_get (numbered node 0 (touches_of o)) index) → node.number < length nodes
has_node nodes None node index e h = cc
has_node nodes (Some form) node index e h = get_below nodes form node.number e

access_stands : (tree : Tree) (id : AccessId) → IsAccess tree id → id.node.number < tree_nodes tree
access_stands tree id h =
    omega (
      arith,
      tree_order-length tree,
      has_node (tree_order tree) (slice_get (tree_order tree) id.node.number) id.node id.index refl h,
    )

-- ---- the region of a bound report

if_region : (b : Bool) (made region : Region) → (if b then Some made else None) ≡ Some region → (b ≡ true) × (made ≡ region)
if_region true made region e = (refl, cc)
if_region false made region e = cc

no_region : (b : Bool) (made : Region) → (if b then Some made else None) ≡ None → b ≡ false
no_region true made e = cc
no_region false made e = refl

pub other_visit : (program : SourceTree) (report : Report) (b : Bound) → IsBound program report b → region_of b ≡ None
    → Unbound OtherMode program report
other_visit program report (bound.Atom atom) is none =
    inr (refl, record { bound = bound.Atom atom; binds = is.binds; other = no_region atom.same_visit _ none })
other_visit program report (bound.All x y) is none =
    inr (refl, record { bound = bound.All x y; binds = is.binds; other = refl })
other_visit program report (bound.First x y) is none =
    inr (refl, record { bound = bound.First x y; binds = is.binds; other = refl })

atom_repaired : (program : SourceTree) (report : Report) (atom : Atom) (plains : List Plain) (region : Region) (text : List ℕ)
    → is_first_form program.tree ≡ true → plains ≡ plains_of program.tree → IsBound program report (bound.Atom atom)
    → region_of_atom atom ≡ Some region
    → text ≡ canonical (guarded program.tree.globals (acts_of plains) (Some region)) → IsRepaired program report text
atom_repaired program report atom plains region text form statements is found made =
    let tree = program.tree in
    let acts = acts_of plains in
    let q : Tree = guarded tree.globals acts (Some region) in
    let same : bare tree.globals acts ≡ tree = ap (λ p. bare tree.globals (acts_of p)) statements ∙ sym (first-is tree form).is in
    let size : tree_nodes tree ≡ length acts = nodes-first tree form ∙ ap (λ p. length (acts_of p)) (sym statements) in
    let fit : FitsAtom tree atom = is.fits in
    let w = if_region atom.same_visit (record { here = atom.np.number; there = atom.r.node.number }) region found in
    let np : atom.np.number ≡ region.here = ap (λ r. r.here) w.1 in
    let r : atom.r.node.number ≡ region.there = ap (λ r. r.there) w.1 in
    let start : atom.np.number ≡ (start_of atom.p_path atom.p.node).number = ap (λ node. node.number) fit.np in
    let here : region.here < length acts =
    omega (arith, np, start, size, path_stands tree atom.of atom.p_path atom.p.node fit.p_calls) in
    let there : region.there < length acts = omega (arith, r, size, access_stands tree atom.r fit.has_r) in
    record {
      visits = record { bound = bound.Atom atom; binds = is.binds; one_visit = w.0 };
      q = q;
      is_patched = subst (λ t. IsPatched t (bound.Atom atom ∷ []) q) same
          (straight_is_patched tree.globals acts region.here region.there here there atom
          (record { same_visit = w.0; np = np; r = r }));
      stripped = strip_guarded tree.globals acts (Some region) ∙ same;
      is_text = made;
    }

-- the text with the operations round the region is that of the patched program
pub repaired_by : (program : SourceTree) (report : Report) (b : Bound) (plains : List Plain) (region : Region) (text : List ℕ)
    → is_first_form program.tree ≡ true → plains ≡ plains_of program.tree → IsBound program report b
    → region_of b ≡ Some region
    → text ≡ canonical (guarded program.tree.globals (acts_of plains) (Some region)) → IsRepaired program report text
repaired_by program report (bound.Atom atom) plains region text form statements is found made =
    atom_repaired program report atom plains region text form statements is found made
repaired_by program report (bound.All x y) plains region text form statements is found made = cc
repaired_by program report (bound.First x y) plains region text form statements is found made = cc

-- ---- failures

pub fails_more : (program : SourceTree) (report : Report) (stop : Failure) → FailsBy (λ refusal. Breaks refusal program report) stop
    → FailsBy (λ refusal. Unbound refusal program report) stop
fails_more program report failure.NoMemory h = tt
fails_more program report (failure.Refused refusal) h = inl h

pub breaks_rule : (program : SourceTree) (report : Report) (fault : BindFault) → (fault ≡ unbound.NoMemory) ⊎ Refuses program report fault
    → FailsBy (λ refusal. Breaks refusal program report) (failure_for fault)
breaks_rule program report unbound.NoMemory h = tt
breaks_rule program report (unbound.NoSite role) (inl e) = cc
breaks_rule program report (unbound.NoSite role) (inr h) = record { fault = unbound.NoSite role; is_fault = refl; refuses = h }
breaks_rule program report (unbound.StackBroken role) (inl e) = cc
breaks_rule program report (unbound.StackBroken role) (inr h) = record { fault = unbound.StackBroken role; is_fault = refl; refuses = h }
breaks_rule program report (unbound.NoPath np nc) (inl e) = cc
breaks_rule program report (unbound.NoPath np nc) (inr h) = record { fault = unbound.NoPath np nc; is_fault = refl; refuses = h }
breaks_rule program report (unbound.NotRoot f) h = tt
breaks_rule program report unbound.MaybeAccess h = tt
breaks_rule program report (unbound.OrderCycle n) h = tt

pub repaired_whole : (source reports text : List ℕ) (program : SourceTree) (list : List Report) → IsFirstSource source program
    → SpellsReports reports list → RepairedFor program list text → Repaired source reports text
repaired_whole source reports text program list is spells done = record {
  reads = record {
    program = program;
    is_source = is;
    report = done.report;
    is_report = record { list = list; spells = spells; only = done.only };
  };
  repaired = done.repaired;
}

pub fails_whole : (source reports : List ℕ) (program : SourceTree) (list : List Report) (stop : Failure) → IsFirstSource source program
    → SpellsReports reports list → FailsBy (λ refusal. RefusedWith refusal program list) stop
    → FailsBy (λ refusal. RefusedBy refusal source reports) stop
fails_whole source reports program list failure.NoMemory is spells h = tt
fails_whole source reports program list (failure.Refused refusal) is spells (inl h) =
    inr (inl (record {
      program = program;
      is_source = is;
      wrong = inr (h.0, record { list = list; spells = spells; other = h.1 });
    }))
fails_whole source reports program list (failure.Refused refusal) is spells (inr h) =
    inr (inr (record {
      reads = record {
        program = program;
        is_source = is;
        report = h.report;
        is_report = record { list = list; spells = spells; only = h.only };
      };
      unbound = h.unbound;
    }))
