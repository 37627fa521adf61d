-- The rules have one answer for each report, and what is bound fits the program.
use Rattle.std.proofs.Common.{◌≡◌, ◌⊎◌, ℕ, Bool, true, false, ◌==◌, List, Option, Some, None, Ok, Err, IfOk, inl, inr, refl, ap, sym, subst, ◌∙◌}
use Rattle.std.specs.Option.{is_some}
use Rattle.std.proofs.lemmas.Bool.{false≢true}
use Rattle.std.proofs.lemmas.Bool.Decides.{eqb_tells, Decides-eqb}
use Rattle.cfix_base.specs.declared.number.FnId.{FnId}
use Rattle.c_prog.specs.declared.access_item.AccessItem.{AccessItem}
use Rattle.c_prog.specs.declared.tree.Tree.{Tree}
use Rattle.c_prog.specs.Lines.{SourceTree}
use Rattle.flow_graph.specs.Flow.{Edge, Graph, edges_of, graph_of}
use Rattle.flow_graph.specs.Regions.{InRegion}
use Rattle.plan_types.specs.Sets.{is_in, IsIn}
use Rattle.plan_types.specs.declared.bound.Atom.{Atom}
use Rattle.plan_types.specs.declared.bound.Bound.{Bound}
use Rattle.plan_types.specs.declared.bound.Bound.TheVariants as bound
use Rattle.regions.specs.Region.{IsRegion}
use Rattle.report_bind.specs.Binds.{Answer, is_stacked, ByRegion, ByRoot, ByOutermost, ByStacks, BySites, IsAnswer, Binds}
use Rattle.report_bind.specs.Fits.{IsAccess, Fits}
use Rattle.report_bind.specs.Found.{AreFound, AreTraced}
use Rattle.report_bind.specs.Places.{item_at, atom_of, HasRegion}
use Rattle.report_bind.specs.Sites.{site_of}
use Rattle.report_bind.specs.Stacks.{stack_of}
use Rattle.report_bind.specs.declared.fault.BindFault.{BindFault}
use Rattle.report_bind.specs.declared.fault.BindFault.TheVariants.{NoMemory}
use Rattle.report_bind.specs.declared.found.Found.{Found}
use Rattle.report_bind.specs.declared.found.Sites.{Sites}
use Rattle.report_bind.specs.declared.found.Stack.{Stack}
use Rattle.report_bind.proofs.CallPaths.{common-is}
use Rattle.report_bind.proofs.Traced.{site-at, p-path, c-path}
use Rattle.report_json.specs.declared.report.Report.{Report}
use Rattle.report_json.specs.declared.report.Report.TheVariants.{Atomicity, AllBefore, FirstBefore}
use Rattle.report_json.specs.declared.report.Site as site_module

-- Regions.

-- a region that has a node has np
in-region : (same : Bool) (edges : List Edge) (np nc n : ℕ) → InRegion same edges np nc n → InRegion same edges np nc np
in-region true edges np nc n here = refl
in-region false edges np nc n on = record { inner = on.inner; path = on.path; avoids = on.avoids; on = inl refl }

module _ (tree : Tree) (atom : Atom) (graph : Graph) (set : List Bool) (is : graph ≡ graph_of tree atom.of.number) (region : IsRegion graph atom set) where
  pub has-region : IsIn set atom.np.number → HasRegion tree atom
  has-region here = (
    atom.np.number,
    subst (λ g. InRegion atom.same_visit (edges_of g.ways) atom.np.number atom.nc.number atom.np.number) is ((region.nodes atom.np.number).0 here),
  )

  pub no-region : is_in set atom.np.number ≡ false → HasRegion tree atom → ⊥
  no-region none some =
      false≢true (sym none ∙ (region.nodes atom.np.number).1
      (in-region atom.same_visit (edges_of graph.ways) atom.np.number atom.nc.number some.0
      (subst (λ g. InRegion atom.same_visit (edges_of g.ways) atom.np.number atom.nc.number some.0) (sym is) some.1)))

-- One answer.

one-region : (source : SourceTree) (atom : Atom) (a b : Answer) → ByRegion source atom a → ByRegion source atom b → a ≡ b
one-region source atom a b (inl x) (inl y) = x.0 ∙ sym y.0
one-region source atom a b (inl x) (inr y) = absurd (y.1 x.1)
one-region source atom a b (inr x) (inl y) = absurd (x.1 y.1)
one-region source atom a b (inr x) (inr y) = x.0 ∙ sym y.0

one-root : (source : SourceTree) (stacked : Bool) (sites : Sites) (p c : Stack) (a b : Answer)
    → ByRoot source stacked sites p c a → ByRoot source stacked sites p c b → a ≡ b
one-root source stacked sites p c a b (inl x) (inl y) =
    one-region source (atom_of source.tree sites p.function p.calls c.calls) a b x.1 y.1
one-root source stacked sites p c a b (inl x) (inr y) = absurd (y.1 (x.0 y.0))
one-root source stacked sites p c a b (inr x) (inl y) = absurd (x.1 (y.0 x.0))
one-root source stacked sites p c a b (inr x) (inr y) = x.2 ∙ sym y.2

one-outermost : (source : SourceTree) (stacked : Bool) (sites : Sites) (p c : Stack) (meet : Bool) (a b : Answer)
    → ByOutermost source stacked sites p c meet a → ByOutermost source stacked sites p c meet b → a ≡ b
one-outermost source stacked sites p c false a b x y = x ∙ sym y
one-outermost source stacked sites p c true a b x y = one-root source stacked sites p c a b x y

one-stacks : (source : SourceTree) (stacked : Bool) (sites : Sites) (p c : Option Stack) (a b : Answer)
    → ByStacks source stacked sites p c a → ByStacks source stacked sites p c b → a ≡ b
one-stacks source stacked sites None c a b x y = x ∙ sym y
one-stacks source stacked sites (Some p) None a b x y = x ∙ sym y
one-stacks source stacked sites (Some p) (Some c) a b x y =
    one-outermost source stacked sites p c (p.function.number == c.function.number) a b x y

one-sites : (source : SourceTree) (p c : site_module.Site) (ps cs rs : Option AccessItem) (a b : Answer)
    → BySites source p c ps cs rs a → BySites source p c ps cs rs b → a ≡ b
one-sites source p c None cs rs a b x y = x ∙ sym y
one-sites source p c (Some ps) None rs a b x y = x ∙ sym y
one-sites source p c (Some ps) (Some cs) None a b x y = x ∙ sym y
one-sites source p c (Some ps) (Some cs) (Some rs) a b x y =
    one-stacks source (is_stacked p c) (record { p = ps; c = cs; r = rs }) (stack_of source p.stack ps.id) (stack_of source c.stack cs.id) a b x y

pub one-answer : (source : SourceTree) (report : Report) (a b : Answer) → IsAnswer source report a → IsAnswer source report b → a ≡ b
one-answer source (Atomicity p c r) a b x y = one-sites source p c (site_of source p) (site_of source c) (site_of source r) a b x y
one-answer source (AllBefore p c) a b x y = absurd x
one-answer source (FirstBefore p c) a b x y = absurd x

-- an answer but for want of memory is the one of the rules
pub same-answer : (source : SourceTree) (report : Report) (result a : Answer)
    → (result ≡ Err NoMemory) ⊎ IsAnswer source report result → IsAnswer source report a → (result ≡ a) ⊎ (result ≡ Err NoMemory)
same-answer source report result a (inl none) is = inr none
same-answer source report result a (inr given) is = inl (one-answer source report result a given is)

-- the rules on stacks, where both are found
pub by-stacks : (source : SourceTree) (stacked : Bool) (sites : Sites) (p c : Stack) (answer : Answer) (ps cs : Option Stack)
    → ps ≡ Some p → cs ≡ Some c → p.function.number ≡ c.function.number
    → (answer ≡ Err NoMemory) ⊎ ByRoot source stacked sites p c answer → (answer ≡ Err NoMemory) ⊎ ByStacks source stacked sites ps cs answer
by-stacks source stacked sites p c answer ps cs is_p is_c meet (inl none) = inl none
by-stacks source stacked sites p c answer ps cs is_p is_c meet (inr by) =
    let one : ByOutermost source stacked sites p c (p.function.number == c.function.number) answer =
    subst (λ b. ByOutermost source stacked sites p c b answer) (sym ((Decides-eqb p.function.number c.function.number).1 meet)) by in
    let two : ByStacks source stacked sites (Some p) cs answer = subst (λ o. ByStacks source stacked sites (Some p) o answer) (sym is_c) one in
    inr (subst (λ o. ByStacks source stacked sites o cs answer) (sym is_p) two)

-- What is bound fits.

no-bound : (b : Bound) (fault : BindFault) → Ok b ≡ Err fault → ⊥
no-bound b fault is = absurd cc

same-bound : (a b : Bound) (answer : Answer) → answer ≡ Ok a → answer ≡ Ok b → a ≡ b
same-bound a b answer one other = cc

has-access : (tree : Tree) (item : AccessItem) → item_at tree item.id ≡ Some item → IsAccess tree item.id
has-access tree item at = ap is_some at

module _ (source : SourceTree) (p c r : site_module.Site) (b : Bound) where
  fits-region : (found : Found) → AreTraced source p c found → site_of source r ≡ Some found.sites.r
      → ByRegion source (atom_of source.tree found.sites found.p.function found.p.calls found.c.calls) (Ok b) → Fits source.tree b
  fits-region found traced is_r (inl is) =
      subst (Fits source.tree) (sym (same-bound b (bound.Atom (atom_of source.tree found.sites found.p.function found.p.calls found.c.calls)) (Ok b) refl is.0))
      (record {
        has_p = has-access source.tree found.sites.p (site-at source p found.sites.p traced.sites.is_p);
        has_c = has-access source.tree found.sites.c (site-at source c found.sites.c traced.sites.is_c);
        has_r = has-access source.tree found.sites.r (site-at source r found.sites.r is_r);
        np = refl;
        nc = refl;
        p_calls = p-path source p c found traced;
        c_calls = c-path source p c found traced;
        apart = (common-is found.p.calls found.c.calls).apart;
        mode = refl;
        region = is.1;
      })
  fits-region found traced is_r (inr is) = absurd (no-bound b _ is.0)

  fits-root : (stacked : Bool) (found : Found) → AreTraced source p c found → site_of source r ≡ Some found.sites.r
      → ByRoot source stacked found.sites found.p found.c (Ok b) → Fits source.tree b
  fits-root stacked found traced is_r (inl is) = fits-region found traced is_r is.1
  fits-root stacked found traced is_r (inr is) = absurd (no-bound b _ is.2)

  fits-stacks : (sites : Sites) → AreFound source p c sites → site_of source r ≡ Some sites.r → (ps cs : Option Stack)
      → stack_of source p.stack sites.p.id ≡ ps → stack_of source c.stack sites.c.id ≡ cs
      → ByStacks source (is_stacked p c) sites ps cs (Ok b) → Fits source.tree b
  fits-stacks sites are is_r None cs is_p is_c by = absurd (no-bound b _ by)
  fits-stacks sites are is_r (Some ps) None is_p is_c by = absurd (no-bound b _ by)
  fits-stacks sites are is_r (Some ps) (Some cs) is_p is_c by = elim (eqb_tells ps.function.number cs.function.number) [
    | inl same ↦
        let f : ℕ → FnId = λ x. record { number = x } in
        let traced : AreTraced source p c (record { sites = sites; p = ps; c = cs }) = record { sites = are; is_p = is_p; is_c = is_c; meet = ap f same.1 } in
        fits-root (is_stacked p c) (record { sites = sites; p = ps; c = cs }) traced is_r
        (subst (λ meet. ByOutermost source (is_stacked p c) sites ps cs meet (Ok b)) same.0 by)
    | inr differs ↦ absurd (no-bound b _ (subst (λ meet. ByOutermost source (is_stacked p c) sites ps cs meet (Ok b)) differs.0 by))
  ]

  fits-sites : (ps cs rs : Option AccessItem) → site_of source p ≡ ps → site_of source c ≡ cs → site_of source r ≡ rs
      → BySites source p c ps cs rs (Ok b) → Fits source.tree b
  fits-sites None cs rs is_p is_c is_r by = absurd (no-bound b _ by)
  fits-sites (Some ps) None rs is_p is_c is_r by = absurd (no-bound b _ by)
  fits-sites (Some ps) (Some cs) None is_p is_c is_r by = absurd (no-bound b _ by)
  fits-sites (Some ps) (Some cs) (Some rs) is_p is_c is_r by =
      let sites : Sites = record { p = ps; c = cs; r = rs } in
      fits-stacks sites (record { is_p = is_p; is_c = is_c }) is_r (stack_of source p.stack ps.id) (stack_of source c.stack cs.id) refl refl by

pub what-binds-fits : (source : SourceTree) (report : Report) (b : Bound) → Binds source report b → Fits source.tree b
what-binds-fits source (Atomicity p c r) b binds =
    fits-sites source p c r b (site_of source p) (site_of source c) (site_of source r) refl refl refl binds
what-binds-fits source (AllBefore p c) b binds = absurd binds
what-binds-fits source (FirstBefore p c) b binds = absurd binds

pub bound-fits : (source : SourceTree) (report : Report) (result : Answer) → (result ≡ Err NoMemory) ⊎ IsAnswer source report result
    → IfOk result (Fits source.tree)
bound-fits source report (Ok b) (inl none) = absurd (no-bound b NoMemory none)
bound-fits source report (Ok b) (inr is) = what-binds-fits source report b is
bound-fits source report (Err fault) given = tt
