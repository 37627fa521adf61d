-- A report has one answer: it is bound to one thing, or refused by one rule.
use Rattle.std.proofs.Common.{◌≡◌, inl, inr, Bool, true, false, not, ◌&&◌, ◌==◌, Option, Some, None, Ok, Err, subst, ap, sym, ◌∙◌}
use Rattle.std.proofs.lemmas.Bool.{and_parts, false≢true}
use Rattle.c_prog.specs.declared.access_item.AccessItem.{AccessItem}
use Rattle.c_prog.specs.Lines.{SourceTree}
use Rattle.plan_types.specs.declared.bound.Atom.{Atom}
use Rattle.plan_types.specs.declared.bound.Bound.{Bound}
use Rattle.report_bind.specs.declared.fault.BindFault.{BindFault}
use Rattle.report_bind.specs.declared.fault.BindFault.TheVariants.{NoSite, StackBroken, NoPath}
use Rattle.report_bind.specs.declared.fault.Role.TheVariants.{P, C, R}
use Rattle.report_bind.specs.declared.found.Sites.{Sites}
use Rattle.report_bind.specs.declared.found.Stack.{Stack}
use Rattle.report_bind.specs.Binds.{Answer, is_empty, is_stacked, ByRegion, ByRoot, ByOutermost, ByStacks, BySites, Binds, Refuses, IsAtomicity}
use Rattle.report_bind.specs.Places.{atom_of}
use Rattle.report_bind.specs.Sites.{site_of}
use Rattle.report_bind.specs.Stacks.{stack_of}
use Rattle.report_bind.proofs.Rules.{one-answer}
use Rattle.report_json.specs.declared.report.Report.{Report}
use Rattle.report_json.specs.declared.report.Report.TheVariants.{Atomicity, AllBefore, FirstBefore}
use Rattle.report_json.specs.declared.report.Site as site_module
use Rattle.cfix_core.specs.OneReport.{is_bare}
use Rattle.cfix_core.specs.Repair.{HasRefusal}

abbrev bound_to : Bound → Answer
bound_to bound = Ok bound

abbrev refused_by : BindFault → Answer
refused_by fault = Err fault

same_bound : (a b : Bound) → bound_to a ≡ bound_to b → a ≡ b
same_bound a b e = cc

same_fault : (a b : BindFault) → refused_by a ≡ refused_by b → a ≡ b
same_fault a b e = cc

apart : (a : Bound) (b : BindFault) → bound_to a ≡ refused_by b → ⊥
apart a b e = cc

pub one_bound : (source : SourceTree) (report : Report) (a b : Bound) → Binds source report a → Binds source report b → a ≡ b
one_bound source report a b h k = same_bound a b (one-answer source report (Ok a) (Ok b) h k)

pub one_fault : (source : SourceTree) (report : Report) (a b : BindFault) → Refuses source report a → Refuses source report b → a ≡ b
one_fault source report a b h k = same_fault a b (one-answer source report (Err a) (Err b) h k)

pub bound_refused : (source : SourceTree) (report : Report) (a : Bound) (b : BindFault) → Binds source report a → Refuses source report b → ⊥
bound_refused source report a b h k = apart a b (one-answer source report (Ok a) (Err b) h k)

-- ---- what refuses a report without stacks

told : (fault other : BindFault) → refused_by fault ≡ refused_by other → HasRefusal other → HasRefusal fault
told fault other e h = subst HasRefusal (sym (same_fault fault other e)) h

told_region : (source : SourceTree) (atom : Atom) (fault : BindFault) → ByRegion source atom (refused_by fault) → HasRefusal fault
told_region source atom fault (inl h) = absurd (apart _ fault (sym h.0))
told_region source atom fault (inr h) = told fault (NoPath atom.np atom.nc) h.0 tt

told_root : (source : SourceTree) (stacked : Bool) (sites : Sites) (p c : Stack) (fault : BindFault) → stacked ≡ false
    → ByRoot source stacked sites p c (refused_by fault) → HasRefusal fault
told_root source stacked sites p c fault none (inl h) =
    told_region source (atom_of source.tree sites p.function p.calls c.calls) fault h.1
told_root source stacked sites p c fault none (inr h) = absurd (false≢true (sym none ∙ h.0))

told_outermost : (source : SourceTree) (stacked : Bool) (sites : Sites) (p c : Stack) (same : Bool) (fault : BindFault) → stacked ≡ false
    → ByOutermost source stacked sites p c same (refused_by fault) → HasRefusal fault
told_outermost source stacked sites p c false fault none h = told fault (StackBroken C) h tt
told_outermost source stacked sites p c true fault none h = told_root source stacked sites p c fault none h

told_stacks : (source : SourceTree) (stacked : Bool) (sites : Sites) (p c : Option Stack) (fault : BindFault) → stacked ≡ false
    → ByStacks source stacked sites p c (refused_by fault) → HasRefusal fault
told_stacks source stacked sites None c fault none h = told fault (StackBroken P) h tt
told_stacks source stacked sites (Some p) None fault none h = told fault (StackBroken C) h tt
told_stacks source stacked sites (Some p) (Some c) fault none h =
    told_outermost source stacked sites p c (p.function.number == c.function.number) fault none h

told_sites : (source : SourceTree) (p c : site_module.Site) (x y z : Option AccessItem) (fault : BindFault) → is_stacked p c ≡ false
    → BySites source p c x y z (refused_by fault) → HasRefusal fault
told_sites source p c None y z fault none h = told fault (NoSite P) h tt
told_sites source p c (Some x) None z fault none h = told fault (NoSite C) h tt
told_sites source p c (Some x) (Some y) None fault none h = told fault (NoSite R) h tt
told_sites source p c (Some x) (Some y) (Some z) fault none h =
    told_stacks source (is_stacked p c) (record { p = x; c = y; r = z }) (stack_of source p.stack x.id) (stack_of source c.stack y.id) fault none h

pub bare_refusal : (source : SourceTree) (report : Report) (fault : BindFault) → is_bare report ≡ true → Refuses source report fault
    → HasRefusal fault
bare_refusal source (Atomicity p c r) fault bare h =
    let parts = and_parts (is_empty p.stack) (is_empty c.stack && is_empty r.stack) bare in
    let back = and_parts (is_empty c.stack) (is_empty r.stack) parts.1 in
    let none : is_stacked p c ≡ false = ap (λ b. not (b && is_empty c.stack)) parts.0 ∙ ap not back.0 in
    told_sites source p c (site_of source p) (site_of source c) (site_of source r) fault none h
bare_refusal source (AllBefore a b) fault bare h = absurd h
bare_refusal source (FirstBefore a b) fault bare h = absurd h

pub bare_atomicity : (report : Report) → is_bare report ≡ true → IsAtomicity report
bare_atomicity (Atomicity p c r) bare = tt
bare_atomicity (AllBefore a b) bare = cc
bare_atomicity (FirstBefore a b) bare = cc
