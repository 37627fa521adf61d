-- Which reports are bound, to what, and by which rule the others are refused.
use Rattle.std.specs.Prelude.{◌≡◌, ◌⊎◌, Bool, true, false, not, ◌&&◌, ◌==◌, IsTrue, List, [], ◌∷◌, Option, Some, None, Result, Ok, Err}
use Rattle.c_prog.specs.declared.access_item.AccessItem.{AccessItem}
use Rattle.c_prog.specs.Lines.{SourceTree}
use Rattle.call_graph.specs.Calls.{IsRoot}
use Rattle.call_graph.specs.Sites.{calls_of}
use Rattle.plan_types.specs.declared.bound.Atom.{Atom}
use Rattle.plan_types.specs.declared.bound.Bound.{Bound}
use Rattle.plan_types.specs.declared.bound.Bound.TheVariants as bound
use Rattle.report_bind.specs.declared.fault.BindFault.{BindFault}
use Rattle.report_bind.specs.declared.fault.BindFault.TheVariants.{NoSite, StackBroken, NotRoot, NoPath}
use Rattle.report_bind.specs.declared.fault.Role.TheVariants.{P, C, R}
use Rattle.report_bind.specs.declared.found.Sites.{Sites}
use Rattle.report_bind.specs.declared.found.Stack.{Stack}
use Rattle.report_bind.specs.Places.{atom_of, HasRegion}
use Rattle.report_bind.specs.Sites.{site_of}
use Rattle.report_bind.specs.Stacks.{stack_of}
use Rattle.report_json.specs.declared.report.CallSite.{CallSite}
use Rattle.report_json.specs.declared.report.Report.{Report}
use Rattle.report_json.specs.declared.report.Report.TheVariants.{Atomicity, AllBefore, FirstBefore}
use Rattle.report_json.specs.declared.report.Site as site_module

-- a bound report, or the rule that refuses it
abbrev pub Answer : Type 0
Answer = Result Bound BindFault

abbrev pub is_empty : List CallSite → Bool
is_empty [] = true
is_empty (call ∷ rest) = false

-- at least one of the stacks of p and c has a call
abbrev pub is_stacked : site_module.Site → site_module.Site → Bool
is_stacked p c = not (is_empty p.stack && is_empty c.stack)

-- the last rule: the region is not empty
abbrev pub ByRegion : SourceTree → Atom → Answer → Type 0
ByRegion source atom answer =
    ((answer ≡ Ok (bound.Atom atom)) × HasRegion source.tree atom)
    ⊎ ((answer ≡ Err (NoPath atom.np atom.nc)) × (HasRegion source.tree atom → ⊥))

-- where there is a stack, the outermost function is a root
abbrev pub ByRoot : SourceTree → Bool → Sites → Stack → Stack → Answer → Type 0
ByRoot source stacked sites p c answer =
    ((IsTrue stacked → IsRoot (calls_of source.tree) p.function)
    × ByRegion source (atom_of source.tree sites p.function p.calls c.calls) answer)
    ⊎ (IsTrue stacked × (IsRoot (calls_of source.tree) p.function → ⊥) × (answer ≡ Err (NotRoot p.function)))

-- the outermost functions of p and c are one
abbrev pub ByOutermost : SourceTree → Bool → Sites → Stack → Stack → Bool → Answer → Type 0
ByOutermost source stacked sites p c false answer = answer ≡ Err (StackBroken C)
ByOutermost source stacked sites p c true answer = ByRoot source stacked sites p c answer

-- the stacks of p and c are calls of the program
abbrev pub ByStacks : SourceTree → Bool → Sites → Option Stack → Option Stack → Answer → Type 0
ByStacks source stacked sites None c answer = answer ≡ Err (StackBroken P)
ByStacks source stacked sites (Some p) None answer = answer ≡ Err (StackBroken C)
ByStacks source stacked sites (Some p) (Some c) answer =
    ByOutermost source stacked sites p c (p.function.number == c.function.number) answer

-- the sites of p, c and r are accesses of the program
abbrev pub BySites : SourceTree → site_module.Site → site_module.Site → Option AccessItem → Option AccessItem → Option AccessItem → Answer → Type 0
BySites source p c None c_item r_item answer = answer ≡ Err (NoSite P)
BySites source p c (Some p_item) None r_item answer = answer ≡ Err (NoSite C)
BySites source p c (Some p_item) (Some c_item) None answer = answer ≡ Err (NoSite R)
BySites source p c (Some p_item) (Some c_item) (Some r_item) answer =
    ByStacks source (is_stacked p c) (record { p = p_item; c = c_item; r = r_item }) (stack_of source p.stack p_item.id)
    (stack_of source c.stack c_item.id) answer

-- What the rules make of a report: the first that is not kept gives the fault, and where all are kept the report is
-- bound. Order reports are not bound yet, and have no answer.
abbrev pub IsAnswer : SourceTree → Report → Answer → Type 0
IsAnswer source (Atomicity p c r) answer = BySites source p c (site_of source p) (site_of source c) (site_of source r) answer
IsAnswer source (AllBefore a b) answer = ⊥
IsAnswer source (FirstBefore a b) answer = ⊥

-- a report is bound to this
abbrev pub Binds : SourceTree → Report → Bound → Type 0
Binds source report bound = IsAnswer source report (Ok bound)

-- a report is refused by this rule, the first that it does not keep
abbrev pub Refuses : SourceTree → Report → BindFault → Type 0
Refuses source report fault = IsAnswer source report (Err fault)

-- an atomicity report
abbrev pub IsAtomicity : Report → Type 0
IsAtomicity (Atomicity p c r) = Unit {0}
IsAtomicity (AllBefore a b) = ⊥
IsAtomicity (FirstBefore a b) = ⊥
