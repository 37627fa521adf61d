-- What `patch` makes of the bytes of its two files, and why it refuses them.
use Rattle.std.specs.Prelude.{ℕ, ◌≡◌, ◌⊎◌, Bool, true, false, if◌then◌else◌, List, [], ◌∷◌, Option, Some, None}
use Rattle.c_prog.specs.declared.tree.Tree.{Tree}
use Rattle.c_prog.specs.Lines.{SourceTree}
use Rattle.c_prog.specs.Marks.{all_new}
use Rattle.c_prog.specs.Strip.{strip_tree}
use Rattle.c_print.specs.Text.Canonical.{canonical}
use Rattle.plan_types.specs.declared.bound.Atom.{Atom}
use Rattle.plan_types.specs.declared.bound.Bound.{Bound}
use Rattle.plan_types.specs.declared.bound.Bound.TheVariants as bound
use Rattle.report_json.specs.declared.fault.ReportFault.{ReportFault}
use Rattle.report_json.specs.declared.fault.ReportFault.TheVariants as fault
use Rattle.report_json.specs.declared.report.Report.{Report}
use Rattle.report_bind.specs.Binds.{Binds, Refuses}
use Rattle.report_bind.specs.Fits.{Fits}
use Rattle.report_bind.specs.declared.fault.BindFault.{BindFault}
use Rattle.report_bind.specs.declared.fault.BindFault.TheVariants as unbound
use Rattle.report_json.specs.Reading.{SpellsReports, ExplainsReportFault}
use Rattle.first_form.specs.declared.region.Region.{Region}
use Rattle.cfix_core.specs.OneReport.{only_report}
use Rattle.cfix_core.specs.Patched.{IsPatched}
use Rattle.cfix_core.specs.Sources.{IsFirstSource, IsNoFirstSource}
use Rattle.cfix_core.specs.declared.failure.Refusal.{Refusal}
use Rattle.cfix_core.specs.declared.failure.Refusal.TheVariants.{NotJson, Shape, TooMany, Reports, NoSite, StackBroken, NoPath, OtherMode}
use Rattle.cfix_core.specs.declared.failure.Failure.{Failure}
use Rattle.cfix_core.specs.declared.failure.Failure.TheVariants as failure

-- the reports are this one atomicity report, without stacks
pub record IsReport (reports : List ℕ) (report : Report) : Type 0 where
  pub list : List Report
  pub spells : SpellsReports reports list
  pub only : only_report list ≡ Some report

-- the reports are read, and are not of the first form
pub record OtherReports (reports : List ℕ) : Type 0 where
  pub list : List Report
  pub spells : SpellsReports reports list
  pub other : only_report list ≡ None

-- both files are of the first form
pub record Reads (source reports : List ℕ) : Type 0 where
  pub program : SourceTree
  pub is_source : IsFirstSource source program
  pub report : Report
  pub is_report : IsReport reports report

-- p and c lie in one visit
abbrev pub in_one_visit : Bound → Bool
in_one_visit (bound.Atom atom) = atom.same_visit
in_one_visit _ = false

-- the report is bound, and p and c lie in one visit
pub record Visits (program : SourceTree) (report : Report) : Type 0 where
  pub bound : Bound
  pub binds : Binds program report bound
  pub one_visit : in_one_visit bound ≡ true

-- `text` is the canonical text of the program patched for the report, and without its operations
-- that is the program
pub record IsRepaired (program : SourceTree) (report : Report) (text : List ℕ) : Type 0 where
  pub visits : Visits program report
  pub q : Tree
  pub is_patched : IsPatched program.tree (visits.bound ∷ []) q
  pub stripped : strip_tree all_new q ≡ program.tree
  pub is_text : text ≡ canonical q

-- the report is bound, and p and c do not lie in one visit
pub record OtherVisits (program : SourceTree) (report : Report) : Type 0 where
  pub bound : Bound
  pub binds : Binds program report bound
  pub other : in_one_visit bound ≡ false

-- the refusal for the rule that an atomicity report without stacks does not keep; the rules of roots and
-- of orders ask nothing of it
abbrev pub refusal_for : BindFault → Option Refusal
refusal_for (unbound.NoSite role) = Some (NoSite role)
refusal_for (unbound.StackBroken role) = Some (StackBroken role)
refusal_for (unbound.NoPath np nc) = Some (NoPath np nc)
refusal_for _ = None

-- the report does not keep a rule
pub record Breaks (refusal : Refusal) (program : SourceTree) (report : Report) : Type 0 where
  pub fault : BindFault
  pub is_fault : refusal_for fault ≡ Some refusal
  pub refuses : Refuses program report fault

-- what a report is refused for
abbrev pub Unbound : Refusal → SourceTree → Report → Type 0
Unbound refusal program report = Breaks refusal program report ⊎ ((refusal ≡ OtherMode) × OtherVisits program report)

-- the refusal for a fault of the text of the reports; want of memory is none
abbrev pub refusal_of : ReportFault → Option Refusal
refusal_of fault.NoMemory = None
refusal_of fault.BadJson = Some NotJson
refusal_of (fault.Shape which) = Some (Shape which)
refusal_of fault.TooMany = Some TooMany

-- the text of the reports has this fault
pub record Faulty (refusal : Refusal) (reports : List ℕ) : Type 0 where
  pub fault : ReportFault
  pub is_fault : refusal_of fault ≡ Some refusal
  pub explained : ExplainsReportFault reports fault

-- what reports are refused for, whatever the program
abbrev pub Wrong : Refusal → List ℕ → Type 0
Wrong refusal reports = Faulty refusal reports ⊎ ((refusal ≡ Reports) × OtherReports reports)

-- the source is read, and the reports are refused
pub record RefusesReports (refusal : Refusal) (source reports : List ℕ) : Type 0 where
  pub program : SourceTree
  pub is_source : IsFirstSource source program
  pub wrong : Wrong refusal reports

-- both files are read, and the report is not bound as is asked
pub record RefusesReport (refusal : Refusal) (source reports : List ℕ) : Type 0 where
  pub reads : Reads source reports
  pub unbound : Unbound refusal reads.program reads.report

-- why the files are refused: for the source, for the reports, or for what the one report means
abbrev pub RefusedBy : Refusal → List ℕ → List ℕ → Type 0
RefusedBy refusal source reports =
    IsNoFirstSource refusal source ⊎ (RefusesReports refusal source reports ⊎ RefusesReport refusal source reports)

-- nothing refuses the files
pub record IsAccepted (source reports : List ℕ) : Type 0 where
  pub reads : Reads source reports
  pub visits : Visits reads.program reads.report

-- `text` is what is written for the files
pub record Repaired (source reports text : List ℕ) : Type 0 where
  pub reads : Reads source reports
  pub repaired : IsRepaired reads.program reads.report text

-- the failure for a fault of the text of the reports
abbrev pub failure_of : ReportFault → Failure
failure_of fault.NoMemory = failure.NoMemory
failure_of fault.BadJson = failure.Refused NotJson
failure_of (fault.Shape which) = failure.Refused (Shape which)
failure_of fault.TooMany = failure.Refused TooMany

-- the nodes of p and r, where p and c lie in one visit of a node
abbrev pub region_of_atom : Atom → Option Region
region_of_atom atom =
    if atom.same_visit then Some (record { here = atom.np.number; there = atom.r.node.number }) else None

abbrev pub region_of : Bound → Option Region
region_of (bound.Atom atom) = region_of_atom atom
region_of _ = None

-- the report is bound to this, which is one of the program
pub record IsBound (program : SourceTree) (report : Report) (bound : Bound) : Type 0 where
  pub binds : Binds program report bound
  pub fits : Fits program.tree bound

-- the refusal is for a rule of binding
abbrev pub HasRefusal : BindFault → Type 0
HasRefusal (unbound.NotRoot function) = ⊥
HasRefusal unbound.MaybeAccess = ⊥
HasRefusal (unbound.OrderCycle node) = ⊥
HasRefusal _ = Unit {0}

-- the failure for a rule of binding
abbrev pub failure_for : BindFault → Failure
failure_for (unbound.NoSite role) = failure.Refused (NoSite role)
failure_for (unbound.StackBroken role) = failure.Refused (StackBroken role)
failure_for (unbound.NoPath np nc) = failure.Refused (NoPath np nc)
failure_for _ = failure.NoMemory

-- the same for reports that were read
pub record RepairedFor (program : SourceTree) (list : List Report) (text : List ℕ) : Type 0 where
  pub report : Report
  pub only : only_report list ≡ Some report
  pub repaired : IsRepaired program report text

pub record UnboundFor (refusal : Refusal) (program : SourceTree) (list : List Report) : Type 0 where
  pub report : Report
  pub only : only_report list ≡ Some report
  pub unbound : Unbound refusal program report

abbrev pub RefusedWith : Refusal → SourceTree → List Report → Type 0
RefusedWith refusal program list =
    ((refusal ≡ Reports) × (only_report list ≡ None)) ⊎ UnboundFor refusal program list
