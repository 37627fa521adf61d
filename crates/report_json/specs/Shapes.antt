-- The shape of a report.
use Rattle.std.specs.Prelude.{◌≡◌, ℕ, List, codes, Some}
use Rattle.serde_json.specs.Data.{Data}
use Rattle.report_json.specs.declared.report.Report.{Report}
use Rattle.report_json.specs.declared.report.Report.TheVariants.{Atomicity, AllBefore, FirstBefore}
use Rattle.report_json.specs.Members.{text_of}
use Rattle.report_json.specs.Sites.{HasSite}

abbrev pub HasKind : Data → List ℕ → Type 0
HasKind value kind = text_of (codes "kind") value ≡ Some kind

-- an object is a report: its kind, and the sites of that kind; other members are passed over
abbrev pub IsReport : Data → Report → Type 0
IsReport value (Atomicity p c r) =
    HasKind value (codes "atomicity") × HasSite value (codes "p") p × HasSite value (codes "c") c × HasSite value (codes "r") r
IsReport value (AllBefore a b) = HasKind value (codes "all_before") × HasSite value (codes "a") a × HasSite value (codes "b") b
IsReport value (FirstBefore a b) = HasKind value (codes "first_before") × HasSite value (codes "a") a × HasSite value (codes "b") b

-- a value that is no report
abbrev pub IsMisshapen : Data → Type 0
IsMisshapen value = (report : Report) → IsReport value report → ⊥
