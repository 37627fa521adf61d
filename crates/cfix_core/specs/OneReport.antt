-- The reports of the first form: exactly one atomicity report, without stacks.
use Rattle.std.specs.Prelude.{Bool, false, ◌&&◌, List, [], ◌∷◌, Option, Some, None, if◌then◌else◌}
use Rattle.report_bind.specs.Binds.{is_empty}
use Rattle.report_json.specs.declared.report.Report.{Report}
use Rattle.report_json.specs.declared.report.Report.TheVariants.{Atomicity}

-- an atomicity report without stacks
abbrev pub is_bare : Report → Bool
is_bare (Atomicity p c r) = is_empty p.stack && (is_empty c.stack && is_empty r.stack)
is_bare _ = false

abbrev pub if_bare : Report → Option Report
if_bare report = if is_bare report then Some report else None

-- the one report
abbrev pub only_report : List Report → Option Report
only_report (report ∷ []) = if_bare report
only_report _ = None
