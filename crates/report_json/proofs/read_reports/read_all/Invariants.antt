use Rattle.std.proofs.Common.{map, take}
use Rattle.serde_json.specs.View.{view}
use Rattle.report_json.specs.Members.{Each}
use Rattle.report_json.specs.Shapes.{IsReport}
use Rattle.report_json.proofs.read_reports.read_all.Given as goal

abbrev pub invariant-loop-number : goal.invariant-loop-number
invariant-loop-number l = Each IsReport (map view (take l.number l.values)) l.reports
