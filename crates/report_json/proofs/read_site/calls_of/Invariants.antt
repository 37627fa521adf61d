use Rattle.std.proofs.Common.{map, take}
use Rattle.serde_json.specs.View.{view}
use Rattle.report_json.specs.Members.{Each}
use Rattle.report_json.specs.Sites.{IsCallSite}
use Rattle.report_json.proofs.read_site.calls_of.Given as goal

abbrev pub invariant-loop-value : goal.invariant-loop-value
invariant-loop-value l = Each IsCallSite (map view (take l.value-index l.values)) l.calls
