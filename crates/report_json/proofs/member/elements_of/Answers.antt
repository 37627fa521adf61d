use Rattle.std.proofs.Common.{map, ap, ◌∙◌, Some}
use Rattle.serde_json.specs.Find.{as_array}
use Rattle.serde_json.specs.View.{view}
use Rattle.report_json.proofs.Elements.{elements_seen}
use Rattle.report_json.proofs.member.elements_of.Goals as goal

pub returns-in-Some : goal.returns-in-Some
returns-in-Some c =
    ap (λ z. Some (map view z)) c.as_slice.ensures.value ∙ elements_seen (map view c.in-Some.values.now.items) (as_array (view c.args.value.now)) c.in-Some.ensures
