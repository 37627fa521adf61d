use Rattle.std.proofs.Common.{◌≡◌, map, length, arith, ap, ◌∙◌, subst}
use Rattle.std.specs.List.{Contains}
use Rattle.flow_graph.specs.Links.{out_targets, listed}
use Rattle.flow_graph.specs.Table.{first_in}
use Rattle.flow_graph.proofs.Returns.{listed_within}
use Rattle.flow_graph.proofs.graph.Flow.of.Goals as goal

pub turned-requires-clause-within : goal.turned-requires-clause-within
turned-requires-clause-within c =
    let lists : c.as_slice-2.result.now ≡ map out_targets c.args.table.outs = c.as_slice-2.ensures ∙ c.in_ok-onward.ensures ∙ ap (map out_targets) c.as_slice.ensures in
    λ place v here.
    let within = listed_within c.args.function (first_in c.args.table) c.args.table c.args.size place v c.requires
    (subst (λ l. Contains (listed l place) v) lists here) in
    (within.0, omega (arith, within.1, ap length lists))
