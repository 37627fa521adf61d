use Rattle.std.proofs.Common.{length, inl, inr, refl, sym, ap, ◌∙◌, slice_get, arith}
use Rattle.call_graph.proofs.SiteLaws.{sites-length}
use Rattle.report_bind.proofs.Traced.{flow-at}
use Rattle.report_bind.proofs.Rules.{has-region, no-region}
use Rattle.report_bind.proofs.binding.bind_region.Goals as goal

pub region-requires-clause-np : goal.region-requires-clause-np
region-requires-clause-np c =
    let tree = c.args.source.now.tree in
    let flow =
    flow-at tree c.args.atom.of.number c.at-flow.result.now
    (ap (λ g. slice_get g.flows c.args.atom.of.number) (sym c.requires.own) ∙ c.at-flow.ensures) in
    omega (arith, c.requires.np, ap (λ g. length g.calls.sites) c.requires.own, sites-length tree, ap (λ f. f.size) flow)

pub region-requires-clause-nc : goal.region-requires-clause-nc
region-requires-clause-nc c =
    let tree = c.args.source.now.tree in
    let flow =
    flow-at tree c.args.atom.of.number c.at-flow.result.now
    (ap (λ g. slice_get g.flows c.args.atom.of.number) (sym c.requires.own) ∙ c.at-flow.ensures) in
    omega (arith, c.requires.nc, ap (λ g. length g.calls.sites) c.requires.own, sites-length tree, ap (λ f. f.size) flow)

pub returns-then-contains : goal.returns-then-contains
returns-then-contains c =
    let tree = c.args.source.now.tree in
    let flow =
    flow-at tree c.args.atom.of.number c.at-flow.result.now
    (ap (λ g. slice_get g.flows c.args.atom.of.number) (sym c.requires.own) ∙ c.at-flow.ensures) in
    inr (inl (refl, has-region tree c.args.atom c.at-flow.result.now c.in_ok-region.region flow c.in_ok-region.ensures (sym c.contains.ensures ∙ c.if-contains.true)))

pub returns-else-contains : goal.returns-else-contains
returns-else-contains c =
    let tree = c.args.source.now.tree in
    let flow =
    flow-at tree c.args.atom.of.number c.at-flow.result.now
    (ap (λ g. slice_get g.flows c.args.atom.of.number) (sym c.requires.own) ∙ c.at-flow.ensures) in
    inr (inr (refl, no-region tree c.args.atom c.at-flow.result.now c.in_ok-region.region flow c.in_ok-region.ensures (sym c.contains.ensures ∙ c.if-contains.false)))
