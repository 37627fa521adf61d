use Rattle.std.proofs.Common.{rules, ◌≡◌, ap, ◌∙◌, arith}
use Rattle.flow_graph.specs.Flow.{graphs_of}
use Rattle.step_tables.proofs.Lookups.{flow_found, flow_count}
use Rattle.step_tables.proofs.tables.Tables.flow.Goals as goal

pub at-requires : goal.at-requires
at-requires c =
    let flows : c.self.inside.flows ≡ graphs_of c.args.self.now = c.self.invariant.flows ∙ ap graphs_of c.self.view_is in
    omega (arith, c.requires, flow_count c.args.self.now c.self.inside.flows flows)

pub returns : goal.returns
returns c =
    let flows : c.self.inside.flows ≡ graphs_of c.args.self.now = c.self.invariant.flows ∙ ap graphs_of c.self.view_is in
    flow_found c.args.self.now c.self.inside.flows c.args.function.number c.at.result.now flows c.requires (search rules)
