use Rattle.std.proofs.Common.{◌+◌, ◌++◌, ap, ◌∙◌}
use Rattle.flow_graph.specs.Flow.{parts_of, size_of, along, outermost}
use Rattle.flow_graph.specs.Table.{ways_of}
use Rattle.flow_graph.proofs.Graphs.{graph_built, graph_fits}
use Rattle.flow_graph.proofs.Within.{body_within}
use Rattle.flow_graph.proofs.build.function_flow.Goals as goal

pub returns : goal.returns
returns c =
    c.in_ok-flow.ensures
    ∙ graph_built c.args.number c.args.first c.args.size (size_of (parts_of c.args.function.now.body)) c.add_all.new.table c.new-outs.result
    (along (parts_of c.args.function.now.body) c.args.first outermost) c.new-outs.ensures c.in_ok-add_all.ensures.first
    (c.in_ok-add_all.ensures.last ∙ ap (λ list. c.args.first + size_of (parts_of list)) c.as_slice-body.ensures)
    (c.in_ok-add_all.ensures.ways
    ∙ ap (λ list. ways_of c.args.first c.new-outs.result ++ along (parts_of list) c.args.first outermost) c.as_slice-body.ensures)

pub of-requires : goal.of-requires
of-requires c =
    graph_fits c.args.first c.args.size (size_of (parts_of c.args.function.now.body)) c.add_all.new.table c.new-outs.result
    (along (parts_of c.args.function.now.body) c.args.first outermost) c.new-outs.ensures c.in_ok-add_all.ensures.first
    (c.in_ok-add_all.ensures.last ∙ ap (λ list. c.args.first + size_of (parts_of list)) c.as_slice-body.ensures)
    (c.in_ok-add_all.ensures.ways
    ∙ ap (λ list. ways_of c.args.first c.new-outs.result ++ along (parts_of list) c.args.first outermost) c.as_slice-body.ensures)
    (body_within c.args.function.now.body c.args.first) c.requires
