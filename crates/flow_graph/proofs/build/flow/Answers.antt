use Rattle.std.proofs.Common.{◌≡◌, ◌<◌, length, arith, ap, ◌∙◌}
use Rattle.c_prog.specs.Nodes.{functions_nodes, tree_nodes}
use Rattle.flow_graph.proofs.NodeCounts.{size_is_nodes}
use Rattle.flow_graph.proofs.Graphs.{nodes_before, nodes_taken, function_got, graph_is}
use Rattle.flow_graph.proofs.build.flow.Goals as goal

pub functions_size-first-requires : goal.functions_size-first-requires
functions_size-first-requires c =
    omega (arith, nodes_taken c.as_slice-functions.result.now c.args.of.number, ap functions_nodes c.as_slice-functions.ensures, c.tree.ensures.valid.few_nodes)

pub function_flow-requires : goal.function_flow-requires
function_flow-requires c =
    let all : length c.as_slice-functions.result.now ≡ length c.args.program.now.functions =
    ap length c.as_slice-functions.ensures ∙ ap (λ tree. length tree.functions) c.tree.ensures.same in
    let within : c.args.of.number < length c.as_slice-functions.result.now = omega (arith, all, c.requires) in
    let before = nodes_before c.as_slice-functions.result.now c.args.of.number c.index-functions-place.result
    (function_got c.as_slice-functions.result.now c.args.of.number c.index-functions-place.result within c.index-functions-place.is) in
    omega (
      arith,
      before,
      c.functions_size-first.ensures,
      size_is_nodes c.index-functions-place.result.body,
      ap functions_nodes c.as_slice-functions.ensures,
      c.node_count.ensures,
      ap tree_nodes c.tree.ensures.same,
    )

pub returns : goal.returns
returns c =
    let all : length c.as_slice-functions.result.now ≡ length c.args.program.now.functions =
    ap length c.as_slice-functions.ensures ∙ ap (λ tree. length tree.functions) c.tree.ensures.same in
    let within : c.args.of.number < length c.as_slice-functions.result.now = omega (arith, all, c.requires) in
    c.in_ok-flow.ensures
    ∙ graph_is c.args.program.now c.args.of.number c.functions_size-first.result c.node_count.result c.index-functions-place.result
    c.as_slice-functions.result.now (c.as_slice-functions.ensures ∙ ap (λ tree. tree.functions) c.tree.ensures.same)
    (function_got c.as_slice-functions.result.now c.args.of.number c.index-functions-place.result within c.index-functions-place.is)
    c.functions_size-first.ensures c.node_count.ensures
