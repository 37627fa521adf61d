use Rattle.std.proofs.Common.{◌≡◌, ◌+◌, ◌++◌, ◌∷◌, [], map, take, slice_get, arith, suc, ap, sym, ◌∙◌}
use Rattle.std.specs.List.{range_with_len}
use Rattle.c_prog.specs.Nodes.{functions_nodes, function_nodes, tree_nodes}
use Rattle.flow_graph.specs.Flow.{graph_of}
use Rattle.flow_graph.proofs.NodeCounts.{size_is_nodes}
use Rattle.flow_graph.proofs.Graphs.{nodes_before, nodes_more, function_got, graph_is, flows_more}
use Rattle.flow_graph.proofs.build.flows.Goals as goal

pub function_flow-requires : goal.function_flow-requires
function_flow-requires c =
    let got = function_got c.as_slice-functions.result.now c.loop-function.function-index c.function-item.result c.loop-function-test.true c.function-item.is in
    let before = nodes_before c.as_slice-functions.result.now c.loop-function.function-index c.function-item.result got in
    omega (arith, before, c.loop-function.invariant.1, size_is_nodes c.function-item.result.body, ap functions_nodes c.as_slice-functions.ensures, c.node_count-size.ensures, ap tree_nodes c.tree.ensures.same)

pub function_size-first-requires : goal.function_size-first-requires
function_size-first-requires c =
    let got = function_got c.as_slice-functions.result.now c.loop-function.function-index c.function-item.result c.loop-function-test.true c.function-item.is in
    let before = nodes_before c.as_slice-functions.result.now c.loop-function.function-index c.function-item.result got in
    omega (arith, before, ap functions_nodes c.as_slice-functions.ensures, c.tree.ensures.valid.few_nodes)

pub overflow_add-first : goal.overflow_add-first
overflow_add-first c =
    let got = function_got c.as_slice-functions.result.now c.loop-function.function-index c.function-item.result c.loop-function-test.true c.function-item.is in
    let before = nodes_before c.as_slice-functions.result.now c.loop-function.function-index c.function-item.result got in
    omega (arith, before, c.loop-function.invariant.1, c.function_size-first.ensures, ap functions_nodes c.as_slice-functions.ensures, c.tree.ensures.valid.few_nodes)

pub loop-function-preserved : goal.loop-function-preserved
loop-function-preserved c =
    let got = function_got c.as_slice-functions.result.now c.loop-function.function-index c.function-item.result c.loop-function-test.true c.function-item.is in
    let more : c.loop-function.function-index + 1 ≡ suc c.loop-function.function-index = omega arith in
    let nodes : functions_nodes (take (c.loop-function.function-index + 1) c.as_slice-functions.result.now) ≡ functions_nodes (take c.loop-function.function-index c.as_slice-functions.result.now) + function_nodes c.function-item.result =
    ap (λ n. functions_nodes (take n c.as_slice-functions.result.now)) more ∙ nodes_more c.as_slice-functions.result.now c.loop-function.function-index c.function-item.result got in
    let all = c.as_slice-functions.ensures ∙ ap (λ tree. tree.functions) c.tree.ensures.same in (
      omega (arith, c.loop-function.invariant.0),
      omega (arith, nodes, c.loop-function.invariant.1, c.function_size-first.ensures),
      c.in_ok-push.ensures.pushed
          ∙ ap (λ flows. flows ++ c.in_ok-flow.flow ∷ []) c.loop-function.invariant.2
          ∙ ap (λ flow. map (graph_of c.args.program.now) (range_with_len 0 c.loop-function.function-index) ++ flow ∷ [])
          (c.in_ok-flow.ensures
          ∙ graph_is c.args.program.now c.loop-function.number c.loop-function.first c.node_count-size.result c.function-item.result
          c.as_slice-functions.result.now all
          (ap (λ n. slice_get c.as_slice-functions.result.now n) c.loop-function.invariant.0 ∙ got)
          (c.loop-function.invariant.1 ∙ ap (λ n. functions_nodes (take n c.as_slice-functions.result.now)) (sym c.loop-function.invariant.0))
          c.node_count-size.ensures
          ∙ ap (graph_of c.args.program.now) c.loop-function.invariant.0)
          ∙ sym (flows_more (graph_of c.args.program.now) c.loop-function.function-index),
    )
