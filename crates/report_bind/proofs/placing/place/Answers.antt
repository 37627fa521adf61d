use Rattle.std.proofs.Common.{◌≡◌, length, drop, sym, ap, ◌∙◌, arith}
use Rattle.call_graph.specs.Calls.{function_of}
use Rattle.report_bind.specs.Places.{common, start_of, visit_by}
use Rattle.report_bind.specs.Stacks.{nodes_of}
use Rattle.report_bind.proofs.CallPaths.{common-is}
use Rattle.report_bind.proofs.Kept.{some-same}
use Rattle.report_bind.proofs.Traced.{node-exists, np-stands, site-at, visit-is, placed, placed_atom}
use Rattle.report_bind.proofs.placing.place.Goals as goal

pub rest_of-requires : goal.rest_of-requires
rest_of-requires c =
    let found = c.args.found.now in
    let count : c.common-count.result ≡ common found.p.calls found.c.calls =
    c.common-count.ensures ∙ ap (λ x. common x c.as_slice-2.result.now) c.as_slice.ensures ∙ ap (common found.p.calls) c.as_slice-2.ensures in
    omega (arith, count, (common-is found.p.calls found.c.calls).below)

pub rest_of-requires-2 : goal.rest_of-requires-2
rest_of-requires-2 c =
    let found = c.args.found.now in
    let count : c.common-count.result ≡ common found.p.calls found.c.calls =
    c.common-count.ensures ∙ ap (λ x. common x c.as_slice-2.result.now) c.as_slice.ensures ∙ ap (common found.p.calls) c.as_slice-2.ensures in
    omega (arith, count, (common-is found.p.calls found.c.calls).below_other)

pub function_of-requires : goal.function_of-requires
function_of-requires c =
    let source = c.args.source.now in
    let found = c.args.found.now in
    let count : c.common-count.result ≡ common found.p.calls found.c.calls =
    c.common-count.ensures ∙ ap (λ x. common x c.as_slice-2.result.now) c.as_slice.ensures ∙ ap (common found.p.calls) c.as_slice-2.ensures in
    let p_path : c.in_ok-p_path.p_path ≡ (placed_atom source found).p_path = c.in_ok-p_path.ensures ∙ ap (λ k. drop k found.p.calls) count in
    let np : c.start_of-np.result ≡ (placed_atom source found).np =
    c.start_of-np.ensures ∙ ap (λ x. start_of x found.sites.p.id.node) (c.as_slice-3.ensures ∙ p_path) in
    let stands = np-stands source c.args.p.now c.args.c.now found c.requires.traced in
    let exists = node-exists (nodes_of source) (placed_atom source found).np (placed_atom source found).of stands in
    omega (arith, exists, ap (λ n. n.number) np, ap (λ g. length g.sites) c.requires.own)

pub returns : goal.returns
returns c =
    let source = c.args.source.now in
    let found = c.args.found.now in
    let front = common found.p.calls found.c.calls in
    let count : c.common-count.result ≡ front =
    c.common-count.ensures ∙ ap (λ x. common x c.as_slice-2.result.now) c.as_slice.ensures ∙ ap (common found.p.calls) c.as_slice-2.ensures in
    let p_path : c.in_ok-p_path.p_path ≡ drop front found.p.calls = c.in_ok-p_path.ensures ∙ ap (λ k. drop k found.p.calls) count in
    let c_path : c.in_ok-c_path.c_path ≡ drop front found.c.calls = c.in_ok-c_path.ensures ∙ ap (λ k. drop k found.c.calls) count in
    let np : c.start_of-np.result ≡ (placed_atom source found).np =
    c.start_of-np.ensures ∙ ap (λ x. start_of x found.sites.p.id.node) (c.as_slice-3.ensures ∙ p_path) in
    let nc : c.start_of-nc.result ≡ (placed_atom source found).nc =
    c.start_of-nc.ensures ∙ ap (λ x. start_of x found.sites.c.id.node) (c.as_slice-4.ensures ∙ c_path) in
    let stands = np-stands source c.args.p.now c.args.c.now found c.requires.traced in
    let of : c.function_of.result ≡ (placed_atom source found).of =
    some-same c.function_of.result (placed_atom source found).of
    (sym c.function_of.ensures ∙ ap (λ g. function_of g.sites c.start_of-np.result) c.requires.own ∙ ap (function_of (nodes_of source)) np ∙ stands) in
    let same : c.in_one_visit-same_visit.result ≡ visit_by (drop front found.p.calls) found.sites.p (drop front found.c.calls) found.sites.c =
    c.in_one_visit-same_visit.ensures
    ∙ ap (λ x. visit_by x found.sites.p c.as_slice-6.result.now found.sites.c) (c.as_slice-5.ensures ∙ p_path)
    ∙ ap (λ x. visit_by (drop front found.p.calls) found.sites.p x found.sites.c) (c.as_slice-6.ensures ∙ c_path) in
    let visit =
    same
    ∙ visit-is source.tree (drop front found.p.calls) found.sites.p (drop front found.c.calls) found.sites.c
    (site-at source c.args.p.now found.sites.p c.requires.traced.sites.is_p) (site-at source c.args.c.now found.sites.c c.requires.traced.sites.is_c) in
    placed source.tree found.sites found.p.function found.p.calls found.c.calls c.function_of.result c.start_of-np.result c.start_of-nc.result
    c.in_ok-p_path.p_path c.in_ok-c_path.c_path c.in_one_visit-same_visit.result of np nc p_path c_path visit
