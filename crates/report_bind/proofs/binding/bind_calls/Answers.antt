use Rattle.std.proofs.Common.{length, ap, arith}
use Rattle.call_graph.proofs.SiteLaws.{mains-length}
use Rattle.report_bind.specs.Places.{start_of}
use Rattle.report_bind.specs.Stacks.{nodes_of}
use Rattle.report_bind.proofs.Traced.{flows-length, node-exists, function-exists, np-stands, nc-stands, outermost-stands, placed_atom}
use Rattle.report_bind.proofs.binding.bind_calls.Goals as goal

pub is_root-requires : goal.is_root-requires
is_root-requires c =
    let source = c.args.source.now in
    let found = c.args.found.now in
    let stands = outermost-stands source c.args.p.now c.args.c.now found c.requires.traced in
    let exists = function-exists source.tree (start_of found.p.calls found.sites.p.id.node) found.p.function stands in
    omega (arith, exists, mains-length source.tree, ap (λ g. length g.calls.mains) c.requires.own)

pub bind_region-requires-clause-of : goal.bind_region-requires-clause-of
bind_region-requires-clause-of c =
    let source = c.args.source.now in
    let found = c.args.found.now in
    let atom = placed_atom source found in
    let exists = function-exists source.tree atom.np atom.of (np-stands source c.args.p.now c.args.c.now found c.requires.traced) in
    omega (arith, exists, flows-length source.tree, ap (λ g. length g.flows) c.requires.own, ap (λ a. a.of.number) c.in_ok-atom.ensures)

pub bind_region-requires-clause-np : goal.bind_region-requires-clause-np
bind_region-requires-clause-np c =
    let source = c.args.source.now in
    let found = c.args.found.now in
    let atom = placed_atom source found in
    let exists = node-exists (nodes_of source) atom.np atom.of (np-stands source c.args.p.now c.args.c.now found c.requires.traced) in
    omega (arith, exists, ap (λ g. length g.calls.sites) c.requires.own, ap (λ a. a.np.number) c.in_ok-atom.ensures)

pub bind_region-requires-clause-nc : goal.bind_region-requires-clause-nc
bind_region-requires-clause-nc c =
    let source = c.args.source.now in
    let found = c.args.found.now in
    let atom = placed_atom source found in
    let exists = node-exists (nodes_of source) atom.nc atom.of (nc-stands source c.args.p.now c.args.c.now found c.requires.traced) in
    omega (arith, exists, ap (λ g. length g.calls.sites) c.requires.own, ap (λ a. a.nc.number) c.in_ok-atom.ensures)
