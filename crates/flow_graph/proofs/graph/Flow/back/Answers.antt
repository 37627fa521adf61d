use Rattle.std.proofs.Common.{◌≡◌, length, ap, sym, ◌∙◌, subst}
use Rattle.std.specs.List.{Contains}
use Rattle.flow_graph.specs.Flow.{edges_of}
use Rattle.flow_graph.specs.Links.{members}
use Rattle.flow_graph.specs.Paths.{IsBack}
use Rattle.flow_graph.specs.Table.{first_in}
use Rattle.walks.specs.Walks.{IsWalk, targets_in}
use Rattle.flow_graph.proofs.Returns.{back_is, backward_below}
use Rattle.flow_graph.proofs.graph.Flow.back.Goals as goal

pub walk-requires : goal.walk-requires
walk-requires c =
    λ u v here. backward_below c.self.inside.function (first_in c.self.inside.table) c.self.inside.table c.self.inside.size c.self.inside.backward
    c.self.invariant.fits c.self.invariant.backward_is u v
    (subst (λ l. Contains (targets_in l c.self.inside.table.first u) v) c.as_slice.ensures here)

pub returns : goal.returns
returns c =
    let starts : c.in_ok-starts.starts.items ≡ members c.args.to.now c.self.inside.table.first (length c.self.inside.table.outs) =
    c.in_ok-starts.ensures ∙ ap (members c.args.to.now c.self.inside.table.first) c.len-count.ensures in
    let avoiding : IsWalk (targets_in c.as_slice.result.now c.self.inside.table.first) c.args.avoiding.now c.in_ok-starts.starts.items c.self.inside.size c.in_ok-found.found =
    subst (λ a. IsWalk (targets_in c.as_slice.result.now c.self.inside.table.first) a c.in_ok-starts.starts.items c.self.inside.size c.in_ok-found.found)
    c.numbers.ensures c.in_ok-found.ensures in
    let walk = subst (λ l. IsWalk (targets_in l c.self.inside.table.first) c.args.avoiding.now c.in_ok-starts.starts.items c.self.inside.size c.in_ok-found.found)
    c.as_slice.ensures avoiding in
    let into = subst (λ l. IsWalk (targets_in c.self.inside.backward c.self.inside.table.first) c.args.avoiding.now l c.self.inside.size c.in_ok-found.found)
    starts walk in
    subst (λ set. IsBack (edges_of c.args.self.now.ways) c.args.avoiding.now c.args.to.now c.args.self.now.size set) (sym c.of.ensures)
    (subst (λ g. IsBack (edges_of g.ways) c.args.avoiding.now c.args.to.now g.size c.in_ok-found.found) c.self.view_is
    (back_is c.self.inside.function (first_in c.self.inside.table) c.self.inside.table c.self.inside.size c.self.inside.backward
    c.self.invariant.fits c.self.invariant.backward_is c.args.avoiding.now c.args.to.now c.in_ok-found.found into))
