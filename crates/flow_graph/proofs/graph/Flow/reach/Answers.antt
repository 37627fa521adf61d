use Rattle.std.proofs.Common.{◌≡◌, ◌∷◌, ◌++◌, [], map, ap, sym, ◌∙◌, subst}
use Rattle.std.specs.List.{Contains}
use Rattle.flow_graph.specs.Flow.{edges_of}
use Rattle.flow_graph.specs.Links.{out_targets}
use Rattle.flow_graph.specs.Paths.{IsReach}
use Rattle.flow_graph.specs.Table.{first_in}
use Rattle.walks.specs.Walks.{IsWalk, targets_in}
use Rattle.flow_graph.proofs.Joins.{reach_is, onward_within}
use Rattle.flow_graph.proofs.graph.Flow.reach.Goals as goal

pub walk-requires : goal.walk-requires
walk-requires c =
    let lists : c.as_slice.result.now ≡ map out_targets c.self.inside.table.outs = c.as_slice.ensures ∙ c.self.invariant.forward_is in
    λ u v here. onward_within c.self.inside.function (first_in c.self.inside.table) c.self.inside.table c.self.inside.size u v c.self.invariant.fits
    (subst (λ l. Contains (targets_in l c.self.inside.table.first u) v) lists here)

pub returns : goal.returns
returns c =
    let lists : c.as_slice.result.now ≡ map out_targets c.self.inside.table.outs = c.as_slice.ensures ∙ c.self.invariant.forward_is in
    let starts : c.push.new.self.items ≡ c.args.from.number ∷ [] =
    c.in_ok-push.ensures.items ∙ ap (λ l. l ++ c.args.from.number ∷ []) c.new-starts.ensures.items in
    let avoiding : IsWalk (targets_in c.as_slice.result.now c.self.inside.table.first) c.args.avoiding.now c.push.new.self.items c.self.inside.size c.in_ok-set.set =
    subst (λ a. IsWalk (targets_in c.as_slice.result.now c.self.inside.table.first) a c.push.new.self.items c.self.inside.size c.in_ok-set.set)
    c.numbers.ensures c.in_ok-set.ensures in
    let walk = subst (λ l. IsWalk (targets_in l c.self.inside.table.first) c.args.avoiding.now c.push.new.self.items c.self.inside.size c.in_ok-set.set)
    lists avoiding in
    let from = subst (λ l. IsWalk (targets_in (map out_targets c.self.inside.table.outs) c.self.inside.table.first) c.args.avoiding.now l c.self.inside.size c.in_ok-set.set)
    starts walk in
    subst (λ set. IsReach (edges_of c.args.self.now.ways) c.args.avoiding.now c.args.from.number c.args.self.now.size set) (sym c.of.ensures)
    (subst (λ g. IsReach (edges_of g.ways) c.args.avoiding.now c.args.from.number g.size c.in_ok-set.set) c.self.view_is
    (reach_is c.self.inside.function (first_in c.self.inside.table) c.self.inside.table c.args.avoiding.now c.in_ok-set.set c.args.from.number c.self.inside.size from))
