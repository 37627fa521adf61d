use Rattle.std.proofs.Common.{get_or, take, ◌++◌, ◌∷◌, [], arith, sym, subst}
use Rattle.std.proofs.lemmas.List.{take_more}
use Rattle.std.proofs.lemmas.List.Elements.{Contains-get_or}
use Rattle.flow_graph.specs.Links.{Gains}
use Rattle.flow_graph.proofs.Turnings.{gains_more}
use Rattle.flow_graph.proofs.backward.add_links.Goals as goal

pub overflow_sub-place : goal.overflow_sub-place
overflow_sub-place c =
    (c.requires (get_or c.args.targets.now c.loop-target.target-index 0) (Contains-get_or c.args.targets.now c.loop-target.target-index 0 c.loop-target-test.true)).0

pub add_link-requires : goal.add_link-requires
add_link-requires c =
    let target = c.requires (get_or c.args.targets.now c.loop-target.target-index 0) (Contains-get_or c.args.targets.now c.loop-target.target-index 0 c.loop-target-test.true) in
    omega (arith, target.0, target.1, c.loop-target.invariant.sized)

pub loop-target-preserved : goal.loop-target-preserved
loop-target-preserved c =
    let target = c.requires (get_or c.args.targets.now c.loop-target.target-index 0) (Contains-get_or c.args.targets.now c.loop-target.target-index 0 c.loop-target-test.true) in
    subst (λ met. Gains c.args.first c.args.lists.now.items c.add_link.new.lists.items c.args.from met)
    (sym (take_more c.args.targets.now c.loop-target.target-index 0 c.loop-target-test.true))
    (subst (λ later. Gains c.args.first c.args.lists.now.items later c.args.from (take c.loop-target.target-index c.args.targets.now ++ get_or c.args.targets.now c.loop-target.target-index 0 ∷ [])) (sym c.in_ok-add_link.ensures)
    (gains_more _ _ _ _ _ _ c.loop-target.invariant target.0 (omega (arith, target.0, target.1, c.loop-target.invariant.sized))))
