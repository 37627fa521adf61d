use Rattle.std.proofs.Common.{arith, sym, subst}
use Rattle.std.proofs.lemmas.List.{take_more}
use Rattle.std.proofs.lemmas.List.Elements.{Contains-get_or}
use Rattle.walks.specs.Walks.{Grows}
use Rattle.walks.proofs.Turns.{grows_more}
use Rattle.walks.proofs.walking.follow.Goals as goal

pub meet-requires : goal.meet-requires
meet-requires c =
    omega (arith, c.loop-target.invariant.size, c.requires _ (Contains-get_or c.args.targets.now c.loop-target.target-index 0 c.loop-target-test.true))

pub loop-target-preserved : goal.loop-target-preserved
loop-target-preserved c =
    subst (λ met. Grows c.args.avoiding.now met c.args.found.now c.args.work.now.items c.meet.new.found c.meet.new.work.items)
    (sym (take_more c.args.targets.now c.loop-target.target-index 0 c.loop-target-test.true))
    (grows_more _ _ _ _ _ _ _ _ _ c.loop-target.invariant c.in_ok-meet.ensures)
