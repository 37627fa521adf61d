use Rattle.std.proofs.Common.{◌+◌, sym, subst, arith}
use Rattle.regions.specs.Between.{IsGathered}
use Rattle.regions.proofs.Sets.{gathered_more}
use Rattle.regions.proofs.between.gather.Goals as goal

pub loop-number-preserved : goal.loop-number-preserved
loop-number-preserved c =
    subst (IsGathered c.args.ahead.now c.args.behind.now c.args.from.number c.args.to.number (c.loop-number.number + 1)) (sym c.insert_if.ensures)
    (gathered_more c.args.ahead.now c.args.behind.now c.loop-number.set c.args.from.number c.args.to.number c.loop-number.number c.is_between.result
    (omega (arith, c.loop-number-test.true, c.size-size.ensures)) c.is_between.ensures c.loop-number.invariant)
