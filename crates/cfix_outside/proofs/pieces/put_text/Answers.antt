use Rattle.std.proofs.Common.{rules, arith}
use Rattle.cfix_outside.proofs.Gains.{gained-next, gained-front}
use Rattle.cfix_outside.proofs.pieces.put_text.Goals as goal

pub returns-in_err-put-clause-front : goal.returns-in_err-put-clause-front
returns-in_err-put-clause-front g c =
    let h = gained-front _ _ _ c.args.text.now c.loop-at.at c.min.result c.loop-at.invariant.0 c.in_err-put.ensures.front in
    search (rules, h)

pub loop-at-preserved : goal.loop-at-preserved
loop-at-preserved g c = (
  gained-next _ _ _ c.args.text.now c.loop-at.at c.min.result c.loop-at.invariant.0 c.in_ok-put.ensures.taken,
  omega (arith, c.loop-at.invariant.1, c.put.ensures.later),
  omega (arith, c.loop-at.invariant.2, c.min.ensures),
)
