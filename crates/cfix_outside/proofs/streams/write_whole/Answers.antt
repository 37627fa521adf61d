use Rattle.std.proofs.Common.{arith}
use Rattle.std.proofs.lemmas.Grind.{common_steps}
use Rattle.cfix_outside.proofs.Known.{appends-on}
use Rattle.cfix_outside.proofs.streams.write_whole.Goals as goal

pub loop-rest-preserved : goal.loop-rest-preserved
loop-rest-preserved g c = appends-on _ _ _ c.args.piece.now c.loop-rest.rest.now _ c.in-Ok.count c.loop-rest.invariant.0 c.loop-rest.invariant.1 c.loop-rest.invariant.2 c.in-Ok.ensures.bound (grind (arith, common_steps)) c.in-Ok.ensures.bytes
