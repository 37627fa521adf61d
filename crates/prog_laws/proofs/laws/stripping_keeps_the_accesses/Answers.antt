use Rattle.std.proofs.Common.{ap}
use Rattle.c_prog.specs.Accesses.{numbered}
use Rattle.c_strip.proofs.ValidStrip.{strip-touches}
use Rattle.prog_laws.proofs.laws.stripping_keeps_the_accesses.Goals as goal

pub returns : goal.returns
returns c = λ m t node. ap (numbered node 0) (strip-touches m t node.number)
