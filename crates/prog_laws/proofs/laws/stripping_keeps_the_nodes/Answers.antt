use Rattle.c_strip.proofs.ValidStrip.{strip-tree-nodes}
use Rattle.prog_laws.proofs.laws.stripping_keeps_the_nodes.Goals as goal

pub returns : goal.returns
returns c = strip-tree-nodes
