use Rattle.std.proofs.Common.{◌≡◌, map, take}
use Rattle.flow_graph.specs.Links.{out_targets}
use Rattle.flow_graph.proofs.links.onward.Given as goal

abbrev pub invariant-loop-out : goal.invariant-loop-out
invariant-loop-out l = l.lists ≡ map out_targets (take l.out-index l.outs)
