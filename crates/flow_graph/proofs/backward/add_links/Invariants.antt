use Rattle.std.proofs.Common.{take}
use Rattle.flow_graph.specs.Links.{Gains}
use Rattle.flow_graph.proofs.backward.add_links.Given as goal

abbrev pub invariant-loop-target : goal.invariant-loop-target
invariant-loop-target l = Gains l.first l.initial.lists.items l.lists.items l.from (take l.target-index l.targets)
