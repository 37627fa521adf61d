use Rattle.std.proofs.Common.{◌≡◌}
use Rattle.flow_graph.specs.Links.{members}
use Rattle.flow_graph.proofs.choice.members.Given as goal

abbrev pub invariant-loop-at : goal.invariant-loop-at
invariant-loop-at l = l.numbers.items ≡ members l.set l.first l.at
