use Rattle.std.proofs.Common.{ap, ◌∙◌}
use Rattle.flow_graph.specs.Table.{ways_of}
use Rattle.flow_graph.proofs.Tables.{ways_added}
use Rattle.flow_graph.proofs.table.add.Goals as goal

pub returns-clause-ways : goal.returns-clause-ways
returns-clause-ways c = ap (ways_of c.args.table.now.first) c.in_ok-push.ensures.pushed ∙ ways_added _ _ _
