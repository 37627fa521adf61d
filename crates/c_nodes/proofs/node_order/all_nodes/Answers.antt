-- The nodes of a valid program are few, and so are the accesses of each.
use Rattle.std.proofs.Common.{ap, ◌∙◌}
use Rattle.c_prog.specs.Order.{functions_order}
use Rattle.c_nodes.proofs.Numberings.{nodes-few}
use Rattle.c_nodes.proofs.node_order.all_nodes.Goals as goal

pub returns-clause-count : goal.returns-clause-count
returns-clause-count c =
    (nodes-few c.tree-tree.result.now c.tree-tree.ensures.valid c.in_ok-nodes.nodes.items (c.in_ok-nodes.ensures ∙ ap functions_order c.as_slice.ensures)).0

pub returns-clause-few : goal.returns-clause-few
returns-clause-few c =
    (nodes-few c.tree-tree.result.now c.tree-tree.ensures.valid c.in_ok-nodes.nodes.items (c.in_ok-nodes.ensures ∙ ap functions_order c.as_slice.ensures)).1
