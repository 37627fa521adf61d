use Rattle.std.proofs.Common.{◌≡◌, ◌++◌, drop}
use Rattle.c_names.specs.Limits.{items_nodes}
use Rattle.c_raw.specs.Stmts.{items_view}
use Rattle.c_limits.proofs.nodes.+nodes.Given as goal

abbrev pub invariant-push_nodes-loop-raw : goal.invariant-push_nodes-loop-raw
invariant-push_nodes-loop-raw l = l.spots ++ items_nodes (items_view (drop l.raw-index l.list)) ≡ l.initial.spots ++ items_nodes (items_view l.list)
