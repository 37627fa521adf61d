use Rattle.std.proofs.Common.{◌≡◌, ◌++◌, drop, map}
use Rattle.c_prog.specs.Order.{order_of}
use Rattle.call_graph.specs.Sites.{site}
use Rattle.call_graph.proofs.sites.+add.Given as goal

abbrev pub invariant-add_stmts-loop-stmt : goal.invariant-add_stmts-loop-stmt
invariant-add_stmts-loop-stmt l =
    l.sites ++ map (site l.of.number) (order_of (drop l.stmt-index l.list)) ≡ l.initial.sites ++ map (site l.of.number) (order_of l.list)
