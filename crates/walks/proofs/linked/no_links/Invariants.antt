use Rattle.std.proofs.Common.{◌≡◌, replicate, []}
use Rattle.walks.proofs.linked.no_links.Given as goal

abbrev pub invariant-loop : goal.invariant-loop
invariant-loop l = l.lists.items ≡ replicate l.counter []
