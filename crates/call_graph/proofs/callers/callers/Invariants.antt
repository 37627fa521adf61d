use Rattle.std.proofs.Common.{◌≡◌, take, length}
use Rattle.call_graph.specs.Kept.{HaveCallers}
use Rattle.call_graph.proofs.callers.callers.Given as goal

abbrev pub invariant-loop-site : goal.invariant-loop-site
invariant-loop-site l =
    (l.number ≡ l.site-index) × (length l.lists.items ≡ l.functions) × HaveCallers (take l.site-index l.sites) l.lists.items
