use Rattle.std.proofs.Common.{◌≡◌, take, length}
use Rattle.call_graph.specs.Kept.{HasCreated}
use Rattle.call_graph.proofs.created.created.Given as goal

abbrev pub invariant-loop-site : goal.invariant-loop-site
invariant-loop-site l = (length l.set ≡ l.functions) × HasCreated (take l.site-index l.sites) l.set
