use Rattle.std.proofs.Common.{◌≡◌, ◌++◌, drop}
use Rattle.call_graph.specs.Sites.{sites_from}
use Rattle.call_graph.proofs.sites.sites.Given as goal

abbrev pub invariant-loop-function : goal.invariant-loop-function
invariant-loop-function l =
    (l.number ≡ l.function-index) × (l.sites ++ sites_from l.number (drop l.function-index l.functions) ≡ sites_from 0 l.functions)
