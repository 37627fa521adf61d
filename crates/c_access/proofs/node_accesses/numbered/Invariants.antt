use Rattle.std.proofs.Common.{◌≡◌, ◌++◌, drop}
use Rattle.c_prog.specs.Accesses.{numbered}
use Rattle.c_access.proofs.node_accesses.numbered.Given as goal

abbrev pub invariant-loop-touch : goal.invariant-loop-touch
invariant-loop-touch l =
    (l.index ≡ l.touch-index) × (l.items ++ numbered l.node l.index (drop l.touch-index l.touches) ≡ numbered l.node 0 l.touches)
