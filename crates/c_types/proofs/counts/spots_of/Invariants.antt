use Rattle.std.proofs.Common.{◌≡◌, ◌++◌, map, drop}
use Rattle.c_types.proofs.counts.spots_of.Given as goal

abbrev pub invariant-loop-next : goal.invariant-loop-next
invariant-loop-next l = l.spots ++ map (λ x. x.0) (drop l.next-index l.cells) ≡ map (λ x. x.0) l.cells
