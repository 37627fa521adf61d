use Rattle.std.proofs.Common.{◌≡◌, ◌++◌, map, drop}
use Rattle.c_names.specs.Limits.{hold_spot}
use Rattle.c_raw.specs.Decls.{more_holds_view}
use Rattle.c_limits.proofs.nodes.push_holds.Given as goal

abbrev pub invariant-loop-next : goal.invariant-loop-next
invariant-loop-next l = l.spots ++ map hold_spot (map (λ y. y.1) (more_holds_view (drop l.next-index l.more))) ≡ l.initial.spots ++ map hold_spot (map (λ y. y.1) (more_holds_view l.more))
