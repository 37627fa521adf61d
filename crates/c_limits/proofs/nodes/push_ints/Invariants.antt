use Rattle.std.proofs.Common.{◌≡◌, ◌++◌, map, drop}
use Rattle.c_names.specs.Limits.{local_int_spot}
use Rattle.c_raw.specs.Decls.{more_local_ints_view}
use Rattle.c_limits.proofs.nodes.push_ints.Given as goal

abbrev pub invariant-loop-next : goal.invariant-loop-next
invariant-loop-next l = l.spots ++ map local_int_spot (map (λ y. y.1) (more_local_ints_view (drop l.next-index l.more))) ≡ l.initial.spots ++ map local_int_spot (map (λ y. y.1) (more_local_ints_view l.more))
