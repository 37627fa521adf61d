use Rattle.std.proofs.Common.{◌≡◌, ◌++◌, map, drop}
use Rattle.c_names.specs.Limits.{local_int_cells}
use Rattle.c_scope.specs.Tables.{names_from}
use Rattle.c_raw.specs.Decls.{more_local_ints_view}
use Rattle.c_limits.proofs.cells.push_ints.Given as goal

abbrev pub invariant-loop-next : goal.invariant-loop-next
invariant-loop-next l = l.cells ++ map (local_int_cells (names_from l.names)) (map (λ y. y.1) (more_local_ints_view (drop l.next-index l.more))) ≡ l.initial.cells ++ map (local_int_cells (names_from l.names)) (map (λ y. y.1) (more_local_ints_view l.more))
