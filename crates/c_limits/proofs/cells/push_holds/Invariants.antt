use Rattle.std.proofs.Common.{◌≡◌, ◌++◌, map, drop}
use Rattle.c_names.specs.Limits.{hold_cells}
use Rattle.c_scope.specs.Tables.{names_from}
use Rattle.c_raw.specs.Decls.{more_holds_view}
use Rattle.c_limits.proofs.cells.push_holds.Given as goal

abbrev pub invariant-loop-next : goal.invariant-loop-next
invariant-loop-next l = l.cells ++ map (hold_cells (names_from l.names)) (map (λ y. y.1) (more_holds_view (drop l.next-index l.more))) ≡ l.initial.cells ++ map (hold_cells (names_from l.names)) (map (λ y. y.1) (more_holds_view l.more))
