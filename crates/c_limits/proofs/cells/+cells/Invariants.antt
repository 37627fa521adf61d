use Rattle.std.proofs.Common.{◌≡◌, ◌++◌, drop}
use Rattle.c_names.specs.Limits.{items_cells}
use Rattle.c_scope.specs.Tables.{names_from}
use Rattle.c_raw.specs.Stmts.{items_view}
use Rattle.c_limits.proofs.cells.+cells.Given as goal

abbrev pub invariant-push_cells-loop-raw : goal.invariant-push_cells-loop-raw
invariant-push_cells-loop-raw l = l.cells ++ items_cells (names_from l.names) (items_view (drop l.raw-index l.list)) ≡ l.initial.cells ++ items_cells (names_from l.names) (items_view l.list)
