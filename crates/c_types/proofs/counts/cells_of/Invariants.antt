use Rattle.std.proofs.Common.{◌≡◌, ◌++◌, map, drop}
use Rattle.c_raw.specs.Files.{top_view}
use Rattle.c_grammar.specs.Marks.{each}
use Rattle.c_names.specs.Files.{top_cells}
use Rattle.c_scope.specs.Tables.{names_from}
use Rattle.c_types.proofs.counts.cells_of.Given as goal

abbrev pub invariant-loop-top : goal.invariant-loop-top
invariant-loop-top l = l.cells ++ each (top_cells (names_from l.names)) (map top_view (drop l.top-index l.tops)) ≡ each (top_cells (names_from l.names)) (map top_view l.tops)
