use Rattle.std.proofs.Common.{◌≡◌, ◌++◌, map, drop}
use Rattle.c_names.specs.Limits.{loop_int_cells}
use Rattle.c_raw.specs.Decls.{more_loop_ints_view}
use Rattle.c_limits.proofs.cells.push_loop_ints.Given as goal

abbrev pub invariant-loop-next : goal.invariant-loop-next
invariant-loop-next l = l.cells ++ map loop_int_cells (map (λ y. y.1) (more_loop_ints_view (drop l.next-index l.more))) ≡ l.initial.cells ++ map loop_int_cells (map (λ y. y.1) (more_loop_ints_view l.more))
