use Rattle.std.proofs.Common.{◌≡◌, drop}
use Rattle.c_names.specs.Faults.{noted_all}
use Rattle.c_names.specs.Limits.{cells_faults}
use Rattle.c_limits.proofs.limits.note_cells.Given as goal

abbrev pub invariant-loop-next : goal.invariant-loop-next
invariant-loop-next l = noted_all l.least (cells_faults l.left (drop l.next-index l.cells)) ≡ noted_all l.initial.least (cells_faults l.limit l.cells)
