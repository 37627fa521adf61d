use Rattle.std.proofs.Common.{◌≡◌, ◌++◌, map, drop}
use Rattle.c_raw.specs.Files.{more_params_view}
use Rattle.c_names.specs.Declarations.{param_of}
use Rattle.c_names.specs.Files.{param_cells}
use Rattle.c_heads.proofs.cells.push_more.Given as goal

abbrev pub invariant-loop-next : goal.invariant-loop-next
invariant-loop-next l = l.cells ++ map param_cells (map param_of (map (λ y. y.1) (more_params_view (drop l.next-index l.more)))) ≡ l.initial.cells ++ map param_cells (map param_of (map (λ y. y.1) (more_params_view l.more)))
