use Rattle.std.proofs.Common.{◌≡◌, map, drop}
use Rattle.c_raw.specs.Files.{more_params_view}
use Rattle.c_grammar.specs.Marks.{each}
use Rattle.c_names.specs.Declarations.{param_of}
use Rattle.c_names.specs.Faults.{noted_all}
use Rattle.c_names.specs.Files.{prototype_param_faults}
use Rattle.c_heads.proofs.prototype.note_more_params.Given as goal

abbrev pub invariant-loop-next : goal.invariant-loop-next
invariant-loop-next l = noted_all l.least (each prototype_param_faults (map param_of (map (λ y. y.1) (more_params_view (drop l.next-index l.more))))) ≡ noted_all l.initial.least (each prototype_param_faults (map param_of (map (λ y. y.1) (more_params_view l.more))))
