use Rattle.std.proofs.Common.{◌≡◌, map, drop}
use Rattle.c_grammar.specs.Marks.{each}
use Rattle.c_names.specs.Faults.{noted_all}
use Rattle.c_scope.specs.Tables.{names_from}
use Rattle.c_declare.proofs.lists.note_list.Given as goal

abbrev pub invariant-loop-next : goal.invariant-loop-next
invariant-loop-next g l = noted_all l.least (each (g.D.Declarator.faults (names_from l.names)) (map (λ y. y.1) (drop l.next-index l.more))) ≡ noted_all l.initial.least (each (g.D.Declarator.faults (names_from l.names)) (map (λ y. y.1) l.more))
