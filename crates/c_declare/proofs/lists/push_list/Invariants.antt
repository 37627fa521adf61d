use Rattle.std.proofs.Common.{◌≡◌, ◌++◌, map, drop}
use Rattle.c_scope.specs.Tables.{names_from}
use Rattle.c_declare.proofs.lists.push_list.Given as goal

abbrev pub invariant-loop-next : goal.invariant-loop-next
invariant-loop-next g l = l.cells ++ map (g.D.Declarator.cells (names_from l.names)) (map (λ y. y.1) (drop l.next-index l.more)) ≡ l.initial.cells ++ map (g.D.Declarator.cells (names_from l.names)) (map (λ y. y.1) l.more)
