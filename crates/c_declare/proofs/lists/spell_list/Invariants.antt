use Rattle.std.proofs.Common.{◌≡◌, ◌++◌, true, map, drop}
use Rattle.std.specs.List.{list_all}
use Rattle.c_scope.specs.Tables.{names_from}
use Rattle.c_declare.proofs.lists.spell_list.Given as goal

abbrev pub invariant-loop-next : goal.invariant-loop-next
invariant-loop-next g l = record {
  fits : list_all (g.D.Declarator.fits (names_from l.names)) (map (λ y. y.1) (drop l.next-index l.more)) ≡ true;
  built : l.globals ++ map (g.D.Declarator.spelled (names_from l.names)) (map (λ y. y.1) (drop l.next-index l.more)) ≡ l.initial.globals ++ map (g.D.Declarator.spelled (names_from l.names)) (map (λ y. y.1) l.more);
}
