use Rattle.std.proofs.Common.{◌≡◌, ◌+◌, ◌<◌, ◌^◌, ◌∷◌, ◌++◌, map, drop, length}
use Rattle.c_raw.specs.Decls.{more_local_ints_view}
use Rattle.c_names.specs.Faults.{noted_all}
use Rattle.c_names.specs.Scopes.{local_int_declared, with_locals}
use Rattle.c_names.specs.Statements.{local_ints_faults}
use Rattle.c_names.specs.SpelledStatements.{local_ints_of, with_ops}
use Rattle.c_names.specs.LinesStatements.{local_ints_lines}
use Rattle.c_scope.specs.Tables.{names_from}
use Rattle.c_body.proofs.decls.resolve_ints.Given as goal

abbrev pub invariant-loop-next : goal.invariant-loop-next
invariant-loop-next l = record {
  fits : l.scope.count + length (drop l.next-index l.more) < 2 ^ 32;
  built : l.stmts ++ with_ops (l.last ∷ local_ints_of (names_from l.names) l.scope (map (λ y. y.1) (more_local_ints_view (drop l.next-index l.more)))) l.fn.after
      ≡ with_ops (l.initial.last ∷ local_ints_of (names_from l.names) l.initial.scope (map (λ y. y.1) (more_local_ints_view l.more))) l.fn.after;
  noted : noted_all l.walk.least (local_ints_faults (names_from l.names) l.scope (map (λ y. y.1) (more_local_ints_view (drop l.next-index l.more))))
      ≡ noted_all l.initial.walk.least (local_ints_faults (names_from l.names) l.initial.scope (map (λ y. y.1) (more_local_ints_view l.more)));
  lined : l.walk.lines ++ local_ints_lines (names_from l.names) l.scope (map (λ y. y.1) (more_local_ints_view (drop l.next-index l.more)))
      ≡ l.initial.walk.lines ++ local_ints_lines (names_from l.names) l.initial.scope (map (λ y. y.1) (more_local_ints_view l.more));
  seen : with_locals (map local_int_declared (map (λ y. y.1) (more_local_ints_view (drop l.next-index l.more)))) l.scope
      ≡ with_locals (map local_int_declared (map (λ y. y.1) (more_local_ints_view l.more))) l.initial.scope;
}
