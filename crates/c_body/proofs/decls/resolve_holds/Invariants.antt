use Rattle.std.proofs.Common.{◌≡◌, ◌+◌, ◌<◌, ◌^◌, ◌∷◌, ◌++◌, map, drop, length}
use Rattle.c_raw.specs.Decls.{more_holds_view}
use Rattle.c_names.specs.Faults.{noted_all}
use Rattle.c_names.specs.Scopes.{hold_declared, with_locals}
use Rattle.c_names.specs.Statements.{holds_faults}
use Rattle.c_names.specs.SpelledStatements.{hold_of, with_ops}
use Rattle.c_scope.specs.Tables.{names_from}
use Rattle.c_body.proofs.decls.resolve_holds.Given as goal

abbrev pub invariant-loop-next : goal.invariant-loop-next
invariant-loop-next l = record {
  fits : l.scope.count + length (drop l.next-index l.more) < 2 ^ 32;
  built : l.stmts ++ with_ops (l.last ∷ map (hold_of (names_from l.names)) (map (λ y. y.1) (more_holds_view (drop l.next-index l.more)))) l.fn.after
      ≡ with_ops (l.initial.last ∷ map (hold_of (names_from l.names)) (map (λ y. y.1) (more_holds_view l.more))) l.fn.after;
  noted : noted_all l.least (holds_faults (names_from l.names) l.scope (map (λ y. y.1) (more_holds_view (drop l.next-index l.more))))
      ≡ noted_all l.initial.least (holds_faults (names_from l.names) l.initial.scope (map (λ y. y.1) (more_holds_view l.more)));
  seen : with_locals (map hold_declared (map (λ y. y.1) (more_holds_view (drop l.next-index l.more)))) l.scope
      ≡ with_locals (map hold_declared (map (λ y. y.1) (more_holds_view l.more))) l.initial.scope;
}
