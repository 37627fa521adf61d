use Rattle.std.proofs.Common.{◌≡◌, ◌++◌, map, drop}
use Rattle.c_raw.specs.Simples.{more_view}
use Rattle.c_names.specs.Faults.{noted_all}
use Rattle.c_names.specs.Expressions.{exprs_faults}
use Rattle.c_names.specs.SpelledExpressions.{exprs_of}
use Rattle.c_names.specs.LinesExpressions.{exprs_lines}
use Rattle.c_scope.specs.Tables.{names_from}
use Rattle.c_body.proofs.exprs.push_exprs.Given as goal

abbrev pub invariant-loop-next : goal.invariant-loop-next
invariant-loop-next l = record {
  built : l.exprs ++ exprs_of (names_from l.names) l.scope (map (λ y. y.1) (more_view (drop l.next-index l.more))) ≡ l.initial.exprs ++ exprs_of (names_from l.names) l.scope (map (λ y. y.1) (more_view l.more));
  noted : noted_all l.walk.least (exprs_faults (names_from l.names) l.scope (map (λ y. y.1) (more_view (drop l.next-index l.more)))) ≡ noted_all l.initial.walk.least (exprs_faults (names_from l.names) l.scope (map (λ y. y.1) (more_view l.more)));
  lined : l.walk.lines ++ exprs_lines (names_from l.names) l.scope (map (λ y. y.1) (more_view (drop l.next-index l.more))) ≡ l.initial.walk.lines ++ exprs_lines (names_from l.names) l.scope (map (λ y. y.1) (more_view l.more));
}
