use Rattle.std.proofs.Common.{◌≡◌, ◌+◌, ◌<◌, ◌^◌, ◌++◌, drop}
use Rattle.c_raw.specs.Stmts.{items_view}
use Rattle.c_names.specs.Faults.{noted_all}
use Rattle.c_names.specs.Scopes.{items_locals}
use Rattle.c_names.specs.Statements.{items_faults}
use Rattle.c_names.specs.SpelledStatements.{items_of}
use Rattle.c_names.specs.LinesStatements.{items_lines}
use Rattle.c_scope.specs.Tables.{names_from}
use Rattle.c_body.specs.Views.{around_view}
use Rattle.c_body.specs.After.{items_after}
use Rattle.c_body.proofs.stmts.+stmt.Given as goal

abbrev pub invariant-resolve_items-loop-raw : goal.invariant-resolve_items-loop-raw
invariant-resolve_items-loop-raw l = record {
  fits : l.scope.count + items_locals (items_view (drop l.raw-index l.list)) < 2 ^ 32;
  built : l.stmts ++ items_of (names_from l.names) (around_view l.around) l.scope (items_view (drop l.raw-index l.list))
      ≡ items_of (names_from l.names) (around_view l.around) l.initial.scope (items_view l.list);
  noted : noted_all l.walk.least (items_faults (names_from l.names) (around_view l.around) l.scope (items_view (drop l.raw-index l.list)))
      ≡ noted_all l.initial.walk.least (items_faults (names_from l.names) (around_view l.around) l.initial.scope (items_view l.list));
  lined : l.walk.lines ++ items_lines (names_from l.names) l.scope (items_view (drop l.raw-index l.list))
      ≡ l.initial.walk.lines ++ items_lines (names_from l.names) l.initial.scope (items_view l.list);
  seen : items_after l.scope (items_view (drop l.raw-index l.list)) ≡ items_after l.initial.scope (items_view l.list);
}
