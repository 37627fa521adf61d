use Rattle.std.proofs.Common.{◌≡◌, ◌++◌, drop}
use Rattle.c_names.specs.LinesStatements.{items_calls}
use Rattle.c_raw.specs.Stmts.{items_view}
use Rattle.c_limits.proofs.called.+called.Given as goal

abbrev pub invariant-push_calls-loop-raw : goal.invariant-push_calls-loop-raw
invariant-push_calls-loop-raw l = l.lines ++ items_calls (items_view (drop l.raw-index l.list)) ≡ l.initial.lines ++ items_calls (items_view l.list)
