-- One part more is resolved.
use Rattle.std.proofs.Common.{◌≡◌, ◌+◌, ◌∷◌, map, drop, ap, arith}
use Rattle.std.proofs.lemmas.Grind.{common_steps}
use Rattle.c_raw.specs.Files.{top_view}
use Rattle.c_names.specs.Files.{top_faults}
use Rattle.c_names.specs.Sources.{top_globals, top_functions_of, top_lines}
use Rattle.c_scope.specs.Tables.{names_from}
use Rattle.c_declare.specs.Counting.{top_fits}
use Rattle.c_declare.proofs.Turns.{turn-count, turn-all, turn-each, turn-faults}
use Rattle.c_types.proofs.tops.resolve_tops.Goals as goal

pub loop-top-preserved : goal.loop-top-preserved
loop-top-preserved c =
    let whole : drop c.loop-top.top-index c.args.tops.now ≡ c.top-item.result ∷ drop (c.loop-top.top-index + 1) c.args.tops.now = grind (arith, common_steps) in
    let view = ap (map top_view) whole in
    let done = c.in_ok-resolve_top.ensures in
    let names = names_from c.args.names.now in
    record {
      count = turn-count (top_view c.top-item.result) _ _ view c.loop-top.invariant.count;
      fits = turn-all (top_fits names) (top_view c.top-item.result) _ _ view c.loop-top.invariant.fits;
      noted = turn-faults (top_faults names) c.loop-top.walk.least _ _ (top_view c.top-item.result) _ _ view done.noted c.loop-top.invariant.noted;
      lined = turn-each (top_lines names) c.loop-top.walk.lines _ _ (top_view c.top-item.result) _ _ view done.lined c.loop-top.invariant.lined;
      globals = turn-each (top_globals names) c.loop-top.parts.globals _ _ (top_view c.top-item.result) _ _ view done.globals c.loop-top.invariant.globals;
      functions = turn-each (top_functions_of names) c.loop-top.parts.functions _ _ (top_view c.top-item.result) _ _ view done.functions c.loop-top.invariant.functions;
    }
