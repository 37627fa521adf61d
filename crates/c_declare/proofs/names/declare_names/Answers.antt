-- One part more is declared.
use Rattle.std.proofs.Common.{◌≡◌, ◌+◌, ◌∷◌, map, drop, ap, arith}
use Rattle.std.proofs.lemmas.Grind.{common_steps}
use Rattle.c_raw.specs.Files.{top_view}
use Rattle.c_declare.proofs.Turns.{turn-seen, turn-noted, turn-fits}
use Rattle.c_declare.proofs.names.declare_names.Goals as goal

pub loop-top-preserved : goal.loop-top-preserved
loop-top-preserved c =
    let whole : drop c.loop-top.top-index c.args.tops.now ≡ c.top-item.result ∷ drop (c.loop-top.top-index + 1) c.args.tops.now = grind (arith, common_steps) in
    let view = ap (map top_view) whole in
    let done = c.in_ok-declare_top.ensures in
    record {
      fits = turn-fits c.loop-top.globals c.loop-top.functions _ _ (top_view c.top-item.result) _ _ view done.globals done.functions c.loop-top.invariant.fits;
      seen = turn-seen c.loop-top.table _ c.loop-top.globals c.loop-top.functions _ _ (top_view c.top-item.result) _ _ view done.seen done.globals done.functions _ c.loop-top.invariant.seen;
      noted = turn-noted c.loop-top.table _ c.loop-top.globals c.loop-top.functions _ _ (top_view c.top-item.result) _ _ view done.seen done.globals done.functions c.loop-top.least _ _ done.noted c.loop-top.invariant.noted;
    }
