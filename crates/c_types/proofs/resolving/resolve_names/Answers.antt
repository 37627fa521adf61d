-- The faults of a file in their order.
use Rattle.std.proofs.Common.{map, arith}
use Rattle.c_raw.specs.Files.{top_view}
use Rattle.c_scope.specs.Tables.{names_from}
use Rattle.c_types.proofs.Wholes.{whole, fits-by}
use Rattle.c_types.proofs.resolving.resolve_names.Goals as goal

pub resolve_tops-requires-clause-fits : goal.resolve_tops-requires-clause-fits
resolve_tops-requires-clause-fits c =
    fits-by (names_from c.in_ok-names.names) (map top_view c.args.tops.now) c.in_ok-names.ensures.seen c.requires.fits

pub returns-clause-noted : goal.returns-clause-noted
returns-clause-noted c =
    let all = whole (names_from c.in_ok-names.names) c.args.end (map top_view c.args.tops.now) c.in_ok-names.ensures.seen in
    grind (arith, all)
