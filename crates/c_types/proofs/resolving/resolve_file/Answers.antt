-- A file that is read declares few names, and where no fault is kept there is none.
use Rattle.std.proofs.Common.{map, sym, ◌∙◌}
use Rattle.c_raw.specs.Files.{top_view}
use Rattle.c_names.specs.Files.{faults_of}
use Rattle.c_types.proofs.Counted.{count-parsed}
use Rattle.c_types.proofs.Fits.{fits-parsed}
use Rattle.c_types.proofs.Least.{none-kept}
use Rattle.c_types.proofs.resolving.resolve_file.Goals as goal
use Rattle.valid_law.proofs.ValidSpelled.{valid_spelled}

pub resolve_names-requires-clause-count : goal.resolve_names-requires-clause-count
resolve_names-requires-clause-count c = count-parsed c.args.end (map top_view c.args.tops.now) c.requires.parsed

pub resolve_names-requires-clause-fits : goal.resolve_names-requires-clause-fits
resolve_names-requires-clause-fits c = fits-parsed c.args.end (map top_view c.args.tops.now) c.requires.parsed

pub source_of-requires-clause-valid : goal.source_of-requires-clause-valid
source_of-requires-clause-valid c =
    valid_spelled c.args.end (map top_view c.args.tops.now) c.requires.parsed
    (none-kept (faults_of c.args.end (map top_view c.args.tops.now)) (sym c.in_ok-outcome.ensures.noted ∙ c.in-None.is))

pub returns-in_ok-source_of-in-None-clause-clean : goal.returns-in_ok-source_of-in-None-clause-clean
returns-in_ok-source_of-in-None-clause-clean c =
    none-kept (faults_of c.args.end (map top_view c.args.tops.now)) (sym c.in_ok-outcome.ensures.noted ∙ c.in-None.is)
