-- The names of the global variables are those of their cells.
use Rattle.std.proofs.Common.{map, ap, ◌∙◌}
use Rattle.cfix_base.specs.declared.limits.TheConstants.{MAX_GLOBALS}
use Rattle.c_names.specs.Faults.{noted_all}
use Rattle.c_names.specs.Limits.{Cells, excess_faults}
use Rattle.c_types.proofs.counts.note_globals.Goals as goal

pub returns : goal.returns
returns c =
    c.note_excess.ensures
    ∙ ap (λ l. noted_all c.args.least.now (excess_faults MAX_GLOBALS l))
    (c.as_slice-2.ensures ∙ c.in_ok-globals.ensures ∙ ap (map (λ (x : Cells). x.0)) (c.as_slice.ensures ∙ c.in_ok-cells.ensures))
