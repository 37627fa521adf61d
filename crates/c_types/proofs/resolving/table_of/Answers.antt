-- The table says of each name what the file says.
use Rattle.std.proofs.Common.{map, ap, ◌∙◌}
use Rattle.c_raw.specs.Files.{top_view}
use Rattle.c_names.specs.Declarations.{declarations_from}
use Rattle.c_names.specs.Faults.{noted_all}
use Rattle.c_scope.specs.Tables.{names_from}
use Rattle.c_types.proofs.Naming.{names_from-declarations, again-twice}
use Rattle.c_types.proofs.resolving.table_of.Goals as goal

pub returns-clause-seen : goal.returns-clause-seen
returns-clause-seen c = ap names_from c.in_ok-table.ensures.seen ∙ names_from-declarations (declarations_from 0 0 (map top_view c.args.tops.now))

pub returns-clause-noted : goal.returns-clause-noted
returns-clause-noted c = c.in_ok-table.ensures.noted ∙ ap (noted_all c.args.least.now) (again-twice (declarations_from 0 0 (map top_view c.args.tops.now)))
