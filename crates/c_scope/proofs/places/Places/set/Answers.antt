use Rattle.std.proofs.Common.{◌∙◌, ap, sym}
use Rattle.c_scope.specs.Tables.{rows_of, row_of, with_row}
use Rattle.c_scope.proofs.Tables.{lookup-rows, insert-rows}
use Rattle.c_scope.proofs.places.Places.set.Goals as goal
use Rattle.c_scope.proofs.places.Places.set.Goals.{in-Ok, in-Err}

pub returns-clause-set : goal.returns-clause-set
returns-clause-set c = elim c.match-insert.branch [
  | in-Ok w ↦ rw w.result-is (
      ap rows_of w.in-Ok.ensures.entries
      ∙ insert-rows c.args.key c.args.place c.self.inside.map.entries
      ∙ ap (with_row c.args.key.items c.args.place) c.self.view_is)
  | in-Err w ↦ rw w.result-is tt
]

pub returns-clause-absent : goal.returns-clause-absent
returns-clause-absent c = elim c.match-insert.branch [
  | in-Ok w ↦ rw w.result-is tt
  | in-Err w ↦ rw w.result-is (
      ap (row_of c.args.key.items) (sym c.self.view_is)
      ∙ sym (lookup-rows c.args.key.items c.self.inside.map.entries)
      ∙ w.in-Err.ensures.absent)
]
