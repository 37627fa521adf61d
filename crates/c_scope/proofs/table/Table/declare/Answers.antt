use Rattle.std.proofs.Common.{◌≡◌, ◌∙◌, ap}
use Rattle.c_scope.specs.Tables.{rows_of, row_of, with_row, joined}
use Rattle.c_scope.proofs.Tables.{insert-rows}
use Rattle.c_scope.proofs.table.Table.declare.Goals as goal

pub returns : goal.returns
returns c =
    let text = c.args.text.items in
    let row : c.joined-row.result ≡ joined (row_of text c.args.self.now) c.args.meaning =
    c.joined-row.ensures ∙ ap (λ r. joined r c.args.meaning) (c.row.ensures ∙ ap (λ t. row_of t c.args.self.now) c.as_slice.ensures.value) in
    ap rows_of c.in_ok-insert.ensures.entries
    ∙ insert-rows c.args.text c.joined-row.result c.self.inside.map.entries
    ∙ ap (with_row text c.joined-row.result) c.self.view_is
    ∙ ap (λ r. with_row text r c.args.self.now) row
