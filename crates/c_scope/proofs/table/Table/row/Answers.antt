use Rattle.std.proofs.Common.{◌∙◌, ap}
use Rattle.c_scope.specs.Tables.{row_of}
use Rattle.c_scope.proofs.Tables.{lookup-rows}
use Rattle.c_scope.proofs.table.Table.row.Goals as goal

pub returns : goal.returns
returns c =
    c.copied.ensures ∙ c.get.ensures.value ∙ lookup-rows c.args.text.now c.self.inside.map.entries
    ∙ ap (row_of c.args.text.now) c.self.view_is
