use Rattle.std.proofs.Common.{◌∙◌, ap}
use Rattle.c_scope.specs.Places.{flat}
use Rattle.c_scope.specs.Tables.{row_of}
use Rattle.c_scope.proofs.Tables.{lookup-rows}
use Rattle.c_scope.proofs.places.Places.get.Goals as goal

pub returns : goal.returns
returns c =
    c.flat.ensures
    ∙ ap flat (c.copied.ensures ∙ c.get.ensures.value ∙ lookup-rows c.args.text.now c.self.inside.map.entries)
    ∙ ap (λ p. flat (row_of c.args.text.now p)) c.self.view_is
