use Rattle.std.proofs.Common.{◌≡◌, map, ap, ◌∙◌}
use Rattle.step_tables.specs.Kept.{kept, kept_tree}
use Rattle.step_tables.proofs.Lookups.{row_is}
use Rattle.step_tables.proofs.tables.Tables.row.Goals as goal

pub returns : goal.returns
returns c =
    let holds : map kept c.as_slice.result.now ≡ kept_tree c.args.self.now =
    ap (map kept) c.as_slice.ensures ∙ c.self.invariant.rows ∙ ap kept_tree c.self.view_is in
    row_is c.args.self.now c.as_slice.result.now c.args.node.number c.get.result _ holds c.get.ensures.lookup.3 c.get.ensures.lookup.1
