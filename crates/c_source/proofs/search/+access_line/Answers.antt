use Rattle.std.proofs.Common.{rules, ℕ, ◌<◌, length, ◌/◌, sym, ◌∙◌}
use Rattle.cfix_base.specs.declared.access.AccessId.{AccessId}
use Rattle.c_prog.specs.Lines.{access_before, same_access}
use Rattle.c_source.proofs.KeyOrders.{access-order}
use Rattle.c_source.proofs.Searches.{half-rises, other-rises, in-half, in-other, in-middle}
use Rattle.c_source.proofs.search.+access_line.Goals as goal

abbrev none : AccessId × ℕ
none = (record { node = record { number = 0 }; index = 0 }, 0)

pub access_line-requires : goal.access_line-requires
access_line-requires t c =
    (search rules, half-rises access_before same_access access-order c.args.entries.now (length c.args.entries.now / 2) c.requires)

pub access_line-requires-then-is_access_before-2 : goal.access_line-requires-then-is_access_before-2
access_line-requires-then-is_access_before-2 t c =
    let within : length c.args.entries.now / 2 < length c.args.entries.now = search rules in
    (search rules, other-rises access_before same_access access-order c.args.entries.now (length c.args.entries.now / 2) none within c.requires)

pub returns-then-is_access_before : goal.returns-then-is_access_before
returns-then-is_access_before t c =
    let within : length c.args.entries.now / 2 < length c.args.entries.now = search rules in
    c.access_line.ensures
    ∙ in-half access_before same_access access-order c.args.id c.args.entries.now (length c.args.entries.now / 2) none within c.requires (sym c.if-is_access_before.ensures)

pub returns-then-is_access_before-2 : goal.returns-then-is_access_before-2
returns-then-is_access_before-2 t c =
    let within : length c.args.entries.now / 2 < length c.args.entries.now = search rules in
    c.access_line-then-is_access_before-2.ensures
    ∙ in-other access_before same_access access-order c.args.id c.args.entries.now (length c.args.entries.now / 2) none within c.requires (sym c.if-is_access_before-2.ensures)

pub returns-else-is_access_before-2 : goal.returns-else-is_access_before-2
returns-else-is_access_before-2 t c =
    let within : length c.args.entries.now / 2 < length c.args.entries.now = search rules in
    in-middle access_before same_access access-order c.args.id c.args.entries.now (length c.args.entries.now / 2) none within c.requires
    (sym c.if-is_access_before.ensures) (sym c.if-is_access_before-2.ensures)
