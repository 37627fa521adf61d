use Rattle.std.proofs.Common.{rules, ℕ, ◌<◌, length, ◌/◌, sym, ◌∙◌}
use Rattle.cfix_base.specs.declared.number.NodeId.{NodeId}
use Rattle.c_prog.specs.Lines.{node_before, same_node}
use Rattle.c_source.proofs.KeyOrders.{node-order}
use Rattle.c_source.proofs.Searches.{half-rises, other-rises, in-half, in-other, in-middle}
use Rattle.c_source.proofs.search.+call_line.Goals as goal

abbrev none : NodeId × ℕ
none = (record { number = 0 }, 0)

pub call_line-requires : goal.call_line-requires
call_line-requires t c =
    (search rules, half-rises node_before same_node node-order c.args.entries.now (length c.args.entries.now / 2) c.requires)

pub call_line-requires-then-is_node_before-2 : goal.call_line-requires-then-is_node_before-2
call_line-requires-then-is_node_before-2 t c =
    let within : length c.args.entries.now / 2 < length c.args.entries.now = search rules in
    (search rules, other-rises node_before same_node node-order c.args.entries.now (length c.args.entries.now / 2) none within c.requires)

pub returns-then-is_node_before : goal.returns-then-is_node_before
returns-then-is_node_before t c =
    let within : length c.args.entries.now / 2 < length c.args.entries.now = search rules in
    c.call_line.ensures
    ∙ in-half node_before same_node node-order c.args.node c.args.entries.now (length c.args.entries.now / 2) none within c.requires (sym c.if-is_node_before.ensures)

pub returns-then-is_node_before-2 : goal.returns-then-is_node_before-2
returns-then-is_node_before-2 t c =
    let within : length c.args.entries.now / 2 < length c.args.entries.now = search rules in
    c.call_line-then-is_node_before-2.ensures
    ∙ in-other node_before same_node node-order c.args.node c.args.entries.now (length c.args.entries.now / 2) none within c.requires (sym c.if-is_node_before-2.ensures)

pub returns-else-is_node_before-2 : goal.returns-else-is_node_before-2
returns-else-is_node_before-2 t c =
    let within : length c.args.entries.now / 2 < length c.args.entries.now = search rules in
    in-middle node_before same_node node-order c.args.node c.args.entries.now (length c.args.entries.now / 2) none within c.requires
    (sym c.if-is_node_before.ensures) (sym c.if-is_node_before-2.ensures)
