-- Behind the last line nothing is added.
use Rattle.std.proofs.Common.{◌++◌, map, drop, ap, sym, ◌∙◌}
use Rattle.std.proofs.lemmas.List.{append-nil}
use Rattle.c_prog.specs.declared.access_item.AccessItem.{AccessItem}
use Rattle.c_types.proofs.Zips.{zip-none}
use Rattle.c_types.proofs.line_table.access_lines.Goals as goal

pub returns-in-None : goal.returns-in-None
returns-in-None c =
    sym (append-nil c.loop-item.list)
    ∙ ap (λ l. c.loop-item.list ++ l) (sym (zip-none (map (λ (item : AccessItem). item.id) (drop c.loop-item.item-index c.args.items.now)) c.loop-item.rest.now c.in-None.ensures.cases))
    ∙ c.loop-item.invariant
