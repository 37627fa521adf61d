-- Behind the last line nothing is added.
use Rattle.std.proofs.Common.{◌++◌, drop, ap, sym, ◌∙◌}
use Rattle.std.proofs.lemmas.List.{append-nil}
use Rattle.c_types.proofs.Zips.{zip-none}
use Rattle.c_types.proofs.line_table.call_lines.Goals as goal

pub returns-in-None : goal.returns-in-None
returns-in-None c =
    sym (append-nil c.loop-node.list)
    ∙ ap (λ l. c.loop-node.list ++ l) (sym (zip-none (drop c.loop-node.node-index c.args.nodes.now) c.loop-node.rest.now c.in-None.ensures.cases))
    ∙ c.loop-node.invariant
