use Rattle.std.proofs.Common.{rules, ◌≡◌, ◌∙◌}
use Rattle.c_prog.specs.Order.{function_order}
use Rattle.step_tables.specs.Kept.{nodes_locals}
use Rattle.step_tables.proofs.Declared.{body_declares}
use Rattle.step_tables.proofs.keep.keep_function.Goals as goal

pub returns-clause-locals : goal.returns-clause-locals
returns-clause-locals c =
    let kept : c.keep_nodes.new.locals ≡ nodes_locals (function_order c.args.function.now) = search rules in
    kept ∙ body_declares c.args.function.now.body
