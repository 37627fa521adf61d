use Rattle.std.proofs.Common.{ap, sym, ◌∙◌}
use Rattle.flow_graph.specs.Table.{after_next, true_next, false_next}
use Rattle.flow_graph.proofs.Graphs.{after_in, true_in, false_in, start_in}
use Rattle.flow_graph.proofs.graph.Flow.next_in.Goals as goal

pub returns-else-function-self : goal.returns-else-function-self
returns-else-function-self c = sym (start_in _ _ _ _ _ c.self.view_is c.in-Start.function c.in-Start.is c.if-function-self.false)

pub returns-in-After : goal.returns-in-After
returns-in-After c =
    c.after_next.ensures ∙ ap after_next c.out_at.ensures ∙ sym (after_in _ _ _ _ _ c.self.view_is c.in-After.node c.in-After.is)

pub returns-in-True : goal.returns-in-True
returns-in-True c =
    c.true_next.ensures ∙ ap true_next c.out_at-in-True.ensures ∙ sym (true_in _ _ _ _ _ c.self.view_is c.in-True.node c.in-True.is)

pub returns-in-False : goal.returns-in-False
returns-in-False c =
    c.false_next.ensures ∙ ap false_next c.out_at-in-False.ensures ∙ sym (false_in _ _ _ _ _ c.self.view_is c.in-False.node c.in-False.is)
