use Rattle.std.proofs.Common.{length, ap, sym, ◌∙◌}
use Rattle.plan_types.proofs.Bits.{size-numbers}
use Rattle.plan_types.proofs.number_set.NumberSet.size.Goals as goal

pub returns : goal.returns
returns c = sym (size-numbers c.self.inside.size c.self.inside.words.items) ∙ ap length c.self.view_is
