use Rattle.std.proofs.Common.{reverse, ap, ◌∙◌, arith}
use Rattle.step_state.proofs.Tops.{last_taken}
use Rattle.step_state.proofs.stack.Stack.last.Goals as goal

pub returns : goal.returns
returns g c =
    last_taken c.as_slice.result.now c.args.self.now c.args.count c.saturating_sub-first.result (ap reverse c.as_slice.ensures.value ∙ c.self.view_is) (omega (arith, c.saturating_sub-first.ensures, c.len.ensures, c.as_slice.ensures.len))
