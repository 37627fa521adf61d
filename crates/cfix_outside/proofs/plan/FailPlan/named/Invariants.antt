use Rattle.std.proofs.Common.{◌≡◌, drop}
use Rattle.cfix_outside.specs.Plan.{named}
use Rattle.cfix_outside.proofs.plan.FailPlan.named.Given as goal

abbrev pub invariant-loop-entry : goal.invariant-loop-entry
invariant-loop-entry l = named (drop l.entry-index l.entry-items) l.call ≡ named l.self.calls l.call
