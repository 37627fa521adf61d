use Rattle.std.proofs.Common.{◌≡◌, drop}
use Rattle.report_bind.specs.Stacks.{named_from}
use Rattle.report_bind.proofs.stacks.named_in.Given as goal

abbrev pub invariant-loop-function : goal.invariant-loop-function
invariant-loop-function l =
    (l.number ≡ l.function-index) × (named_from l.number (drop l.function-index l.functions) l.name ≡ named_from 0 l.functions l.name)
