use Rattle.std.proofs.Common.{◌≡◌, drop, Some}
use Rattle.report_bind.specs.Stacks.{calls_in, prepended}
use Rattle.report_bind.proofs.stacks.calls_in.Given as goal

abbrev pub invariant-loop-place : goal.invariant-loop-place
invariant-loop-place l =
    prepended l.nodes (calls_in l.source (drop l.place l.stack) (Some l.own)) ≡ calls_in l.source l.stack (Some l.own)
