use Rattle.std.proofs.Common.{◌≡◌, ◌++◌, drop}
use Rattle.first_form.specs.Form.{acts_of}
use Rattle.first_form.specs.Straight.{with_ops, behind}
use Rattle.first_form.proofs.straight.body.Given as goal

abbrev pub invariant-loop-node : goal.invariant-loop-node
invariant-loop-node l =
    l.body ++ with_ops (behind l.region) l.node (acts_of (drop l.node l.plains)) ≡ with_ops (behind l.region) 0 (acts_of l.plains)
