use Rattle.std.proofs.Common.{rules, ◌≡◌, ◌≤◌, true, length, refl, arith}
use Rattle.step_tables.specs.TreeCode.{tree_code}
use Rattle.run_replay.specs.Steps.{NoneBelow}
use Rattle.run_replay.proofs.Ends.{either, goes_not_stuck, none_stuck}
use Rattle.run_replay.proofs.closing.is_stuck.Goals as goal

pub returns-then-can_go : goal.returns-then-can_go
returns-then-can_go c =
    let goes : either (tree_code c.args.machine.now) c.args.state.now.configuration c.loop-thread.thread ≡ true = search rules in
    (λ same e. absurd (cc same), λ stuck. absurd (goes_not_stuck (tree_code c.args.machine.now) c.args.state.now.configuration c.loop-thread.thread goes stuck))

pub returns : goal.returns
returns c =
    let past : length c.args.state.now.configuration.threads ≤ c.loop-thread.thread = omega (arith, c.loop-thread-test.false, c.threads-thread-end.ensures) in
    let none : NoneBelow (tree_code c.args.machine.now) c.args.state.now.configuration (length c.args.state.now.configuration.threads) =
    λ t below late. c.loop-thread.invariant t (omega (arith, below, past)) late in
    (λ same. none_stuck (tree_code c.args.machine.now) c.args.state.now.configuration none, λ stuck. refl)
