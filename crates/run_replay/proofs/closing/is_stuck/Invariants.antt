use Rattle.step_tables.specs.TreeCode.{tree_code}
use Rattle.run_replay.specs.Steps.{NoneBelow}
use Rattle.run_replay.proofs.closing.is_stuck.Given as goal

abbrev pub invariant-loop-thread : goal.invariant-loop-thread
invariant-loop-thread l = NoneBelow (tree_code l.machine) l.state.configuration l.thread
