use Rattle.run_erase.specs.Steps.{IsUnderWay}
use Rattle.run_erase.proofs.erasing.erase.Given as goal

abbrev pub invariant-loop-entry : goal.invariant-loop-entry
invariant-loop-entry l = IsUnderWay l.marks l.machine l.input l.schedule l.entry-index l.state l.kept
