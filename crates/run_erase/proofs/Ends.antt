-- Where a run has ended, no entry makes a step.
use Rattle.std.proofs.Common.{◌≡◌, false, None}
use Rattle.cfix_base.specs.declared.entry.Entry.{Entry}
use Rattle.step_state.specs.declared.state.Configuration.{Configuration}
use Rattle.step_state.specs.Code.{Code}
use Rattle.step_state.specs.Step.{step}
use Rattle.step_machine.specs.Answers.{is_running}
use Rattle.run_replay.proofs.Ends as ends

pub ended_none : (c : Code) (s : Configuration) (e : Entry) → is_running s.ending ≡ false → step c s e ≡ None
ended_none c s e over = ends.ended_none c s e over
