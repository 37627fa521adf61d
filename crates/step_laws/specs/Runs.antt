-- Runs one after another.
use Rattle.std.specs.Prelude.{List, ◌++◌, Some, None}
use Rattle.step_state.specs.declared.state.Configuration.{Configuration}
use Rattle.step_state.specs.Run.{Ran, Seen}

-- a run with these steps at its front
abbrev pub after_steps : List Seen → Ran → Ran
after_steps seen None = None
after_steps seen (Some (later, last)) = Some (seen ++ later, last)

-- a run, and then one that goes on from its last configuration
abbrev pub then_run : Ran → (Configuration → Ran) → Ran
then_run None go = None
then_run (Some (seen, s)) go = after_steps seen (go s)
