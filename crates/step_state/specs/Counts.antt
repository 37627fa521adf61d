-- Counts of a run: each step makes at most one frame and one thread, and raises a depth or a number of tokens by at most
-- one, so the number of steps bounds them all.
use Rattle.std.specs.Prelude.{◌≡◌, ℕ, ◌+◌, ◌≤◌, length, slice_get, slice_index, Some}
use Rattle.step_state.specs.declared.thread.Thread.{Thread}
use Rattle.step_state.specs.declared.state.Counted.{Counted}

-- the greatest number of steps of a run
abbrev pub max_steps : ℕ
max_steps = 4000000000

-- the counts of a thread after so many steps
pub record IsBounded (steps : ℕ) (th : Thread) : Type 0 where
  pub frames : length th.frames ≤ steps + 1
  pub held : (k : ℕ) → slice_index th.held k ≤ steps
  pub missed : (k : ℕ) → slice_index th.missed k ≤ steps

-- all counts of a configuration after so many steps
pub record IsCounted (c : Counted) : Type 0 where
  pub few : c.steps ≤ max_steps
  pub made : c.configuration.made ≤ c.steps + 1
  pub threads : length c.configuration.threads ≤ c.steps + 1
  pub each : (t : ℕ) (th : Thread) → slice_get c.configuration.threads t ≡ Some th → IsBounded c.steps th
  pub tokens : (j : ℕ) → slice_index c.configuration.tokens j ≤ c.steps + 1
