-- Counts that can be raised by one and stay 32-bit numbers.
use Rattle.std.specs.Prelude.{◌≡◌, ℕ, ◌+◌, ◌^◌, ◌<◌, length, slice_get, slice_index, Some}
use Rattle.step_state.specs.declared.thread.Thread.{Thread}
use Rattle.step_state.specs.declared.state.Configuration.{Configuration}

-- the thread's depths
pub record HasDepths (th : Thread) : Type 0 where
  pub held : (k : ℕ) → slice_index th.held k + 1 < 2 ^ 32
  pub missed : (k : ℕ) → slice_index th.missed k + 1 < 2 ^ 32

-- all counts of the configuration
pub record HasRoom (s : Configuration) : Type 0 where
  pub made : s.made + 1 < 2 ^ 32
  pub threads : length s.threads + 1 < 2 ^ 32
  pub each : (t : ℕ) (th : Thread) → slice_get s.threads t ≡ Some th → HasDepths th
  pub tokens : (j : ℕ) → slice_index s.tokens j + 1 < 2 ^ 32
