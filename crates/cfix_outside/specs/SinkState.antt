-- What contracts see of a sink in memory.
use Rattle.std.specs.Prelude.{ℕ, List}

-- the bytes taken, the room left, the plan, the calls so far and those that failed
pub record SinkState : Type 0 where
  pub taken : List ℕ
  pub room : ℕ
  pub plan : List (ℕ × ℕ)
  pub calls : ℕ
  pub faults : ℕ
