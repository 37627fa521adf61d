-- What a put leaves in a sink.
use Rattle.std.specs.Prelude.{ℕ, ◌≡◌, List, ◌++◌, take, Option, Some, None}

-- these bytes came behind those that the sink had taken, where it tells them
abbrev pub Gained : Option (List ℕ) → Option (List ℕ) → List ℕ → Type 0
Gained None new bytes = new ≡ None
Gained (Some had) new bytes = new ≡ Some (had ++ bytes)

-- some first bytes of these came behind them
abbrev pub GainedFront : Option (List ℕ) → Option (List ℕ) → List ℕ → Type 0
GainedFront old new bytes = (n : ℕ) × Gained old new (take n bytes)
