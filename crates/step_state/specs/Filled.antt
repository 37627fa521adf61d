-- Counts of which the first ones are kept.
use Rattle.std.specs.Prelude.{ℕ, ◌-◌, List, ◌++◌, length, replicate}

-- so many counts: these, and 0 from there on
abbrev pub filled : List ℕ → ℕ → List ℕ
filled used n = used ++ replicate (n - length used) 0
