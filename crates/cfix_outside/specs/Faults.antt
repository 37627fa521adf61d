-- Counts of faults. A count is a u64 that stands still at its last value.
use Rattle.std.specs.Prelude.{ℕ, ◌+◌, ◌-◌, ◌^◌, ◌≤◌, min}

-- the last value of a count
abbrev pub last_count : ℕ
last_count = 2 ^ 64 - 1

-- a count after one more fault
abbrev pub risen : ℕ → ℕ
risen count = min (count + 1) last_count

-- the count rose, or it stands at its last value
abbrev pub Rose : ℕ → ℕ → Type 0
Rose before now = risen before ≤ now
