-- The calls that a plan makes fail: pairs of a call's number, from 0, and the bytes that a sink takes before.
use Rattle.std.specs.Prelude.{ℕ, List, [], ◌∷◌, Option, Some, None, if◌then◌else◌, ◌==◌}

-- the number beside the first entry of a call
abbrev pub named : List (ℕ × ℕ) → ℕ → Option ℕ
named [] call = None
named (entry ∷ rest) call = if entry.0 == call then Some entry.1 else named rest call

-- there is such an entry
abbrev pub IsNamed : Option ℕ → Type 0
IsNamed None = ⊥
IsNamed (Some most) = Unit {0}
