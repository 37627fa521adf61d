-- The answers of the code as those of the definitions.
use Rattle.std.specs.Prelude.{◌≡◌, ℤ, MatchResult}
use Rattle.std.specs.declared.result.Result.{Result}
use Rattle.step_state.specs.declared.event.Trap.{Trap}
use Rattle.step_state.specs.Values.{Computed, value, trap}

-- the answer is this value, or this trap
abbrev pub Computes : Result ℤ Trap → Computed → Type 0
Computes r x = MatchResult r (λ v. x ≡ value v) (λ t. x ≡ trap t)
