use Rattle.std.proofs.Common.{◌<◌, ◌*◌, ℕ}
use Rattle.plan_types.specs.Sets.{IsIn}
use Rattle.plan_types.proofs.number_set.NumberSet.meets.Given as goal

-- no number of the words up to here is in both
abbrev pub invariant-loop-place : goal.invariant-loop-place
invariant-loop-place l = (n : ℕ) → n < 64 * l.place → IsIn l.self n → IsIn l.other n → ⊥
