use Rattle.std.proofs.Common.{◌<◌, ◌≤◌, ℕ}
use Rattle.plan_types.specs.Sets.{IsIn}
use Rattle.plan_types.proofs.number_set.NumberSet.meets_in_word.Given as goal

-- no number of the word up to here is in both
abbrev pub invariant-loop-number : goal.invariant-loop-number
invariant-loop-number l = (n : ℕ) → l.from ≤ n → n < l.number → IsIn l.self n → IsIn l.other n → ⊥
