use Rattle.std.proofs.Common.{◌≡◌, ◌<◌, ◌≤◌, length, get_or, ℕ}
use Rattle.std.specs.Int.RustNames.{bit_or}
use Rattle.plan_types.proofs.number_set.unite_words.Given as goal

abbrev pub invariant-loop-place : goal.invariant-loop-place
invariant-loop-place l =
    (length l.words.items ≡ length l.initial.words.items)
    × ((i : ℕ) → i < l.place → get_or l.words.items i 0 ≡ bit_or (get_or l.initial.words.items i 0) (get_or l.others i 0))
    × ((i : ℕ) → l.place ≤ i → get_or l.words.items i 0 ≡ get_or l.initial.words.items i 0)
