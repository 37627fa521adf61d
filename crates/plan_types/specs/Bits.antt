-- How words of 64 bits hold a set of numbers.
use Rattle.std.specs.Prelude.{ℕ, ◌≡◌, ◌+◌, ◌*◌, ◌/◌, ◌%◌, ◌<◌, ◌≤◌, Bool, eqb, List, length, map, replicate, slice_index_or}
use Rattle.std.specs.List.{range_with_len}
use Rattle.std.specs.Int.{bit_at}
use Rattle.std.specs.Int.RustNames.{bit_or}
use Rattle.plan_types.specs.Sets.{IsIn}

-- whether the bit of a number is 1
abbrev pub has_bit : List ℕ → ℕ → Bool
has_bit words number = eqb (bit_at (slice_index_or words (number / 64) 0) (number % 64)) 1

-- the set of the numbers below a size whose bits are 1
abbrev pub numbers_of : ℕ → List ℕ → List Bool
numbers_of size words = map (has_bit words) (range_with_len 0 size)

-- so many words without a bit
abbrev pub zeros : ℕ → List ℕ
zeros count = replicate count 0

-- as many words as have a bit for each number below the size, and no more
pub record AreEnough (size : ℕ) (words : List ℕ) : Type 0 where
  pub enough : size ≤ 64 * length words
  pub few : 64 * length words < size + 64

-- each word with the bits of the other word at its place
pub record AreUnited (words others united : List ℕ) : Type 0 where
  pub sized : length united ≡ length words
  pub at : (i : ℕ) → i < length words → slice_index_or united i 0 ≡ bit_or (slice_index_or words i 0) (slice_index_or others i 0)

-- some number whose bit stands in the word that begins here is in both sets
abbrev pub MeetInWord : List Bool → List Bool → ℕ → Type 0
MeetInWord one other from = (n : ℕ) × (from ≤ n) × (n < from + 64) × IsIn one n × IsIn other n
