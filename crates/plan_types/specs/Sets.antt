-- Sets of numbers below a size. A set is the list that says, for each number from 0, whether it is in.
use Rattle.std.specs.Prelude.{ℕ, ◌≡◌, ◌<◌, ◌↔◌, Bool, true, false, ◌||◌, IsTrue, List, length, replicate, slice_set, slice_index_or}

-- the empty set of a size; the size of a set is its length
abbrev pub no_numbers : ℕ → List Bool
no_numbers size = replicate size false

-- whether a number is in a set; from the size on none is
abbrev pub is_in : List Bool → ℕ → Bool
is_in numbers number = slice_index_or numbers number false

-- the same as a fact
abbrev pub IsIn : List Bool → ℕ → Type 0
IsIn numbers number = IsTrue (is_in numbers number)

-- a set with one more number
abbrev pub with_number : List Bool → ℕ → List Bool
with_number numbers number = slice_set numbers number true

-- a set of numbers below this size: those that have the property
pub record IsSetOf (size : ℕ) (set : List Bool) (P : ℕ → Type 0) : Type 0 where
  pub sized : length set ≡ size
  pub has : (n : ℕ) → n < size → (IsIn set n ↔ P n)

-- what is in one of two sets of one size
pub record IsUnion (one other both : List Bool) : Type 0 where
  pub sized : length both ≡ length one
  pub has : (n : ℕ) → is_in both n ≡ (is_in one n || is_in other n)

-- some number is in both sets
abbrev pub Meet : List Bool → List Bool → Type 0
Meet one other = (n : ℕ) × IsIn one n × IsIn other n
