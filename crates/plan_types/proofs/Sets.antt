-- What is in a set after an insertion, and when two sets are equal.
use Rattle.std.proofs.Common.{◌≡◌, ℕ, ◌<◌, ◌≤◌, Bool, true, false, List, length, sym, ◌∙◌, inl, inr, arith}
use Rattle.std.proofs.lemmas.List.{ext_get_or, length-set, length-replicate, get_or-replicate, get_or-set_same, get_or-set_other, get_or_past}
use Rattle.std.proofs.lemmas.Bool.{cases_lt, false≢true}
use Rattle.plan_types.specs.Sets.{no_numbers, is_in, IsIn, with_number}

pub size-no_numbers : (size : ℕ) → length (no_numbers size) ≡ size
size-no_numbers size = length-replicate size false

pub is_in-no_numbers : (size number : ℕ) → is_in (no_numbers size) number ≡ false
is_in-no_numbers size number = elim (cases_lt number size) [
  | inl below ↦ get_or-replicate size number false false below
  | inr past ↦ get_or_past (no_numbers size) number false (let e : length (no_numbers size) ≡ size = size-no_numbers size in omega arith)
]

pub size-with_number : (numbers : List Bool) (number : ℕ) → length (with_number numbers number) ≡ length numbers
size-with_number numbers number = length-set numbers number true

pub is_in-with_same : (numbers : List Bool) (number : ℕ) → number < length numbers → is_in (with_number numbers number) number ≡ true
is_in-with_same numbers number below = get_or-set_same numbers number true false below

pub is_in-with_other : (numbers : List Bool) (number other : ℕ) → (other ≡ number → ⊥) → is_in (with_number numbers number) other ≡ is_in numbers other
is_in-with_other numbers number other differs = get_or-set_other numbers number other true false differs

pub is_in-past : (numbers : List Bool) (number : ℕ) → length numbers ≤ number → is_in numbers number ≡ false
is_in-past numbers number past = get_or_past numbers number false past

-- a number in a set is below its size
pub IsIn-below : (numbers : List Bool) (number : ℕ) → IsIn numbers number → number < length numbers
IsIn-below numbers number here = elim (cases_lt number (length numbers)) [
  | inl below ↦ below
  | inr past ↦ absurd (false≢true (sym (is_in-past numbers number past) ∙ here))
]

-- two sets of one size with the same numbers are equal
pub same_numbers : (one other : List Bool) → length one ≡ length other → ((number : ℕ) → number < length one → is_in one number ≡ is_in other number) → one ≡ other
same_numbers one other sizes numbers = ext_get_or false one other sizes numbers
