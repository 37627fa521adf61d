-- Links between things that are numbered from 0, as lists of the numbers to which they lead.
use Rattle.std.specs.Prelude.{ℕ, ◌≡◌, ◌<◌, ◌↔◌, ◌⊎◌, Bool, List, [], ◌∷◌, ◌++◌, length, slice_index_or, slice_set}
use Rattle.std.specs.List.{Contains}
use Rattle.plan_types.specs.Sets.{IsIn}
use Rattle.walks.specs.Walks.{Steps}

-- the numbers to which links lead from a number; from the last one on, none
abbrev pub next_in : List (List ℕ) → ℕ → List ℕ
next_in lists from = slice_index_or lists from []

-- the lists with one more link
abbrev pub with_link : List (List ℕ) → ℕ → ℕ → List (List ℕ)
with_link lists from to = slice_set lists from (next_in lists from ++ to ∷ [])

-- so many lists, whose links lead to numbers below that
pub record AreLinks (size : ℕ) (lists : List (List ℕ)) : Type 0 where
  pub sized : length lists ≡ size
  pub below : (u v : ℕ) → Contains (next_in lists u) v → v < size

-- one of the starts is n, or links lead from it to n
pub record Comes (next : ℕ → List ℕ) (starts : List ℕ) (n : ℕ) : Type 0 where
  pub start : ℕ
  pub is_start : Contains starts start
  pub leads : (start ≡ n) ⊎ ((inner : List ℕ) × Steps next start inner n)

-- a set with these numbers added
pub record IsWithAll (set : List Bool) (numbers : List ℕ) (more : List Bool) : Type 0 where
  pub sized : length more ≡ length set
  pub has : (n : ℕ) → IsIn more n ↔ (IsIn set n ⊎ Contains numbers n)
