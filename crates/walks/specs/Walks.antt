-- Walks along links: from each node to the nodes of a list.
use Rattle.std.specs.Prelude.{ℕ, ◌≡◌, ◌+◌, ◌-◌, ◌≤◌, ◌⊎◌, Bool, true, false, nat_lt, List, [], ◌∷◌, length, slice_get, Option, Some, None, if◌then◌else◌}
use Rattle.std.specs.List.{Contains}
use Rattle.plan_types.specs.Sets.{IsIn}

-- none of the nodes is in the set
abbrev pub Clear : List Bool → List ℕ → Type 0
Clear avoiding [] = Unit {0}
Clear avoiding (m ∷ rest) = (¬ IsIn avoiding m) × Clear avoiding rest

-- at least one link leads from u to v, by these nodes in order
abbrev pub Steps : (ℕ → List ℕ) → ℕ → List ℕ → ℕ → Type 0
Steps next u [] v = Contains (next u) v
Steps next u (m ∷ rest) v = Contains (next u) m × Steps next m rest v

-- the same by nodes that are not in the set
pub record Chained (next : ℕ → List ℕ) (avoiding : List Bool) (u v : ℕ) : Type 0 where
  pub inner : List ℕ
  pub steps : Steps next u inner v
  pub clear : Clear avoiding inner

-- such a chain leads from one of the starts to n
pub record Ends (next : ℕ → List ℕ) (avoiding : List Bool) (starts : List ℕ) (n : ℕ) : Type 0 where
  pub start : ℕ
  pub is_start : Contains starts start
  pub chain : Chained next avoiding start n

-- how many numbers are not in the set
abbrev pub missing : List Bool → ℕ
missing [] = 0
missing (true ∷ rest) = missing rest
missing (false ∷ rest) = 1 + missing rest

-- what a turn of a walk does that meets these nodes: it finds them, and adds those that are new and
-- not avoided to the nodes from which to go on
pub record Grows (avoiding : List Bool) (met : List ℕ) (found : List Bool) (work : List ℕ) (later : List Bool) (more : List ℕ) : Type 0 where
  pub size : length later ≡ length found
  pub keeps : (n : ℕ) → IsIn found n → IsIn later n
  pub has : (n : ℕ) → Contains met n → IsIn later n
  pub only : (n : ℕ) → IsIn later n → IsIn found n ⊎ Contains met n
  pub stays : (u : ℕ) → Contains work u → Contains more u
  pub adds : (u : ℕ) → Contains more u → Contains work u ⊎ (Contains met u × (IsIn avoiding u → ⊥))
  pub new : (u : ℕ) → IsIn later u → (IsIn avoiding u → ⊥) → IsIn found u ⊎ Contains more u
  pub fewer : missing later + length more ≤ missing found + length work

abbrev pub list_or : Option (List ℕ) → List ℕ
list_or None = []
list_or (Some list) = list

-- the nodes to which links lead from a node, if the lists have it: their first node has the number `first`
abbrev pub targets_in : List (List ℕ) → ℕ → ℕ → List ℕ
targets_in lists first node = if nat_lt node first then [] else list_or (slice_get lists (node - first))

-- the set has this size, and exactly the ends of chains from a start
pub record IsWalk (next : ℕ → List ℕ) (avoiding : List Bool) (starts : List ℕ) (size : ℕ) (found : List Bool) : Type 0 where
  pub sized : length found ≡ size
  pub sound : (n : ℕ) → IsIn found n → Ends next avoiding starts n
  pub all : (n : ℕ) → Ends next avoiding starts n → IsIn found n
