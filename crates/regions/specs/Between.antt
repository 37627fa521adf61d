-- How the nodes between two nodes are found.
use Rattle.std.specs.Prelude.{ℕ, ◌≡◌, ◌<◌, ◌≤◌, Bool, true, false, ◌&&◌, ◌||◌, ◌==◌, List, length, if◌then◌else◌}
use Rattle.plan_types.specs.Sets.{no_numbers, is_in, with_number}

abbrev pub one_number : ℕ → ℕ → List Bool
one_number size u = with_number (no_numbers size) u

abbrev pub two_numbers : ℕ → ℕ → ℕ → List Bool
two_numbers size u v = with_number (one_number size u) v

-- a node other than u and v is between them where it is ahead of u and behind it is v; u and v are where v is ahead of u
abbrev pub is_between : List Bool → List Bool → ℕ → ℕ → ℕ → Bool
is_between ahead behind u v n = if n == u || n == v then is_in ahead v else is_in ahead n && is_in behind n

-- the set has the numbers below this one that are between
pub record IsGathered (ahead behind : List Bool) (u v below : ℕ) (set : List Bool) : Type 0 where
  pub sized : length set ≡ length ahead
  pub found : (n : ℕ) → n < below → is_in set n ≡ is_between ahead behind u v n
  pub rest : (n : ℕ) → below ≤ n → is_in set n ≡ false

-- a set with one more number, if it is to be in it
abbrev pub with_if : Bool → List Bool → ℕ → List Bool
with_if true set n = with_number set n
with_if false set n = set
