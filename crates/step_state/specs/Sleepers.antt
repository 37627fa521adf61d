-- The threads that sleep on a condition variable.
use Rattle.std.specs.Prelude.{ℕ, Bool, true, false, ◌==◌, nat_lt, ◌||◌, List, [], ◌∷◌, slice_set, slice_index_or}
use Rattle.cfix_base.specs.declared.number.VarId.{VarId}
use Rattle.step_state.specs.declared.state.Configuration.{Configuration}

-- the threads that sleep on this one, by rising numbers
abbrev pub sleepers_of : Configuration → VarId → List ℕ
sleepers_of s v = slice_index_or s.sleepers v.number []

-- the configuration where these threads sleep on it
abbrev pub with_sleepers : Configuration → VarId → List ℕ → Configuration
with_sleepers s v ts = record s { sleepers = slice_set s.sleepers v.number ts }

-- one more thread, by whether its number is below the first of these
abbrev pub put_before : Bool → ℕ → ℕ → List ℕ → List ℕ → List ℕ
put_before true t u us more = t ∷ u ∷ us
put_before false t u us more = u ∷ more

-- one more thread, at its place among these
abbrev pub with_sleeper : ℕ → List ℕ → List ℕ
with_sleeper t [] = t ∷ []
with_sleeper t (u ∷ us) = put_before (nat_lt t u) t u us (with_sleeper t us)

-- all but the one with the lowest number
abbrev pub all_but_lowest : List ℕ → List ℕ
all_but_lowest [] = []
all_but_lowest (u ∷ us) = us

-- whether the thread is among these
abbrev pub sleeps : ℕ → List ℕ → Bool
sleeps t [] = false
sleeps t (u ∷ us) = (u == t) || sleeps t us
