-- Functions that are entered only through nodes of a set.
use Rattle.std.specs.Prelude.{◌≡◌, ◌⊎◌, ℕ, Bool, true, not, ◌&&◌, List, [], ◌∷◌, Some}
use Rattle.layout_laws.specs.Layout.{Layout}

-- call nodes, the innermost first, lead from a root to the function
abbrev pub Chain : Layout → List ℕ → ℕ → Type 0
Chain y [] f = y.is_root f ≡ true
Chain y (n ∷ ns) f = (y.callee n ≡ Some f) × Chain y ns (y.function n)

-- one of these nodes is in the set
abbrev pub AnyIn : (ℕ → Bool) → List ℕ → Type 0
AnyIn set [] = ⊥
AnyIn set (n ∷ ns) = (set n ≡ true) ⊎ AnyIn set ns

-- every chain to a covered function has a call node in the set
abbrev pub Covers : Layout → (ℕ → Bool) → (ℕ → Bool) → Type 0
Covers y set covered = (f : ℕ) → covered f ≡ true → (ns : List ℕ) → Chain y ns f → AnyIn set ns

-- the nodes of the set at which the lock is held by the frame itself
abbrev pub kept_in : Layout → (ℕ → Bool) → (ℕ → Bool) → ℕ → Bool
kept_in y set covered n = set n && not (covered (y.function n))
