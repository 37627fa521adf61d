-- Tokens with their depths: those of lists of parts and of parts that may be absent, whatever a token is.
use Rattle.std.specs.Prelude.{◌≡◌, ℕ, List, [], ◌∷◌, ◌++◌, Option, Some, None}

-- the first token of ts, or else h
abbrev pub first : {T : Type 0} → List T → Option T → Option T
first [] h = h
first (x ∷ ts) h = Some x

abbrev pub head : {T : Type 0} → List T → Option T
head ts = first ts None

-- the tokens of a list that says how deep each one is
abbrev pub tokens : {T : Type 0} → List (T × ℕ) → List T
tokens [] = []
tokens (m ∷ ms) = m.0 ∷ tokens ms

-- the lists that f gives for the items of a list, one after the other
abbrev pub each : {A B : Type 0} → (A → List B) → List A → List B
each f [] = []
each f (a ∷ more) = f a ++ each f more

-- what some gives for a part, or none where the part is absent
abbrev pub maybe : {A B : Type 0} → B → (A → B) → Option A → B
maybe none some None = none
maybe none some (Some a) = some a

-- as long as the tokens of two lists are the same, their depths are
abbrev pub Agree : {T : Type 0} → List (T × ℕ) → List (T × ℕ) → Type 0
Agree [] ys = Unit {0}
Agree (x ∷ xs) [] = Unit {0}
Agree (x ∷ xs) (y ∷ ys) = x.0 ≡ y.0 → (x.1 ≡ y.1) × Agree xs ys
