-- Lists of lines by keys that rise.
use Rattle.std.specs.Prelude.{◌≡◌, ℕ, Bool, true, List, [], ◌∷◌, map, Option, Some, None, if◌then◌else◌}

-- the keys of entries
abbrev pub keys : {K : Type 0} → List (K × ℕ) → List K
keys entries = map (λ e. e.0) entries

-- a key is before each of these
abbrev pub IsBefore : {K : Type 0} → (K → K → Bool) → K → List K → Type 0
IsBefore before key [] = Unit {0}
IsBefore before key (next ∷ rest) = (before key next ≡ true) × IsBefore before key rest

-- each key is before all later ones
abbrev pub Rises : {K : Type 0} → (K → K → Bool) → List K → Type 0
Rises before [] = Unit {0}
Rises before (key ∷ rest) = IsBefore before key rest × Rises before rest

-- the line of a key in entries, if it is there
abbrev pub line_in : {K : Type 0} → (K → K → Bool) → K → List (K × ℕ) → Option ℕ
line_in same key [] = None
line_in same key (e ∷ rest) = if same e.0 key then Some e.1 else line_in same key rest
