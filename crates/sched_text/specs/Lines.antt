-- The lines of a text.
use Rattle.std.specs.Prelude.{ℕ, ◌==◌, Bool, not, if◌then◌else◌, List, [], ◌∷◌}

-- a byte other than a line feed, as a line has it
abbrev pub is_in_line : ℕ → Bool
is_in_line byte = not (byte == 10)

-- the lines of a text that begins with a byte of its first line, from those of the rest
abbrev pub with_byte : ℕ → List (List ℕ) → List (List ℕ)
with_byte byte [] = (byte ∷ []) ∷ []
with_byte byte (line ∷ more) = (byte ∷ line) ∷ more

-- the lines of a text: each ends at a line feed, which the last one may lack
abbrev pub lines : List ℕ → List (List ℕ)
lines [] = []
lines (byte ∷ rest) = if is_in_line byte then with_byte byte (lines rest) else [] ∷ lines rest
