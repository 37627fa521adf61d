-- The strings of printf and scanf (7.21.6.1 and 7.21.6.2 of ISO/IEC 9899:2011).
use Rattle.std.specs.Prelude.{ℕ, Bool, true, false, not, ◌||◌, ◌==◌, List, [], ◌∷◌, Option, Some, None, count_by, codes}
use Rattle.std.specs.List.{list_any}
use Rattle.std.specs.Str.{bytes_eq}

-- The bytes behind each `%` that begins a pair, where pairs are read from the left; None for a `%` at the string's end.
-- The flag says that the byte before is a `%` that begins a pair.
abbrev pub pairs_from : Bool → List ℕ → List (Option ℕ)
pairs_from false [] = []
pairs_from true [] = None ∷ []
pairs_from false (byte ∷ rest) = pairs_from (byte == 37) rest
pairs_from true (byte ∷ rest) = Some byte ∷ pairs_from false rest

-- `%d`
abbrev pub is_number_pair : Option ℕ → Bool
is_number_pair None = false
is_number_pair (Some byte) = byte == 100

-- neither `%d` nor `%%`
abbrev pub is_other_pair : Option ℕ → Bool
is_other_pair None = true
is_other_pair (Some byte) = not (byte == 100 || byte == 37)

-- how many `%d` a string has
abbrev pub numbers_in : List ℕ → ℕ
numbers_in text = count_by is_number_pair (pairs_from false text)

-- a `%` stands neither in `%d` nor in `%%`
abbrev pub has_other : List ℕ → Bool
has_other text = list_any is_other_pair (pairs_from false text)

-- the only string of scanf
abbrev pub is_scan_text : List ℕ → Bool
is_scan_text text = bytes_eq text (codes "%d")
