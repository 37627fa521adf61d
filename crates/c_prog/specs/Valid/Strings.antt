-- The strings of printf.
use Rattle.std.specs.Prelude.{ℕ, suc, Bool, true, false, ◌&&◌, ◌||◌, ◌==◌, nat_le, List, [], ◌∷◌, Option, Some, None, if◌then◌else◌, option_map}
use Rattle.std.specs.List.{list_all}

-- a byte that a string can have: line feed and tab by their escapes, 32 to 126 (the quote and the backslash by their
-- escapes) and 128 to 255
abbrev pub is_string_byte : ℕ → Bool
is_string_byte byte = byte == 9 || byte == 10 || (nat_le 32 byte && nat_le byte 126) || (nat_le 128 byte && nat_le byte 255)

-- what a string can hold
abbrev pub is_string : List ℕ → Bool
is_string text = list_all is_string_byte text

-- after a `%` and this byte, where so many `%d` follow: `%d` is one more and `%%` is none
abbrev pub paired : ℕ → Option ℕ → Option ℕ
paired byte following = if byte == 100 then option_map suc following else (if byte == 37 then following else None)

-- How many `%d` are left, read in pairs from the left; none of them where a `%` stands in neither `%d` nor `%%`.
-- `after` says that the byte before is a `%` that begins a pair.
abbrev pub directives_left : Bool → List ℕ → Option ℕ
directives_left false [] = Some 0
directives_left true [] = None
directives_left false (byte ∷ rest) = directives_left (byte == 37) rest
directives_left true (byte ∷ rest) = paired byte (directives_left false rest)

-- how many `%d` a string of printf has, or None where it has another `%` than those of `%d` and `%%`
abbrev pub directives : List ℕ → Option ℕ
directives text = directives_left false text

-- this number is there and is this one
abbrev pub is_count : ℕ → Option ℕ → Bool
is_count count None = false
is_count count (Some found) = found == count
