use Rattle.std.specs.Prelude.{ℕ, Bool, false, not, ◌&&◌, ◌||◌, eqb, leb, List, [], ◌∷◌, codes}
use Rattle.std.specs.List.{list_any, list_all}
use Rattle.std.specs.Char.{is_ascii_digit}
use Rattle.std.specs.Str.{bytes_eq}
use Rattle.cfix_base.specs.Words.{is_name_byte}

-- a space, a tab, a line feed or a carriage return
abbrev pub is_blank : ℕ → Bool
is_blank byte = ((eqb byte 32 || eqb byte 9) || eqb byte 10) || eqb byte 13

-- the byte that ends a line
abbrev pub is_line_feed : ℕ → Bool
is_line_feed byte = eqb byte 10

-- a byte of a line: anything but a line feed
abbrev pub is_line_byte : ℕ → Bool
is_line_byte byte = not (is_line_feed byte)

-- a byte that stands for itself in a string: a printing one other than `"` and `\`, or one past ASCII
-- (6.4.5 of ISO/IEC 9899:2011)
abbrev pub is_plain : ℕ → Bool
is_plain byte = leb 128 byte || (((leb 32 byte && leb byte 126) && not (eqb byte 34)) && not (eqb byte 92))

-- a byte that may stand behind a `\`: n, t, `\` and `"` (6.4.4.4 of ISO/IEC 9899:2011)
abbrev pub is_escape : ℕ → Bool
is_escape byte = ((eqb byte 110 || eqb byte 116) || eqb byte 92) || eqb byte 34

-- the signs that are read (a part of 6.4.6 of ISO/IEC 9899:2011)
abbrev pub signs : List (List ℕ)
signs = codes "(" ∷ codes ")" ∷ codes "{" ∷ codes "}" ∷ codes "[" ∷ codes "]" ∷ codes ";" ∷
    codes "," ∷ codes "=" ∷ codes "+" ∷ codes "-" ∷ codes "*" ∷ codes "/" ∷ codes "%" ∷
    codes "<" ∷ codes ">" ∷ codes "<=" ∷ codes ">=" ∷ codes "==" ∷ codes "!=" ∷ codes "!" ∷
    codes "&&" ∷ codes "||" ∷ codes "&" ∷ codes "++" ∷ codes "--" ∷ codes "+=" ∷ codes "-=" ∷
    codes "*=" ∷ codes "/=" ∷ codes "%=" ∷ codes "#" ∷ codes "." ∷ []

-- one of the signs
abbrev pub is_sign : List ℕ → Bool
is_sign text = list_any (bytes_eq text) signs

-- a digit, and then letters, digits and `_` (a preprocessing number of 6.4.8 of ISO/IEC 9899:2011,
-- without points and signs)
abbrev pub is_numeral : List ℕ → Bool
is_numeral [] = false
is_numeral (first ∷ rest) = is_ascii_digit first && list_all is_name_byte rest

-- whether the byte stands first in the text
abbrev pub begins_with : ℕ → List ℕ → Bool
begins_with byte [] = false
begins_with byte (first ∷ rest) = eqb first byte

-- whether `*/` stands somewhere in the text
abbrev pub holds_close : List ℕ → Bool
holds_close [] = false
holds_close (byte ∷ rest) = (eqb byte 42 && begins_with 47 rest) || holds_close rest
