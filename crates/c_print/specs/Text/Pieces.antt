-- Texts and lines, put together.
use Rattle.std.specs.Prelude.{ℕ, List, [], ◌∷◌, ◌++◌, map, codes, eqb, if◌then◌else◌}
use Rattle.c_prog.specs.Order.{joined}

-- texts with this sign between each two
abbrev pub between : List ℕ → List (List ℕ) → List ℕ
between sign [] = []
between sign (text ∷ []) = text
between sign (text ∷ next ∷ more) = text ++ sign ++ between sign (next ∷ more)

abbrev pub in_parentheses : List ℕ → List ℕ
in_parentheses text = codes "(" ++ text ++ codes ")"

abbrev pub in_brackets : List ℕ → List ℕ
in_brackets text = codes "[" ++ text ++ codes "]"

-- a text with `;` behind it
abbrev pub ended : List ℕ → List ℕ
ended text = text ++ codes ";"

-- a byte of a string: line feed, tab, `\` and `"` are escaped (6.4.4.4 of ISO/IEC 9899:2011)
abbrev pub escaped : ℕ → List ℕ
escaped byte =
    if eqb byte 10 then 92 ∷ 110 ∷ [] else (if eqb byte 9 then 92 ∷ 116 ∷ [] else
    (if eqb byte 92 then 92 ∷ 92 ∷ [] else (if eqb byte 34 then 92 ∷ 34 ∷ [] else byte ∷ [])))

-- a string literal (6.4.5 of ISO/IEC 9899:2011)
abbrev pub quoted : List ℕ → List ℕ
quoted text = 34 ∷ joined (map escaped text) ++ 34 ∷ []

-- one nesting: four spaces before each line
abbrev pub deeper : List (List ℕ) → List (List ℕ)
deeper lines = map (λ line. codes "    " ++ line) lines

-- lines in braces that open behind this head
abbrev pub braced : List ℕ → List (List ℕ) → List (List ℕ)
braced head lines = (head ++ codes "{") ∷ deeper lines ++ codes "}" ∷ []

-- lines with this front before the first of them
abbrev pub led : List ℕ → List (List ℕ) → List (List ℕ)
led front [] = []
led front (line ∷ more) = (front ++ line) ∷ more

-- lines and an empty line, if there are any
abbrev pub spaced : List (List ℕ) → List (List ℕ)
spaced [] = []
spaced (line ∷ more) = (line ∷ more) ++ [] ∷ []

-- groups of lines with an empty line between each two
abbrev pub apart : List (List (List ℕ)) → List (List ℕ)
apart [] = []
apart (lines ∷ []) = lines
apart (lines ∷ next ∷ more) = lines ++ [] ∷ apart (next ∷ more)

-- a line with its line feed
abbrev pub closed : List ℕ → List ℕ
closed line = line ++ 10 ∷ []

-- the text of lines
abbrev pub text_of : List (List ℕ) → List ℕ
text_of lines = joined (map closed lines)
