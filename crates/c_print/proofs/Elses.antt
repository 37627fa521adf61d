-- The lines of an `else`, by the length of its list.
use Rattle.std.proofs.Common.{◌≡◌, ◌<◌, ◌≤◌, false, List, [], ◌∷◌, map, codes, length, get_or, ap, sym, refl, arith, if◌then◌else◌}
use Rattle.c_print.specs.Text.Pieces.{braced, led}
use Rattle.c_print.specs.Text.Statements.{Part, lines_of, else_lines}

pub else-none : {A : Type 0} (f : A → Part) (xs : List A) → length xs < 1 → else_lines (map f xs) ≡ codes "}" ∷ []
else-none f [] less = refl
else-none f (x ∷ more) less = absurd (omega (arith, less))

pub else-only : {A : Type 0} (f : A → Part) (xs : List A) (x : A) → 1 ≤ length xs → length xs < 2 → x ≡ get_or xs 0 x
    → else_lines (map f xs) ≡ else_lines (f x ∷ [])
else-only f [] x some less is = absurd (omega (arith, some))
else-only f (y ∷ []) x some less is = ap (λ z. else_lines (f z ∷ [])) (sym is)
else-only f (y ∷ z ∷ more) x some less is = absurd (omega (arith, less))

pub else-many : {A : Type 0} (f : A → Part) (xs : List A) → 2 ≤ length xs
    → else_lines (map f xs) ≡ braced (codes "} else ") (lines_of (map f xs))
else-many f [] more = absurd (omega (arith, more))
else-many f (x ∷ []) more = absurd (omega (arith, more))
else-many f (x ∷ y ∷ rest) more = refl

pub else-braced : (part : Part) → part.is_if ≡ false → else_lines (part ∷ []) ≡ braced (codes "} else ") part.lines
else-braced part is = ap (λ b. if b then led (codes "} else ") part.lines else braced (codes "} else ") part.lines) is
