-- Lines from the pieces that are written.
use Rattle.std.proofs.Common.{◌≡◌, ℕ, List, [], ◌∷◌, ◌++◌, codes, ap, sym, ◌∙◌, refl, append_assoc, append-nil}
use Rattle.c_print.specs.Text.Pieces.{closed, ended, deeper, braced, led}
use Rattle.c_print.specs.Text.Statements.{if_lines}
use Rattle.c_print.specs.Written.{at, behind, inside, braces, if_start}
use Rattle.c_print.proofs.Indented.{at-cons, at-only, behind-cons, at-append, at-deeper, at-braced}

pub two-pieces : (before a b between last : List ℕ) → between ≡ before ++ a → last ≡ between ++ b → last ≡ before ++ (a ++ b)
two-pieces before a b between last p q = q ∙ ap (λ t. t ++ b) p ∙ append_assoc before a b

-- two names among three texts
pub names-written : (before front first between second end start middle last : List ℕ)
    → start ≡ before ++ front → middle ≡ start ++ first → last ≡ middle ++ (between ++ second ++ end)
    → last ≡ before ++ (front ++ first ++ between ++ second ++ end)
names-written before front first between second end start middle last p q r =
    two-pieces before (front ++ first) (between ++ second ++ end) middle last (two-pieces before front first start middle p q) r
    ∙ ap (λ t. before ++ t) (sym (append_assoc (front ++ first) (between ++ second) end))
    ∙ ap (λ t. before ++ (t ++ end)) (sym (append_assoc (front ++ first) between second))

pub line-written : (before first second third last indent line : List ℕ) (more : List (List ℕ))
    → first ≡ before ++ indent → second ≡ first ++ line → third ≡ second ++ codes ";\n" → last ≡ third ++ at indent more
    → last ≡ before ++ at indent (ended line ∷ more)
line-written before first second third last indent line more p q r s =
    s ∙ ap (λ t. t ++ at indent more)
    (two-pieces before indent (line ++ codes ";\n") first third p (two-pieces first line (codes ";\n") second third q r))
    ∙ append_assoc before (indent ++ (line ++ codes ";\n")) (at indent more)
    ∙ ap (λ t. before ++ (indent ++ t ++ at indent more)) (sym (append_assoc line (codes ";") (codes "\n")))
    ∙ ap (λ t. before ++ t) (sym (at-cons indent (ended line) more))

pub only-written : (before first second last indent line : List ℕ)
    → first ≡ before ++ indent → second ≡ first ++ line → last ≡ second ++ codes ";\n"
    → last ≡ before ++ at indent (ended line ∷ [])
only-written before first second last indent line p q r =
    two-pieces before indent (line ++ codes ";\n") first last p (two-pieces first line (codes ";\n") second last q r)
    ∙ ap (λ t. before ++ (indent ++ t)) (sym (append_assoc line (codes ";") (codes "\n")))
    ∙ ap (λ t. before ++ t) (sym (at-only indent (ended line)))

pub both-written : (before between last indent : List ℕ) (xs ys : List (List ℕ))
    → between ≡ before ++ at indent xs → last ≡ between ++ at indent ys → last ≡ before ++ at indent (xs ++ ys)
both-written before between last indent xs ys p q =
    two-pieces before (at indent xs) (at indent ys) between last p q ∙ ap (λ t. before ++ t) (sym (at-append indent xs ys))

pub braces-written : (before first second third last indent : List ℕ) (lines : List (List ℕ))
    → first ≡ before ++ codes "{\n" → second ≡ first ++ at (inside indent) lines → third ≡ second ++ indent
    → last ≡ third ++ codes "}\n" → last ≡ before ++ braces indent lines
braces-written before first second third last indent lines p q r s =
    two-pieces before (codes "{\n" ++ at (inside indent) lines ++ indent) (codes "}\n") third last
    (two-pieces before (codes "{\n" ++ at (inside indent) lines) indent second third
    (two-pieces before (codes "{\n") (at (inside indent) lines) first second p q) r) s

pub headed-written : (before first second last indent head : List ℕ) (lines : List (List ℕ))
    → first ≡ before ++ indent → second ≡ first ++ head → last ≡ second ++ braces indent lines
    → last ≡ before ++ at indent (braced head lines)
headed-written before first second last indent head lines p q r =
    two-pieces before (indent ++ head) (braces indent lines) second last (two-pieces before indent head first second p q) r
    ∙ ap (λ t. before ++ t) (sym (at-braced indent head lines))

pub block-written : (before first last indent : List ℕ) (lines : List (List ℕ))
    → first ≡ before ++ indent → last ≡ first ++ braces indent lines → last ≡ before ++ at indent (braced [] lines)
block-written before first last indent lines p q = headed-written before first first last indent [] lines p (sym (append-nil first)) q

pub at-behind : (indent line : List ℕ) (more : List (List ℕ)) → at indent (line ∷ more) ≡ indent ++ behind indent (line ∷ more)
at-behind indent line more =
    at-cons indent line more ∙ append_assoc indent (closed line) (at indent more)
    ∙ ap (λ t. indent ++ t) (sym (behind-cons indent line more))

-- an `if` behind its indentation
if-indented : (before first last indent cond : List ℕ) (xs rest : List (List ℕ))
    → first ≡ before ++ indent → last ≡ first ++ behind indent (if_lines cond xs rest) → last ≡ before ++ at indent (if_lines cond xs rest)
if-indented before first last indent cond xs rest p q =
    two-pieces before indent (behind indent (if_lines cond xs rest)) first last p q
    ∙ ap (λ t. before ++ t) (sym (at-behind indent (codes "if (" ++ cond ++ codes ") {") (deeper xs ++ rest)))

-- an `if` behind an `else`
if-led : (before first second last indent cond : List ℕ) (xs rest : List (List ℕ))
    → first ≡ before ++ indent → second ≡ first ++ codes "} else " → last ≡ second ++ behind indent (if_lines cond xs rest)
    → last ≡ before ++ at indent (led (codes "} else ") (if_lines cond xs rest))
if-led before first second last indent cond xs rest p q r =
    let line = codes "if (" ++ cond ++ codes ") {" in
    r ∙ ap (λ t. second ++ t) (behind-cons indent line (deeper xs ++ rest))
    ∙ two-pieces before (indent ++ codes "} else ") (closed line ++ at indent (deeper xs ++ rest)) second
    (second ++ (closed line ++ at indent (deeper xs ++ rest))) (two-pieces before indent (codes "} else ") first second p q) refl
    ∙ ap (λ t. before ++ t) (append_assoc indent (codes "} else ") (closed line ++ at indent (deeper xs ++ rest)))
    ∙ ap (λ t. before ++ t) (sym (append_assoc indent (closed (codes "} else " ++ line)) (at indent (deeper xs ++ rest))))
    ∙ ap (λ t. before ++ t) (sym (at-cons indent (codes "} else " ++ line) (deeper xs ++ rest)))

pub start-written : (before first second third last indent cond : List ℕ) (xs : List (List ℕ))
    → first ≡ before ++ codes "if (" → second ≡ first ++ cond → third ≡ second ++ codes ") {\n"
    → last ≡ third ++ at (inside indent) xs → last ≡ before ++ if_start indent cond xs
start-written before first second third last indent cond xs p q r s =
    two-pieces before (codes "if (" ++ cond ++ codes ") {\n") (at (inside indent) xs) third last
    (two-pieces before (codes "if (" ++ cond) (codes ") {\n") second third (two-pieces before (codes "if (") cond first second p q) r) s

-- an `if` from its pieces
if-written : (before between last indent cond : List ℕ) (xs rest : List (List ℕ))
    → between ≡ before ++ if_start indent cond xs → last ≡ between ++ at indent rest
    → last ≡ before ++ behind indent (if_lines cond xs rest)
if-written before between last indent cond xs rest p q =
    let head = codes "if (" ++ cond ++ codes ") {\n" in
    two-pieces before (if_start indent cond xs) (at indent rest) between last p q
    ∙ ap (λ u. before ++ u) (append_assoc head (at (inside indent) xs) (at indent rest))
    ∙ ap (λ u. before ++ (head ++ (u ++ at indent rest))) (sym (at-deeper indent xs))
    ∙ ap (λ u. before ++ (head ++ u)) (sym (at-append indent (deeper xs) rest))
    ∙ ap (λ u. before ++ (u ++ at indent (deeper xs ++ rest))) (ap (λ u. codes "if (" ++ u) (sym (append_assoc cond (codes ") {") (codes "\n"))))
    ∙ ap (λ u. before ++ u) (sym (behind-cons indent (codes "if (" ++ cond ++ codes ") {") (deeper xs ++ rest)))

-- an `if` behind its indentation
pub indented-if : (before first second last indent cond : List ℕ) (xs rest : List (List ℕ))
    → first ≡ before ++ indent → second ≡ first ++ if_start indent cond xs → last ≡ second ++ at indent rest
    → last ≡ before ++ at indent (if_lines cond xs rest)
indented-if before first second last indent cond xs rest p q r =
    if-indented before first last indent cond xs rest p (if-written first second last indent cond xs rest q r)

-- an `if` behind an `else`
pub led-if : (before first second third last indent cond : List ℕ) (xs rest : List (List ℕ))
    → first ≡ before ++ indent → second ≡ first ++ codes "} else " → third ≡ second ++ if_start indent cond xs
    → last ≡ third ++ at indent rest → last ≡ before ++ at indent (led (codes "} else ") (if_lines cond xs rest))
led-if before first second third last indent cond xs rest p q r s =
    if-led before first second last indent cond xs rest p q (if-written second third last indent cond xs rest r s)
