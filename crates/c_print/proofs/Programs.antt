-- The text of a program from its pieces.
use Rattle.std.proofs.Common.{◌≡◌, ℕ, ◌≤◌, length, arith, Bool, true, List, [], ◌∷◌, ◌++◌, map, codes, ap, sym, ◌∙◌, refl, append_assoc}
use Rattle.cfix_base.specs.declared.number.OrderId.{OrderId}
use Rattle.c_prog.specs.declared.function.Function.{Function}
use Rattle.c_prog.specs.declared.tree.Tree.{Tree}
use Rattle.c_prog.specs.Order.{joined}
use Rattle.c_prog.specs.Patched.{tree_patched}
use Rattle.c_print.specs.Text.Canonical.{canonical, global_line, prototype_lines, start_line, params_text}
use Rattle.c_print.specs.Text.Pieces.{between, closed, spaced, apart, text_of, braced}
use Rattle.c_print.specs.Written.{at, gap, own_with, header_text, function_with}
use Rattle.c_print.proofs.Indented.{text-at, at-braced, at-append}
use Rattle.c_print.proofs.LinesWritten.{two-pieces}

pub text-append : (xs ys : List (List ℕ)) → text_of (xs ++ ys) ≡ text_of xs ++ text_of ys
text-append [] ys = refl
text-append (x ∷ xs) ys = ap (λ more. closed x ++ more) (text-append xs ys) ∙ sym (append_assoc (closed x) (text_of xs) (text_of ys))

pub text-spaced : (lines : List (List ℕ)) → text_of (spaced lines) ≡ text_of lines ++ gap lines
text-spaced [] = refl
text-spaced (line ∷ more) = text-append (line ∷ more) ([] ∷ [])

pub text-joined : {A : Type 0} (f : A → List (List ℕ)) (xs : List A) → text_of (joined (map f xs)) ≡ joined (map (λ x. text_of (f x)) xs)
text-joined f [] = refl
text-joined f (x ∷ more) = text-append (f x) (joined (map f more)) ∙ ap (λ t. text_of (f x) ++ t) (text-joined f more)

-- groups of lines with an empty line between each two are texts with a line feed between each two
pub text-apart : {A : Type 0} (f : A → List (List ℕ)) (xs : List A)
    → text_of (apart (map f xs)) ≡ between (codes "\n") (map (λ x. text_of (f x)) xs)
text-apart f [] = refl
text-apart f (x ∷ []) = refl
text-apart f (x ∷ y ∷ more) =
    text-append (f x) ([] ∷ apart (map f (y ∷ more)))
    ∙ ap (λ t. text_of (f x) ++ (codes "\n" ++ t)) (text-apart f (y ∷ more))
    ∙ sym (append_assoc (text_of (f x)) (codes "\n") (between (codes "\n") (map (λ x. text_of (f x)) (y ∷ more))))

pub own-true : (starts : List OrderId) → text_of (own_with true starts) ≡ text_of (map start_line starts) ++ codes "#include \"cfix.h\"\n"
own-true starts = text-append (map start_line starts) ((codes "#include " ++ 34 ∷ codes "cfix.h" ++ 34 ∷ []) ∷ [])

pub header-written : (before first second last : List ℕ) (patched : Bool) (starts : List OrderId)
    → first ≡ before ++ codes "#include <pthread.h>\n#include <stdio.h>\n" → second ≡ first ++ text_of (own_with patched starts)
    → last ≡ second ++ codes "\n" → last ≡ before ++ header_text patched starts
header-written before first second last patched starts p q r =
    two-pieces before (codes "#include <pthread.h>\n#include <stdio.h>\n" ++ text_of (own_with patched starts)) (codes "\n") second last
    (two-pieces before (codes "#include <pthread.h>\n#include <stdio.h>\n") (text_of (own_with patched starts)) first second p q) r
    ∙ ap (λ t. before ++ t) (sym (text-spaced (codes "#include <pthread.h>" ∷ codes "#include <stdio.h>" ∷ own_with patched starts)))

shape : (head body : List ℕ) → (head ++ codes " {\n" ++ body) ++ codes "}\n" ≡ [] ++ (head ++ codes " ") ++ (codes "{\n" ++ body ++ [] ++ codes "}\n")
shape head body = simp append_assoc refl

pub function-written : (before first second third fourth last head : List ℕ) (ops body : List (List ℕ))
    → first ≡ before ++ head → second ≡ first ++ codes " {\n" → third ≡ second ++ at (codes "    ") ops
    → fourth ≡ third ++ at (codes "    ") body → last ≡ fourth ++ codes "}\n"
    → last ≡ before ++ text_of (braced (head ++ codes " ") (ops ++ body))
function-written before first second third fourth last head ops body p q r s t =
    let inner = at (codes "    ") ops ++ at (codes "    ") body in
    two-pieces before (head ++ codes " {\n" ++ inner) (codes "}\n") fourth last
    (two-pieces before (head ++ codes " {\n") inner second fourth
    (two-pieces before head (codes " {\n") first second p q)
    (two-pieces second (at (codes "    ") ops) (at (codes "    ") body) third fourth r s)) t
    ∙ ap (λ u. before ++ ((head ++ codes " {\n" ++ u) ++ codes "}\n")) (sym (at-append (codes "    ") ops body))
    ∙ ap (λ u. before ++ u) (shape head (at (codes "    ") (ops ++ body)))
    ∙ ap (λ u. before ++ u) (sym (at-braced [] (head ++ codes " ") (ops ++ body)))
    ∙ ap (λ u. before ++ u) (sym (text-at (braced (head ++ codes " ") (ops ++ body))))

pub program-written : (tree : Tree) (header globals prototypes all : List ℕ)
    → header ≡ [] ++ header_text (tree_patched tree) tree.starts
    → globals ≡ header ++ text_of (spaced (map global_line tree.globals))
    → prototypes ≡ globals ++ text_of (spaced (joined (map prototype_lines tree.functions)))
    → all ≡ prototypes ++ text_of (apart (map (function_with (map (λ g. g.name) tree.globals) (map (λ f. f.name) tree.functions)) tree.functions))
    → all ≡ canonical tree
unfolding canonical
program-written tree header globals prototypes all p q r s =
    let h = header_text (tree_patched tree) tree.starts in
    let gs = spaced (map global_line tree.globals) in
    let ps = spaced (joined (map prototype_lines tree.functions)) in
    let fs = apart (map (function_with (map (λ g. g.name) tree.globals) (map (λ f. f.name) tree.functions)) tree.functions) in
    let hs = spaced (codes "#include <pthread.h>" ∷ codes "#include <stdio.h>" ∷ own_with (tree_patched tree) tree.starts) in
    s ∙ ap (λ t. t ++ text_of fs) (r ∙ ap (λ t. t ++ text_of ps) (q ∙ ap (λ t. t ++ text_of gs) p))
    ∙ sym (text-append (hs ++ gs ++ ps) fs ∙ ap (λ t. t ++ text_of fs) (text-append (hs ++ gs) ps ∙ ap (λ t. t ++ text_of ps) (text-append hs gs)))

-- one function more, with the empty line before it
pub one-more : (globals functions : List (List ℕ)) (f : Function) (rest all : List Function) (before first last whole : List ℕ)
    → all ≡ f ∷ rest → first ≡ before ++ codes "\n" → last ≡ first ++ text_of (function_with globals functions f)
    → before ++ joined (map (λ f. codes "\n" ++ text_of (function_with globals functions f)) all) ≡ whole
    → last ++ joined (map (λ f. codes "\n" ++ text_of (function_with globals functions f)) rest) ≡ whole
one-more globals functions f rest all before first last whole is p q r =
    let more = joined (map (λ f. codes "\n" ++ text_of (function_with globals functions f)) rest) in
    ap (λ t. t ++ more) (two-pieces before (codes "\n") (text_of (function_with globals functions f)) first last p q)
    ∙ append_assoc before (codes "\n" ++ text_of (function_with globals functions f)) more
    ∙ ap (λ fs. before ++ joined (map (λ f. codes "\n" ++ text_of (function_with globals functions f)) fs)) (sym is) ∙ r

pub params-some : (params : List (List ℕ)) → 1 ≤ length params
    → params_text params ≡ between (codes ", ") (map (λ name. codes "int " ++ name) params)
params-some [] some = absurd (omega (arith, some))
params-some (param ∷ more) some = refl
