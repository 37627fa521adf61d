-- The text of indented lines.
use Rattle.std.proofs.Common.{◌≡◌, ℕ, List, [], ◌∷◌, ◌++◌, codes, ap, sym, ◌∙◌, refl, append_assoc, append-nil}
use Rattle.cfix_base.specs.declared.op.Op.{Op}
use Rattle.c_prog.specs.declared.stmt.Stmt.{Stmt}
use Rattle.c_print.specs.Text.Names.{Names}
use Rattle.c_print.specs.Text.Operations.{op_text, op_lines}
use Rattle.c_print.specs.Text.Statements.{stmt_part, body_lines}
use Rattle.c_print.specs.Text.Pieces.{closed, ended, deeper, braced, text_of}
use Rattle.c_print.specs.Written.{at, behind, inside, braces, ops_at, body_at}

pub at-nil : (indent : List ℕ) → at indent [] ≡ []
unfolding at
at-nil indent = refl

pub at-cons : (indent line : List ℕ) (more : List (List ℕ)) → at indent (line ∷ more) ≡ indent ++ closed line ++ at indent more
unfolding at
at-cons indent line more = refl

pub behind-cons : (indent line : List ℕ) (more : List (List ℕ)) → behind indent (line ∷ more) ≡ closed line ++ at indent more
unfolding behind
behind-cons indent line more = refl

pub at-append : (indent : List ℕ) (xs ys : List (List ℕ)) → at indent (xs ++ ys) ≡ at indent xs ++ at indent ys
unfolding at
at-append indent [] ys = refl
at-append indent (x ∷ xs) ys =
    ap (λ t. (indent ++ closed x) ++ t) (at-append indent xs ys) ∙ sym (append_assoc (indent ++ closed x) (at indent xs) (at indent ys))

pub at-deeper : (indent : List ℕ) (lines : List (List ℕ)) → at indent (deeper lines) ≡ at (inside indent) lines
unfolding at
at-deeper indent [] = refl
at-deeper indent (x ∷ xs) =
    ap (λ t. (indent ++ closed (codes "    " ++ x)) ++ t) (at-deeper indent xs)
    ∙ ap (λ t. t ++ at (inside indent) xs) (sym (append_assoc indent (codes "    ") (closed x)))

pub text-at : (lines : List (List ℕ)) → text_of lines ≡ at [] lines
unfolding at
text-at lines = refl

pub at-only : (indent line : List ℕ) → at indent (line ∷ []) ≡ indent ++ closed line
at-only indent line = at-cons indent line [] ∙ ap (λ t. indent ++ closed line ++ t) (at-nil indent) ∙ append-nil (indent ++ closed line)

pub at-braced : (indent head : List ℕ) (lines : List (List ℕ)) → at indent (braced head lines) ≡ indent ++ head ++ braces indent lines
at-braced indent head lines =
    at-cons indent (head ++ codes "{") (deeper lines ++ codes "}" ∷ [])
    ∙ ap (λ t. indent ++ closed (head ++ codes "{") ++ t)
    (at-append indent (deeper lines) (codes "}" ∷ [])
    ∙ ap (λ t. t ++ at indent (codes "}" ∷ [])) (at-deeper indent lines)
    ∙ ap (λ t. at (inside indent) lines ++ t) (at-only indent (codes "}")))
    ∙ simp append_assoc refl

pub at-ops : (indent : List ℕ) (ops : List Op) → at indent (op_lines ops) ≡ ops_at indent ops
at-ops indent [] = at-nil indent
at-ops indent (o ∷ more) =
    at-cons indent (ended (op_text o)) (op_lines more) ∙ ap (λ t. indent ++ closed (ended (op_text o)) ++ t) (at-ops indent more)

pub at-body : (names : Names) (indent : List ℕ) (body : List Stmt) → at indent (body_lines names body) ≡ body_at names indent body
at-body names indent [] = at-nil indent
at-body names indent (s ∷ more) =
    at-append indent (stmt_part names s).lines (body_lines names more)
    ∙ ap (λ t. at indent (stmt_part names s).lines ++ t) (at-body names indent more)
