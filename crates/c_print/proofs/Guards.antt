-- Conditions from their pieces.
use Rattle.std.proofs.Common.{◌≡◌, ℕ, List, [], ◌∷◌, ◌++◌, map, codes, ap, sym, ◌∙◌, refl, append_assoc, append-nil}
use Rattle.cfix_base.specs.declared.op.Op.{Op}
use Rattle.c_prog.specs.Order.{joined}
use Rattle.c_print.specs.Text.Operations.{op_text, with_true, with_false}
use Rattle.c_print.specs.Text.Pieces.{between, in_parentheses}
use Rattle.c_print.specs.Written.{guard_start, guard_end}
use Rattle.c_print.proofs.Betweens.{between-behind}

behind-ops : (o : Op) (more : List Op)
    → between (codes ", ") (map op_text (o ∷ more)) ++ codes ", " ≡ joined (map (λ o. op_text o ++ codes ", ") (o ∷ more))
behind-ops o more = between-behind (codes ", ") op_text o more

pieces : (test sign items value : List ℕ)
    → codes "(" ++ test ++ (codes ")" ++ sign ++ codes "(" ++ items ++ (value ++ codes ")"))
    ≡ in_parentheses test ++ sign ++ in_parentheses (items ++ value)
pieces test sign items value =
    ap (λ t. codes "(" ++ (test ++ t)) (simp append_assoc refl)
    ∙ ap (λ t. codes "(" ++ t) (sym (append_assoc test (codes ")") (sign ++ in_parentheses (items ++ value))))
    ∙ sym (append_assoc (in_parentheses test) sign (in_parentheses (items ++ value)))

pub true-written : (before first second last test : List ℕ) (ops : List Op)
    → first ≡ before ++ guard_start ops → second ≡ first ++ test → last ≡ second ++ guard_end (codes ") && (") ops (codes "1)")
    → last ≡ before ++ with_true test ops
true-written before first second last test [] p q r = r ∙ simp (q, p, append-nil) refl
true-written before first second last test (o ∷ more) p q r =
    r ∙ ap (λ t. t ++ guard_end (codes ") && (") (o ∷ more) (codes "1)")) (q ∙ ap (λ t. t ++ test) p)
    ∙ ap (λ t. t ++ guard_end (codes ") && (") (o ∷ more) (codes "1)")) (append_assoc before (codes "(") test)
    ∙ append_assoc before (codes "(" ++ test) (guard_end (codes ") && (") (o ∷ more) (codes "1)"))
    ∙ ap (λ t. before ++ (codes "(" ++ test ++ (codes ") && (" ++ t ++ codes "1)"))) (sym (behind-ops o more))
    ∙ ap (λ t. before ++ t) (pieces test (codes " && ") (between (codes ", ") (map op_text (o ∷ more)) ++ codes ", ") (codes "1"))

pub false-written : (before first second last test : List ℕ) (ops : List Op)
    → first ≡ before ++ guard_start ops → second ≡ first ++ test → last ≡ second ++ guard_end (codes ") || (") ops (codes "0)")
    → last ≡ before ++ with_false test ops
false-written before first second last test [] p q r = r ∙ simp (q, p, append-nil) refl
false-written before first second last test (o ∷ more) p q r =
    r ∙ ap (λ t. t ++ guard_end (codes ") || (") (o ∷ more) (codes "0)")) (q ∙ ap (λ t. t ++ test) p)
    ∙ ap (λ t. t ++ guard_end (codes ") || (") (o ∷ more) (codes "0)")) (append_assoc before (codes "(") test)
    ∙ append_assoc before (codes "(" ++ test) (guard_end (codes ") || (") (o ∷ more) (codes "0)"))
    ∙ ap (λ t. before ++ (codes "(" ++ test ++ (codes ") || (" ++ t ++ codes "0)"))) (sym (behind-ops o more))
    ∙ ap (λ t. before ++ t) (pieces test (codes " || ") (between (codes ", ") (map op_text (o ∷ more)) ++ codes ", ") (codes "0"))
