-- Operands from their pieces.
use Rattle.std.proofs.Common.{◌≡◌, ℕ, ◌+◌, Bool, true, false, nat_lt, List, [], ◌++◌, codes, ap, ◌∙◌, refl, append_assoc, append-nil, if◌then◌else◌}
use Rattle.c_prog.specs.declared.expr.BinOp.{BinOp}
use Rattle.c_print.specs.Text.Expressions.{Printed, operand, binding, sign_of}
use Rattle.c_print.specs.Text.Pieces.{in_parentheses}
use Rattle.c_print.specs.Written.{opening, closing, negated, combined}

split : (b : Bool) (text : List ℕ)
    → (if b then codes "(" else []) ++ text ++ (if b then codes ")" else []) ≡ (if b then in_parentheses text else text)
split true text = refl
split false text = append-nil text

operand-split : (least : ℕ) (p : Printed) → opening p.binds least ++ p.text ++ closing p.binds least ≡ operand least p
operand-split least p = split (nat_lt p.binds least) p.text

pub negated-written : (before first second third last : List ℕ) (least : ℕ) (inner : Printed)
    → first ≡ before ++ opening 7 least → second ≡ first ++ codes "-" → third ≡ second ++ operand 8 inner
    → last ≡ third ++ closing 7 least → last ≡ before ++ operand least (negated inner)
negated-written before first second third last least inner p q r s =
    s ∙ simp (r, q, p, append_assoc) refl ∙ ap (λ t. before ++ t) (operand-split least (negated inner))

pub combined-written : (before first second third fourth last : List ℕ) (least : ℕ) (o : BinOp) (left right : Printed)
    → first ≡ before ++ opening (binding o) least → second ≡ first ++ operand (binding o) left
    → third ≡ second ++ (codes " " ++ sign_of o ++ codes " ") → fourth ≡ third ++ operand (binding o + 1) right
    → last ≡ fourth ++ closing (binding o) least → last ≡ before ++ operand least (combined o left right)
combined-written before first second third fourth last least o left right p q r s t =
    t ∙ simp (s, r, q, p, append_assoc) refl ∙ ap (λ u. before ++ u) (operand-split least (combined o left right))
