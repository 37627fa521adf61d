-- The text of items.
use Rattle.std.proofs.Common.{◌≡◌, ℕ, nat_lt, ◌+◌, Bool, true, false, List, [], ◌∷◌, ◌++◌, append_assoc, append-nil, refl, ap, sym, ◌∙◌, codes, if◌then◌else◌}
use Rattle.std.specs.Fmt.{signed_decimal}
use Rattle.c_prog.specs.declared.expr.BinOp.{BinOp}
use Rattle.c_prog.specs.declared.expr.BinOp.TheVariants as op
use Rattle.c_grammar.specs.declared.sign.Sign.TheVariants as s
use Rattle.c_grammar.specs.Expr.{binary_sign}
use Rattle.c_grammar.specs.Spelling.{word_text, sign_text}
use Rattle.c_grammar.specs.Token.{Kind, IsName, IsNumber, IsQuoted, IsWord, IsOther, IsSign}
use Rattle.c_print.specs.Text.Names.{Names, name_at, var_name}
use Rattle.c_print.specs.Text.Pieces.{quoted, in_parentheses}
use Rattle.c_print.specs.Text.Expressions.{Printed, printed, operand, expr_text, sign_of, binding}
use Rattle.c_print.proofs.TextEquations.{printed-Number, printed-Cast, printed-Read, printed-Neg, printed-Not, printed-Binary, printed-variable, printed-element}
use Rattle.print_law.proofs.Plain.{Expr, Number, Variable, Element, Cast, Neg, Not, Binary, up}
use Rattle.print_law.proofs.Items.{Item, Gap, Is}
use Rattle.print_law.proofs.Expressions.{operator, binds, wrap, binary_items, expr_items}

abbrev pub kind_text : Kind → List ℕ
kind_text (IsName text) = text
kind_text (IsNumber n) = signed_decimal n
kind_text (IsQuoted bytes) = quoted bytes
kind_text (IsWord x) = word_text x
kind_text (IsOther text) = text
kind_text (IsSign x) = sign_text x

abbrev pub item_text : Item → List ℕ
item_text Gap = 32 ∷ []
item_text (Is k) = kind_text k

-- the text of items
abbrev pub spelled : List Item → List ℕ
spelled [] = []
spelled (i ∷ items) = item_text i ++ spelled items

pub spelled-append : (xs ys : List Item) → spelled (xs ++ ys) ≡ spelled xs ++ spelled ys
spelled-append [] ys = refl
spelled-append (i ∷ xs) ys = ap (λ z. item_text i ++ z) (spelled-append xs ys) ∙ sym (append_assoc (item_text i) (spelled xs) (spelled ys))

-- expressions

-- what is printed is this text, and binds so
abbrev Prints : Printed → ℕ → List Item → Type 0
Prints p b items = p ≡ record { binds = b; text = spelled items }

sign-is : (o : BinOp) → sign_of o ≡ sign_text (binary_sign (operator o))
sign-is op.Add = refl
sign-is op.Sub = refl
sign-is op.Mul = refl
sign-is op.Div = refl
sign-is op.Rem = refl
sign-is op.Lt = refl
sign-is op.Le = refl
sign-is op.Gt = refl
sign-is op.Ge = refl
sign-is op.Eq = refl
sign-is op.Ne = refl
sign-is op.And = refl
sign-is op.Or = refl

-- what stands in parentheses or brackets, and behind them
pub spelled-closed : (items : List Item) (k : Kind) → spelled (items ++ Is k ∷ []) ≡ spelled items ++ kind_text k
spelled-closed items k = spelled-append items (Is k ∷ []) ∙ ap (λ z. spelled items ++ z) (append-nil (kind_text k))

wrapped : (test : Bool) (items : List Item) → (if test then in_parentheses (spelled items) else spelled items) ≡ spelled (wrap test items)
wrapped true items = ap (λ z. 40 ∷ z) (sym (spelled-closed items (IsSign s.CloseParen)))
wrapped false items = refl

pub operand-is : (least b : ℕ) (p : Printed) (items : List Item) → Prints p b items → operand least p ≡ spelled (wrap (nat_lt b least) items)
operand-is least b p items h = ap (operand least) h ∙ wrapped (nat_lt b least) items

binary-text : (o : BinOp) (left right : List Item)
    → spelled left ++ codes " " ++ sign_of o ++ codes " " ++ spelled right ≡ spelled (binary_items o left right)
binary-text o left right =
    ap (λ z. spelled left ++ codes " " ++ z ++ codes " " ++ spelled right) (sign-is o)
    ∙ simp append_assoc refl ∙ sym (spelled-append left (Gap ∷ Is (IsSign (binary_sign (operator o))) ∷ Gap ∷ right))

abbrev with_binds : ℕ → List ℕ → Printed
with_binds b text = record { binds = b; text = text }

pub expr-printed : (names : Names) (e : Expr) → Prints (printed names (up e)) (binds e) (expr_items names e)
expr-printed names (Number n) = printed-Number names n ∙ ap (with_binds 8) (sym (append-nil (signed_decimal n)))
expr-printed names (Variable v) = printed-Read names _ ∙ printed-variable names v
expr-printed names (Element v e) =
    printed-Read names _ ∙ printed-element names v (up e)
    ∙ ap (λ z. with_binds 8 (var_name names v ++ (codes "[" ++ z.text ++ codes "]"))) (expr-printed names e)
    ∙ ap (λ z. with_binds 8 (var_name names v ++ (91 ∷ z))) (sym (spelled-closed (expr_items names e) (IsSign s.CloseBracket)))
expr-printed names (Cast n) = printed-Cast names n ∙ ap (λ z. with_binds 8 (codes "(int)(long)" ++ z)) (sym (append-nil (name_at names.locals n)))
expr-printed names (Neg e) =
    printed-Neg names (up e) ∙ ap (λ z. with_binds 7 (codes "-" ++ z)) (operand-is 8 (binds e) (printed names (up e)) (expr_items names e) (expr-printed names e))
expr-printed names (Not e) =
    printed-Not names (up e) ∙ ap (λ z. with_binds 8 (codes "!" ++ z)) (operand-is 7 (binds e) (printed names (up e)) (expr_items names e) (expr-printed names e))
expr-printed names (Binary o l r) =
    printed-Binary names o (up l) (up r)
    ∙ ap (λ z. with_binds (binding o) (z ++ codes " " ++ sign_of o ++ codes " " ++ operand (binding o + 1) (printed names (up r))))
    (operand-is (binding o) (binds l) (printed names (up l)) (expr_items names l) (expr-printed names l))
    ∙ ap (λ z. with_binds (binding o) (spelled (wrap (nat_lt (binds l) (binding o)) (expr_items names l)) ++ codes " " ++ sign_of o ++ codes " " ++ z))
    (operand-is (binding o + 1) (binds r) (printed names (up r)) (expr_items names r) (expr-printed names r))
    ∙ ap (with_binds (binding o)) (binary-text o (wrap (nat_lt (binds l) (binding o)) (expr_items names l)) (wrap (nat_lt (binds r) (binding o + 1)) (expr_items names r)))

pub expr-text : (names : Names) (e : Expr) → expr_text names (up e) ≡ spelled (expr_items names e)
expr-text names e = ap (λ z. z.text) (expr-printed names e)
