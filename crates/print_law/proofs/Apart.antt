-- Items that stand apart: no token goes on with what follows it.
use Rattle.std.proofs.Common.{◌≡◌, ℕ, ◌+◌, nat_lt, Bool, true, false, not, ◌&&◌, List, [], ◌∷◌, ◌++◌, Option, Some, None, refl, ap, sym, ◌∙◌, arith, true≢false}
use Rattle.std.proofs.lemmas.Bool.{lt-ltb, and_parts}
use Rattle.c_prog.specs.declared.expr.BinOp.{BinOp}
use Rattle.c_grammar.specs.declared.sign.Sign.{Sign}
use Rattle.c_grammar.specs.declared.sign.Sign.TheVariants as s
use Rattle.c_grammar.specs.Expr.{binary_sign}
use Rattle.c_grammar.specs.Marks.{first}
use Rattle.c_grammar.specs.Spelling.{sign_text}
use Rattle.c_grammar.specs.Token.{Kind, IsName, IsNumber, IsQuoted, IsWord, IsOther, IsSign}
use Rattle.c_lex.proofs.Again.{goes_on}
use Rattle.c_print.specs.Text.Names.{Names, name_at, var_name}
use Rattle.c_print.specs.Text.Expressions.{binding}
use Rattle.print_law.proofs.Plain.{Expr, Number, Variable, Element, Cast, Neg, Not, Binary}
use Rattle.print_law.proofs.Items.{Item, Gap, Is}
use Rattle.print_law.proofs.Expressions.{operator, binds, binding-small, wrap, binary_items, expr_items}

-- a sign before a text
abbrev pub sign_stands : List ℕ → List ℕ → Bool
sign_stands (byte ∷ []) text = not (goes_on byte text)
sign_stands _ text = true

-- a sign before a token
abbrev pub sign_before : Sign → Kind → Bool
sign_before x (IsSign y) = sign_stands (sign_text x) (sign_text y)
sign_before x _ = true

-- what may follow a name, a word or a number
abbrev pub shuts : Kind → Bool
shuts (IsSign y) = true
shuts (IsQuoted bytes) = true
shuts _ = false

-- a token before a token
abbrev pub stands : Kind → Kind → Bool
stands (IsQuoted bytes) next = true
stands (IsSign x) next = sign_before x next
stands k next = shuts next

-- an item before the next, or before the line's end
abbrev pub apart : Item → Option Item → Bool
apart Gap next = true
apart (Is k) None = true
apart (Is k) (Some Gap) = true
apart (Is k) (Some (Is next)) = stands k next

-- each item stands apart from the next, and the last one from what follows
abbrev pub fits : List Item → Option Item → Bool
fits [] next = true
fits (i ∷ items) next = apart i (first items next) && fits items next

pub both : (a b : Bool) → a ≡ true → b ≡ true → (a && b) ≡ true
both a b p q = rw (p, q) refl

first-append : (xs ys : List Item) (next : Option Item) → first (xs ++ ys) next ≡ first xs (first ys next)
first-append [] ys next = refl
first-append (x ∷ xs) ys next = refl

pub fits-append : (xs ys : List Item) (next : Option Item) → fits xs (first ys next) ≡ true → fits ys next ≡ true → fits (xs ++ ys) next ≡ true
fits-append [] ys next p q = q
fits-append (x ∷ xs) ys next p q =
    let parts = and_parts (apart x (first xs (first ys next))) (fits xs (first ys next)) p in
    both _ _ (ap (apart x) (first-append xs ys next) ∙ parts.0) (fits-append xs ys next parts.1 q)

-- what may follow an expression: a space, a sign, or the line's end
abbrev pub ends : Option Item → Bool
ends None = true
ends (Some Gap) = true
ends (Some (Is (IsSign y))) = true
ends (Some (Is k)) = false

-- items that stand apart before whatever ends them
abbrev pub Fits : List Item → Type 0
Fits items = (next : Option Item) → ends next ≡ true → fits items next ≡ true

pub fits-then : (xs ys : List Item) (next : Option Item) → Fits xs → ends (first ys next) ≡ true → fits ys next ≡ true → fits (xs ++ ys) next ≡ true
fits-then xs ys next h e q = fits-append xs ys next (h (first ys next) e) q

-- how an expression begins: a number, a name, a parenthesis, `-` or `!`
abbrev pub begins_so : Kind → Bool
begins_so (IsNumber n) = true
begins_so (IsName text) = true
begins_so (IsSign s.OpenParen) = true
begins_so (IsSign s.Minus) = true
begins_so (IsSign s.Not) = true
begins_so _ = false

abbrev pub begins : List Item → Bool
begins [] = false
begins (Gap ∷ items) = false
begins (Is k ∷ items) = begins_so k

pub begins-append : (xs ys : List Item) → begins xs ≡ true → begins (xs ++ ys) ≡ true
begins-append [] ys h = absurd (true≢false (sym h))
begins-append (Gap ∷ xs) ys h = h
begins-append (Is k ∷ xs) ys h = h

-- a sign that stands before whatever begins an expression
abbrev pub opens : Sign → Bool
opens x = sign_before x (IsSign s.OpenParen) && (sign_before x (IsSign s.Minus) && sign_before x (IsSign s.Not))

opens-so : (x : Sign) (k : Kind) → opens x ≡ true → begins_so k ≡ true → sign_before x k ≡ true
opens-so x (IsSign s.OpenParen) o b = (and_parts _ _ o).0
opens-so x (IsSign s.Minus) o b = (and_parts (sign_before x (IsSign s.Minus)) (sign_before x (IsSign s.Not)) (and_parts (sign_before x (IsSign s.OpenParen)) _ o).1).0
opens-so x (IsSign s.Not) o b = (and_parts (sign_before x (IsSign s.Minus)) (sign_before x (IsSign s.Not)) (and_parts (sign_before x (IsSign s.OpenParen)) _ o).1).1
opens-so x (IsSign y) o b = absurd (true≢false (sym b))
opens-so x (IsName text) o b = refl
opens-so x (IsNumber n) o b = refl
opens-so x (IsQuoted bytes) o b = refl
opens-so x (IsWord w) o b = refl
opens-so x (IsOther text) o b = refl

pub open-fits : (x : Sign) (items : List Item) (next : Option Item) → opens x ≡ true → begins items ≡ true → fits items next ≡ true → fits (Is (IsSign x) ∷ items) next ≡ true
open-fits x [] next o b f = absurd (true≢false (sym b))
open-fits x (Gap ∷ items) next o b f = absurd (true≢false (sym b))
open-fits x (Is k ∷ items) next o b f = both _ _ (opens-so x k o b) f

close-paren : (text : List ℕ) → goes_on 41 text ≡ false
close-paren [] = refl
close-paren (byte ∷ text) = refl

close-bracket : (text : List ℕ) → goes_on 93 text ≡ false
close-bracket [] = refl
close-bracket (byte ∷ text) = refl

pub closed-apart : (next : Option Item) → ends next ≡ true → apart (Is (IsSign s.CloseParen)) next ≡ true
closed-apart None h = refl
closed-apart (Some Gap) h = refl
closed-apart (Some (Is (IsSign y))) h = ap not (close-paren (sign_text y))
closed-apart (Some (Is k)) h = absurd (true≢false (sym h))

pub closed-paren : (next : Option Item) → ends next ≡ true → (apart (Is (IsSign s.CloseParen)) next && true) ≡ true
closed-paren next h = both _ _ (closed-apart next h) refl

pub closed-bracket : (next : Option Item) → ends next ≡ true → (apart (Is (IsSign s.CloseBracket)) next && true) ≡ true
closed-bracket None h = refl
closed-bracket (Some Gap) h = refl
closed-bracket (Some (Is (IsSign y))) h = both _ _ (ap not (close-bracket (sign_text y))) refl
closed-bracket (Some (Is k)) h = absurd (true≢false (sym h))

pub name-fits : (text : List ℕ) → Fits (Is (IsName text) ∷ [])
name-fits text None h = refl
name-fits text (Some Gap) h = refl
name-fits text (Some (Is (IsSign y))) h = refl
name-fits text (Some (Is k)) h = absurd (true≢false (sym h))

-- expressions

pub record Phrase (items : List Item) : Type 0 where
  pub begins : begins items ≡ true
  pub fits : Fits items

wrap-phrase : (test : Bool) (items : List Item) → Phrase items → Phrase (wrap test items)
wrap-phrase true items p = record {
  begins = refl;
  fits = λ next h.
      open-fits s.OpenParen (items ++ Is (IsSign s.CloseParen) ∷ []) next refl (begins-append items _ p.begins)
      (fits-then items (Is (IsSign s.CloseParen) ∷ []) next p.fits refl (closed-paren next h));
}
wrap-phrase false items p = p

binary-stands : (o : BinOp) (next : Option Item) → apart (Is (IsSign (binary_sign (operator o)))) (Some Gap) ≡ true
binary-stands o next = refl

binary-phrase : (o : BinOp) (left right : List Item) → Phrase left → Phrase right → Phrase (binary_items o left right)
binary-phrase o left right p q = record {
  begins = begins-append left _ p.begins;
  fits = λ next h. fits-then left (Gap ∷ Is (IsSign (binary_sign (operator o))) ∷ Gap ∷ right) next p.fits refl (q.fits next h);
}

-- a `-` before an operand that is no `-` and no binary operation
minus-fits : (names : Names) (e : Expr) (next : Option Item) → fits (wrap (nat_lt (binds e) 8) (expr_items names e)) next ≡ true
    → fits (Is (IsSign s.Minus) ∷ wrap (nat_lt (binds e) 8) (expr_items names e)) next ≡ true
minus-fits names (Number n) next f = f
minus-fits names (Variable v) next f = f
minus-fits names (Element v e) next f = f
minus-fits names (Cast n) next f = f
minus-fits names (Neg e) next f = f
minus-fits names (Not e) next f = f
minus-fits names (Binary o l r) next f =
    let small = binding-small o in
    let test : nat_lt (binding o) 8 ≡ true = lt-ltb (binding o) 8 (omega (arith, small)) in
    by (nat_lt (binding o) 8) test f
  where
    by : (test : Bool) → test ≡ true → fits (wrap test (expr_items names (Binary o l r))) next ≡ true
        → fits (Is (IsSign s.Minus) ∷ wrap test (expr_items names (Binary o l r))) next ≡ true
    by true e g = g
    by false e g = absurd (true≢false (sym e))

pub expr-phrase : (names : Names) (e : Expr) → Phrase (expr_items names e)
expr-phrase names (Number n) = record { begins = refl; fits = number-fits }
  where
    number-fits : Fits (Is (IsNumber n) ∷ [])
    number-fits None h = refl
    number-fits (Some Gap) h = refl
    number-fits (Some (Is (IsSign y))) h = refl
    number-fits (Some (Is k)) h = absurd (true≢false (sym h))
expr-phrase names (Variable v) = record { begins = refl; fits = name-fits (var_name names v) }
expr-phrase names (Element v e) =
    let p = expr-phrase names e in
    record {
      begins = refl;
      fits = λ next h.
          open-fits s.OpenBracket (expr_items names e ++ Is (IsSign s.CloseBracket) ∷ []) next refl (begins-append (expr_items names e) _ p.begins)
          (fits-then (expr_items names e) (Is (IsSign s.CloseBracket) ∷ []) next p.fits refl (closed-bracket next h));
    }
expr-phrase names (Cast n) = record { begins = refl; fits = name-fits (name_at names.locals n) }
expr-phrase names (Neg e) =
    let p = wrap-phrase (nat_lt (binds e) 8) (expr_items names e) (expr-phrase names e) in
    record { begins = refl; fits = λ next h. minus-fits names e next (p.fits next h) }
expr-phrase names (Not e) =
    let p = wrap-phrase (nat_lt (binds e) 7) (expr_items names e) (expr-phrase names e) in
    record { begins = refl; fits = λ next h. open-fits s.Not (wrap (nat_lt (binds e) 7) (expr_items names e)) next refl p.begins (p.fits next h) }
expr-phrase names (Binary o l r) =
    binary-phrase o (wrap (nat_lt (binds l) (binding o)) (expr_items names l)) (wrap (nat_lt (binds r) (binding o + 1)) (expr_items names r))
    (wrap-phrase (nat_lt (binds l) (binding o)) (expr_items names l) (expr-phrase names l))
    (wrap-phrase (nat_lt (binds r) (binding o + 1)) (expr_items names r) (expr-phrase names r))

pub operand-phrase : (names : Names) (least : ℕ) (e : Expr) → Phrase (wrap (nat_lt (binds e) least) (expr_items names e))
operand-phrase names least e = wrap-phrase (nat_lt (binds e) least) (expr_items names e) (expr-phrase names e)
