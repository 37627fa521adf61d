-- The canonical grammar tree of an expression, and its tokens.
use Rattle.std.proofs.Common.{◌≡◌, ℕ, suc, ◌+◌, ◌≤◌, nat_lt, Bool, true, false, ◌&&◌, List, [], ◌∷◌, ◌++◌, Some, refl, ap, arith}
use Rattle.std.proofs.lemmas.Bool.{ltb-false, le-leb, lt-ltb}
use Rattle.cfix_base.specs.declared.spot.Spot.{Spot}
use Rattle.c_prog.specs.declared.expr.BinOp.{BinOp}
use Rattle.c_prog.specs.declared.expr.BinOp.TheVariants as op
use Rattle.c_grammar.specs.declared.word.Word.TheVariants as w
use Rattle.c_grammar.specs.declared.sign.Sign.TheVariants as s
use Rattle.c_grammar.specs.Token.{IsName, IsNumber, IsWord, IsSign, Ident}
use Rattle.c_grammar.specs.Expr as g
use Rattle.c_print.specs.Text.Names.{Names, name_at, var_name}
use Rattle.c_print.specs.Text.Expressions.{binding}
use Rattle.print_law.proofs.Plain.{Expr, Number, Variable, Element, Cast, Neg, Not, Binary}
use Rattle.print_law.proofs.Items.{Item, Gap, Is, here, later, spotted, after, bare, joins}

-- the operator of the grammar
abbrev pub operator : BinOp → g.Binary
operator op.Add = g.Add
operator op.Sub = g.Subtract
operator op.Mul = g.Multiply
operator op.Div = g.Divide
operator op.Rem = g.Remainder
operator op.Lt = g.Less
operator op.Le = g.LessEqual
operator op.Gt = g.Greater
operator op.Ge = g.GreaterEqual
operator op.Eq = g.Equal
operator op.Ne = g.NotEqual
operator op.And = g.And
operator op.Or = g.Or

-- how tightly an expression binds
abbrev pub binds : Expr → ℕ
binds (Neg e) = 7
binds (Binary o l r) = binding o
binds _ = 8

-- items in parentheses, where they are asked for
abbrev pub wrap : Bool → List Item → List Item
wrap true items = Is (IsSign s.OpenParen) ∷ (items ++ Is (IsSign s.CloseParen) ∷ [])
wrap false items = items

-- an expression in parentheses
abbrev pub wrap_tree : Bool → List Item → (List Spot → g.Expr) → List Spot → g.Expr
wrap_tree true items tree spots = g.Paren (here spots) (tree (later spots)) (here (after (later spots) items))
wrap_tree false items tree spots = tree spots

abbrev pub binary_items : BinOp → List Item → List Item → List Item
binary_items o left right = left ++ (Gap ∷ Is (IsSign (g.binary_sign (operator o))) ∷ Gap ∷ right)

abbrev pub binary_tree : BinOp → List Item → (List Spot → g.Expr) → (List Spot → g.Expr) → List Spot → g.Expr
binary_tree o items left right spots =
    g.Operation (left spots) (operator o) (here (after spots items)) (right (later (after spots items)))

abbrev pub ident_at : List ℕ → List Spot → Ident
ident_at text spots = record { text = text; spot = here spots }

-- the items of an expression
abbrev pub expr_items : Names → Expr → List Item
expr_items names (Number n) = Is (IsNumber n) ∷ []
expr_items names (Variable v) = Is (IsName (var_name names v)) ∷ []
expr_items names (Element v e) = Is (IsName (var_name names v)) ∷ Is (IsSign s.OpenBracket) ∷ (expr_items names e ++ Is (IsSign s.CloseBracket) ∷ [])
expr_items names (Cast n) =
    Is (IsSign s.OpenParen) ∷ Is (IsWord w.Int) ∷ Is (IsSign s.CloseParen) ∷ Is (IsSign s.OpenParen) ∷ Is (IsWord w.Long) ∷ Is (IsSign s.CloseParen) ∷ Is (IsName (name_at names.locals n)) ∷ []
expr_items names (Neg e) = Is (IsSign s.Minus) ∷ wrap (nat_lt (binds e) 8) (expr_items names e)
expr_items names (Not e) = Is (IsSign s.Not) ∷ wrap (nat_lt (binds e) 7) (expr_items names e)
expr_items names (Binary o l r) =
    binary_items o (wrap (nat_lt (binds l) (binding o)) (expr_items names l)) (wrap (nat_lt (binds r) (binding o + 1)) (expr_items names r))

-- the tree of an expression whose tokens stand at these spots
abbrev pub expr_tree : Names → Expr → List Spot → g.Expr
expr_tree names (Number n) spots = g.Number (record { value = n; spot = here spots })
expr_tree names (Variable v) spots = g.Name (ident_at (var_name names v) spots)
expr_tree names (Element v e) spots =
    g.Index (ident_at (var_name names v) spots) (here (later spots)) (expr_tree names e (later (later spots))) (here (after (later (later spots)) (expr_items names e)))
expr_tree names (Cast n) spots =
    g.Cast (here spots) (here (later spots)) (here (later (later spots)))
    (Some (here (later (later (later spots))), (here (later (later (later (later spots)))), here (later (later (later (later (later spots))))))))
    (ident_at (name_at names.locals n) (later (later (later (later (later (later spots)))))))
expr_tree names (Neg e) spots = g.Unary g.Negate (here spots) (wrap_tree (nat_lt (binds e) 8) (expr_items names e) (expr_tree names e) (later spots))
expr_tree names (Not e) spots = g.Unary g.Invert (here spots) (wrap_tree (nat_lt (binds e) 7) (expr_items names e) (expr_tree names e) (later spots))
expr_tree names (Binary o l r) spots =
    binary_tree o (wrap (nat_lt (binds l) (binding o)) (expr_items names l))
    (wrap_tree (nat_lt (binds l) (binding o)) (expr_items names l) (expr_tree names l))
    (wrap_tree (nat_lt (binds r) (binding o + 1)) (expr_items names r) (expr_tree names r)) spots

-- the tokens of a tree are those of the items at the spots
abbrev pub Told : List Item → (List Spot → g.Expr) → Type 0
Told items tree = (d : ℕ) (spots : List Spot) → bare (g.pieces d (tree spots)) ≡ spotted spots items

wrap-told : (b : Bool) (items : List Item) (tree : List Spot → g.Expr) → Told items tree → Told (wrap b items) (wrap_tree b items tree)
wrap-told true items tree h = λ d spots.
    ap (λ z. record { kind = IsSign s.OpenParen; spot = here spots } ∷ z)
    (joins (later spots) items (Is (IsSign s.CloseParen) ∷ []) _ _ (h (suc d) (later spots)) refl)
wrap-told false items tree h = h

binary-told : (o : BinOp) (left : List Item) (left_tree : List Spot → g.Expr) (right : List Item) (right_tree : List Spot → g.Expr)
    → Told left left_tree → Told right right_tree → Told (binary_items o left right) (binary_tree o left left_tree right_tree)
binary-told o left left_tree right right_tree p q = λ d spots.
    joins spots left (Gap ∷ Is (IsSign (g.binary_sign (operator o))) ∷ Gap ∷ right) _ _ (p d spots)
    (ap (λ z. record { kind = IsSign (g.binary_sign (operator o)); spot = here (after spots left) } ∷ z) (q d (later (after spots left))))

pub expr-told : (names : Names) (e : Expr) → Told (expr_items names e) (expr_tree names e)
expr-told names (Number n) = λ d spots. refl
expr-told names (Variable v) = λ d spots. refl
expr-told names (Element v e) = λ d spots.
    ap (λ z. record { kind = IsName (var_name names v); spot = here spots } ∷ record { kind = IsSign s.OpenBracket; spot = here (later spots) } ∷ z)
    (joins (later (later spots)) (expr_items names e) (Is (IsSign s.CloseBracket) ∷ []) _ _ (expr-told names e (suc d) (later (later spots))) refl)
expr-told names (Cast n) = λ d spots. refl
expr-told names (Neg e) = λ d spots.
    ap (λ z. record { kind = IsSign s.Minus; spot = here spots } ∷ z)
    (wrap-told (nat_lt (binds e) 8) (expr_items names e) (expr_tree names e) (expr-told names e) (suc d) (later spots))
expr-told names (Not e) = λ d spots.
    ap (λ z. record { kind = IsSign s.Not; spot = here spots } ∷ z)
    (wrap-told (nat_lt (binds e) 7) (expr_items names e) (expr_tree names e) (expr-told names e) (suc d) (later spots))
expr-told names (Binary o l r) =
    binary-told o (wrap (nat_lt (binds l) (binding o)) (expr_items names l)) (wrap_tree (nat_lt (binds l) (binding o)) (expr_items names l) (expr_tree names l))
    (wrap (nat_lt (binds r) (binding o + 1)) (expr_items names r)) (wrap_tree (nat_lt (binds r) (binding o + 1)) (expr_items names r) (expr_tree names r))
    (wrap-told (nat_lt (binds l) (binding o)) (expr_items names l) (expr_tree names l) (expr-told names l))
    (wrap-told (nat_lt (binds r) (binding o + 1)) (expr_items names r) (expr_tree names r) (expr-told names r))

-- The tree is one of the grammar.

level-is : (o : BinOp) → g.level (operator o) ≡ binding o
level-is op.Add = refl
level-is op.Sub = refl
level-is op.Mul = refl
level-is op.Div = refl
level-is op.Rem = refl
level-is op.Lt = refl
level-is op.Le = refl
level-is op.Gt = refl
level-is op.Ge = refl
level-is op.Eq = refl
level-is op.Ne = refl
level-is op.And = refl
level-is op.Or = refl

pub binding-small : (o : BinOp) → binding o ≤ 6
binding-small op.Add = omega arith
binding-small op.Sub = omega arith
binding-small op.Mul = omega arith
binding-small op.Div = omega arith
binding-small op.Rem = omega arith
binding-small op.Lt = omega arith
binding-small op.Le = omega arith
binding-small op.Gt = omega arith
binding-small op.Ge = omega arith
binding-small op.Eq = omega arith
binding-small op.Ne = omega arith
binding-small op.And = omega arith
binding-small op.Or = omega arith

-- the tree is derived, and binds as tightly as is said
pub record Derived (b : ℕ) (t : g.Expr) : Type 0 where
  pub is_expr : g.is_expr t ≡ true
  pub tight : (n : ℕ) → n ≤ b → n ≤ 7 → n ≤ g.binds t
  pub unary : 7 ≤ b → g.is_unary t ≡ true

atom : (b : ℕ) (t : g.Expr) → g.is_expr t ≡ true → 7 ≤ g.binds t → g.is_unary t ≡ true → Derived b t
atom b t e h u = record { is_expr = e; tight = λ n p q. omega (arith, h, q); unary = λ _. u }

wrap-derived : (test : Bool) (least b : ℕ) (items : List Item) (tree : List Spot → g.Expr) → nat_lt b least ≡ test
    → ((spots : List Spot) → Derived b (tree spots)) → (spots : List Spot) → Derived least (wrap_tree test items tree spots)
wrap-derived true least b items tree e h spots = atom least _ (h (later spots)).is_expr (omega arith) refl
wrap-derived false least b items tree e h spots =
    let room : least ≤ b = ltb-false b least e in
    let d = h spots in
    record { is_expr = d.is_expr; tight = λ n p q. d.tight n (omega (arith, p, room)) q; unary = λ p. d.unary (omega (arith, p, room)) }

both : (a b : Bool) → a ≡ true → b ≡ true → (a && b) ≡ true
both a b p q = rw (p, q) refl

binary-derived : (o : BinOp) (items : List Item) (left right : List Spot → g.Expr)
    → ((spots : List Spot) → Derived (binding o) (left spots)) → ((spots : List Spot) → Derived (binding o + 1) (right spots))
    → (spots : List Spot) → Derived (binding o) (binary_tree o items left right spots)
binary-derived o items left right p q spots =
    let small = binding-small o in
    let level = level-is o in
    let l = p spots in
    let r = q (later (after spots items)) in
    let low : binding o ≤ g.binds (left spots) = l.tight (binding o) (omega arith) (omega (arith, small)) in
    let high : binding o + 1 ≤ g.binds (right (later (after spots items))) = r.tight (binding o + 1) (omega arith) (omega (arith, small)) in
    record {
      is_expr = both _ _ (both _ _ l.is_expr r.is_expr)
          (both _ _ (le-leb (g.level (operator o)) (g.binds (left spots)) (omega (arith, level, low)))
          (lt-ltb (g.level (operator o)) (g.binds (right (later (after spots items)))) (omega (arith, level, high))));
      tight = λ n a b. omega (arith, level, a);
      unary = λ h. absurd (omega (arith, h, small));
    }

pub expr-derived : (names : Names) (e : Expr) (spots : List Spot) → Derived (binds e) (expr_tree names e spots)
expr-derived names (Number n) spots = atom 8 _ refl (omega arith) refl
expr-derived names (Variable v) spots = atom 8 _ refl (omega arith) refl
expr-derived names (Element v e) spots = atom 8 _ (expr-derived names e (later (later spots))).is_expr (omega arith) refl
expr-derived names (Cast n) spots = atom 8 _ refl (omega arith) refl
expr-derived names (Neg e) spots =
    let d = wrap-derived (nat_lt (binds e) 8) 8 (binds e) (expr_items names e) (expr_tree names e) refl (expr-derived names e) (later spots) in
    atom 7 _ (both _ _ (d.unary (omega arith)) d.is_expr) (omega arith) refl
expr-derived names (Not e) spots =
    let d = wrap-derived (nat_lt (binds e) 7) 7 (binds e) (expr_items names e) (expr_tree names e) refl (expr-derived names e) (later spots) in
    atom 8 _ (both _ _ (d.unary (omega arith)) d.is_expr) (omega arith) refl
expr-derived names (Binary o l r) spots =
    binary-derived o (wrap (nat_lt (binds l) (binding o)) (expr_items names l))
    (wrap_tree (nat_lt (binds l) (binding o)) (expr_items names l) (expr_tree names l))
    (wrap_tree (nat_lt (binds r) (binding o + 1)) (expr_items names r) (expr_tree names r))
    (wrap-derived (nat_lt (binds l) (binding o)) (binding o) (binds l) (expr_items names l) (expr_tree names l) refl (expr-derived names l))
    (wrap-derived (nat_lt (binds r) (binding o + 1)) (binding o + 1) (binds r) (expr_items names r) (expr_tree names r) refl (expr-derived names r)) spots

-- an operand as under a unary operator
pub operand-derived : (names : Names) (least : ℕ) (e : Expr) (spots : List Spot)
    → Derived least (wrap_tree (nat_lt (binds e) least) (expr_items names e) (expr_tree names e) spots)
operand-derived names least e spots = wrap-derived (nat_lt (binds e) least) least (binds e) (expr_items names e) (expr_tree names e) refl (expr-derived names e) spots

pub operand-told : (names : Names) (least : ℕ) (e : Expr)
    → Told (wrap (nat_lt (binds e) least) (expr_items names e)) (wrap_tree (nat_lt (binds e) least) (expr_items names e) (expr_tree names e))
operand-told names least e = wrap-told (nat_lt (binds e) least) (expr_items names e) (expr_tree names e) (expr-told names e)
