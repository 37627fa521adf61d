-- Operands and operators in a row stand for one tree each, and each tree for one such row.
use Rattle.std.proofs.Common.{◌≡◌, ℕ, suc, ◌+◌, ◌<◌, leb, ltb, max, Bool, true, false, ◌&&◌, List, [], ◌∷◌, ◌++◌, Some, None, refl, sym, ap, ◌∙◌, append_assoc, cond, arith}
use Rattle.std.proofs.lemmas.Bool.{and_from, and_parts, ltb-true, ltb-false, lt-ltb, le-ltb, leb-true, le-leb}
use Rattle.cfix_base.specs.declared.Spot.{Spot}
use Rattle.c_grammar.specs.Marks.{each, tokens}
use Rattle.c_grammar.specs.declared.sign.Sign.TheVariants as s
use Rattle.c_grammar.specs.Token.{Token, ident, sign, Mark}
use Rattle.std.proofs.lemmas.List.{append-nil}
use Rattle.c_grammar.specs.Expr.{Binary, Or, And, Equal, NotEqual, Less, LessEqual, Greater, GreaterEqual, Add, Subtract, Multiply, Divide, Remainder, binary_sign, level, Long, Expr, Number, Name, Index, Paren, Cast, Unary, Operation, is_unary, binds, is_expr, Piece, plain, long_pieces, pieces, placed}
use Rattle.c_reading.specs.ReadExpr.{operators, Link, append, grow, group}

-- ---- pieces, and what their places are

abbrev pub count : List Piece → ℕ
count [] = 0
count (x ∷ xs) = cond x.2 (suc (count xs)) (count xs)

pub count-append : (xs ys : List Piece) → count (xs ++ ys) ≡ count xs + count ys
count-append [] ys = omega arith
count-append (x ∷ xs) ys = at x.2 (count-append xs ys)
  where
    at : (v : Bool) → count (xs ++ ys) ≡ count xs + count ys → cond v (suc (count (xs ++ ys))) (count (xs ++ ys)) ≡ cond v (suc (count xs)) (count xs) + count ys
    at true e = omega (arith, e)
    at false e = e

count_long : (d : ℕ) (long : Long) → count (long_pieces d long) ≡ 0
count_long d None = refl
count_long d (Some at) = refl

pub count_is : (d : ℕ) (e : Expr) → count (pieces d e) ≡ operators e
count_is d (Number n) = refl
count_is d (Name x) = refl
count_is d (Index x before e after) = omega (arith, count-append (pieces (suc d) e) (plain (sign s.CloseBracket after) (suc d) ∷ []), count_is (suc d) e)
count_is d (Paren before e after) = omega (arith, count-append (pieces (suc d) e) (plain (sign s.CloseParen after) (suc d) ∷ []), count_is (suc d) e)
count_is d (Cast before int after long x) = omega (arith, count-append (long_pieces d long) (plain (ident x) d ∷ []), count_long d long)
count_is d (Unary op at e) = count_is (suc d) e
count_is d (Operation a op at b) = omega (arith, count-append (pieces d a) ((sign (binary_sign op) at, d, true) ∷ pieces d b), count_is d a, count_is d b)

pub placed-append : (n : ℕ) (xs ys : List Piece) → placed n (xs ++ ys) ≡ placed n xs ++ placed (n + count xs) ys
placed-append n [] ys = ap (λ (k : ℕ). placed k ys) (omega arith)
placed-append n (x ∷ xs) ys = at x.2 (placed-append n xs ys) (placed-append (suc n) xs ys)
  where
    moved : placed (suc n + count xs) ys ≡ placed (n + suc (count xs)) ys
    moved = ap (λ (k : ℕ). placed k ys) (omega arith)

    at : (v : Bool) → placed n (xs ++ ys) ≡ placed n xs ++ placed (n + count xs) ys → placed (suc n) (xs ++ ys) ≡ placed (suc n) xs ++ placed (suc n + count xs) ys
        → cond v ((x.0, max x.1 (suc n)) ∷ placed (suc n) (xs ++ ys)) ((x.0, x.1) ∷ placed n (xs ++ ys))
        ≡ cond v ((x.0, max x.1 (suc n)) ∷ placed (suc n) xs) ((x.0, x.1) ∷ placed n xs) ++ placed (n + cond v (suc (count xs)) (count xs)) ys
    at true e1 e2 = ap (λ (z : List Mark). (x.0, max x.1 (suc n)) ∷ z) (e2 ∙ ap (λ (z : List Mark). placed (suc n) xs ++ z) moved)
    at false e1 e2 = ap (λ (z : List Mark). (x.0, x.1) ∷ z) e1

-- the tokens alone
abbrev pub bare : List Piece → List Token
bare [] = []
bare (x ∷ xs) = x.0 ∷ bare xs

pub bare-append : (xs ys : List Piece) → bare (xs ++ ys) ≡ bare xs ++ bare ys
bare-append [] ys = refl
bare-append (x ∷ xs) ys = ap (λ (z : List Token). x.0 ∷ z) (bare-append xs ys)

pub placed_tokens : (n : ℕ) (xs : List Piece) → tokens (placed n xs) ≡ bare xs
placed_tokens n [] = refl
placed_tokens n (x ∷ xs) = at x.2 (placed_tokens n xs) (placed_tokens (suc n) xs)
  where
    at : (v : Bool) → tokens (placed n xs) ≡ bare xs → tokens (placed (suc n) xs) ≡ bare xs → tokens (cond v ((x.0, max x.1 (suc n)) ∷ placed (suc n) xs) ((x.0, x.1) ∷ placed n xs)) ≡ x.0 ∷ bare xs
    at true e1 e2 = ap (λ (z : List Token). x.0 ∷ z) e2
    at false e1 e2 = ap (λ (z : List Token). x.0 ∷ z) e1

-- ---- growing a tree

abbrev pub link_pieces : ℕ → Link → List Piece
link_pieces d x = (sign (binary_sign x.0.0) x.0.1, d, true) ∷ pieces d x.1

append_pieces : (d : ℕ) (e : Expr) (op : Binary) (at : Spot) (u : Expr) → pieces d (append e op at u) ≡ pieces d e ++ ((sign (binary_sign op) at, d, true) ∷ pieces d u)
append_pieces d (Operation a op1 at1 b) op at u = by (ltb (level op1) (level op)) (append_pieces d b op at u)
  where
    by : (v : Bool) → pieces d (append b op at u) ≡ pieces d b ++ ((sign (binary_sign op) at, d, true) ∷ pieces d u)
        → pieces d (cond v (Operation a op1 at1 (append b op at u)) (Operation (Operation a op1 at1 b) op at u)) ≡ pieces d (Operation a op1 at1 b) ++ ((sign (binary_sign op) at, d, true) ∷ pieces d u)
    by true e = ap (λ (z : List Piece). pieces d a ++ ((sign (binary_sign op1) at1, d, true) ∷ z)) e ∙ sym (append_assoc (pieces d a) _ _)
    by false e = refl
append_pieces d _ op at u = refl

pub grow_pieces : (d : ℕ) (e : Expr) (more : List Link) → pieces d (grow e more) ≡ pieces d e ++ each (link_pieces d) more
grow_pieces d e [] = sym (append-nil (pieces d e))
grow_pieces d e (x ∷ more) =
    grow_pieces d (append e x.0.0 x.0.1 x.1) more
    ∙ ap (λ (z : List Piece). z ++ each (link_pieces d) more) (append_pieces d e x.0.0 x.0.1 x.1)
    ∙ append_assoc (pieces d e) (link_pieces d x) (each (link_pieces d) more)

-- ---- which trees are derived

level_below : (op : Binary) → ltb (level op) 7 ≡ true
level_below Or = refl
level_below And = refl
level_below Equal = refl
level_below NotEqual = refl
level_below Less = refl
level_below LessEqual = refl
level_below Greater = refl
level_below GreaterEqual = refl
level_below Add = refl
level_below Subtract = refl
level_below Multiply = refl
level_below Divide = refl
level_below Remainder = refl

level_up : (op : Binary) → leb (level op) 7 ≡ true
level_up op = let h = ltb-true (level op) 7 (level_below op) in le-leb (level op) 7 (omega (arith, h))

unary_binds : (u : Expr) → is_unary u ≡ true → binds u ≡ 7
unary_binds (Operation a op at b) e = absurd cc
unary_binds _ e = refl

under_unary : (op : Binary) (u : Expr) → is_unary u ≡ true → ltb (level op) (binds u) ≡ true
under_unary op u e = rw (unary_binds u e) (level_below op)

-- an operation in the place of a tree that is no operation
append_unary : (e : Expr) (op : Binary) (at : Spot) (u : Expr) → is_expr e ≡ true → leb (level op) (binds e) ≡ true → is_unary u ≡ true → is_expr u ≡ true → is_expr (Operation e op at u) ≡ true
append_unary e op at u ge h gu g = and_from _ _ (and_from _ _ ge g) (and_from _ _ h (under_unary op u gu))

append_binds : (b : Expr) (op1 op : Binary) (at : Spot) (u : Expr) → ltb (level op1) (binds b) ≡ true → ltb (level op1) (level op) ≡ true → ltb (level op1) (binds (append b op at u)) ≡ true
append_binds (Operation a op2 at2 b) op1 op at u h1 h2 = by (ltb (level op2) (level op))
  where
    by : (v : Bool) → ltb (level op1) (binds (cond v (Operation a op2 at2 (append b op at u)) (Operation (Operation a op2 at2 b) op at u))) ≡ true
    by true = h1
    by false = h2
append_binds _ op1 op at u h1 h2 = h2

append_good : (e : Expr) (op : Binary) (at : Spot) (u : Expr) → is_expr e ≡ true → is_unary u ≡ true → is_expr u ≡ true → is_expr (append e op at u) ≡ true
append_good (Operation a op1 at1 b) op at u g gu g2 =
    let gs = and_parts _ _ g in
    let gt = and_parts _ _ gs.0 in
    by (ltb (level op1) (level op)) refl (append_good b op at u gt.1 gu g2)
  where
    by : (v : Bool) → ltb (level op1) (level op) ≡ v → is_expr (append b op at u) ≡ true → is_expr (cond v (Operation a op1 at1 (append b op at u)) (Operation (Operation a op1 at1 b) op at u)) ≡ true
    by true e h =
        let gs = and_parts _ _ g in
        let gt = and_parts _ _ gs.0 in
        let gu = and_parts _ _ gs.1 in
        and_from _ _ (and_from _ _ gt.0 h) (and_from _ _ gu.0 (append_binds b op1 op at u gu.1 e))
    by false e h = append_unary (Operation a op1 at1 b) op at u g (le-leb (level op) (level op1) (ltb-false (level op1) (level op) e)) gu g2
append_good (Number n) op at u g gu g2 = append_unary (Number n) op at u g (level_up op) gu g2
append_good (Name x) op at u g gu g2 = append_unary (Name x) op at u g (level_up op) gu g2
append_good (Index x before e after) op at u g gu g2 = append_unary (Index x before e after) op at u g (level_up op) gu g2
append_good (Paren before e after) op at u g gu g2 = append_unary (Paren before e after) op at u g (level_up op) gu g2
append_good (Cast before int after long x) op at u g gu g2 = append_unary (Cast before int after long x) op at u g (level_up op) gu g2
append_good (Unary p at1 e) op at u g gu g2 = append_unary (Unary p at1 e) op at u g (level_up op) gu g2

abbrev pub is_link : Link → Bool
is_link x = is_unary x.1 && is_expr x.1

abbrev pub are_links : List Link → Bool
are_links [] = true
are_links (x ∷ more) = is_link x && are_links more

pub grow_good : (e : Expr) (more : List Link) → is_expr e ≡ true → are_links more ≡ true → is_expr (grow e more) ≡ true
grow_good e [] g h = g
grow_good e (x ∷ more) g h =
    let hs = and_parts _ _ h in
    let hx = and_parts _ _ hs.0 in
    grow_good (append e x.0.0 x.0.1 x.1) more (append_good e x.0.0 x.0.1 x.1 g hx.0 hx.1) hs.1

-- ---- and back: the first operand, and the operators behind it

abbrev pub lead : Expr → Expr
lead (Operation a op at b) = lead a
lead e = e

abbrev pub tail : Expr → List Link → List Link
tail (Operation a op at b) more = tail a (((op, at), lead b) ∷ tail b more)
tail e more = more

pub lead_good : (e : Expr) → is_expr e ≡ true → (is_unary (lead e) && is_expr (lead e)) ≡ true
lead_good (Operation a op at b) g = lead_good a (and_parts _ _ (and_parts _ _ g).0).0
lead_good (Number n) g = g
lead_good (Name x) g = g
lead_good (Index x before e after) g = g
lead_good (Paren before e after) g = g
lead_good (Cast before int after long x) g = g
lead_good (Unary p at1 e) g = g

pub tail_good : (e : Expr) (more : List Link) → is_expr e ≡ true → are_links more ≡ true → are_links (tail e more) ≡ true
tail_good (Operation a op at b) more g h =
    let gs = and_parts _ _ (and_parts _ _ g).0 in
    tail_good a (((op, at), lead b) ∷ tail b more) gs.0 (and_from _ _ (lead_good b gs.1) (tail_good b more gs.1 h))
tail_good _ more g h = h

append_here : (a : Expr) (op : Binary) (at : Spot) (u : Expr) → leb (level op) (binds a) ≡ true → append a op at u ≡ Operation a op at u
append_here (Operation a op1 at1 b) op at u h = let k = leb-true (level op) (level op1) h in rw (le-ltb (level op1) (level op) k) refl
append_here _ op at u h = refl

-- what stands in the place of an operand, under operators that bind less than those of the operand
abbrev Under : (Expr → Expr) → ℕ → Type 0
Under f low = (x : Expr) (op : Binary) (at : Spot) (u : Expr) → low < level op → append (f x) op at u ≡ f (append x op at u)

grow_under : (b : Expr) (f : Expr → Expr) (low : ℕ) → Under f low → low < binds b → is_expr b ≡ true → (more : List Link) → grow (f (lead b)) (tail b more) ≡ grow (f b) more
grow_under (Operation a op at b) f low under h g more =
    let gs = and_parts _ _ g in
    let gt = and_parts _ _ gs.0 in
    let gl = and_parts _ _ gs.1 in
    let l1 = leb-true (level op) (binds a) gl.0 in
    let l2 = ltb-true (level op) (binds b) gl.1 in
    let f2 : Expr → Expr = λ x. f (Operation a op at x) in
    let under2 : Under f2 (level op) = λ x op2 at2 u k. under (Operation a op at x) op2 at2 u (omega (arith, h, k)) ∙ ap f (deeper x op2 at2 u k) in
    grow_under a f low under (omega (arith, h, l1)) gt.0 (((op, at), lead b) ∷ tail b more)
    ∙ ap (λ (z : Expr). grow z (tail b more)) (under a op at (lead b) h ∙ ap f (append_here a op at (lead b) gl.0))
    ∙ grow_under b f2 (level op) under2 l2 gt.1 more
  where
    deeper : (x : Expr) (op2 : Binary) (at2 : Spot) (u : Expr) → level op < level op2 → append (Operation a op at x) op2 at2 u ≡ Operation a op at (append x op2 at2 u)
    deeper x op2 at2 u k = rw (lt-ltb (level op) (level op2) k) refl
grow_under _ f low under h g more = refl

some_level : (op : Binary) → 0 < level op
some_level Or = omega arith
some_level And = omega arith
some_level Equal = omega arith
some_level NotEqual = omega arith
some_level Less = omega arith
some_level LessEqual = omega arith
some_level Greater = omega arith
some_level GreaterEqual = omega arith
some_level Add = omega arith
some_level Subtract = omega arith
some_level Multiply = omega arith
some_level Divide = omega arith
some_level Remainder = omega arith

some_binds : (e : Expr) → 0 < binds e
some_binds (Operation a op at b) = some_level op
some_binds _ = omega arith

abbrev pub flatten : Expr → Expr × List Link
flatten e = (lead e, tail e [])

pub group_back : (e : Expr) → is_expr e ≡ true → group (flatten e) ≡ e
group_back e g = grow_under e (λ x. x) 0 (λ x op at u k. refl) (some_binds e) g []
