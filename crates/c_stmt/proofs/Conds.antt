-- Conditions are read as the grammar's reader reads them.
use Rattle.std.proofs.Common.{◌≡◌, ◌≢◌, ℕ, zero, suc, ◌-◌, Bool, true, false, List, [], ◌∷◌, Some, None, cond, refl, sym, ap, subst, ◌∙◌, inl, inr, ◌⊎◌, arith}
use Rattle.cfix_base.specs.declared.Spot.{Spot}
use Rattle.c_grammar.specs.declared.word.Word.TheVariants as w
use Rattle.c_grammar.specs.declared.sign.Sign.{Sign}
use Rattle.c_grammar.specs.declared.sign.Sign.TheVariants as s
use Rattle.c_grammar.specs.Token.{Kind, IsSign, Token, sign, Numeral}
use Rattle.c_reading.specs.Reader.{Fault, Unexpected, Deep, Out, Got, Stop, next, one_of, one_at, seq, seq_dep, map_out, mapped, alt, either, begins, shut, maybe_read}
use Rattle.c_reading.specs.Read.{is_word, is_sign, is_sign_kind, is_name, is_number, read_sign, read_numeral}
use Rattle.c_reading.specs.ReadOp.{is_verb}
use Rattle.c_grammar.specs.Expr.{Prefix, Expr, Paren, Binary}
use Rattle.c_grammar.specs.Cond as g
use Rattle.c_reading.specs.ReadSimple.{is_paren}
use Rattle.c_reading.specs.ReadExpr.{is_prefix, is_binary, binary_of, operators, Link, group, links_with, NameParts, Parenthesised, Operand, name_from, paren_from, operand_from, operand_with, inside_with, read_cast, unary_at, expr_at, prefix_at, index_at, paren_at}
use Rattle.c_reading.specs.ReadCond.{read_guard, Guarded, guard_digit, SecondTail, second_from, second_tail_at, read_name_at, second_at, second_links_at, FirstLink, first_link_at, Tail, tail_from, tail_at, is_par, inner_at, HeadTail, head_tail_at, CondHead, cond_head_from, cond_head_at, cond_tail_at, guarded_at, or_tail_at, or_from, guard_operators, cond_at}
use Rattle.c_reading.specs.ReadCond as read
use Rattle.c_stmt.specs.Conds.{plain_second, paren_second, ContinuedParts, continued_from, continued_at, behind_second, link_at, plain_inner, inner_from, inner_behind, paren_inner, plain_cond, cond_from, test_cond, both_cond, cond_behind, paren_cond, or_guard}
use Rattle.c_stmt.proofs.Outs.{map_map, map_same, next_same, next_map, next_next, either_same, seq_is, dep_is, alt_is}

-- ---- parentheses

not_sign_at : (x : Sign) (t : Token) (r : List Token) (v : Bool) → is_sign x t ≡ v → v ≡ false → read_sign x (t ∷ r) ≡ Stop Unexpected (t ∷ r)
not_sign_at x t r v e h = rw (e, h) refl

pub not_sign : (x : Sign) (ts : List Token) → begins (is_sign x) ts ≡ false → read_sign x ts ≡ Stop Unexpected ts
not_sign x [] h = refl
not_sign x (t ∷ r) h = not_sign_at x t r false h refl

-- tokens that begin with a parenthesis
abbrev Opens : List Token → Type 0
Opens ts = (at : Spot) × (r : List Token) × (ts ≡ sign s.OpenParen at ∷ r)

opens_kind : (k : Kind) (at : Spot) (r : List Token) → is_sign_kind s.OpenParen k ≡ true → Opens (record { kind = k; spot = at } ∷ r)
opens_kind (IsSign s.OpenParen) at r h = (at, r, refl)
opens_kind k at r h = absurd cc

pub opens : (ts : List Token) → begins is_paren ts ≡ true → Opens ts
opens [] h = absurd cc
opens (t ∷ r) h = opens_kind t.kind t.spot r h

-- ---- operands

abbrev plain_from : Operand NameParts Parenthesised → Expr
plain_from = operand_from name_from paren_from

module _ (d n : ℕ) (ts : List Token) where
  abbrev operand : {P : Type 0} → (List Token → Out Token P) → Out Token (Operand NameParts P)
  operand R = operand_with (prefix_at d n) (read_name_at d n) R ts

  -- by the first token, in this order
  operand_is : {P C : Type 0} (f : Operand NameParts P → C) (R : List Token → Out Token P) → map_out f (operand R)
      ≡ either (begins is_prefix ts) (map_out (λ x. f (inl x)) (prefix_at d n ts)) (either (begins is_number ts) (map_out (λ x. f (inr (inl x))) (read_numeral ts))
      (either (begins is_name ts) (map_out (λ x. f (inr (inr (inl x)))) (read_name_at d n ts)) (map_out (λ x. f (inr (inr (inr x)))) (R ts))))
  operand_is f R = alt_is f is_prefix (prefix_at d n) (alt is_number read_numeral (alt is_name (read_name_at d n) R)) ts ∙ either_same (begins is_prefix ts) _ _ _ _ refl
      (alt_is (λ x. f (inr x)) is_number read_numeral (alt is_name (read_name_at d n) R) ts ∙ either_same (begins is_number ts) _ _ _ _ refl
      (alt_is (λ x. f (inr (inr x))) is_name (read_name_at d n) R ts))

unary_is : (d n : ℕ) (ts : List Token) → unary_at d n ts ≡ map_out plain_from (operand_with (prefix_at d n) (read_name_at d n) (paren_at d n) ts)
unfolding unary_at expr_at prefix_at index_at paren_at
unary_is zero n ts = refl
unary_is (suc d) n ts = refl

-- what is read is no expression in parentheses
abbrev NotPar : Out Token Expr → Type 0
NotPar (Got u r) = is_par u ≡ false
NotPar (Stop f r) = Unit {0}

not_par_map : {A : Type 0} (f : A → Expr) (o : Out Token A) → ((a : A) → is_par (f a) ≡ false) → NotPar (map_out f o)
not_par_map f (Got a r) h = h a
not_par_map f (Stop e r) h = tt

not_par_either : (b : Bool) (o p : Out Token Expr) → NotPar o → NotPar p → NotPar (either b o p)
not_par_either true o p h k = h
not_par_either false o p h k = k

named_not_par : (x : NameParts) → is_par (name_from x) ≡ false
named_not_par (x, None) = refl
named_not_par (x, Some i) = refl

-- no parenthesis is next, or none may be nested: what would begin with one stops
abbrev pub Shut : (d : ℕ) (ts : List Token) → Type 0
Shut d ts = (d ≡ 0) ⊎ (begins is_paren ts ≡ false)

abbrev shut_fault : ℕ → List Token → Fault
shut_fault zero ts = cond (begins is_paren ts) Deep Unexpected
shut_fault (suc d) ts = Unexpected

module _ (n : ℕ) (ts : List Token) where
  paren_shut : (d : ℕ) → Shut d ts → paren_at d n ts ≡ Stop (shut_fault d ts) ts
  unfolding paren_at
  paren_shut zero h = refl
  paren_shut (suc d) (inl e) = absurd (omega (arith, e))
  paren_shut (suc d) (inr h) = rw (not_sign s.OpenParen ts h) refl

  second_shut : (digit d : ℕ) → Shut d ts → second_tail_at digit d n ts ≡ Stop (shut_fault d ts) ts
  second_shut digit zero h = refl
  second_shut digit (suc d) (inl e) = absurd (omega (arith, e))
  second_shut digit (suc d) (inr h) = rw (not_sign s.OpenParen ts h) refl

  head_shut : (d : ℕ) → Shut d ts → head_tail_at n d ts ≡ Stop (shut_fault d ts) ts
  head_shut zero h = refl
  head_shut (suc d) (inl e) = absurd (omega (arith, e))
  head_shut (suc d) (inr h) = rw (not_sign s.OpenParen ts h) refl

-- operands that differ only in what begins with a parenthesis
operand_same : (d n : ℕ) (ts : List Token) {P Q C : Type 0} (f : Operand NameParts P → C) (h : Operand NameParts Q → C) (R : List Token → Out Token P) (S : List Token → Out Token Q)
    → ((x : (Prefix × Spot) × Expr) → f (inl x) ≡ h (inl x)) → ((x : Numeral) → f (inr (inl x)) ≡ h (inr (inl x))) → ((x : NameParts) → f (inr (inr (inl x))) ≡ h (inr (inr (inl x))))
    → map_out (λ x. f (inr (inr (inr x)))) (R ts) ≡ map_out (λ x. h (inr (inr (inr x)))) (S ts)
    → map_out f (operand_with (prefix_at d n) (read_name_at d n) R ts) ≡ map_out h (operand_with (prefix_at d n) (read_name_at d n) S ts)
operand_same d n ts f h R S h1 h2 h3 e = operand_is d n ts f R
    ∙ either_same (begins is_prefix ts) _ _ _ _ (map_same _ _ (prefix_at d n ts) h1) (either_same (begins is_number ts) _ _ _ _ (map_same _ _ (read_numeral ts) h2) (either_same (begins is_name ts) _ _ _ _ (map_same _ _ (read_name_at d n ts) h3) e))
    ∙ sym (operand_is d n ts h S)

module _ (d n : ℕ) (at : Spot) (r : List Token) where
  abbrev opened : List Token
  opened = sign s.OpenParen at ∷ r

  unary_paren : unary_at (suc d) n opened ≡ map_out (λ p. paren_from (at, p)) (inside_with (expr_at d n) r)
  unfolding paren_at
  unary_paren = unary_is (suc d) n opened ∙ operand_is (suc d) n opened plain_from (paren_at (suc d) n) ∙ seq_is (λ x. plain_from (inr (inr (inr x)))) (read_sign s.OpenParen) (inside_with (expr_at d n)) opened

  unary_cast : begins (is_word w.Int) r ≡ true → unary_at (suc d) n opened ≡ map_out (λ c. paren_from (at, inl c)) (read_cast r)
  unary_cast h = unary_paren ∙ (alt_is (λ p. paren_from (at, p)) (is_word w.Int) read_cast (seq (expr_at d n) (read_sign s.CloseParen)) r
      ∙ (let e : either (begins (is_word w.Int) r) (map_out (λ c. paren_from (at, inl c)) (read_cast r)) (map_out (λ p. paren_from (at, inr p)) (seq (expr_at d n) (read_sign s.CloseParen) r)) ≡ map_out (λ c. paren_from (at, inl c)) (read_cast r) = rw h refl in e))

  unary_expr : begins (is_word w.Int) r ≡ false → unary_at (suc d) n opened ≡ next (expr_at d n r) (λ e r2. map_out (λ after. Paren at e after) (read_sign s.CloseParen r2))
  unary_expr h = unary_paren ∙ (alt_is (λ p. paren_from (at, p)) (is_word w.Int) read_cast (seq (expr_at d n) (read_sign s.CloseParen)) r
      ∙ ((let e : either (begins (is_word w.Int) r) (map_out (λ c. paren_from (at, inl c)) (read_cast r)) (map_out (λ p. paren_from (at, inr p)) (seq (expr_at d n) (read_sign s.CloseParen) r)) ≡ map_out (λ p. paren_from (at, inr p)) (seq (expr_at d n) (read_sign s.CloseParen) r) = rw h refl in e)
      ∙ seq_is (λ p. paren_from (at, inr p)) (expr_at d n) (read_sign s.CloseParen) r))

  cast_not_par : begins (is_word w.Int) r ≡ true → NotPar (unary_at (suc d) n opened)
  cast_not_par h = subst NotPar (sym (unary_cast h)) (not_par_map (λ c. paren_from (at, inl c)) (read_cast r) (λ c. refl))

shut_not_par : (d n : ℕ) (ts : List Token) → Shut d ts → NotPar (unary_at d n ts)
shut_not_par d n ts h = subst NotPar (sym (unary_is d n ts ∙ operand_is d n ts plain_from (paren_at d n)))
    (not_par_either (begins is_prefix ts) _ _ (not_par_map (λ x. plain_from (inl x)) (prefix_at d n ts) (λ x. refl)) (not_par_either (begins is_number ts) _ _ (not_par_map (λ x. plain_from (inr (inl x))) (read_numeral ts) (λ x. refl))
    (not_par_either (begins is_name ts) _ _ (not_par_map (λ x. plain_from (inr (inr (inl x)))) (read_name_at d n ts) named_not_par)
    (subst (λ (o : Out Token Parenthesised). NotPar (map_out (λ x. plain_from (inr (inr (inr x)))) o)) (sym (paren_shut n ts d h)) tt))))

-- ---- the operand behind the first operator

pub second_plain : (digit d n : ℕ) (ts : List Token) → Shut d ts → second_at (Some digit) d n ts ≡ plain_second d n ts
second_plain digit d n ts h = operand_same d n ts second_from (λ x. inr (plain_from x)) (second_tail_at digit d n) (paren_at d n) (λ x. refl) (λ x. refl) (λ x. refl) (rw (second_shut n ts digit d h, paren_shut n ts d h) refl)
    ∙ sym (map_map inr plain_from (operand_with (prefix_at d n) (read_name_at d n) (paren_at d n) ts)) ∙ ap (map_out inr) (sym (unary_is d n ts))

second_opened : (digit d n : ℕ) (at : Spot) (r : List Token) → second_at (Some digit) (suc d) n (sign s.OpenParen at ∷ r) ≡ paren_second digit (suc d) n (sign s.OpenParen at ∷ r)
second_opened digit d n at r = operand_is (suc d) n (sign s.OpenParen at ∷ r) second_from (second_tail_at digit (suc d) n)
    ∙ seq_is (λ x. second_from (inr (inr (inr x)))) (read_sign s.OpenParen) (alt is_verb (seq (read_guard digit) (read_sign s.CloseParen)) (inside_with (expr_at d n))) (sign s.OpenParen at ∷ r)
    ∙ alt_is (λ y. second_from (inr (inr (inr (at, y))))) is_verb (seq (read_guard digit) (read_sign s.CloseParen)) (inside_with (expr_at d n)) r
    ∙ either_same (begins is_verb r) _ _ _ _ refl (sym (ap (map_out inr) (unary_paren d n at r) ∙ map_map inr (λ p. paren_from (at, p)) (inside_with (expr_at d n) r)))

less : (d : ℕ) → d ≢ 0 → d ≡ suc (d - 1)
less d h = omega (arith, h)

pub second_paren : (digit d n : ℕ) (ts : List Token) → d ≢ 0 → begins is_paren ts ≡ true → second_at (Some digit) d n ts ≡ paren_second digit d n ts
second_paren digit d n ts h b =
    let o = opens ts b in
    let P : ℕ → List Token → Type 0 = λ k z. second_at (Some digit) k n z ≡ paren_second digit k n z in
    subst (λ (k : ℕ). P k ts) (sym (less d h)) (subst (λ (z : List Token). P (suc (d - 1)) z) (sym o.2) (second_opened digit (d - 1) n o.0 o.1))

-- ---- what stands behind an operand in parentheses

module _ (top : Bool) (d : ℕ) (before : Spot) (e : Expr) (after : Spot) (ts : List Token) where
  pub continued_end : (n : ℕ) → begins is_binary ts ≡ false → continued_at top d before e after n ts ≡ Got (inl (Paren before e after)) ts
  unfolding continued_at
  continued_end n h = rw h refl

  pub continued_deep : (n : ℕ) → n ≡ 0 → begins is_binary ts ≡ true → continued_at top d before e after n ts ≡ Stop Deep ts
  unfolding continued_at
  continued_deep n z h = rw (z, h) refl

  abbrev of_link : FirstLink → ContinuedParts
  of_link x = continued_from before e after (tail_from (inl x))

  behind_same : (k : ℕ) (op : Binary × Spot) (v : Guarded ⊎ Expr) (r : List Token) → map_out (λ more. of_link (op, (v, more))) (second_links_at d k v r) ≡ behind_second d k before e after op v r
  behind_same k op (inl x) r = refl
  behind_same k op (inr v) r = refl

  linked_is : (k : ℕ) → map_out of_link (first_link_at top d (suc k) ts) ≡ next (one_of binary_of ts) (link_at top d before e after k)
  linked_is k = dep_is of_link (one_of binary_of) (λ op. seq_dep (second_at (guard_digit top op.0) d k) (second_links_at d k)) ts
      ∙ next_same (one_of binary_of ts) _ _ (λ op r. dep_is (λ y. of_link (op, y)) (second_at (guard_digit top op.0) d k) (second_links_at d k) r
      ∙ next_same (second_at (guard_digit top op.0) d k r) _ _ (λ v r2. behind_same k op v r2))

  linked_suc : (k : ℕ) → begins is_binary ts ≡ true → continued_at top d before e after (suc k) ts ≡ next (one_of binary_of ts) (link_at top d before e after k)
  unfolding continued_at
  linked_suc k h = map_map (continued_from before e after) tail_from (alt is_binary (first_link_at top d (suc k)) Rattle.c_reading.specs.Reader.nothing ts)
      ∙ alt_is (λ x. continued_from before e after (tail_from x)) is_binary (first_link_at top d (suc k)) Rattle.c_reading.specs.Reader.nothing ts
      ∙ ((let z : either (begins is_binary ts) (map_out of_link (first_link_at top d (suc k) ts)) (Got (inl (Paren before e after)) ts) ≡ map_out of_link (first_link_at top d (suc k) ts) = rw h refl in z) ∙ linked_is k)

  pub continued_link : (n : ℕ) → n ≢ 0 → begins is_binary ts ≡ true → continued_at top d before e after n ts ≡ next (one_of binary_of ts) (link_at top d before e after (n - 1))
  continued_link n z h = subst (λ (k : ℕ). continued_at top d before e after k ts ≡ next (one_of binary_of ts) (link_at top d before e after (n - 1))) (sym (less n z)) (linked_suc (n - 1) h)

-- ---- an operand that is no expression in parentheses

module _ {C : Type 0} (top : Bool) (F : Expr → Tail → C) (G : Expr → C) (same : (u : Expr) (more : List Link) → F u (inr more) ≡ G (group (u, more))) (d : ℕ) where
  abbrev links : Expr → List Token → Out Token (List Link)
  links u = links_with (200 - operators u) (λ k. unary_at d k)

  rest_same : (o : Out Token Expr) → NotPar o → next o (λ u r. map_out (F u) (tail_at top (is_par u) d (200 - operators u) r)) ≡ next o (λ u r. map_out (λ more. G (group (u, more))) (links u r))
  rest_same (Got u r) h = ap (λ (b : Bool). map_out (F u) (tail_at top b d (200 - operators u) r)) h ∙ map_map (F u) inr (links u r) ∙ map_same _ _ (links u r) (same u)
  rest_same (Stop f r) h = refl

  plain_rest : (ts : List Token) → NotPar (unary_at d 200 ts) → next (unary_at d 200 ts) (λ u r. map_out (F u) (tail_at top (is_par u) d (200 - operators u) r)) ≡ map_out G (expr_at d 200 ts)
  unfolding expr_at
  plain_rest ts h = rest_same (unary_at d 200 ts) h
      ∙ sym (map_map G group (seq_dep (unary_at d 200) links ts) ∙ dep_is (λ x. G (group x)) (unary_at d 200) links ts)

-- ---- what stands in the first parentheses of a condition

abbrev inner_tail : Expr → Tail → Expr ⊎ g.TrueGuard
inner_tail u t = read.inner_from (u, t)

inner_is : (d : ℕ) (ts : List Token) → inner_at 200 d ts ≡ next (unary_at d 200 ts) (λ u r. map_out (inner_tail u) (tail_at false (is_par u) d (200 - operators u) r))
unfolding inner_at
inner_is d ts = dep_is read.inner_from (unary_at d 200) (λ u. tail_at false (is_par u) d (200 - operators u)) ts

inner_not_par : (d : ℕ) (ts : List Token) → NotPar (unary_at d 200 ts) → inner_at 200 d ts ≡ plain_inner d ts
unfolding plain_inner
inner_not_par d ts h = inner_is d ts ∙ plain_rest false inner_tail inl (λ u more. refl) d ts h

pub inner_plain : (d : ℕ) (ts : List Token) → Shut d ts → inner_at 200 d ts ≡ plain_inner d ts
inner_plain d ts h = inner_not_par d ts (shut_not_par d 200 ts h)

inner_same : (before : Spot) (e : Expr) (after : Spot) (t : Tail) → inner_tail (Paren before e after) t ≡ inner_from (continued_from before e after t)
inner_same before e after (inl (op, x)) = refl
inner_same before e after (inr more) = refl

inner_behind_same : (d : ℕ) (before : Spot) (e : Expr) (after : Spot) (r : List Token)
    → map_out (inner_tail (Paren before e after)) (tail_at false true d (200 - operators e) r) ≡ inner_behind d before e after r
unfolding continued_at
inner_behind_same d before e after r = map_same _ _ (tail_at false true d (200 - operators e) r) (inner_same before e after)
    ∙ sym (map_map inner_from (continued_from before e after) (tail_at false true d (200 - operators e) r))

module _ (d : ℕ) (at : Spot) (r : List Token) where
  abbrev in_parens : List Token
  in_parens = sign s.OpenParen at ∷ r

  abbrev inner_expr : Out Token (Expr ⊎ g.TrueGuard)
  inner_expr = next (expr_at d 200 r) (λ e r2. next (read_sign s.CloseParen r2) (λ after r3. inner_behind (suc d) at e after r3))

  inner_of_expr : begins (is_word w.Int) r ≡ false → inner_at 200 (suc d) in_parens ≡ inner_expr
  inner_of_expr h = inner_is (suc d) in_parens
      ∙ ap (λ (o : Out Token Expr). next o (λ u z. map_out (inner_tail u) (tail_at false (is_par u) (suc d) (200 - operators u) z))) (unary_expr d 200 at r h)
      ∙ next_next (expr_at d 200 r) _ _
      ∙ next_same (expr_at d 200 r) _ _ (λ e r2. next_map (λ after. Paren at e after) (read_sign s.CloseParen r2) _ ∙ next_same (read_sign s.CloseParen r2) _ _ (λ after r3. inner_behind_same (suc d) at e after r3))

  inner_choice : (b : Bool) → begins (is_word w.Int) r ≡ b → inner_at 200 (suc d) in_parens ≡ either b (plain_inner (suc d) in_parens) inner_expr
  inner_choice true h = inner_not_par (suc d) in_parens (cast_not_par d 200 at r h)
  inner_choice false h = inner_of_expr h

  inner_opened : inner_at 200 (suc d) in_parens ≡ paren_inner (suc d) d in_parens
  unfolding paren_inner
  inner_opened = inner_choice (begins (is_word w.Int) r) refl

pub inner_paren : (d : ℕ) (ts : List Token) → d ≢ 0 → begins is_paren ts ≡ true → inner_at 200 d ts ≡ paren_inner d (d - 1) ts
inner_paren d ts h b =
    let o = opens ts b in
    subst (λ (k : ℕ). inner_at 200 k ts ≡ paren_inner k (d - 1) ts) (sym (less d h)) (subst (λ (z : List Token). inner_at 200 (suc (d - 1)) z ≡ paren_inner (suc (d - 1)) (d - 1) z) (sym o.2) (inner_opened (d - 1) o.0 o.1))

-- ---- conditions

abbrev cond_tail : CondHead → Tail → g.Cond
cond_tail h t = read.cond_from (h, t)

cond_is : (d : ℕ) (ts : List Token) → cond_at 200 d ts ≡ next (cond_head_at 200 d ts) (λ h r. map_out (cond_tail h) (cond_tail_at 200 d h r))
unfolding cond_at
cond_is d ts = dep_is read.cond_from (cond_head_at 200 d) (cond_tail_at 200 d) ts

cond_of_unary : (d : ℕ) (ts : List Token) → NotPar (unary_at d 200 ts) → cond_head_at 200 d ts ≡ map_out inl (unary_at d 200 ts) → cond_at 200 d ts ≡ plain_cond d ts
unfolding plain_cond
cond_of_unary d ts h e = cond_is d ts ∙ ap (λ (o : Out Token CondHead). next o (λ x r. map_out (cond_tail x) (cond_tail_at 200 d x r))) e ∙ next_map inl (unary_at d 200 ts) _
    ∙ plain_rest true (λ u t. cond_tail (inl u) t) g.Bare (λ u more. refl) d ts h

pub cond_plain : (d : ℕ) (ts : List Token) → Shut d ts → cond_at 200 d ts ≡ plain_cond d ts
cond_plain d ts h = cond_of_unary d ts (shut_not_par d 200 ts h)
    (operand_same d 200 ts cond_head_from (λ x. inl (plain_from x)) (head_tail_at 200 d) (paren_at d 200) (λ x. refl) (λ x. refl) (λ x. refl) (rw (head_shut 200 ts d h, paren_shut 200 ts d h) refl)
    ∙ sym (map_map inl plain_from (operand_with (prefix_at d 200) (read_name_at d 200) (paren_at d 200) ts)) ∙ ap (map_out inl) (sym (unary_is d 200 ts)))

test_same : (before : Spot) (e : Expr) (after : Spot) (t : Tail) → cond_tail (inl (Paren before e after)) t ≡ cond_from (continued_from before e after t)
test_same before e after (inl (op, x)) = refl
test_same before e after (inr more) = refl

abbrev head_of : Spot → Expr ⊎ g.TrueGuard → Spot → CondHead
head_of before (inl e) after = inl (Paren before e after)
head_of before (inr t) after = inr (before, (t, after))

cond_behind_same : (d : ℕ) (before : Spot) (x : Expr ⊎ g.TrueGuard) (after : Spot) (r : List Token) → map_out (cond_tail (head_of before x after)) (cond_tail_at 200 d (head_of before x after) r) ≡ cond_behind d before x after r
unfolding test_cond both_cond continued_at
cond_behind_same d before (inl e) after r = map_same _ _ (tail_at true true d (200 - operators e) r) (test_same before e after)
    ∙ sym (map_map cond_from (continued_from before e after) (tail_at true true d (200 - operators e) r))
cond_behind_same d before (inr t) after r = map_map (cond_tail (inr (before, (t, after)))) or_from (or_tail_at d (200 - guard_operators t) r)

module _ (d : ℕ) (at : Spot) (r : List Token) where
  abbrev cond_inner : Out Token g.Cond
  cond_inner = next (inner_at 200 d r) (λ x r2. next (read_sign s.CloseParen r2) (λ after r3. cond_behind (suc d) at x after r3))

  abbrev head_parts : List Token → Out Token ((Expr ⊎ g.TrueGuard) × Spot)
  head_parts = seq (inner_at 200 d) (read_sign s.CloseParen)

  head_is : cond_head_at 200 (suc d) (in_parens d at r) ≡ either (begins (is_word w.Int) r) (map_out (λ c. cond_head_from (inr (inr (inr (at, inl c))))) (read_cast r)) (map_out (λ x. cond_head_from (inr (inr (inr (at, inr x))))) (head_parts r))
  head_is = operand_is (suc d) 200 (in_parens d at r) cond_head_from (head_tail_at 200 (suc d))
      ∙ seq_is (λ x. cond_head_from (inr (inr (inr x)))) (read_sign s.OpenParen) (alt (is_word w.Int) read_cast head_parts) (in_parens d at r)
      ∙ alt_is (λ y. cond_head_from (inr (inr (inr (at, y))))) (is_word w.Int) read_cast head_parts r

  head_cast : begins (is_word w.Int) r ≡ true → cond_head_at 200 (suc d) (in_parens d at r) ≡ map_out inl (unary_at (suc d) 200 (in_parens d at r))
  head_cast h = head_is ∙ ((let e : either (begins (is_word w.Int) r) (map_out (λ c. cond_head_from (inr (inr (inr (at, inl c))))) (read_cast r)) (map_out (λ x. cond_head_from (inr (inr (inr (at, inr x))))) (head_parts r)) ≡ map_out (λ c. cond_head_from (inr (inr (inr (at, inl c))))) (read_cast r) = rw h refl in e)
      ∙ sym (map_map inl (λ c. paren_from (at, inl c)) (read_cast r)) ∙ ap (map_out inl) (sym (unary_cast d 200 at r h)))

  head_from_same : (x : Expr ⊎ g.TrueGuard) (after : Spot) → cond_head_from (inr (inr (inr (at, inr (x, after))))) ≡ head_of at x after
  head_from_same (inl e) after = refl
  head_from_same (inr t) after = refl

  head_inner : begins (is_word w.Int) r ≡ false → cond_head_at 200 (suc d) (in_parens d at r) ≡ next (inner_at 200 d r) (λ x r2. map_out (head_of at x) (read_sign s.CloseParen r2))
  head_inner h = head_is ∙ ((let e : either (begins (is_word w.Int) r) (map_out (λ c. cond_head_from (inr (inr (inr (at, inl c))))) (read_cast r)) (map_out (λ x. cond_head_from (inr (inr (inr (at, inr x))))) (head_parts r)) ≡ map_out (λ x. cond_head_from (inr (inr (inr (at, inr x))))) (head_parts r) = rw h refl in e)
      ∙ seq_is (λ x. cond_head_from (inr (inr (inr (at, inr x))))) (inner_at 200 d) (read_sign s.CloseParen) r
      ∙ next_same (inner_at 200 d r) _ _ (λ x r2. map_same _ _ (read_sign s.CloseParen r2) (head_from_same x)))

  cond_of_inner : begins (is_word w.Int) r ≡ false → cond_at 200 (suc d) (in_parens d at r) ≡ cond_inner
  cond_of_inner h = cond_is (suc d) (in_parens d at r) ∙ ap (λ (o : Out Token CondHead). next o (λ x z. map_out (cond_tail x) (cond_tail_at 200 (suc d) x z))) (head_inner h)
      ∙ next_next (inner_at 200 d r) _ _
      ∙ next_same (inner_at 200 d r) _ _ (λ x r2. next_map (head_of at x) (read_sign s.CloseParen r2) _ ∙ next_same (read_sign s.CloseParen r2) _ _ (λ after r3. cond_behind_same (suc d) at x after r3))

  cond_choice : (b : Bool) → begins (is_word w.Int) r ≡ b → cond_at 200 (suc d) (in_parens d at r) ≡ either b (plain_cond (suc d) (in_parens d at r)) cond_inner
  cond_choice true h = cond_of_unary (suc d) (in_parens d at r) (cast_not_par d 200 at r h) (head_cast h)
  cond_choice false h = cond_of_inner h

  cond_opened : cond_at 200 (suc d) (in_parens d at r) ≡ paren_cond (suc d) d (in_parens d at r)
  unfolding paren_cond
  cond_opened = cond_choice (begins (is_word w.Int) r) refl

pub cond_paren : (d : ℕ) (ts : List Token) → d ≢ 0 → begins is_paren ts ≡ true → cond_at 200 d ts ≡ paren_cond d (d - 1) ts
cond_paren d ts h b =
    let o = opens ts b in
    subst (λ (k : ℕ). cond_at 200 k ts ≡ paren_cond k (d - 1) ts) (sym (less d h)) (subst (λ (z : List Token). cond_at 200 (suc (d - 1)) z ≡ paren_cond (suc (d - 1)) (d - 1) z) (sym o.2) (cond_opened (d - 1) o.0 o.1))

-- ---- behind a true guard in parentheses

pub or_deep : (d n : ℕ) (ts : List Token) → n ≡ 0 → begins (is_sign s.OrOr) ts ≡ true → or_tail_at d n ts ≡ Stop Deep ts
or_deep d n ts z h = rw (z, h) refl

pub or_none : (d n : ℕ) (ts : List Token) → n ≡ 0 → begins (is_sign s.OrOr) ts ≡ false → or_tail_at d n ts ≡ Stop Unexpected ts
or_none d n ts z h = rw (z, h) refl

or_suc : (d n : ℕ) (ts : List Token) → or_tail_at (suc d) (suc n) ts ≡ or_guard ts
or_suc d n ts = refl

pub or_is : (d n : ℕ) (ts : List Token) → d ≢ 0 → n ≢ 0 → or_tail_at d n ts ≡ or_guard ts
or_is d n ts h z = ap (λ (k : ℕ). or_tail_at k n ts) (less d h) ∙ ap (λ (k : ℕ). or_tail_at (suc (d - 1)) k ts) (less n z) ∙ or_suc (d - 1) (n - 1) ts
