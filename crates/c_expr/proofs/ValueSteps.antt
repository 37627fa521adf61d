-- Each step of the code that reads values and simple statements, as a step of the grammar's readers.
use Rattle.std.proofs.Common.{◌≡◌, ℕ, ◌-◌, Bool, true, false, List, Option, refl, sym, ap, ◌∙◌, inl, inr, ◌⊎◌}
use Rattle.cfix_base.specs.declared.Spot.{Spot}
use Rattle.c_grammar.specs.declared.sign.Sign.TheVariants as s
use Rattle.c_reading.specs.Reader.{Fault, Unexpected, Out, Got, Stop, next, one_of, seq, map_out, either, begins, maybe_read}
use Rattle.c_grammar.specs.Token.{Token, Ident, Numeral}
use Rattle.c_grammar.specs.Expr.{Prefix, Expr, Number}
use Rattle.c_grammar.specs.Simple.{Place, Target, TargetOf, Call, Value, Computed, Called, Change, Step, SteppedBefore, PlainPart, OnlyCall, Library, LibraryPart}
use Rattle.c_reading.specs.Read.{is_sign, is_name, is_number, read_ident, read_numeral}
use Rattle.c_reading.specs.ReadExpr.{is_prefix, operators, Link, grow, links_with, Parenthesised, name_from, paren_from, unary_at, expr_at, prefix_at, index_at, paren_at}
use Rattle.c_reading.specs.ReadSimple.{is_bracket, is_paren, CallTail, call_from, call_tail_at, target_at, head_from, value_head_at, value_links_at, value_from, value_at, Assigns, assigns_with, assigned, assigns_from, step_of, is_step, plain_from, plain_at, simple_from, simple_at, library_at}
use Rattle.c_expr.specs.Parts.{unary_from, chain_at, named_value_at, named_simple_at}
use Rattle.c_expr.proofs.OneKind.{name-prefix, name-number}
use Rattle.c_expr.proofs.Steps.{unary-prefix, unary-number, unary-paren}
use Rattle.c_expr.proofs.Chains.{expr-is}

-- ---- values

-- a computed value is an operand and what stands behind it
computed_at : (c d : ℕ) → Out Token Expr → Out Token Value
computed_at c d o = map_out value_from (next (map_out (λ (u : Expr). let x : Call ⊎ Expr = inr u in x) o) (λ x r. next (value_links_at c d x r) (λ b t. Got (x, b) t)))

computed_is : (c d : ℕ) (o : Out Token Expr) → computed_at c d o ≡ next o (λ u r. map_out Computed (chain_at u d (c - operators u) r))
unfolding computed_at
computed_is c d (Got u r) = by (links_with (c - operators u) (λ k. unary_at d k) r)
  where
    by : (o : Out Token (List Link)) → map_out value_from (next o (λ b t. Got (inr u, b) t)) ≡ map_out Computed (map_out (grow u) o)
    by (Got more t) = refl
    by (Stop f t) = refl
computed_is c d (Stop f r) = refl

computed_expr : (c d : ℕ) (ts : List Token) → computed_at c d (unary_at d c ts) ≡ map_out Computed (expr_at d c ts)
computed_expr c d ts = computed_is c d (unary_at d c ts) ∙ by (unary_at d c ts) ∙ ap (map_out Computed) (sym (expr-is d c ts))
  where
    by : (o : Out Token Expr) → next o (λ u r. map_out Computed (chain_at u d (c - operators u) r)) ≡ map_out Computed (next o (λ u r. chain_at u d (c - operators u) r))
    by (Got u r) = refl
    by (Stop f r) = refl

module _ (c d : ℕ) (ts : List Token) where
  head_other : begins is_name ts ≡ false → value_head_at c d ts ≡ map_out inr (unary_at d c ts)
  head_other h = by (begins is_prefix ts) (begins is_number ts) refl refl
    where
      prefix : (o : Out Token ((Prefix × Spot) × Expr)) → map_out head_from (map_out inl o) ≡ map_out inr (map_out unary_from o)
      prefix (Got x r) = refl
      prefix (Stop f r) = refl

      number : (o : Out Token Numeral) → map_out head_from (map_out inr (map_out inl o)) ≡ map_out inr (map_out Number o)
      number (Got x r) = refl
      number (Stop f r) = refl

      paren : (o : Out Token Parenthesised) → map_out head_from (map_out inr (map_out inr (map_out inr o))) ≡ map_out inr (map_out paren_from o)
      paren (Got x r) = refl
      paren (Stop f r) = refl

      by : (p n : Bool) → begins is_prefix ts ≡ p → begins is_number ts ≡ n → value_head_at c d ts ≡ map_out inr (unary_at d c ts)
      by true n e k = rw (unary-prefix d c ts e) (rw e (prefix (prefix_at d c ts)))
      by false true e k = rw (unary-number d c ts e k) (rw (e, k) (number (read_numeral ts)))
      by false false e k = rw (unary-paren d c ts e k h) (rw (e, k, h) (paren (paren_at d c ts)))

  pub value-other : begins is_name ts ≡ false → value_at c d ts ≡ map_out Computed (expr_at d c ts)
  unfolding value_at computed_at
  value-other h = ap (λ (o : Out Token (Call ⊎ Expr)). map_out value_from (next o (λ x r. next (value_links_at c d x r) (λ b t. Got (x, b) t)))) (head_other h) ∙ computed_expr c d ts

  pub value-name : begins is_name ts ≡ true → value_at c d ts ≡ named_value_at c d ts
  unfolding value_at computed_at
  value-name h = let p = name-prefix ts h in let n = name-number ts h in rw (p, n, h) (by (read_ident ts))
    where
      call : (x : Ident) (o : Out Token CallTail) → map_out value_from (next (map_out head_from (map_out inr (map_out inr (map_out inl (next (map_out inl o) (λ t r. Got (x, t) r)))))) (λ y r. next (value_links_at c d y r) (λ b t. Got (y, b) t)))
          ≡ map_out (λ t. Called (call_from (x, t))) o
      call x (Got t r) = refl
      call x (Stop f r) = refl

      place : (x : Ident) (o : Out Token (Option Place)) → map_out value_from (next (map_out head_from (map_out inr (map_out inr (map_out inl (next (map_out inr o) (λ t r. Got (x, t) r)))))) (λ y r. next (value_links_at c d y r) (λ b t. Got (y, b) t)))
          ≡ next o (λ i r. map_out Computed (chain_at (name_from (x, i)) d (c - operators (name_from (x, i))) r))
      place x (Got i r) = computed_is c d (Got (name_from (x, i)) r)
      place x (Stop f r) = refl

      tail : (x : Ident) (r : List Token) (v : Bool) → map_out value_from (next (map_out head_from (map_out inr (map_out inr (map_out inl (next (either v (map_out inl (call_tail_at c d r)) (map_out inr (maybe_read is_bracket (index_at d c) r))) (λ t r. Got (x, t) r)))))) (λ y r. next (value_links_at c d y r) (λ b t. Got (y, b) t)))
          ≡ either v (map_out (λ t. Called (call_from (x, t))) (call_tail_at c d r)) (next (maybe_read is_bracket (index_at d c) r) (λ i t. map_out Computed (chain_at (name_from (x, i)) d (c - operators (name_from (x, i))) t)))
      tail x r true = call x (call_tail_at c d r)
      tail x r false = place x (maybe_read is_bracket (index_at d c) r)

      by : (o : Out Token Ident) → map_out value_from (next (map_out head_from (map_out inr (map_out inr (map_out inl (next o (λ x r. next (either (begins is_paren r) (map_out inl (call_tail_at c d r)) (map_out inr (maybe_read is_bracket (index_at d c) r))) (λ t s. Got (x, t) s)))))))
          (λ y r. next (value_links_at c d y r) (λ b t. Got (y, b) t)))
          ≡ next o (λ x r. either (begins is_paren r) (map_out (λ t. Called (call_from (x, t))) (call_tail_at c d r)) (next (maybe_read is_bracket (index_at d c) r) (λ i t. map_out Computed (chain_at (name_from (x, i)) d (c - operators (name_from (x, i))) t))))
      by (Got x r) = tail x r (begins is_paren r)
      by (Stop f r) = refl

-- ---- assignments and steps

module _ (c d : ℕ) (ts : List Token) where
  pub plain-name : begins is_name ts ≡ true → (t : Target) (r : List Token) → target_at c d ts ≡ Got t r → plain_at c d ts ≡ map_out (assigned t) (assigns_with c d (expr_at d c) r)
  unfolding plain_at
  plain-name h t r e = rw (h, e) (by (assigns_with c d (expr_at d c) r))
    where
      by : (o : Out Token (Assigns Expr)) → map_out plain_from (map_out inl (next o (λ b s. Got (t, b) s))) ≡ map_out (assigned t) o
      by (Got x r) = refl
      by (Stop f r) = refl

  pub plain-name_stop : begins is_name ts ≡ true → (f : Fault) (r : List Token) → target_at c d ts ≡ Stop f r → plain_at c d ts ≡ Stop f r
  unfolding plain_at
  plain-name_stop h f r e = rw (h, e) refl

  pub plain-none : begins is_name ts ≡ false → one_of step_of ts ≡ Stop Unexpected ts → plain_at c d ts ≡ Stop Unexpected ts
  unfolding plain_at
  plain-none h e = rw (h, e) refl

  pub plain-step : begins is_name ts ≡ false → (st : Step × Spot) (r : List Token) → one_of step_of ts ≡ Got st r → (t : Target) (u : List Token) → target_at c d r ≡ Got t u → plain_at c d ts ≡ Got (SteppedBefore st.0 st.1 t) u
  unfolding plain_at
  plain-step h st r e t u k = rw (h, e, k) refl

  pub plain-step_stop : begins is_name ts ≡ false → (st : Step × Spot) (r : List Token) → one_of step_of ts ≡ Got st r → (f : Fault) (u : List Token) → target_at c d r ≡ Stop f u → plain_at c d ts ≡ Stop f u
  unfolding plain_at
  plain-step_stop h st r e f u k = rw (h, e, k) refl

  -- ---- simple statements

  -- but for `=`, the same stands behind the target of a simple statement
  pub assigns-plain : (t : Target) → begins (is_sign s.Assign) ts ≡ false → map_out (assigns_from t) (assigns_with c d (value_at c d) ts) ≡ map_out PlainPart (map_out (assigned t) (assigns_with c d (expr_at d c) ts))
  assigns-plain t h = rw h (by _)
    where
      by : (o : Out Token (((Change × Spot) × Expr) ⊎ (Step × Spot))) → map_out (assigns_from t) (map_out inr o) ≡ map_out PlainPart (map_out (assigned t) (map_out inr o))
      by (Got (inl x) r) = refl
      by (Got (inr x) r) = refl
      by (Stop f r) = refl

  pub simple-name : begins is_name ts ≡ true → simple_at c d ts ≡ named_simple_at c d ts
  unfolding simple_at
  simple-name h = rw h (by (read_ident ts))
    where
      call : (x : Ident) (o : Out Token CallTail) → map_out simple_from (map_out inl (next (map_out inl o) (λ t r. Got (x, t) r))) ≡ map_out (λ t. OnlyCall (call_from (x, t))) o
      call x (Got t r) = refl
      call x (Stop f r) = refl

      assigns : (x : Ident) (i : Option Place) (o : Out Token (Assigns Value)) → map_out simple_from (map_out inl (next (map_out inr (next o (λ a r. Got (i, a) r))) (λ t r. Got (x, t) r))) ≡ map_out (assigns_from (TargetOf x i)) o
      assigns x i (Got a r) = refl
      assigns x i (Stop f r) = refl

      place : (x : Ident) (o : Out Token (Option Place)) → map_out simple_from (map_out inl (next (map_out inr (next o (λ i r. next (assigns_with c d (value_at c d) r) (λ a t. Got (i, a) t)))) (λ t r. Got (x, t) r)))
          ≡ next o (λ i r. map_out (assigns_from (TargetOf x i)) (assigns_with c d (value_at c d) r))
      place x (Got i r) = assigns x i (assigns_with c d (value_at c d) r)
      place x (Stop f r) = refl

      tail : (x : Ident) (r : List Token) (v : Bool) → map_out simple_from (map_out inl (next (either v (map_out inl (call_tail_at c d r)) (map_out inr (seq (maybe_read is_bracket (index_at d c)) (assigns_with c d (value_at c d)) r))) (λ t r. Got (x, t) r)))
          ≡ either v (map_out (λ t. OnlyCall (call_from (x, t))) (call_tail_at c d r)) (next (maybe_read is_bracket (index_at d c) r) (λ i t. map_out (assigns_from (TargetOf x i)) (assigns_with c d (value_at c d) t)))
      tail x r true = call x (call_tail_at c d r)
      tail x r false = place x (maybe_read is_bracket (index_at d c) r)

      by : (o : Out Token Ident) → map_out simple_from (map_out inl (next o (λ x r. next (either (begins is_paren r) (map_out inl (call_tail_at c d r)) (map_out inr (seq (maybe_read is_bracket (index_at d c)) (assigns_with c d (value_at c d)) r))) (λ t s. Got (x, t) s))))
          ≡ next o (λ x r. either (begins is_paren r) (map_out (λ t. OnlyCall (call_from (x, t))) (call_tail_at c d r)) (next (maybe_read is_bracket (index_at d c) r) (λ i t. map_out (assigns_from (TargetOf x i)) (assigns_with c d (value_at c d) t))))
      by (Got x r) = tail x r (begins is_paren r)
      by (Stop f r) = refl

  pub simple-step : begins is_name ts ≡ false → begins is_step ts ≡ true → (st : Step × Spot) (r : List Token) → one_of step_of ts ≡ Got st r → (t : Target) (u : List Token) → target_at c d r ≡ Got t u
      → simple_at c d ts ≡ Got (PlainPart (SteppedBefore st.0 st.1 t)) u
  unfolding simple_at
  simple-step h b st r e t u k = rw (h, b, e, k) refl

  pub simple-step_stop : begins is_name ts ≡ false → begins is_step ts ≡ true → (st : Step × Spot) (r : List Token) → one_of step_of ts ≡ Got st r → (f : Fault) (u : List Token) → target_at c d r ≡ Stop f u → simple_at c d ts ≡ Stop f u
  unfolding simple_at
  simple-step_stop h b st r e f u k = rw (h, b, e, k) refl

  pub simple-library : begins is_name ts ≡ false → begins is_step ts ≡ false → simple_at c d ts ≡ map_out LibraryPart (library_at c d ts)
  unfolding simple_at
  simple-library h b = rw (h, b) (by (library_at c d ts))
    where
      by : (o : Out Token Library) → map_out simple_from (map_out inr (map_out inr o)) ≡ map_out LibraryPart o
      by (Got x r) = refl
      by (Stop f r) = refl

  pub simple-of : (x : Ident) (r : List Token) → read_ident ts ≡ Got x r → begins is_paren r ≡ false → (i : Option Place) (u : List Token) → maybe_read is_bracket (index_at d c) r ≡ Got i u
      → named_simple_at c d ts ≡ map_out (assigns_from (TargetOf x i)) (assigns_with c d (value_at c d) u)
  simple-of x r e h i u k = rw (e, h, k) refl
