-- Each step of the code that reads expressions, as a step of the grammar's readers.
use Rattle.std.proofs.Common.{◌≡◌, ◌≢◌, ℕ, zero, suc, ◌-◌, true, false, List, [], ◌∷◌, Some, refl, ◌∙◌, arith, inl, inr, ◌⊎◌}
use Rattle.cfix_base.specs.declared.Spot.{Spot}
use Rattle.c_grammar.specs.declared.sign.Sign.{Sign}
use Rattle.c_grammar.specs.declared.sign.Sign.TheVariants as s
use Rattle.c_reading.specs.Reader.{Fault, Unexpected, Deep, Out, Got, Stop, next, one_of, seq, map_out, begins, maybe_read}
use Rattle.c_grammar.specs.Token.{Token, Numeral}
use Rattle.c_grammar.specs.Expr.{Prefix, Expr, Number, Unary}
use Rattle.c_reading.specs.Read.{is_sign, is_name, is_number, read_sign, read_numeral}
use Rattle.c_reading.specs.ReadExpr.{CastParts, NameParts, Parenthesised, is_prefix, prefix_of, operand_from, name_from, paren_from, unary_with, inside_with, unary_at, expr_at, prefix_at, index_at, paren_at}
use Rattle.c_reading.specs.ReadSimple.{is_bracket, is_paren}
use Rattle.c_expr.specs.Parts.{prefixed_at, named_at, parenthesised_at, inside_at}
use Rattle.c_expr.proofs.Outs.{fuse}

-- where another token is next
pub sign-none : (g : Sign) (ts : List Token) → begins (is_sign g) ts ≡ false → read_sign g ts ≡ Stop Unexpected ts
sign-none g [] h = refl
sign-none g (t ∷ ts) h = rw h refl

pub unary-is : (d n : ℕ) (ts : List Token) → unary_at d n ts ≡ unary_with (prefix_at d n) (index_at d n) (paren_at d n) ts
unfolding unary_at expr_at prefix_at index_at paren_at
unary-is zero n ts = refl
unary-is (suc d) n ts = refl

module _ (d n : ℕ) (ts : List Token) where
  pub unary-prefix : begins is_prefix ts ≡ true → unary_at d n ts ≡ prefixed_at d n ts
  unary-prefix h = unary-is d n ts ∙ rw h (fuse (operand_from name_from paren_from) inl (prefix_at d n ts))

  pub unary-number : begins is_prefix ts ≡ false → begins is_number ts ≡ true → unary_at d n ts ≡ map_out Number (read_numeral ts)
  unary-number h k = unary-is d n ts ∙ rw (h, k) (by (read_numeral ts))
    where
      by : (o : Out Token Numeral) → map_out (operand_from name_from paren_from) (map_out inr (map_out inl o)) ≡ map_out Number o
      by (Got a r) = refl
      by (Stop e r) = refl

  pub unary-name : begins is_prefix ts ≡ false → begins is_number ts ≡ false → begins is_name ts ≡ true → unary_at d n ts ≡ named_at d n ts
  unary-name h k m = unary-is d n ts ∙ rw (h, k, m) (by _)
    where
      by : (o : Out Token NameParts) → map_out (operand_from name_from paren_from) (map_out inr (map_out inr (map_out inl o))) ≡ map_out name_from o
      by (Got a r) = refl
      by (Stop e r) = refl

  pub unary-paren : begins is_prefix ts ≡ false → begins is_number ts ≡ false → begins is_name ts ≡ false → unary_at d n ts ≡ parenthesised_at d n ts
  unary-paren h k m = unary-is d n ts ∙ rw (h, k, m) (by (paren_at d n ts))
    where
      by : (o : Out Token Parenthesised) → map_out (operand_from name_from paren_from) (map_out inr (map_out inr (map_out inr o))) ≡ map_out paren_from o
      by (Got a r) = refl
      by (Stop e r) = refl

-- ---- a construct begins

module _ (d n : ℕ) (ts : List Token) where
  pub prefix-none : begins is_prefix ts ≡ false → one_of prefix_of ts ≡ Stop Unexpected ts → prefix_at d n ts ≡ Stop Unexpected ts
  unfolding prefix_at
  prefix-none h e = by d
    where
      by : (d : ℕ) → prefix_at d n ts ≡ Stop Unexpected ts
      by zero = rw h refl
      by (suc d) = rw e refl

  pub paren-none : begins is_paren ts ≡ false → paren_at d n ts ≡ Stop Unexpected ts
  unfolding paren_at
  paren-none h = by d
    where
      by : (d : ℕ) → paren_at d n ts ≡ Stop Unexpected ts
      by zero = rw h refl
      by (suc d) = rw (sign-none s.OpenParen ts h) refl

  pub prefix-deep : begins is_prefix ts ≡ true → d ≡ 0 → prefix_at d n ts ≡ Stop Deep ts
  unfolding prefix_at
  prefix-deep h e = rw (e, h) refl

  pub index-deep : begins is_bracket ts ≡ true → d ≡ 0 → index_at d n ts ≡ Stop Deep ts
  unfolding index_at
  index-deep h e = rw (e, h) refl

  pub paren-deep : begins is_paren ts ≡ true → d ≡ 0 → paren_at d n ts ≡ Stop Deep ts
  unfolding paren_at
  paren-deep h e = rw (e, h) refl

module _ (n : ℕ) (ts : List Token) where
  in_prefix : (d e : ℕ) → d ≡ suc e → prefix_at d n ts ≡ seq (one_of prefix_of) (unary_at e n) ts
  unfolding prefix_at
  in_prefix d e h = rw h refl

  in_index : (d e : ℕ) → d ≡ suc e → index_at d n ts ≡ seq (read_sign s.OpenBracket) (seq (expr_at e n) (read_sign s.CloseBracket)) ts
  unfolding index_at
  in_index d e h = rw h refl

  in_paren : (d e : ℕ) → d ≡ suc e → paren_at d n ts ≡ seq (read_sign s.OpenParen) (inside_with (expr_at e n)) ts
  unfolding paren_at
  in_paren d e h = rw h refl

  pub prefix-in : (d : ℕ) → d ≢ 0 → prefix_at d n ts ≡ seq (one_of prefix_of) (unary_at (d - 1) n) ts
  prefix-in d h = in_prefix d (d - 1) (omega arith)

  pub index-in : (d : ℕ) → d ≢ 0 → index_at d n ts ≡ seq (read_sign s.OpenBracket) (seq (expr_at (d - 1) n) (read_sign s.CloseBracket)) ts
  index-in d h = in_index d (d - 1) (omega arith)

  pub paren-in : (d : ℕ) → d ≢ 0 → paren_at d n ts ≡ seq (read_sign s.OpenParen) (inside_with (expr_at (d - 1) n)) ts
  paren-in d h = in_paren d (d - 1) (omega arith)

-- ---- a unary operator and its operand

module _ (d n : ℕ) (ts : List Token) where
  pub prefixed-none : begins is_prefix ts ≡ false → one_of prefix_of ts ≡ Stop Unexpected ts → prefixed_at d n ts ≡ Stop Unexpected ts
  prefixed-none h e = rw (prefix-none d n ts h e) refl

  pub prefixed-deep : begins is_prefix ts ≡ true → d ≡ 0 → prefixed_at d n ts ≡ Stop Deep ts
  prefixed-deep h e = rw (prefix-deep d n ts h e) refl

module _ (d n : ℕ) (ts r : List Token) (room : d ≢ 0) (op : Prefix × Spot) (read : one_of prefix_of ts ≡ Got op r) where
  pub prefixed-stop : (f : Fault) (t : List Token) → unary_at (d - 1) n r ≡ Stop f t → prefixed_at d n ts ≡ Stop f t
  prefixed-stop f t h = rw (prefix-in n ts d room, read, h) refl

  pub prefixed-got : (e : Expr) (t : List Token) → unary_at (d - 1) n r ≡ Got e t → prefixed_at d n ts ≡ Got (Unary op.0 op.1 e) t
  prefixed-got e t h = rw (prefix-in n ts d room, read, h) refl

-- ---- an index

module _ (d n : ℕ) (ts : List Token) where
  pub indexed-deep : begins is_bracket ts ≡ true → d ≡ 0 → maybe_read is_bracket (index_at d n) ts ≡ Stop Deep ts
  indexed-deep h e = rw (h, index-deep d n ts h e) refl

module _ (d n : ℕ) (ts r : List Token) (begun : begins is_bracket ts ≡ true) (room : d ≢ 0) (before : Spot) (read : read_sign s.OpenBracket ts ≡ Got before r) where
  pub indexed-stop : (f : Fault) (t : List Token) → expr_at (d - 1) n r ≡ Stop f t → maybe_read is_bracket (index_at d n) ts ≡ Stop f t
  indexed-stop f t h = rw (begun, index-in n ts d room, read, h) refl

  pub indexed-unclosed : (e : Expr) (t : List Token) → expr_at (d - 1) n r ≡ Got e t → (f : Fault) (u : List Token) → read_sign s.CloseBracket t ≡ Stop f u → maybe_read is_bracket (index_at d n) ts ≡ Stop f u
  indexed-unclosed e t h f u k = rw (begun, index-in n ts d room, read, h, k) refl

  pub indexed-got : (e : Expr) (t : List Token) → expr_at (d - 1) n r ≡ Got e t → (after : Spot) (u : List Token) → read_sign s.CloseBracket t ≡ Got after u
      → maybe_read is_bracket (index_at d n) ts ≡ Got (Some (before, (e, after))) u
  indexed-got e t h after u k = rw (begun, index-in n ts d room, read, h, k) refl

-- ---- a parenthesis

module _ (d n : ℕ) (ts : List Token) where
  pub parenthesised-none : begins is_paren ts ≡ false → parenthesised_at d n ts ≡ Stop Unexpected ts
  parenthesised-none h = rw (paren-none d n ts h) refl

  pub parenthesised-deep : begins is_paren ts ≡ true → d ≡ 0 → parenthesised_at d n ts ≡ Stop Deep ts
  parenthesised-deep h e = rw (paren-deep d n ts h e) refl

  pub parenthesised-in : d ≢ 0 → (before : Spot) (r : List Token) → read_sign s.OpenParen ts ≡ Got before r → parenthesised_at d n ts ≡ inside_at before (d - 1) n r
  parenthesised-in room before r h = rw (paren-in n ts d room, h) (by (inside_with (expr_at (d - 1) n) r))
    where
      by : (o : Out Token (CastParts ⊎ (Expr × Spot))) → map_out paren_from (next o (λ p t. Got (before, p) t)) ≡ map_out (λ p. paren_from (before, p)) o
      by (Got p t) = refl
      by (Stop f t) = refl
