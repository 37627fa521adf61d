-- Each step of the code that reads the calls of the headers, as a step of the grammar's readers.
use Rattle.std.proofs.Common.{◌≡◌, ◌≢◌, ℕ, zero, suc, ◌-◌, Bool, true, false, List, None, refl, arith, inl, inr, ◌⊎◌}
use Rattle.cfix_base.specs.declared.Spot.{Spot}
use Rattle.c_grammar.specs.declared.word.Word.TheVariants as w
use Rattle.c_grammar.specs.declared.sign.Sign.TheVariants as s
use Rattle.c_reading.specs.Reader.{Unexpected, Out, Got, Stop, next, seq, map_out, begins, either}
use Rattle.c_grammar.specs.Token.{Token, Numeral}
use Rattle.c_grammar.specs.Expr.{Prefix, Long, Expr, Number}
use Rattle.c_grammar.specs.Simple.{NullArg, CastArg}
use Rattle.c_reading.specs.Read.{is_word, is_name, is_number, read_word, read_sign, read_numeral}
use Rattle.c_reading.specs.ReadExpr.{is_prefix, CastParts, NameParts, name_from, paren_from, inside_with, unary_at, expr_at, prefix_at}
use Rattle.c_reading.specs.ReadSimple.{is_paren, CastTail, cast_from, cast_tail_at, cast_unary_at, CastArgParts, thread_arg_from, cast_arg_at, thread_arg_at, library_from, create_at, join_at, lock_tail, print_at, scan_at, wait_at, library_at, CreateParts, JoinParts, LockParts, PrintParts, ScanParts, WaitParts, WakeParts}
use Rattle.c_expr.specs.Parts.{unary_from, inside_at}
use Rattle.c_expr.specs.Calls.{cast_in, arg_from, create_from, join_from, lock_from, unlock_from, print_from, scan_from, wait_from, signal_from, broadcast_from, condition_at}
use Rattle.c_expr.proofs.OneKind.{paren-prefix, paren-number, paren-name}
use Rattle.c_expr.proofs.Steps.{sign-none, paren-none, unary-prefix, unary-number, unary-name, unary-paren}

abbrev pub no_long : Expr → Long × Expr
no_long e = (None, e)

-- ---- what stands behind `(void *)`

module _ (c : ℕ) (ts : List Token) where
  in_tail : (d e : ℕ) → d ≡ suc e → (before : Spot) (r : List Token) → read_sign s.OpenParen ts ≡ Got before r → begins (is_word w.Long) r ≡ false
      → map_out cast_in (cast_tail_at c d ts) ≡ map_out no_long (inside_at before e c r)
  in_tail d e h before r k b = rw (h, k, b) (by (inside_with (expr_at e c) r))
    where
      by : (o : Out Token (CastParts ⊎ (Expr × Spot))) → map_out cast_in (next (map_out inr o) (λ p t. Got (before, p) t)) ≡ map_out no_long (map_out (λ p. paren_from (before, p)) o)
      by (Got p t) = refl
      by (Stop f t) = refl

  pub cast-inside : (d : ℕ) → d ≢ 0 → (before : Spot) (r : List Token) → read_sign s.OpenParen ts ≡ Got before r → begins (is_word w.Long) r ≡ false
      → map_out cast_in (cast_tail_at c d ts) ≡ map_out no_long (inside_at before (d - 1) c r)
  cast-inside d room before r k b = in_tail d (d - 1) (omega arith) before r k b

  pub cast-paren : (d : ℕ) → begins is_paren ts ≡ true → cast_unary_at c d ts ≡ map_out cast_in (cast_tail_at c d ts)
  cast-paren d h = let p = paren-prefix ts h in let n = paren-number ts h in let x = paren-name ts h in rw (p, n, x) (by (cast_tail_at c d ts))
    where
      by : (o : Out Token CastTail) → map_out cast_from (map_out inr (map_out inr (map_out inr o))) ≡ map_out cast_in o
      by (Got (before, inl x) r) = refl
      by (Got (before, inr x) r) = refl
      by (Stop f r) = refl

  tail_none : (d : ℕ) → begins is_paren ts ≡ false → cast_tail_at c d ts ≡ Stop Unexpected ts
  tail_none zero h = rw h refl
  tail_none (suc d) h = rw (sign-none s.OpenParen ts h) refl

  pub cast-other : (d : ℕ) → begins is_paren ts ≡ false → cast_unary_at c d ts ≡ map_out no_long (unary_at d c ts)
  cast-other d h = by (begins is_prefix ts) (begins is_number ts) (begins is_name ts) refl refl refl
    where
      prefix : (o : Out Token ((Prefix × Spot) × Expr)) → map_out cast_from (map_out inl o) ≡ map_out no_long (map_out unary_from o)
      prefix (Got x r) = refl
      prefix (Stop f r) = refl

      number : (o : Out Token Numeral) → map_out cast_from (map_out inr (map_out inl o)) ≡ map_out no_long (map_out Number o)
      number (Got x r) = refl
      number (Stop f r) = refl

      name : (o : Out Token NameParts) → map_out cast_from (map_out inr (map_out inr (map_out inl o))) ≡ map_out no_long (map_out name_from o)
      name (Got x r) = refl
      name (Stop f r) = refl

      by : (p n x : Bool) → begins is_prefix ts ≡ p → begins is_number ts ≡ n → begins is_name ts ≡ x → cast_unary_at c d ts ≡ map_out no_long (unary_at d c ts)
      by true n x e k m = rw (unary-prefix d c ts e) (rw e (prefix (prefix_at d c ts)))
      by false true x e k m = rw (unary-number d c ts e k) (rw (e, k) (number (read_numeral ts)))
      by false false true e k m = rw (unary-name d c ts e k m) (rw (e, k, m) (name _))
      by false false false e k m = rw (unary-paren d c ts e k m) (rw (paren-none d c ts h, e, k, m, tail_none d h) refl)

-- ---- the argument of a new thread

module _ (c d : ℕ) (ts : List Token) where
  in_arg : (e : ℕ) → d ≡ suc e → (before : Spot) (r1 : List Token) → read_sign s.OpenParen ts ≡ Got before r1 → (void : Spot) (r2 : List Token) → read_word w.Void r1 ≡ Got void r2 → (star : Spot) (r3 : List Token) → read_sign s.Star r2 ≡ Got star r3
      → (after : Spot) (r4 : List Token) → read_sign s.CloseParen r3 ≡ Got after r4 → map_out arg_from (cast_arg_at c d ts) ≡ map_out (λ x. CastArg before void star after x.0 x.1) (cast_unary_at c d r4)
  in_arg e h before r1 e1 void r2 e2 star r3 e3 after r4 e4 = rw (h, e1, e2, e3, e4) (by (cast_unary_at c (suc e) r4))
    where
      by : (o : Out Token (Long × Expr)) → map_out arg_from (next (next (next (next o (λ b t. Got (after, b) t)) (λ b t. Got (star, b) t)) (λ b t. Got (void, b) t)) (λ b t. Got (before, b) t)) ≡ map_out (λ x. CastArg before void star after x.0 x.1) o
      by (Got x r) = refl
      by (Stop f r) = refl

  pub arg-in : d ≢ 0 → (before : Spot) (r1 : List Token) → read_sign s.OpenParen ts ≡ Got before r1 → (void : Spot) (r2 : List Token) → read_word w.Void r1 ≡ Got void r2 → (star : Spot) (r3 : List Token) → read_sign s.Star r2 ≡ Got star r3
      → (after : Spot) (r4 : List Token) → read_sign s.CloseParen r3 ≡ Got after r4 → map_out arg_from (cast_arg_at c d ts) ≡ map_out (λ x. CastArg before void star after x.0 x.1) (cast_unary_at c d r4)
  arg-in room = in_arg (d - 1) (omega arith)

  pub thread-null : begins (is_word w.Null) ts ≡ true → (at : Spot) (r : List Token) → read_word w.Null ts ≡ Got at r → thread_arg_at c d ts ≡ Got (NullArg at) r
  unfolding thread_arg_at
  thread-null h at r e = rw (h, e) refl

  pub thread-cast : begins (is_word w.Null) ts ≡ false → thread_arg_at c d ts ≡ map_out arg_from (cast_arg_at c d ts)
  unfolding thread_arg_at
  thread-cast h = rw h (by (cast_arg_at c d ts))
    where
      by : (o : Out Token CastArgParts) → map_out thread_arg_from (map_out inr o) ≡ map_out arg_from o
      by (Got x r) = refl
      by (Stop f r) = refl

-- ---- which call

module _ (c d : ℕ) (ts : List Token) where
  pub library-create : begins (is_word w.Create) ts ≡ true → library_at c d ts ≡ map_out create_from (create_at c d ts)
  unfolding library_at
  library-create h = rw h (by (create_at c d ts))
    where
      by : (o : Out Token CreateParts) → map_out library_from (map_out inl o) ≡ map_out create_from o
      by (Got x r) = refl
      by (Stop f r) = refl

  module _ (no_create : begins (is_word w.Create) ts ≡ false) where
    pub library-join : begins (is_word w.Join) ts ≡ true → library_at c d ts ≡ map_out join_from (join_at c d ts)
    unfolding library_at
    library-join h = rw (no_create, h) (by (join_at c d ts))
      where
        by : (o : Out Token JoinParts) → map_out library_from (map_out inr (map_out inl o)) ≡ map_out join_from o
        by (Got x r) = refl
        by (Stop f r) = refl

    module _ (no_join : begins (is_word w.Join) ts ≡ false) where
      pub library-lock : begins (is_word w.Lock) ts ≡ true → library_at c d ts ≡ map_out lock_from (seq (read_word w.Lock) lock_tail ts)
      unfolding library_at
      library-lock h = rw (no_create, no_join, h) (by (seq (read_word w.Lock) lock_tail ts))
        where
          by : (o : Out Token LockParts) → map_out library_from (map_out inr (map_out inr (map_out inl o))) ≡ map_out lock_from o
          by (Got x r) = refl
          by (Stop f r) = refl

      module _ (no_lock : begins (is_word w.Lock) ts ≡ false) where
        pub library-unlock : begins (is_word w.Unlock) ts ≡ true → library_at c d ts ≡ map_out unlock_from (seq (read_word w.Unlock) lock_tail ts)
        unfolding library_at
        library-unlock h = rw (no_create, no_join, no_lock, h) (by (seq (read_word w.Unlock) lock_tail ts))
          where
            by : (o : Out Token LockParts) → map_out library_from (map_out inr (map_out inr (map_out inr (map_out inl o)))) ≡ map_out unlock_from o
            by (Got x r) = refl
            by (Stop f r) = refl

        module _ (no_unlock : begins (is_word w.Unlock) ts ≡ false) where
          pub library-print : begins (is_word w.Printf) ts ≡ true → library_at c d ts ≡ map_out print_from (print_at c d ts)
          unfolding library_at
          library-print h = rw (no_create, no_join, no_lock, no_unlock, h) (by (print_at c d ts))
            where
              by : (o : Out Token PrintParts) → map_out library_from (map_out inr (map_out inr (map_out inr (map_out inr (map_out inl o))))) ≡ map_out print_from o
              by (Got x r) = refl
              by (Stop f r) = refl

          module _ (no_print : begins (is_word w.Printf) ts ≡ false) where
            pub library-scan : begins (is_word w.Scanf) ts ≡ true → library_at c d ts ≡ map_out scan_from (scan_at c d ts)
            unfolding library_at
            library-scan h = rw (no_create, no_join, no_lock, no_unlock, no_print, h) (by (scan_at c d ts))
              where
                by : (o : Out Token ScanParts) → map_out library_from (map_out inr (map_out inr (map_out inr (map_out inr (map_out inr (map_out inl o)))))) ≡ map_out scan_from o
                by (Got x r) = refl
                by (Stop f r) = refl

            pub library-condition : begins (is_word w.Scanf) ts ≡ false → library_at c d ts ≡ condition_at ts
            unfolding library_at
            library-condition h = rw (no_create, no_join, no_lock, no_unlock, no_print, h) (by (begins (is_word w.CondWait) ts) (begins (is_word w.Signal) ts) (wait_at ts) (seq (read_word w.Signal) lock_tail ts) (seq (read_word w.Broadcast) lock_tail ts))
              where
                by : (is_wait is_signal : Bool) (wait : Out Token WaitParts) (signal broadcast : Out Token WakeParts)
                    → map_out library_from (map_out inr (map_out inr (map_out inr (map_out inr (map_out inr (map_out inr (either is_wait (map_out inl wait) (map_out inr (either is_signal (map_out inl signal) (map_out inr broadcast))))))))))
                    ≡ either is_wait (map_out wait_from wait) (either is_signal (map_out signal_from signal) (map_out broadcast_from broadcast))
                by true v (Got x r) signal broadcast = refl
                by true v (Stop f r) signal broadcast = refl
                by false true wait (Got x r) broadcast = refl
                by false true wait (Stop f r) broadcast = refl
                by false false wait signal (Got x r) = refl
                by false false wait signal (Stop f r) = refl
