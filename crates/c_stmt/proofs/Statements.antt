-- A statement is read as the grammar's reader reads it, by the token with which it begins.
use Rattle.std.proofs.Common.{◌≡◌, ℕ, zero, suc, ◌-◌, ◌<◌, ◌≤◌, ◌≢◌, true, false, List, refl, sym, ap, ◌∙◌, inr, ◌⊎◌, arith}
use Rattle.cfix_base.specs.declared.Spot.{Spot}
use Rattle.c_grammar.specs.declared.word.Word.TheVariants as w
use Rattle.c_grammar.specs.declared.sign.Sign.TheVariants as s
use Rattle.c_grammar.specs.Token.{Token}
use Rattle.c_reading.specs.Reader.{Out, Stop, Deep, seq, map_out, alt, either, begins, shut}
use Rattle.c_reading.specs.Read.{is_word, is_sign, read_word, read_sign}
use Rattle.c_reading.specs.ReadOp.{read_ops}
use Rattle.c_reading.specs.ReadSimple.{simple_at}
use Rattle.c_reading.specs.ReadCond.{cond_at}
use Rattle.c_grammar.specs.Stmt.{Stmt, Nothing, Jumps}
use Rattle.c_reading.specs.ReadStmt.{is_semicolon, read_semicolon, BraceParts, IfParts, WhileParts, ForParts, JumpParts, SimplyParts, brace_from, brace_with, if_from, if_with, while_from, while_with, for_from, for_with, else_tail_with, jump_from, jump_parts_at, begins_jump, stmt_from, stmt_with, stmt_at}
use Rattle.c_stmt.specs.Jumps.{jump_at}
use Rattle.c_stmt.specs.Stmts.{brace_at, if_at, while_at, for_at, simply_at, flat_at}
use Rattle.c_stmt.proofs.Outs.{map_map, either_same, alt_is, four_then}
use Rattle.c_stmt.proofs.Braces.{brace_same}

-- the readers of the constructs that are nested more deeply
module _ (d : ℕ) (brace : List Token → Out Token BraceParts) (choice : List Token → Out Token IfParts) (loop : List Token → Out Token WhileParts) (counted : List Token → Out Token ForParts) (ts : List Token) where
  abbrev simply : List Token → Out Token SimplyParts
  simply = seq (simple_at 200 d) (seq read_semicolon read_ops)

  abbrev jump_parts : List Token → Out Token (JumpParts ⊎ SimplyParts)
  jump_parts = alt begins_jump (jump_parts_at 200 d) simply

  abbrev semicolon_parts : List Token → Out Token (Spot ⊎ (JumpParts ⊎ SimplyParts))
  semicolon_parts = alt is_semicolon read_semicolon jump_parts

  abbrev for_parts : List Token → Out Token (ForParts ⊎ (Spot ⊎ (JumpParts ⊎ SimplyParts)))
  for_parts = alt (is_word w.For) counted semicolon_parts

  abbrev while_parts : List Token → Out Token (WhileParts ⊎ (ForParts ⊎ (Spot ⊎ (JumpParts ⊎ SimplyParts))))
  while_parts = alt (is_word w.While) loop for_parts

  abbrev if_parts : List Token → Out Token (IfParts ⊎ (WhileParts ⊎ (ForParts ⊎ (Spot ⊎ (JumpParts ⊎ SimplyParts)))))
  if_parts = alt (is_word w.If) choice while_parts

  abbrev last_is : Out Token Stmt
  last_is = either (begins begins_jump ts) (map_out Jumps (jump_at d ts)) (simply_at d ts)

  jump_same : map_out (λ x. Jumps (jump_from x)) (jump_parts_at 200 d ts) ≡ map_out Jumps (jump_at d ts)
  unfolding jump_at
  jump_same = sym (map_map Jumps jump_from (jump_parts_at 200 d ts))

  simply_same : map_out (λ x. stmt_from (inr (inr (inr (inr (inr (inr x))))))) (simply ts) ≡ simply_at d ts
  unfolding simply_at
  simply_same = refl

  -- by the first token, in this order
  pub stmt_is : stmt_with 200 d brace choice loop counted ts ≡ either (begins (is_sign s.OpenBrace) ts) (map_out brace_from (brace ts)) (either (begins (is_word w.If) ts) (map_out if_from (choice ts))
      (either (begins (is_word w.While) ts) (map_out while_from (loop ts)) (either (begins (is_word w.For) ts) (map_out for_from (counted ts)) (either (begins is_semicolon ts) (map_out Nothing (read_semicolon ts)) last_is))))
  stmt_is = alt_is stmt_from (is_sign s.OpenBrace) brace if_parts ts ∙ either_same (begins (is_sign s.OpenBrace) ts) _ _ _ _ refl
      (alt_is (λ x. stmt_from (inr x)) (is_word w.If) choice while_parts ts ∙ either_same (begins (is_word w.If) ts) _ _ _ _ refl
      (alt_is (λ x. stmt_from (inr (inr x))) (is_word w.While) loop for_parts ts ∙ either_same (begins (is_word w.While) ts) _ _ _ _ refl
      (alt_is (λ x. stmt_from (inr (inr (inr x)))) (is_word w.For) counted semicolon_parts ts ∙ either_same (begins (is_word w.For) ts) _ _ _ _ refl
      (alt_is (λ x. stmt_from (inr (inr (inr (inr x))))) is_semicolon read_semicolon jump_parts ts ∙ either_same (begins is_semicolon ts) _ _ _ _ refl
      (alt_is (λ x. stmt_from (inr (inr (inr (inr (inr x)))))) begins_jump (jump_parts_at 200 d) simply ts ∙ either_same (begins begins_jump ts) _ _ _ _ jump_same simply_same)))))

  brace_case : begins (is_sign s.OpenBrace) ts ≡ true → stmt_with 200 d brace choice loop counted ts ≡ map_out brace_from (brace ts)
  brace_case here = stmt_is ∙ rw here refl

  module _ (no : begins (is_sign s.OpenBrace) ts ≡ false) where
    if_case : begins (is_word w.If) ts ≡ true → stmt_with 200 d brace choice loop counted ts ≡ map_out if_from (choice ts)
    if_case here = stmt_is ∙ rw (no, here) refl

    module _ (no_if : begins (is_word w.If) ts ≡ false) where
      while_case : begins (is_word w.While) ts ≡ true → stmt_with 200 d brace choice loop counted ts ≡ map_out while_from (loop ts)
      while_case here = stmt_is ∙ rw (no, no_if, here) refl

      module _ (no_while : begins (is_word w.While) ts ≡ false) where
        for_case : begins (is_word w.For) ts ≡ true → stmt_with 200 d brace choice loop counted ts ≡ map_out for_from (counted ts)
        for_case here = stmt_is ∙ rw (no, no_if, no_while, here) refl

        last_case : begins (is_word w.For) ts ≡ false → stmt_with 200 d brace choice loop counted ts ≡ either (begins is_semicolon ts) (map_out Nothing (read_semicolon ts)) last_is
        last_case no_for = stmt_is ∙ rw (no, no_if, no_while, no_for) refl

abbrev no_brace : List Token → Out Token BraceParts
no_brace = shut (is_sign s.OpenBrace)

abbrev no_choice : List Token → Out Token IfParts
no_choice = shut (is_word w.If)

abbrev no_loop : List Token → Out Token WhileParts
no_loop = shut (is_word w.While)

abbrev no_counted : List Token → Out Token ForParts
no_counted = shut (is_word w.For)

abbrev brace_in : ℕ → List Token → Out Token BraceParts
brace_in d = brace_with 200 d (stmt_at 200 d)

abbrev choice_in : ℕ → List Token → Out Token IfParts
choice_in d = if_with 200 d (stmt_at 200 d)

abbrev loop_in : ℕ → List Token → Out Token WhileParts
loop_in d = while_with 200 d (stmt_at 200 d)

abbrev counted_in : ℕ → List Token → Out Token ForParts
counted_in d = for_with 200 d (stmt_at 200 d)

module _ (ts : List Token) where
  -- what a statement is read by, where so many more constructs may be nested
  zero_is : stmt_at 200 zero ts ≡ stmt_with 200 zero no_brace no_choice no_loop no_counted ts
  unfolding stmt_at
  zero_is = refl

  one_is : stmt_at 200 (suc zero) ts ≡ stmt_with 200 (suc zero) (brace_in zero) (choice_in zero) (loop_in zero) no_counted ts
  unfolding stmt_at
  one_is = refl

  more_is : (d : ℕ) → stmt_at 200 (suc (suc d)) ts ≡ stmt_with 200 (suc (suc d)) (brace_in (suc d)) (choice_in (suc d)) (loop_in (suc d)) (counted_in d) ts
  unfolding stmt_at
  more_is d = refl

  module _ (here : begins (is_sign s.OpenBrace) ts ≡ true) where
    pub brace_deep : stmt_at 200 zero ts ≡ Stop Deep ts
    brace_deep = zero_is ∙ brace_case zero no_brace no_choice no_loop no_counted ts here ∙ rw here refl

    pub brace_is : (d : ℕ) → stmt_at 200 (suc d) ts ≡ brace_at d ts
    brace_is zero = one_is ∙ brace_case (suc zero) (brace_in zero) (choice_in zero) (loop_in zero) no_counted ts here ∙ brace_same zero ts
    brace_is (suc d) = more_is d ∙ brace_case (suc (suc d)) (brace_in (suc d)) (choice_in (suc d)) (loop_in (suc d)) (counted_in d) ts here ∙ brace_same (suc d) ts

  module _ (no : begins (is_sign s.OpenBrace) ts ≡ false) where
    module _ (here : begins (is_word w.If) ts ≡ true) where
      pub if_deep : stmt_at 200 zero ts ≡ Stop Deep ts
      if_deep = zero_is ∙ if_case zero no_brace no_choice no_loop no_counted ts no here ∙ rw here refl

      if_same : (d : ℕ) → map_out if_from (choice_in d ts) ≡ if_at d ts
      unfolding if_at
      if_same d = four_then if_from (read_word w.If) (read_sign s.OpenParen) (cond_at 200 d) (read_sign s.CloseParen) (else_tail_with (stmt_at 200 d)) ts

      pub if_is : (d : ℕ) → stmt_at 200 (suc d) ts ≡ if_at d ts
      if_is zero = one_is ∙ if_case (suc zero) (brace_in zero) (choice_in zero) (loop_in zero) no_counted ts no here ∙ if_same zero
      if_is (suc d) = more_is d ∙ if_case (suc (suc d)) (brace_in (suc d)) (choice_in (suc d)) (loop_in (suc d)) (counted_in d) ts no here ∙ if_same (suc d)

    module _ (no_if : begins (is_word w.If) ts ≡ false) where
      module _ (here : begins (is_word w.While) ts ≡ true) where
        pub while_deep : stmt_at 200 zero ts ≡ Stop Deep ts
        while_deep = zero_is ∙ while_case zero no_brace no_choice no_loop no_counted ts no no_if here ∙ rw here refl

        while_same : (d : ℕ) → map_out while_from (loop_in d ts) ≡ while_at d ts
        unfolding while_at
        while_same d = four_then while_from (read_word w.While) (read_sign s.OpenParen) (cond_at 200 d) (read_sign s.CloseParen) (stmt_at 200 d) ts

        pub while_is : (d : ℕ) → stmt_at 200 (suc d) ts ≡ while_at d ts
        while_is zero = one_is ∙ while_case (suc zero) (brace_in zero) (choice_in zero) (loop_in zero) no_counted ts no no_if here ∙ while_same zero
        while_is (suc d) = more_is d ∙ while_case (suc (suc d)) (brace_in (suc d)) (choice_in (suc d)) (loop_in (suc d)) (counted_in d) ts no no_if here ∙ while_same (suc d)

      module _ (no_while : begins (is_word w.While) ts ≡ false) where
        module _ (here : begins (is_word w.For) ts ≡ true) where
          pub for_deep : (d : ℕ) → d < 2 → stmt_at 200 d ts ≡ Stop Deep ts
          for_deep zero h = zero_is ∙ for_case zero no_brace no_choice no_loop no_counted ts no no_if no_while here ∙ rw here refl
          for_deep (suc zero) h = one_is ∙ for_case (suc zero) (brace_in zero) (choice_in zero) (loop_in zero) no_counted ts no no_if no_while here ∙ rw here refl
          for_deep (suc (suc d)) h = absurd (omega (arith, h))

          pub for_is : (d : ℕ) → stmt_at 200 (suc (suc d)) ts ≡ for_at d ts
          unfolding for_at
          for_is d = more_is d ∙ for_case (suc (suc d)) (brace_in (suc d)) (choice_in (suc d)) (loop_in (suc d)) (counted_in d) ts no no_if no_while here

        module _ (no_for : begins (is_word w.For) ts ≡ false) where
          pub flat_is : (d : ℕ) → stmt_at 200 d ts ≡ flat_at d ts
          unfolding flat_at
          flat_is zero = zero_is ∙ last_case zero no_brace no_choice no_loop no_counted ts no no_if no_while no_for
          flat_is (suc zero) = one_is ∙ last_case (suc zero) (brace_in zero) (choice_in zero) (loop_in zero) no_counted ts no no_if no_while no_for
          flat_is (suc (suc d)) = more_is d ∙ last_case (suc (suc d)) (brace_in (suc d)) (choice_in (suc d)) (loop_in (suc d)) (counted_in d) ts no no_if no_while no_for

less : (d : ℕ) → d ≢ 0 → d ≡ suc (d - 1)
less d h = omega (arith, h)

less_two : (d : ℕ) → 2 ≤ d → d ≡ suc (suc (d - 2))
less_two d h = omega (arith, h)

-- the same, where the code says by how much the depth is less
module _ (d : ℕ) (ts : List Token) where
  pub brace_here : d ≢ 0 → begins (is_sign s.OpenBrace) ts ≡ true → stmt_at 200 d ts ≡ brace_at (d - 1) ts
  brace_here h b = ap (λ (k : ℕ). stmt_at 200 k ts) (less d h) ∙ brace_is ts b (d - 1)

  module _ (no : begins (is_sign s.OpenBrace) ts ≡ false) where
    pub if_here : d ≢ 0 → begins (is_word w.If) ts ≡ true → stmt_at 200 d ts ≡ if_at (d - 1) ts
    if_here h b = ap (λ (k : ℕ). stmt_at 200 k ts) (less d h) ∙ if_is ts no b (d - 1)

    module _ (no_if : begins (is_word w.If) ts ≡ false) where
      pub while_here : d ≢ 0 → begins (is_word w.While) ts ≡ true → stmt_at 200 d ts ≡ while_at (d - 1) ts
      while_here h b = ap (λ (k : ℕ). stmt_at 200 k ts) (less d h) ∙ while_is ts no no_if b (d - 1)

      module _ (no_while : begins (is_word w.While) ts ≡ false) where
        pub for_here : 2 ≤ d → begins (is_word w.For) ts ≡ true → stmt_at 200 d ts ≡ for_at (d - 2) ts
        for_here h b = ap (λ (k : ℕ). stmt_at 200 k ts) (less_two d h) ∙ for_is ts no no_if no_while b (d - 2)
