-- What stands in braces is read as the grammar's reader reads it.
use Rattle.std.proofs.Common.{◌≡◌, ℕ, List, refl, sym, ◌∙◌, inl, inr, ◌⊎◌}
use Rattle.cfix_base.specs.declared.Spot.{Spot}
use Rattle.c_grammar.specs.declared.word.Word.TheVariants as w
use Rattle.c_grammar.specs.declared.sign.Sign.TheVariants as s
use Rattle.c_grammar.specs.Token.{Token}
use Rattle.c_reading.specs.Reader.{Out, seq, map_out, alt, begins}
use Rattle.c_reading.specs.Read.{is_word, is_sign, read_word, read_sign, listed}
use Rattle.c_reading.specs.ReadOp.{is_verb, read_ops}
use Rattle.c_reading.specs.ReadSimple.{value_at}
use Rattle.c_reading.specs.ReadDecl.{local_at}
use Rattle.c_grammar.specs.Stmt.{Stmt, Jumps, Items}
use Rattle.c_reading.specs.ReadStmt.{read_semicolon, ValueBlockParts, IntsBlockParts, OtherItem, InBraces, brace_from, brace_with, read_bare_block, value_block_at, ints_block_with, other_item_from, other_item_with, items_with, stmt_at}
use Rattle.c_stmt.specs.Jumps.{bare_block, bare_block_from, value_block, value_parts, set_value_at, return_value, value_block_from}
use Rattle.c_stmt.specs.Stmts.{items_at, other_item_at, int_item, int_item_at, ints_block_from, int_block_from, items_block, block_from, inside_from, brace_at}
use Rattle.c_stmt.proofs.Outs.{map_map, next_same, either_same, seq_is, seq_mapped, alt_is, three_then, four_then}

module _ (d : ℕ) where
  abbrev items_parts : List Token → Out Token (OtherItem × (Items × Spot))
  items_parts = seq (other_item_with (stmt_at 200 d)) (seq (items_with 200 d (stmt_at 200 d)) (read_sign s.CloseBrace))

  abbrev block_parts : List Token → Out Token (Spot ⊎ (OtherItem × (Items × Spot)))
  block_parts = alt (is_sign s.CloseBrace) (read_sign s.CloseBrace) items_parts

  abbrev int_parts : List Token → Out Token (Spot × (ValueBlockParts ⊎ IntsBlockParts))
  int_parts = seq (read_word w.Int) (alt (is_word w.Value) (value_block_at 200 d) (ints_block_with 200 d (stmt_at 200 d)))

module _ (d : ℕ) (before : Spot) where
  abbrev in_braces : InBraces → Stmt
  in_braces x = brace_from (before, x)

  bare_same : (ts : List Token) → map_out (λ x. in_braces (inl x)) (read_bare_block ts) ≡ map_out Jumps (bare_block_from before ts)
  unfolding bare_block_from
  bare_same ts = sym (map_map Jumps (bare_block before) (read_bare_block ts))

  value_same : (int : Spot) (ts : List Token) → map_out (λ x. in_braces (inr (inl (int, inl x)))) (value_block_at 200 d ts) ≡ map_out Jumps (value_block_from d before int ts)
  unfolding value_block_from
  value_same int ts = four_then (λ x. in_braces (inr (inl (int, inl x)))) (read_word w.Value) (read_sign s.Assign) (value_at 200 d) read_semicolon return_value ts
      ∙ sym (map_map Jumps (λ x. value_block before int (value_parts x)) (seq (set_value_at d) return_value ts))

  ints_same : (int : Spot) (ts : List Token) → map_out (λ x. in_braces (inr (inl (int, inr x)))) (ints_block_with 200 d (stmt_at 200 d) ts) ≡ ints_block_from d before int ts
  unfolding ints_block_from int_item_at items_at
  ints_same int ts = three_then (λ x. in_braces (inr (inl (int, inr x)))) (listed (local_at 200 d)) read_semicolon read_ops (seq (items_with 200 d (stmt_at 200 d)) (read_sign s.CloseBrace)) ts
      ∙ sym (seq_mapped (items_block before) (int_item int) (seq (seq (listed (local_at 200 d)) read_semicolon) read_ops) (seq (items_with 200 d (stmt_at 200 d)) (read_sign s.CloseBrace)) ts)

  int_same : (ts : List Token) → map_out (λ x. in_braces (inr (inl x))) (seq (read_word w.Int) (alt (is_word w.Value) (value_block_at 200 d) (ints_block_with 200 d (stmt_at 200 d))) ts) ≡ int_block_from d before ts
  unfolding int_block_from
  int_same ts = seq_is (λ x. in_braces (inr (inl x))) (read_word w.Int) (alt (is_word w.Value) (value_block_at 200 d) (ints_block_with 200 d (stmt_at 200 d))) ts
      ∙ next_same (read_word w.Int ts) _ _ (λ int r. alt_is (λ x. in_braces (inr (inl (int, x)))) (is_word w.Value) (value_block_at 200 d) (ints_block_with 200 d (stmt_at 200 d)) r
      ∙ either_same (begins (is_word w.Value) r) _ _ _ _ (value_same int r) (ints_same int r))

  items_same : (ts : List Token) → map_out (λ x. in_braces (inr (inr (inr x)))) (seq (other_item_with (stmt_at 200 d)) (seq (items_with 200 d (stmt_at 200 d)) (read_sign s.CloseBrace)) ts)
      ≡ map_out (items_block before) (seq (other_item_at d) (seq (items_at d) (read_sign s.CloseBrace)) ts)
  unfolding other_item_at items_at
  items_same ts = sym (seq_mapped (items_block before) other_item_from (other_item_with (stmt_at 200 d)) (seq (items_with 200 d (stmt_at 200 d)) (read_sign s.CloseBrace)) ts)

  block_same : (ts : List Token) → map_out (λ x. in_braces (inr (inr x))) ((block_parts d) ts) ≡ block_from d before ts
  unfolding block_from
  block_same ts = alt_is (λ x. in_braces (inr (inr x))) (is_sign s.CloseBrace) (read_sign s.CloseBrace) (items_parts d) ts
      ∙ either_same (begins (is_sign s.CloseBrace) ts) _ _ _ _ refl (items_same ts)

  pub inside_same : (ts : List Token) → map_out in_braces (alt is_verb read_bare_block (alt (is_word w.Int) (int_parts d) (block_parts d)) ts) ≡ inside_from d before ts
  unfolding inside_from
  inside_same ts = alt_is in_braces is_verb read_bare_block (alt (is_word w.Int) (int_parts d) (block_parts d)) ts
      ∙ either_same (begins is_verb ts) _ _ _ _ (bare_same ts)
      (alt_is (λ x. in_braces (inr x)) (is_word w.Int) (int_parts d) (block_parts d) ts ∙ either_same (begins (is_word w.Int) ts) _ _ _ _ (int_same ts) (block_same ts))

pub brace_same : (d : ℕ) (ts : List Token) → map_out brace_from (brace_with 200 d (stmt_at 200 d) ts) ≡ brace_at d ts
unfolding brace_at
brace_same d ts = seq_is brace_from (read_sign s.OpenBrace) (alt is_verb read_bare_block (alt (is_word w.Int) (int_parts d) (block_parts d))) ts
    ∙ next_same (read_sign s.OpenBrace ts) _ _ (λ before r. inside_same d before r)
