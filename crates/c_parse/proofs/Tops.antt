-- Declarations and functions are read as the grammar's reader reads them.
use Rattle.std.proofs.Common.{◌≡◌, Bool, true, false, List, refl, sym, ap, ◌∙◌, inl, inr}
use Rattle.cfix_base.specs.declared.Spot.{Spot}
use Rattle.c_grammar.specs.declared.word.Word.TheVariants as w
use Rattle.c_grammar.specs.declared.sign.Sign.TheVariants as s
use Rattle.c_grammar.specs.Token.{Token, Ident}
use Rattle.c_reading.specs.Reader.{seq, seq_dep, map_out, alt, either, begins}
use Rattle.c_reading.specs.Read.{is_word, is_sign, read_word, read_sign, read_ident}
use Rattle.c_reading.specs.ReadSimple.{is_paren}
use Rattle.c_grammar.specs.File as g
use Rattle.c_reading.specs.ReadFile as read
use Rattle.c_stmt.proofs.Outs.{map_map, map_same, next_same, either_same, seq_is, dep_is, alt_is}
use Rattle.c_parse.specs.Globals.{holds_from, mutexes_from, conds_from, read_holds_at, read_mutexes_at, read_conds_at}
use Rattle.c_parse.specs.Tops.{plain_top, ints_top, void_from, int_from, with_globals, last_from, behind_qualifiers, declared_at}
use Rattle.c_parse.specs.Directives.{directive_from, directive_at}
use Rattle.c_parse.proofs.Directives.{to_parts, tail_is}

module _ (q : read.Qualifiers) where
  abbrev of_body : read.Body → g.Top
  of_body b = read.top_from (inr (q, b))

  int_tail_same : (b : Bool) (at : Spot) (x : Ident) (ts : List Token) → map_out (λ t. of_body (inl (at, (x, t)))) (read.int_tail_at b 200 ts)
      ≡ either b (either (begins is_paren ts) (plain_top (read.static_of q) g.ReturnsInt at x ts) (ints_top q at x ts)) (ints_top q at x ts)
  int_tail_same true at x ts = alt_is (λ t. of_body (inl (at, (x, t)))) is_paren (read.head_tail_at 200) read.read_globals_tail ts
  int_tail_same false at x ts = map_map (λ t. of_body (inl (at, (x, t)))) inr (read.read_globals_tail ts)

  int_same : (ts : List Token) → map_out (λ x. of_body (inl x)) (seq (read_word w.Int) (seq read_ident (read.int_tail_at (read.heads_allowed q) 200)) ts) ≡ int_from q ts
  int_same ts = seq_is (λ x. of_body (inl x)) (read_word w.Int) (seq read_ident (read.int_tail_at (read.heads_allowed q) 200)) ts
      ∙ next_same (read_word w.Int ts) _ _ (λ at r. seq_is (λ y. of_body (inl (at, y))) read_ident (read.int_tail_at (read.heads_allowed q) 200) r
      ∙ next_same (read_ident r) _ _ (λ x r2. int_tail_same (read.heads_allowed q) at x r2))

  void_same : (ts : List Token) → map_out (λ x. of_body (inr (inr (inr (inl x))))) (read.void_at 200 ts) ≡ void_from (read.static_of q) ts
  void_same ts = seq_is (λ x. of_body (inr (inr (inr (inl x))))) (read_word w.Void) (alt (is_sign s.Star) (read.thread_head_at 200) (seq read_ident (read.head_tail_at 200))) ts
      ∙ next_same (read_word w.Void ts) _ _ (λ at r. alt_is (λ y. of_body (inr (inr (inr (inl (at, y)))))) (is_sign s.Star) (read.thread_head_at 200) (seq read_ident (read.head_tail_at 200)) r
      ∙ either_same (begins (is_sign s.Star) r) _ _ _ _ refl (seq_is (λ y. of_body (inr (inr (inr (inl (at, inr y)))))) read_ident (read.head_tail_at 200) r))

  mutexes_same : (ts : List Token) → map_out (λ x. of_body (inr (inr (inl x)))) (read.read_mutexes ts) ≡ map_out (with_globals q) (read_mutexes_at ts)
  mutexes_same ts = sym (map_map (with_globals q) mutexes_from (read.read_mutexes ts))

  holds_same : (ts : List Token) → map_out (λ x. of_body (inr (inl x))) (read.read_holds ts) ≡ map_out (with_globals q) (read_holds_at ts)
  holds_same ts = sym (map_map (with_globals q) holds_from (read.read_holds ts))

  conds_same : (ts : List Token) → map_out (λ x. of_body (inr (inr (inr (inr x))))) (read.read_conds ts) ≡ map_out (with_globals q) (read_conds_at ts)
  conds_same ts = sym (map_map (with_globals q) conds_from (read.read_conds ts))

  last_same : (b : Bool) (ts : List Token) → map_out (λ x. of_body (inr (inr (inr x)))) (read.last_at b 200 ts)
      ≡ either b (either (begins (is_word w.Void) ts) (void_from (read.static_of q) ts) (map_out (with_globals q) (read_conds_at ts))) (map_out (with_globals q) (read_conds_at ts))
  last_same true ts = alt_is (λ x. of_body (inr (inr (inr x)))) (is_word w.Void) (read.void_at 200) read.read_conds ts ∙ either_same (begins (is_word w.Void) ts) _ _ _ _ (void_same ts) (conds_same ts)
  last_same false ts = map_map (λ x. of_body (inr (inr (inr x)))) inr (read.read_conds ts) ∙ conds_same ts

  rest_same : (ts : List Token) → map_out (λ x. of_body (inr (inr x))) (alt (is_word w.Mutex) read.read_mutexes (read.last_at (read.heads_allowed q) 200) ts)
      ≡ either (begins (is_word w.Mutex) ts) (map_out (with_globals q) (read_mutexes_at ts)) (last_from q ts)
  rest_same ts = alt_is (λ x. of_body (inr (inr x))) (is_word w.Mutex) read.read_mutexes (read.last_at (read.heads_allowed q) 200) ts
      ∙ either_same (begins (is_word w.Mutex) ts) _ _ _ _ (mutexes_same ts) (last_same (read.heads_allowed q) ts)

  body_same : (ts : List Token) → map_out of_body (read.body_at (read.heads_allowed q) 200 ts) ≡ behind_qualifiers q ts
  body_same ts = alt_is of_body (is_word w.Int) (seq (read_word w.Int) (seq read_ident (read.int_tail_at (read.heads_allowed q) 200))) (alt (is_word w.Thread) read.read_holds (alt (is_word w.Mutex) read.read_mutexes (read.last_at (read.heads_allowed q) 200))) ts
      ∙ either_same (begins (is_word w.Int) ts) _ _ _ _ (int_same ts)
      (alt_is (λ x. of_body (inr x)) (is_word w.Thread) read.read_holds (alt (is_word w.Mutex) read.read_mutexes (read.last_at (read.heads_allowed q) 200)) ts ∙ either_same (begins (is_word w.Thread) ts) _ _ _ _ (holds_same ts) (rest_same ts))

tail_top : (at : Spot) (x : read.DirectiveTail) → read.top_from (inl (at, x)) ≡ directive_from at (to_parts x)
tail_top at (inl x) = refl
tail_top at (inr x) = refl

directive_same : (ts : List Token) → map_out (λ x. read.top_from (inl x)) (read.read_directive ts) ≡ directive_at ts
directive_same ts = dep_is (λ x. read.top_from (inl x)) (read_sign s.Hash) (λ at. read.directive_tail_on at.line) ts
    ∙ next_same (read_sign s.Hash ts) _ _ (λ at r. map_same _ _ (read.directive_tail_on at.line r) (tail_top at) ∙ sym (map_map (directive_from at) to_parts (read.directive_tail_on at.line r))
    ∙ ap (map_out (directive_from at)) (tail_is at.line r))

pub top_is : (ts : List Token) → read.top_at 200 ts ≡ either (begins (is_sign s.Hash) ts) (directive_at ts) (declared_at ts)
top_is ts = alt_is read.top_from (is_sign s.Hash) read.read_directive (seq_dep read.read_qualifiers (λ q. read.body_at (read.heads_allowed q) 200)) ts
    ∙ either_same (begins (is_sign s.Hash) ts) _ _ _ _ (directive_same ts)
    (dep_is (λ x. read.top_from (inr x)) read.read_qualifiers (λ q. read.body_at (read.heads_allowed q) 200) ts ∙ next_same (read.read_qualifiers ts) _ _ (λ q r. body_same q r))

pub top_directive : (ts : List Token) → begins (is_sign s.Hash) ts ≡ true → read.top_at 200 ts ≡ directive_at ts
top_directive ts h = top_is ts ∙ (let e : either (begins (is_sign s.Hash) ts) (directive_at ts) (declared_at ts) ≡ directive_at ts = rw h refl in e)

pub top_declared : (ts : List Token) → begins (is_sign s.Hash) ts ≡ false → read.top_at 200 ts ≡ declared_at ts
top_declared ts h = top_is ts ∙ (let e : either (begins (is_sign s.Hash) ts) (directive_at ts) (declared_at ts) ≡ declared_at ts = rw h refl in e)
