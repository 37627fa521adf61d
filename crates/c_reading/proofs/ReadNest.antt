-- The laws of the reader of statements, by how many more constructs may be nested.
use Rattle.std.proofs.Common.{◌≡◌, ℕ, zero, suc, ◌+◌, ◌≤◌, Bool, true, false, not, ◌&&◌, List, [], ◌∷◌, Option, None, refl, sym, ap, subst, ◌∙◌, inl, inr, ◌⊎◌, arith, append-nil}
use Rattle.std.proofs.lemmas.Bool.{and_from, and_parts, lt-ltb}
use Rattle.cfix_base.specs.declared.Spot.{Spot}
use Rattle.c_grammar.specs.declared.word.Word.TheVariants as w
use Rattle.c_grammar.specs.declared.sign.Sign.TheVariants as s
use Rattle.c_reading.specs.Reader.{Fault, Out, Got, Stop, next, Lang, toks, seq, map_out, begins, holds, either, alt, shut, nothing, maybe_read}
use Rattle.c_grammar.specs.Marks.{first, head, tokens}
use Rattle.c_grammar.specs.Token.{Token, Mark}
use Rattle.c_grammar.specs.Cond.{Cond}
use Rattle.c_grammar.specs.Cond as c
use Rattle.c_grammar.specs.Stmt.{First, LoopStep, Stmt, Nothing, is_open, is_open_else, has_else, is_stmt}
use Rattle.c_reading.specs.Read.{is_word, is_sign, read_word, read_sign}
use Rattle.c_reading.specs.ReadExpr.{begins_expr}
use Rattle.c_reading.specs.ReadCond.{cond_at}
use Rattle.c_reading.specs.ReadSimple.{simple_at}
use Rattle.c_reading.specs.ReadOp.{read_ops}
use Rattle.c_reading.specs.ReadStmt.{is_semicolon, read_semicolon, first_at, loop_step_at, begins_plain, begins_first, begins_jump, jump_parts_at, SimplyParts, JumpParts, BraceParts, brace_from, brace_with, ElseParts, else_from, IfParts, WhileParts, ForParts, else_tail_with, if_with, while_with, for_with, if_from, while_from, for_from, StmtParts, stmt_from, stmt_with, stmt_at}
use Rattle.c_reading.specs.ReadStmt as read
use Rattle.c_reading.proofs.Reader.{IsReader, Got-inj, next_got, pair, seq_reader, fit_reader, map_got, alt_reader, empty, nothing_reader, shut_reader, optional, maybe_reader}
use Rattle.c_reading.proofs.Token.{no_spot, only_word_token, only_sign_token, word_lang, sign_lang, word_reader, sign_reader}
use Rattle.c_reading.proofs.ReadExpr.{not_true, some_expr}
use Rattle.c_reading.proofs.ReadCond.{cond_lang, cond_reader}
use Rattle.c_reading.proofs.ReadJump.{first_lang, first_reader, first_begins, loop_step_lang, loop_step_reader, loop_step_begins, cond_begins}
use Rattle.c_reading.proofs.ReadBlock.{else_free, stmt_stops, stmt_lang, in_braces, in_braces_reader, free_of}
use Rattle.c_reading.proofs.ReadStmt.{brace_lang, ends_else, else_lang, fit, tail_lang, if_lang, while_lang, ends_first_part, ends_cond_part, ends_step_part, for_lang, stmt_with_reader}

-- no `else` stands behind a statement that was read and that could take it
abbrev pub IsGreedy : (List Token → Out Token Stmt) → Type 0
IsGreedy p = (ts : List Token) (st : Stmt) (r : List Token) → p ts ≡ Got st r → else_free st (head r) ≡ true

abbrev some_stmt : Stmt
some_stmt = Nothing no_spot

swap : (v w : Bool) → not (v && w) ≡ true → not (w && v) ≡ true
swap true true e = absurd cc
swap true false e = refl
swap false true e = refl
swap false false e = refl

closed_from : (v w : Bool) → not (v && w) ≡ true → w ≡ true → v ≡ false
closed_from true true h e = absurd cc
closed_from true false h e = absurd cc
closed_from false w h e = refl

stops_closed : (v w : Bool) → v ≡ false → not (v && w) ≡ true
stops_closed true w e = absurd cc
stops_closed false w e = refl

not_both : (v : Bool) → not (true && v) ≡ true → v ≡ false
not_both true e = absurd cc
not_both false e = refl

-- ---- the `else` of an `if`

module _ (limit r d : ℕ) (h : r + d ≡ limit) (stmt : List Token → Out Token Stmt) (rs : IsReader limit (stmt_lang d) stmt) (greedy : IsGreedy stmt) where
  hd : d ≤ limit
  hd = omega (arith, h)

  abbrev else_part : List Token → Out Token ElseParts
  else_part = alt read.is_else (seq (read_word w.Else) stmt) nothing

  else_reader : IsReader limit (else_lang d) else_part
  else_reader = alt_reader limit read.is_else (pair (word_lang w.Else d) (stmt_lang d) (λ x h. stmt_stops x.1 h)) empty ends_else (seq (read_word w.Else) stmt) nothing
      (record { one = λ a k g. refl; other = λ c k g e. not_both _ (and_parts _ _ e).1; stops_one = λ a k g e. e; stops_other = λ c k g e. refl })
      (seq_reader limit (word_lang w.Else d) (stmt_lang d) (λ x h. stmt_stops x.1 h) (read_word w.Else) stmt (word_reader limit d hd w.Else) rs (λ a b k g1 g2 e. (refl, e)) some_stmt refl) (nothing_reader limit)

  -- what was read, by what came first
  else_came : (ts t : List Token) (e : ElseParts) (v : Bool) → begins read.is_else ts ≡ v → either v (map_out inl (seq (read_word w.Else) stmt ts)) (map_out inr (nothing ts)) ≡ Got e t → has_else (else_from e) ≡ v
  else_came ts t e true i x = let y = map_got {B = ElseParts} inl (seq (read_word w.Else) stmt ts) e t x in ap (λ (z : ElseParts). has_else (else_from z)) (sym y.2)
  else_came ts t e false i x = let y = map_got {B = ElseParts} inr (nothing ts) e t x in ap (λ (z : ElseParts). has_else (else_from z)) (sym y.2)

  fit_here : (st : Stmt) (e : ElseParts) (ts : List Token) → has_else (else_from e) ≡ begins read.is_else ts → else_free st (head ts) ≡ true → fit st e ≡ true
  fit_here st e ts i g = ap (λ (v : Bool). not (v && is_open st)) i ∙ swap (is_open st) (begins read.is_else ts) g

  else_fault_came : (ts t : List Token) (f : Fault) (v : Bool) → begins read.is_else ts ≡ v → either v (map_out inl (seq (read_word w.Else) stmt ts)) (map_out {B = ElseParts} inr (nothing ts)) ≡ Stop f t → v ≡ true
  else_fault_came ts t f true i x = refl
  else_fault_came ts t f false i x = absurd cc

  fit_closed : (a : Stmt) (b : ElseParts) → is_open a ≡ false → fit a b ≡ true
  fit_closed a b e = free_of (has_else (else_from b)) (is_open a) e

  tail_fits : (a : Stmt) (b : ElseParts) (k : Option Token) → is_stmt a ≡ true → (else_lang d).good b ≡ true → fit a b ≡ true → ends_else b k ≡ true → (stmt_stops a (first (toks (else_lang d) b) k) ≡ true) × ((else_lang d).stops b k ≡ true)
  tail_fits a (inl x) k g1 g2 f e = (and_from _ _ refl (stops_closed (is_open a) true (not_both (is_open a) f)), e)
  tail_fits a (inr u) k g1 g2 f e = (and_from _ _ (and_parts _ _ e).0 (free_of (is_open a) (holds read.is_else k) (not_both (holds read.is_else k) (and_parts _ _ e).1)), e)

  tail_reader : IsReader limit (tail_lang d) (else_tail_with stmt)
  tail_reader = fit_reader limit (stmt_lang d) (else_lang d) fit (λ x h. ends_else x.1 h) stmt else_part rs else_reader tail_fits
      (λ ts u t a b e1 e2. fit_here a b u (else_came u t b (begins read.is_else u) refl e2) (greedy ts a u e1))
      (λ ts u t a f e1 e2. fit_closed a _ (closed_from (is_open a) (begins read.is_else u) (greedy ts a u e1) (else_fault_came u t f (begins read.is_else u) refl e2)))
      (inr tt) refl (λ a. refl)

  -- ---- what nests, where d counts it

  abbrev brace_here : Lang Token BraceParts
  brace_here = pair (sign_lang s.OpenBrace d) (in_braces d) (λ x h. (in_braces d).stops x.1 h)

  brace_reader : IsReader limit brace_here (brace_with limit r stmt)
  brace_reader = seq_reader limit (sign_lang s.OpenBrace d) (in_braces d) (λ x h. (in_braces d).stops x.1 h) (read_sign s.OpenBrace) _ (sign_reader limit d hd s.OpenBrace) (in_braces_reader limit r d h stmt rs) (λ a b k g1 g2 e. (refl, e)) (inr (inr (inl no_spot))) refl

  if_reader : IsReader limit (pair (word_lang w.If d) (pair (sign_lang s.OpenParen d) (pair (cond_lang d) (pair (sign_lang s.CloseParen d) (tail_lang d) (λ x h. (tail_lang d).stops x.1 h)) (λ x h. (tail_lang d).stops x.1.1 h)) (λ x h. (tail_lang d).stops x.1.1.1 h)) (λ x h. (tail_lang d).stops x.1.1.1.1 h)) (if_with limit r stmt)
  if_reader =
      seq_reader limit _ _ (λ x h. (tail_lang d).stops x.1.1.1.1 h) (read_word w.If) _ (word_reader limit d hd w.If)
      (seq_reader limit _ _ (λ x h. (tail_lang d).stops x.1.1.1 h) (read_sign s.OpenParen) _ (sign_reader limit d hd s.OpenParen)
      (seq_reader limit _ _ (λ x h. (tail_lang d).stops x.1.1 h) (cond_at limit r) _ (cond_reader limit r d h)
      (seq_reader limit _ _ (λ x h. (tail_lang d).stops x.1 h) (read_sign s.CloseParen) _ (sign_reader limit d hd s.CloseParen)
      tail_reader
      (λ a b k g1 g2 e. (refl, e)) (some_stmt, inr tt) refl)
      (λ a b k g1 g2 e. (refl, e)) (no_spot, (some_stmt, inr tt)) refl)
      (λ a b k g1 g2 e. (refl, e)) ((c.Bare some_expr), (no_spot, (some_stmt, inr tt))) refl)
      (λ a b k g1 g2 e. (refl, e)) (no_spot, ((c.Bare some_expr), (no_spot, (some_stmt, inr tt)))) refl

  while_reader : IsReader limit (pair (word_lang w.While d) (pair (sign_lang s.OpenParen d) (pair (cond_lang d) (pair (sign_lang s.CloseParen d) (stmt_lang d) (λ x h. stmt_stops x.1 h)) (λ x h. stmt_stops x.1.1 h)) (λ x h. stmt_stops x.1.1.1 h)) (λ x h. stmt_stops x.1.1.1.1 h)) (while_with limit r stmt)
  while_reader =
      seq_reader limit _ _ (λ x h. stmt_stops x.1.1.1.1 h) (read_word w.While) _ (word_reader limit d hd w.While)
      (seq_reader limit _ _ (λ x h. stmt_stops x.1.1.1 h) (read_sign s.OpenParen) _ (sign_reader limit d hd s.OpenParen)
      (seq_reader limit _ _ (λ x h. stmt_stops x.1.1 h) (cond_at limit r) _ (cond_reader limit r d h)
      (seq_reader limit _ _ (λ x h. stmt_stops x.1 h) (read_sign s.CloseParen) _ (sign_reader limit d hd s.CloseParen)
      rs
      (λ a b k g1 g2 e. (refl, e)) some_stmt refl)
      (λ a b k g1 g2 e. (refl, e)) (no_spot, some_stmt) refl)
      (λ a b k g1 g2 e. (refl, e)) ((c.Bare some_expr), (no_spot, some_stmt)) refl)
      (λ a b k g1 g2 e. (refl, e)) (no_spot, ((c.Bare some_expr), (no_spot, some_stmt))) refl

  first_part_reader : IsReader limit (optional (first_lang d) ends_first_part) (maybe_read begins_first (first_at limit r))
  first_part_reader = maybe_reader limit begins_first (first_lang d) ends_first_part (first_at limit r) (first_reader limit r d h) (λ a k g. first_all a k) (λ k e. not_true _ (and_parts _ _ e).1) (λ a k g e. (and_parts _ _ e).0)
    where
      first_all : (a : First) (k : Option Token) → holds begins_first (first (toks (first_lang d) a) k) ≡ true
      first_all a k = ap (λ (z : List Mark). holds begins_first (first (tokens z) k)) (sym (append-nil ((first_lang d).marks a))) ∙ first_begins d a [] k

  cond_part_reader : IsReader limit (optional (cond_lang d) ends_cond_part) (maybe_read begins_expr (cond_at limit r))
  cond_part_reader = maybe_reader limit begins_expr (cond_lang d) ends_cond_part (cond_at limit r) (cond_reader limit r d h) (λ a k g. cond_all a k) (λ k e. not_true _ (and_parts _ _ e).1) (λ a k g e. (and_parts _ _ e).0)
    where
      cond_all : (a : Cond) (k : Option Token) → holds begins_expr (first (toks (cond_lang d) a) k) ≡ true
      cond_all a k = ap (λ (z : List Mark). holds begins_expr (first (tokens z) k)) (sym (append-nil ((cond_lang d).marks a))) ∙ cond_begins d a [] k

  step_part_reader : IsReader limit (optional (loop_step_lang d) ends_step_part) (maybe_read begins_plain (loop_step_at limit r))
  step_part_reader = maybe_reader limit begins_plain (loop_step_lang d) ends_step_part (loop_step_at limit r) (loop_step_reader limit r d h) (λ a k g. step_all a k) (λ k e. not_true _ (and_parts _ _ e).1) (λ a k g e. (and_parts _ _ e).0)
    where
      step_all : (a : LoopStep) (k : Option Token) → holds begins_plain (first (toks (loop_step_lang d) a) k) ≡ true
      step_all a k = ap (λ (z : List Mark). holds begins_plain (first (tokens z) k)) (sym (append-nil ((loop_step_lang d).marks a))) ∙ loop_step_begins d a [] k

  for_reader : IsReader limit (pair (word_lang w.For d) (pair (sign_lang s.OpenParen d) (pair (optional (first_lang d) ends_first_part) (pair (sign_lang s.Semicolon d) (pair (optional (cond_lang d) ends_cond_part) (pair (sign_lang s.Semicolon d) (pair (optional (loop_step_lang d) ends_step_part) (pair (sign_lang s.CloseParen d) (stmt_lang d) (λ x h. stmt_stops x.1 h)) (λ x h. stmt_stops x.1.1 h)) (λ x h. stmt_stops x.1.1.1 h)) (λ x h. stmt_stops x.1.1.1.1 h)) (λ x h. stmt_stops x.1.1.1.1.1 h)) (λ x h. stmt_stops x.1.1.1.1.1.1 h)) (λ x h. stmt_stops x.1.1.1.1.1.1.1 h)) (λ x h. stmt_stops x.1.1.1.1.1.1.1.1 h)) (for_with limit r stmt)
  for_reader =
      seq_reader limit _ _ (λ x h. stmt_stops x.1.1.1.1.1.1.1.1 h) (read_word w.For) _ (word_reader limit d hd w.For)
      (seq_reader limit _ _ (λ x h. stmt_stops x.1.1.1.1.1.1.1 h) (read_sign s.OpenParen) _ (sign_reader limit d hd s.OpenParen)
      (seq_reader limit _ _ (λ x h. stmt_stops x.1.1.1.1.1.1 h) (maybe_read begins_first (first_at limit r)) _ first_part_reader
      (seq_reader limit _ _ (λ x h. stmt_stops x.1.1.1.1.1 h) read_semicolon _ (sign_reader limit d hd s.Semicolon)
      (seq_reader limit _ _ (λ x h. stmt_stops x.1.1.1.1 h) (maybe_read begins_expr (cond_at limit r)) _ cond_part_reader
      (seq_reader limit _ _ (λ x h. stmt_stops x.1.1.1 h) read_semicolon _ (sign_reader limit d hd s.Semicolon)
      (seq_reader limit _ _ (λ x h. stmt_stops x.1.1 h) (maybe_read begins_plain (loop_step_at limit r)) _ step_part_reader
      (seq_reader limit _ _ (λ x h. stmt_stops x.1 h) (read_sign s.CloseParen) _ (sign_reader limit d hd s.CloseParen)
      rs
      (λ a b k g1 g2 e. (refl, e)) some_stmt refl)
      (λ a b k g1 g2 e. (refl, e)) (no_spot, some_stmt) refl)
      (λ a b k g1 g2 e. (refl, e)) (None, (no_spot, some_stmt)) refl)
      (λ a b k g1 g2 e. (refl, e)) (no_spot, (None, (no_spot, some_stmt))) refl)
      (λ a b k g1 g2 e. (refl, e)) (None, (no_spot, (None, (no_spot, some_stmt)))) refl)
      (λ a b k g1 g2 e. (refl, e)) (no_spot, (None, (no_spot, (None, (no_spot, some_stmt))))) refl)
      (λ a b k g1 g2 e. (refl, e)) (None, (no_spot, (None, (no_spot, (None, (no_spot, some_stmt)))))) refl)
      (λ a b k g1 g2 e. (refl, e)) (no_spot, (None, (no_spot, (None, (no_spot, (None, (no_spot, some_stmt))))))) refl

-- ---- where nothing more may be nested

abbrev behind : List Token → List Token
behind [] = []
behind (x ∷ ts) = ts

brace_shut : (limit d : ℕ) → limit ≤ d → IsReader limit (brace_lang d) (shut (is_sign s.OpenBrace))
brace_shut limit d h = shut_reader limit (brace_lang d) (is_sign s.OpenBrace) (record {
  begun = λ a k g. refl;
  deep = λ a g. rw (lt-ltb limit (suc d) (omega (arith, h))) refl;
  each = λ x e. let v : BraceParts = (x.spot, inr (inr (inl no_spot))) in (v, behind (toks (brace_lang d) v), ap (λ (y : Token). y ∷ behind (toks (brace_lang d) v)) (sym (only_sign_token s.OpenBrace x e)), refl);
  some = (no_spot, inr (inr (inl no_spot)));
  some_good = refl;
})

abbrev if_value : Spot → IfParts
if_value at = (at, (no_spot, (c.Bare some_expr, (no_spot, (some_stmt, inr tt)))))

if_shut : (limit d : ℕ) → limit ≤ d → IsReader limit (if_lang d) (shut (is_word w.If))
if_shut limit d h = shut_reader limit (if_lang d) (is_word w.If) (record {
  begun = λ a k g. refl;
  deep = λ a g. rw (lt-ltb limit (suc d) (omega (arith, h))) refl;
  each = λ x e. (if_value x.spot, behind (toks (if_lang d) (if_value x.spot)), ap (λ (y : Token). y ∷ behind (toks (if_lang d) (if_value x.spot))) (sym (only_word_token w.If x e)), refl);
  some = if_value no_spot;
  some_good = refl;
})

abbrev while_value : Spot → WhileParts
while_value at = (at, (no_spot, (c.Bare some_expr, (no_spot, some_stmt))))

while_shut : (limit d : ℕ) → limit ≤ d → IsReader limit (while_lang d) (shut (is_word w.While))
while_shut limit d h = shut_reader limit (while_lang d) (is_word w.While) (record {
  begun = λ a k g. refl;
  deep = λ a g. rw (lt-ltb limit (suc d) (omega (arith, h))) refl;
  each = λ x e. (while_value x.spot, behind (toks (while_lang d) (while_value x.spot)), ap (λ (y : Token). y ∷ behind (toks (while_lang d) (while_value x.spot))) (sym (only_word_token w.While x e)), refl);
  some = while_value no_spot;
  some_good = refl;
})

abbrev for_value : Spot → ForParts
for_value at = (at, (no_spot, (None, (no_spot, (None, (no_spot, (None, (no_spot, some_stmt))))))))

for_shut : (limit d : ℕ) → limit ≤ suc d → IsReader limit (for_lang d) (shut (is_word w.For))
for_shut limit d h = shut_reader limit (for_lang d) (is_word w.For) (record {
  begun = λ a k g. refl;
  deep = λ a g. rw (lt-ltb limit (suc (suc d)) (omega (arith, h))) refl;
  each = λ x e. (for_value x.spot, behind (toks (for_lang d) (for_value x.spot)), ap (λ (y : Token). y ∷ behind (toks (for_lang d) (for_value x.spot))) (sym (only_word_token w.For x e)), refl);
  some = for_value no_spot;
  some_good = refl;
})

-- ---- no `else` is left behind

seq_got : {A B : Type 0} (p : List Token → Out Token A) (q : List Token → Out Token B) (ts : List Token) (x : A × B) (r : List Token) → seq p q ts ≡ Got x r → (u : List Token) × (q u ≡ Got x.1 r)
seq_got {A} {B} p q ts x r e =
    let n1 = next_got (p ts) (λ a r. next (q r) (λ b t. Got (a, b) t)) x r e in
    let n2 = next_got (q n1.1) (λ b t. Got (n1.0, b) t) x r n1.3 in
    let i = Got-inj (n1.0, n2.0) x n2.1 r n2.3 in
    let b-is : n2.0 ≡ x.1 = ap (λ (z : A × B). z.1) i.0 in
    (n1.1, n2.2 ∙ ap (λ (z : B). Got z n2.1) b-is ∙ ap (λ (z : List Token). Got x.1 z) i.1)

alt_got : {A C : Type 0} (b : Token → Bool) (p : List Token → Out Token A) (q : List Token → Out Token C) (ts : List Token) (x : A ⊎ C) (r : List Token) → alt b p q ts ≡ Got x r
    → ((a : A) × (inl a ≡ x) × (p ts ≡ Got a r)) ⊎ ((y : C) × (inr y ≡ x) × (q ts ≡ Got y r) × (begins b ts ≡ false))
alt_got {A} {C} b p q ts x r e = at (begins b ts) refl e
  where
    at : (v : Bool) → begins b ts ≡ v → either v (map_out inl (p ts)) (map_out inr (q ts)) ≡ Got x r → ((a : A) × (inl a ≡ x) × (p ts ≡ Got a r)) ⊎ ((y : C) × (inr y ≡ x) × (q ts ≡ Got y r) × (begins b ts ≡ false))
    at true h e = let n = map_got inl (p ts) x r e in inl (n.0, n.2, n.1)
    at false h e = let n = map_got inr (q ts) x r e in inr (n.0, n.2, n.1, h)

else_greedy : (stmt : List Token → Out Token Stmt) → IsGreedy stmt → (ts : List Token) (e : ElseParts) (r : List Token) → alt read.is_else (seq (read_word w.Else) stmt) nothing ts ≡ Got e r → not (is_open_else (else_from e) && holds read.is_else (head r)) ≡ true
else_greedy stmt greedy ts e r h =
    elim (alt_got read.is_else (seq (read_word w.Else) stmt) nothing ts e r h) [
      | inl x ↦ subst (λ (z : ElseParts). not (is_open_else (else_from z) && holds read.is_else (head r)) ≡ true) x.1 (let n = seq_got (read_word w.Else) stmt ts x.0 r x.2 in greedy n.0 x.0.1 r n.1)
      | inr x ↦ subst (λ (z : ElseParts). not (is_open_else (else_from z) && holds read.is_else (head r)) ≡ true) x.1
          (let i : ts ≡ r = (Got-inj tt x.0 ts r x.2).1 in free_of true (holds read.is_else (head r)) (ap (λ (z : List Token). begins read.is_else z) (sym i) ∙ x.3))
    ]

if_greedy : (c d : ℕ) (stmt : List Token → Out Token Stmt) → IsGreedy stmt → (ts : List Token) (x : IfParts) (r : List Token) → if_with c d stmt ts ≡ Got x r → else_free (if_from x) (head r) ≡ true
if_greedy c d stmt greedy ts x r e =
    let n1 = seq_got (read_word w.If) _ ts x r e in
    let n2 = seq_got (read_sign s.OpenParen) _ n1.0 x.1 r n1.1 in
    let n3 = seq_got (cond_at c d) _ n2.0 x.1.1 r n2.1 in
    let n4 = seq_got (read_sign s.CloseParen) (else_tail_with stmt) n3.0 x.1.1.1 r n3.1 in
    let n5 = seq_got stmt (alt read.is_else (seq (read_word w.Else) stmt) nothing) n4.0 x.1.1.1.1 r n4.1 in
    else_greedy stmt greedy n5.0 x.1.1.1.1.1 r n5.1

while_greedy : (c d : ℕ) (stmt : List Token → Out Token Stmt) → IsGreedy stmt → (ts : List Token) (x : WhileParts) (r : List Token) → while_with c d stmt ts ≡ Got x r → else_free (while_from x) (head r) ≡ true
while_greedy c d stmt greedy ts x r e =
    let n1 = seq_got (read_word w.While) _ ts x r e in
    let n2 = seq_got (read_sign s.OpenParen) _ n1.0 x.1 r n1.1 in
    let n3 = seq_got (cond_at c d) _ n2.0 x.1.1 r n2.1 in
    let n4 = seq_got (read_sign s.CloseParen) stmt n3.0 x.1.1.1 r n3.1 in
    greedy n4.0 x.1.1.1.1 r n4.1

for_greedy : (c d : ℕ) (stmt : List Token → Out Token Stmt) → IsGreedy stmt → (ts : List Token) (x : ForParts) (r : List Token) → for_with c d stmt ts ≡ Got x r → else_free (for_from x) (head r) ≡ true
for_greedy c d stmt greedy ts x r e =
    let n1 = seq_got (read_word w.For) _ ts x r e in
    let n2 = seq_got (read_sign s.OpenParen) _ n1.0 x.1 r n1.1 in
    let n3 = seq_got (maybe_read begins_first (first_at c d)) _ n2.0 x.1.1 r n2.1 in
    let n4 = seq_got read_semicolon _ n3.0 x.1.1.1 r n3.1 in
    let n5 = seq_got (maybe_read begins_expr (cond_at c d)) _ n4.0 x.1.1.1.1 r n4.1 in
    let n6 = seq_got read_semicolon _ n5.0 x.1.1.1.1.1 r n5.1 in
    let n7 = seq_got (maybe_read begins_plain (loop_step_at c d)) _ n6.0 x.1.1.1.1.1.1 r n6.1 in
    let n8 = seq_got (read_sign s.CloseParen) stmt n7.0 x.1.1.1.1.1.1.1 r n7.1 in
    greedy n8.0 x.1.1.1.1.1.1.1.1 r n8.1

brace_closed : (x : BraceParts) → is_open (brace_from x) ≡ false
brace_closed (before, inl x) = refl
brace_closed (before, inr (inl (int, inl x))) = refl
brace_closed (before, inr (inl (int, inr x))) = refl
brace_closed (before, inr (inr (inl after))) = refl
brace_closed (before, inr (inr (inr x))) = refl

-- a reader that answers nothing
abbrev Closes : {A : Type 0} → (A → Stmt) → (List Token → Out Token A) → Type 0
Closes {A} f p = (ts : List Token) (x : A) (r : List Token) → p ts ≡ Got x r → else_free (f x) (head r) ≡ true

shut_closes : {A : Type 0} (f : A → Stmt) (b : Token → Bool) → Closes f (shut b)
shut_closes f b ts x r e = absurd cc

left_same : {A C : Type 0} (a b : A) (x : A ⊎ C) → x ≡ inl a → x ≡ inl b → a ≡ b
left_same a b x e k = cc

right_same : {A C : Type 0} (a b : C) (x : A ⊎ C) → x ≡ inr a → x ≡ inr b → a ≡ b
right_same a b x e k = cc

-- a choice that answered one of its sides
took_one : {A C : Type 0} (b : Token → Bool) (p : List Token → Out Token A) (q : List Token → Out Token C) (ts : List Token) (x : A) (r : List Token) → alt b p q ts ≡ Got (inl x) r → p ts ≡ Got x r
took_one {A} {C} b p q ts x r e = at (begins b ts) e
  where
    at : (v : Bool) → either v (map_out inl (p ts)) (map_out inr (q ts)) ≡ Got (inl x) r → p ts ≡ Got x r
    at true e = let n = map_got inl (p ts) (inl x) r e in n.1 ∙ ap (λ (z : A). Got z r) (left_same n.0 x (inl n.0) refl n.2)
    at false e = let n = map_got inr (q ts) (inl x) r e in absurd (let k = n.2 in cc)

took_other : {A C : Type 0} (b : Token → Bool) (p : List Token → Out Token A) (q : List Token → Out Token C) (ts : List Token) (x : C) (r : List Token) → alt b p q ts ≡ Got (inr x) r → q ts ≡ Got x r
took_other {A} {C} b p q ts x r e = at (begins b ts) e
  where
    at : (v : Bool) → either v (map_out inl (p ts)) (map_out inr (q ts)) ≡ Got (inr x) r → q ts ≡ Got x r
    at true e = let n = map_got inl (p ts) (inr x) r e in absurd (let k = n.2 in cc)
    at false e = let n = map_got inr (q ts) (inr x) r e in n.1 ∙ ap (λ (z : C). Got z r) (right_same n.0 x (inr n.0) refl n.2)

module _ (c d : ℕ) (brace : List Token → Out Token BraceParts) (choose : List Token → Out Token IfParts) (loop : List Token → Out Token WhileParts) (counted : List Token → Out Token ForParts)
    (gi : Closes if_from choose) (gw : Closes while_from loop) (gf : Closes for_from counted) where
  abbrev rest4 : List Token → Out Token (Spot ⊎ (JumpParts ⊎ SimplyParts))
  rest4 = alt is_semicolon read_semicolon (alt begins_jump (jump_parts_at c d) (seq (simple_at c d) (seq read_semicolon read_ops)))

  abbrev rest3 : List Token → Out Token (ForParts ⊎ (Spot ⊎ (JumpParts ⊎ SimplyParts)))
  rest3 = alt (is_word w.For) counted rest4

  abbrev rest2 : List Token → Out Token (WhileParts ⊎ (ForParts ⊎ (Spot ⊎ (JumpParts ⊎ SimplyParts))))
  rest2 = alt (is_word w.While) loop rest3

  abbrev rest1 : List Token → Out Token (IfParts ⊎ (WhileParts ⊎ (ForParts ⊎ (Spot ⊎ (JumpParts ⊎ SimplyParts)))))
  rest1 = alt (is_word w.If) choose rest2

  parts_greedy : (ts r : List Token) (x : StmtParts) → alt (is_sign s.OpenBrace) brace rest1 ts ≡ Got x r → else_free (stmt_from x) (head r) ≡ true
  parts_greedy ts r (inl x) i = stops_closed (is_open (brace_from x)) (holds read.is_else (head r)) (brace_closed x)
  parts_greedy ts r (inr (inl x)) i = gi ts x r (took_one (is_word w.If) choose rest2 ts x r (took_other (is_sign s.OpenBrace) brace rest1 ts (inl x) r i))
  parts_greedy ts r (inr (inr (inl x))) i = gw ts x r (took_one (is_word w.While) loop rest3 ts x r (took_other (is_word w.If) choose rest2 ts (inl x) r (took_other (is_sign s.OpenBrace) brace rest1 ts (inr (inl x)) r i)))
  parts_greedy ts r (inr (inr (inr (inl x)))) i =
      gf ts x r (took_one (is_word w.For) counted rest4 ts x r (took_other (is_word w.While) loop rest3 ts (inl x) r (took_other (is_word w.If) choose rest2 ts (inr (inl x)) r (took_other (is_sign s.OpenBrace) brace rest1 ts (inr (inr (inl x))) r i))))
  parts_greedy ts r (inr (inr (inr (inr (inl end))))) i = refl
  parts_greedy ts r (inr (inr (inr (inr (inr (inl j)))))) i = refl
  parts_greedy ts r (inr (inr (inr (inr (inr (inr x)))))) i = refl

  with_greedy : IsGreedy (stmt_with c d brace choose loop counted)
  with_greedy ts st r e =
      let m = map_got stmt_from (alt (is_sign s.OpenBrace) brace rest1 ts) st r e in
      subst (λ (z : Stmt). else_free z (head r) ≡ true) m.2 (parts_greedy ts r m.0 m.1)

pub stmt_greedy : (c d : ℕ) → IsGreedy (stmt_at c d)
unfolding stmt_at
stmt_greedy c zero = with_greedy c zero (shut (is_sign s.OpenBrace)) _ _ _ (shut_closes if_from (is_word w.If)) (shut_closes while_from (is_word w.While)) (shut_closes for_from (is_word w.For))
stmt_greedy c (suc zero) = with_greedy c (suc zero) (brace_with c zero (stmt_at c zero)) _ _ _ (if_greedy c zero (stmt_at c zero) (stmt_greedy c zero)) (while_greedy c zero (stmt_at c zero) (stmt_greedy c zero)) (shut_closes for_from (is_word w.For))
stmt_greedy c (suc (suc d)) = with_greedy c (suc (suc d)) (brace_with c (suc d) (stmt_at c (suc d))) _ _ _ (if_greedy c (suc d) (stmt_at c (suc d)) (stmt_greedy c (suc d))) (while_greedy c (suc d) (stmt_at c (suc d)) (stmt_greedy c (suc d))) (for_greedy c d (stmt_at c d) (stmt_greedy c d))

-- ---- statements

pub stmt_reader : (limit r d : ℕ) → r + d ≡ limit → IsReader limit (stmt_lang d) (stmt_at limit r)
unfolding stmt_at
stmt_reader limit zero d h = stmt_with_reader limit zero d h _ _ _ _ (brace_shut limit d (omega (arith, h))) (if_shut limit d (omega (arith, h))) (while_shut limit d (omega (arith, h))) (for_shut limit d (omega (arith, h)))
stmt_reader limit (suc zero) d h =
    let k : zero + suc d ≡ limit = omega (arith, h) in
    let rs = stmt_reader limit zero (suc d) k in
    let g = stmt_greedy limit zero in
    stmt_with_reader limit (suc zero) d h _ _ _ _ (brace_reader limit zero (suc d) k (stmt_at limit zero) rs g) (if_reader limit zero (suc d) k (stmt_at limit zero) rs g) (while_reader limit zero (suc d) k (stmt_at limit zero) rs g) (for_shut limit d (omega (arith, h)))
stmt_reader limit (suc (suc r)) d h =
    let k : suc r + suc d ≡ limit = omega (arith, h) in
    let k2 : r + suc (suc d) ≡ limit = omega (arith, h) in
    let rs = stmt_reader limit (suc r) (suc d) k in
    let rs2 = stmt_reader limit r (suc (suc d)) k2 in
    let g = stmt_greedy limit (suc r) in
    stmt_with_reader limit (suc (suc r)) d h _ _ _ _ (brace_reader limit (suc r) (suc d) k (stmt_at limit (suc r)) rs g) (if_reader limit (suc r) (suc d) k (stmt_at limit (suc r)) rs g) (while_reader limit (suc r) (suc d) k (stmt_at limit (suc r)) rs g)
    (for_reader limit r (suc (suc d)) k2 (stmt_at limit r) rs2 (stmt_greedy limit r))
