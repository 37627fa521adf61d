-- The laws of the readers of jumps and of the parts of a `for`.
use Rattle.std.proofs.Common.{◌≡◌, ℕ, ◌+◌, ◌≤◌, Bool, true, false, not, ◌&&◌, List, [], ◌∷◌, ◌++◌, Option, Some, None, refl, sym, ap, ◌∙◌, inl, inr, ◌⊎◌, arith}
use Rattle.std.proofs.lemmas.Bool.{and_parts}
use Rattle.cfix_base.specs.declared.Spot.{Spot}
use Rattle.c_grammar.specs.declared.word.Word.TheVariants as w
use Rattle.c_grammar.specs.declared.sign.Sign.TheVariants as s
use Rattle.c_grammar.specs.Marks.{first, tokens}
use Rattle.c_reading.specs.Reader.{Lang, toks, seq, holds, alt}
use Rattle.c_grammar.specs.Token.{Kind, IsWord, IsSign, Token, Mark}
use Rattle.c_grammar.specs.Op.{Op}
use Rattle.c_grammar.specs.Simple.{TargetOf, Value, Computed, Called, CallOf, value_marks, Plain, SetTo, Changed, SteppedAfter, SteppedBefore, is_plain, plain_marks, Up}
use Rattle.c_grammar.specs.Decl.{LoopInt, OneLoop, is_loop_int}
use Rattle.c_grammar.specs.Cond.{Cond, Bare, OnTrue, OnFalse, OnBoth, TrueGuardOf, cond_marks}
use Rattle.c_grammar.specs.Stmt.{Break, Continue, Return, ReturnNull, bare_marks, Jump, jump_marks, is_jump, First, FirstInts, FirstPlain, is_first, first_marks, LoopStep, LoopStepOf, is_loop_step, loop_step_marks}
use Rattle.c_grammar.specs.Stmt as stmt
use Rattle.c_reading.specs.Read.{is_word, is_sign, read_word, commas}
use Rattle.c_reading.specs.ReadExpr.{begins_expr, begins_expr_kind}
use Rattle.c_reading.specs.ReadSimple.{value_at, plain_at}
use Rattle.c_reading.specs.ReadOp.{read_op}
use Rattle.c_reading.specs.ReadDecl.{loop_int_at}
use Rattle.c_reading.specs.ReadStmt.{is_semicolon, read_semicolon, bare_from, read_bare, ReturnTail, JumpParts, jump_from, jump_parts_at, first_from, first_at, loop_step_from, loop_step_at, begins_plain, begins_first}
use Rattle.c_reading.proofs.Reader.{IsReader, pair, seq_reader, same_all, map_reader, optional, maybe_reader, choice, choice_reader}
use Rattle.c_reading.proofs.Token.{no_spot, word_lang, sign_lang, word_reader, sign_reader}
use Rattle.c_reading.proofs.Commas.{commas_lang, listed_lang, list_good_is, commas_reader, listed_reader}
use Rattle.c_reading.proofs.ReadExpr.{ends_expr, not_true, apart, expr_begins, and_true}
use Rattle.c_reading.proofs.ReadValue.{some_ident, value_lang, value_reader}
use Rattle.c_reading.proofs.ReadPlain.{plain_lang, plain_reader, step_some}
use Rattle.c_reading.proofs.ReadOp.{op_lang, op_reader, some_op}
use Rattle.c_reading.proofs.ReadDecl.{loop_int_lang, loop_int_reader, ends_loop}

-- ---- jumps without a value

abbrev pub no_null : Option Token → Bool
no_null h = not (holds (is_word w.Null) h)

abbrev pub bare_lang : ℕ → Lang Token stmt.Bare
bare_lang d = record { marks = bare_marks d; good = λ _. true; stops = λ _ h. no_null h }

abbrev return_lang : ℕ → Lang Token (Spot × Option Spot)
return_lang d = pair (word_lang w.Return d) (optional (word_lang w.Null d) no_null) (λ _ h. no_null h)

abbrev bare_parts : ℕ → Lang Token (Spot ⊎ (Spot ⊎ (Spot × Option Spot)))
bare_parts d = choice (word_lang w.Break d) (choice (word_lang w.Continue d) (return_lang d))

abbrev bare_to : stmt.Bare → Spot ⊎ (Spot ⊎ (Spot × Option Spot))
bare_to (Break at) = inl at
bare_to (Continue at) = inr (inl at)
bare_to (Return at) = inr (inr (at, None))
bare_to (ReturnNull at null) = inr (inr (at, Some null))

bare_back : (x : stmt.Bare) → bare_from (bare_to x) ≡ x
bare_back (Break at) = refl
bare_back (Continue at) = refl
bare_back (Return at) = refl
bare_back (ReturnNull at null) = refl

bare_marks_is : (d : ℕ) (x : Spot ⊎ (Spot ⊎ (Spot × Option Spot))) → bare_marks d (bare_from x) ≡ (bare_parts d).marks x
bare_marks_is d (inl at) = refl
bare_marks_is d (inr (inl at)) = refl
bare_marks_is d (inr (inr (at, None))) = refl
bare_marks_is d (inr (inr (at, Some null))) = refl

bare_good_is : (d : ℕ) (x : Spot ⊎ (Spot ⊎ (Spot × Option Spot))) → true ≡ (bare_parts d).good x
bare_good_is d (inl at) = refl
bare_good_is d (inr (inl at)) = refl
bare_good_is d (inr (inr (at, None))) = refl
bare_good_is d (inr (inr (at, Some null))) = refl

bare_stops_is : (d : ℕ) (x : stmt.Bare) (h : Option Token) → no_null h ≡ true → (bare_parts d).stops (bare_to x) h ≡ true
bare_stops_is d (Break at) h k = refl
bare_stops_is d (Continue at) h k = refl
bare_stops_is d (Return at) h k = k
bare_stops_is d (ReturnNull at null) h k = k

pub bare_reader : (limit d : ℕ) → d ≤ limit → IsReader limit (bare_lang d) read_bare
bare_reader limit d hd = map_reader limit (bare_parts d) (bare_lang d) bare_from bare_to
    (record { back = λ x g. bare_back x; good_back = λ x g. sym (bare_good_is d (bare_to x)); marks = λ x g. bare_marks_is d x; good = λ x g. refl; stops = λ x k g e. bare_stops_is d x k e }) _
    (choice_reader limit (is_word w.Break) (word_lang w.Break d) (choice (word_lang w.Continue d) (return_lang d)) _ _ (λ a k g. refl) (λ c k g e. no_break d c k) (word_reader limit d hd w.Break)
    (choice_reader limit (is_word w.Continue) (word_lang w.Continue d) (return_lang d) _ _ (λ a k g. refl) (λ c k g e. refl) (word_reader limit d hd w.Continue)
    (seq_reader limit (word_lang w.Return d) (optional (word_lang w.Null d) no_null) (λ _ h. no_null h) (read_word w.Return) _ (word_reader limit d hd w.Return)
    (maybe_reader limit (is_word w.Null) (word_lang w.Null d) no_null (read_word w.Null) (word_reader limit d hd w.Null) (λ a k g. refl) (λ k e. not_true _ e) (λ a k g e. refl)) (λ a b k g1 g2 e. (refl, e)) None refl)))
  where
    no_break : (d : ℕ) (c : Spot ⊎ (Spot × Option Spot)) (h : Option Token) → holds (is_word w.Break) (first (toks (choice (word_lang w.Continue d) (return_lang d)) c) h) ≡ false
    no_break d (inl at) h = refl
    no_break d (inr x) h = refl

-- ---- jumps with their semicolon

abbrev break_lang : ℕ → Lang Token (Spot × Spot)
break_lang d = (pair (word_lang w.Break d) (sign_lang s.Semicolon d) (λ _ _. true))

abbrev continue_lang : ℕ → Lang Token (Spot × Spot)
continue_lang d = (pair (word_lang w.Continue d) (sign_lang s.Semicolon d) (λ _ _. true))

abbrev null_lang : ℕ → Lang Token (Spot × Spot)
null_lang d = (pair (word_lang w.Null d) (sign_lang s.Semicolon d) (λ _ _. true))

abbrev valued_lang : ℕ → Lang Token (Value × Spot)
valued_lang d = (pair (value_lang d) (sign_lang s.Semicolon d) (λ _ _. true))

abbrev return_tail_lang : ℕ → Lang Token ReturnTail
return_tail_lang d = choice (null_lang d) (choice (sign_lang s.Semicolon d) (valued_lang d))

abbrev returns_lang : ℕ → Lang Token (Spot × ReturnTail)
returns_lang d = pair (word_lang w.Return d) (return_tail_lang d) (λ x h. (return_tail_lang d).stops x.1 h)

abbrev pub jump_parts : ℕ → Lang Token JumpParts
jump_parts d = choice (break_lang d) (choice (continue_lang d) (returns_lang d))

pub value_begins : (d : ℕ) (v : Value) (more : List Mark) (h : Option Token) → holds begins_expr (first (tokens (value_marks d v ++ more)) h) ≡ true
value_begins d (Computed e) more h = expr_begins d 0 e more h
value_begins d (Called (CallOf f before args after)) more h = refl

expr_no_null_kind : (k : Kind) (at : Spot) → begins_expr_kind k ≡ true → is_word w.Null (record { kind = k; spot = at }) ≡ false
expr_no_null_kind (IsWord x) at e = absurd cc
expr_no_null_kind _ at e = refl

expr_no_semicolon_kind : (k : Kind) (at : Spot) → begins_expr_kind k ≡ true → is_semicolon (record { kind = k; spot = at }) ≡ false
expr_no_semicolon_kind (IsSign s.Semicolon) at e = absurd cc
expr_no_semicolon_kind _ at e = refl

return_tail_reader : (limit r d : ℕ) → r + d ≡ limit → IsReader limit (return_tail_lang d) (alt (is_word w.Null) (seq (read_word w.Null) read_semicolon) (alt is_semicolon read_semicolon (seq (value_at limit r) read_semicolon)))
return_tail_reader limit r d h =
    let hd : d ≤ limit = omega (arith, h) in
    choice_reader limit (is_word w.Null) (null_lang d) (choice (sign_lang s.Semicolon d) (valued_lang d)) _ _ (λ a k g. refl) (λ c k g e. no_null_word d c k)
    (seq_reader limit _ _ (λ _ _. true) (read_word w.Null) _ (word_reader limit d hd w.Null)
    (sign_reader limit d hd s.Semicolon)
    (λ a b k g1 g2 e. (refl, refl)) no_spot refl)
    (choice_reader limit is_semicolon (sign_lang s.Semicolon d) (valued_lang d) _ _ (λ a k g. refl) (λ c k g e. apart begins_expr is_semicolon (λ y. expr_no_semicolon_kind y.kind y.spot) _ (value_begins d c.0 _ k)) (sign_reader limit d hd s.Semicolon)
    (seq_reader limit _ _ (λ _ _. true) (value_at limit r) _ (value_reader limit r d h)
    (sign_reader limit d hd s.Semicolon)
    (λ a b k g1 g2 e. (refl, refl)) no_spot refl))
  where
    no_null_word : (d : ℕ) (c : Spot ⊎ (Value × Spot)) (h : Option Token) → holds (is_word w.Null) (first (toks (choice (sign_lang s.Semicolon d) (valued_lang d)) c) h) ≡ false
    no_null_word d (inl at) h = refl
    no_null_word d (inr x) h = apart begins_expr (is_word w.Null) (λ y. expr_no_null_kind y.kind y.spot) _ (value_begins d x.0 _ h)

pub jump_parts_reader : (limit r d : ℕ) → r + d ≡ limit → IsReader limit (jump_parts d) (jump_parts_at limit r)
jump_parts_reader limit r d h =
    let hd : d ≤ limit = omega (arith, h) in
    choice_reader limit (is_word w.Break) (break_lang d) (choice (continue_lang d) (returns_lang d)) _ _ (λ a k g. refl) (λ c k g e. no_break d c k)
    (seq_reader limit _ _ (λ _ _. true) (read_word w.Break) _ (word_reader limit d hd w.Break)
    (sign_reader limit d hd s.Semicolon)
    (λ a b k g1 g2 e. (refl, refl)) no_spot refl)
    (choice_reader limit (is_word w.Continue) (continue_lang d) (returns_lang d) _ _ (λ a k g. refl) (λ c k g e. refl)
    (seq_reader limit _ _ (λ _ _. true) (read_word w.Continue) _ (word_reader limit d hd w.Continue)
    (sign_reader limit d hd s.Semicolon)
    (λ a b k g1 g2 e. (refl, refl)) no_spot refl)
    (seq_reader limit (word_lang w.Return d) (return_tail_lang d) (λ x h. (return_tail_lang d).stops x.1 h) (read_word w.Return) _ (word_reader limit d hd w.Return) (return_tail_reader limit r d h) (λ a b k g1 g2 e. (refl, e)) (inr (inl no_spot)) refl))
  where
    no_break : (d : ℕ) (c : (Spot × Spot) ⊎ (Spot × ReturnTail)) (h : Option Token) → holds (is_word w.Break) (first (toks (choice (continue_lang d) (returns_lang d)) c) h) ≡ false
    no_break d (inl at) h = refl
    no_break d (inr x) h = refl

pub jump_marks_is : (d : ℕ) (x : JumpParts) → jump_marks d (jump_from x) ≡ (jump_parts d).marks x
jump_marks_is d (inl x) = refl
jump_marks_is d (inr (inl x)) = refl
jump_marks_is d (inr (inr (at, inl x))) = refl
jump_marks_is d (inr (inr (at, inr (inl end)))) = refl
jump_marks_is d (inr (inr (at, inr (inr x)))) = refl

pub jump_good_is : (d : ℕ) (x : JumpParts) → is_jump (jump_from x) ≡ (jump_parts d).good x
jump_good_is d (inl x) = refl
jump_good_is d (inr (inl x)) = refl
jump_good_is d (inr (inr (at, inl x))) = refl
jump_good_is d (inr (inr (at, inr (inl end)))) = refl
jump_good_is d (inr (inr (at, inr (inr x)))) = sym (and_true _)

pub jump_stops_is : (d : ℕ) (x : JumpParts) (h : Option Token) → (jump_parts d).stops x h ≡ true
jump_stops_is d (inl x) h = refl
jump_stops_is d (inr (inl x)) h = refl
jump_stops_is d (inr (inr (at, inl x))) h = refl
jump_stops_is d (inr (inr (at, inr (inl end)))) h = refl
jump_stops_is d (inr (inr (at, inr (inr x)))) h = refl

-- ---- the parts of a `for`

pub plain_begins : (d : ℕ) (p : Plain) (more : List Mark) (h : Option Token) → holds begins_plain (first (tokens (plain_marks d p ++ more)) h) ≡ true
plain_begins d (SetTo (TargetOf x i) at e) more h = refl
plain_begins d (Changed (TargetOf x i) how at e) more h = refl
plain_begins d (SteppedAfter (TargetOf x i) step at) more h = refl
plain_begins d (SteppedBefore step at t) more h = step_some step at

abbrev pub some_plain : Plain
some_plain = SteppedAfter (TargetOf some_ident None) Up no_spot

abbrev pub ends_first : Option Token → Bool
ends_first h = ends_loop h && not (holds (is_sign s.Comma) h)

abbrev loops_lang : ℕ → Lang Token (LoopInt × List (Spot × LoopInt))
loops_lang d = listed_lang d (loop_int_lang d) ends_first

abbrev loop_ints_lang : ℕ → Lang Token (Spot × (LoopInt × List (Spot × LoopInt)))
loop_ints_lang d = pair (word_lang w.Int d) (loops_lang d) (λ _ h. ends_first h)

abbrev first_parts : ℕ → Lang Token ((Spot × (LoopInt × List (Spot × LoopInt))) ⊎ Plain)
first_parts d = choice (loop_ints_lang d) (plain_lang d)

abbrev pub first_lang : ℕ → Lang Token First
first_lang d = record { marks = first_marks d; good = is_first; stops = λ _ h. ends_first h }

abbrev first_to : First → (Spot × (LoopInt × List (Spot × LoopInt))) ⊎ Plain
first_to (FirstInts at x more) = inl (at, (x, more))
first_to (FirstPlain p) = inr p

first_back : (x : First) → first_from (first_to x) ≡ x
first_back (FirstInts at x more) = refl
first_back (FirstPlain p) = refl

first_marks_is : (d : ℕ) (x : (Spot × (LoopInt × List (Spot × LoopInt))) ⊎ Plain) → first_marks d (first_from x) ≡ (first_parts d).marks x
first_marks_is d (inl x) = refl
first_marks_is d (inr p) = refl

first_good_is : (d : ℕ) (x : (Spot × (LoopInt × List (Spot × LoopInt))) ⊎ Plain) → is_first (first_from x) ≡ (first_parts d).good x
first_good_is d (inl x) = ap (λ (v : Bool). is_loop_int x.1.0 && v) (list_good_is d (loop_int_lang d) ends_first is_loop_int (λ a. refl) x.1.1)
first_good_is d (inr p) = refl

first_plain : (h : Option Token) → ends_first h ≡ true → ends_expr h ≡ true
first_plain h e = let p : (ends_loop h ≡ true) × (not (holds (is_sign s.Comma) h) ≡ true) = and_parts _ _ e in (and_parts _ _ p.0).0

first_stops_is : (d : ℕ) (x : First) (h : Option Token) → ends_first h ≡ true → (first_parts d).stops (first_to x) h ≡ true
first_stops_is d (FirstInts at x more) h k = k
first_stops_is d (FirstPlain p) h k = first_plain h k

pub plain_no_int : (d : ℕ) (p : Plain) (h : Option Token) → holds (is_word w.Int) (first (tokens (plain_marks d p)) h) ≡ false
plain_no_int d (SetTo (TargetOf x i) at e) h = refl
plain_no_int d (Changed (TargetOf x i) how at e) h = refl
plain_no_int d (SteppedAfter (TargetOf x i) step at) h = refl
plain_no_int d (SteppedBefore step at t) h = refl

pub first_reader : (limit r d : ℕ) → r + d ≡ limit → IsReader limit (first_lang d) (first_at limit r)
first_reader limit r d h =
    let hd : d ≤ limit = omega (arith, h) in
    map_reader limit (first_parts d) (first_lang d) first_from first_to
    (record {
      back = λ x g. first_back x;
      good_back = λ x g. sym (first_good_is d (first_to x)) ∙ ap is_first (first_back x) ∙ g;
      marks = λ x g. first_marks_is d x;
      good = λ x g. first_good_is d x ∙ g;
      stops = λ x k g e. first_stops_is d x k e;
    }) _
    (choice_reader limit (is_word w.Int) (loop_ints_lang d) (plain_lang d) _ _ (λ a k g. refl) (λ c k g e. plain_no_int d c k)
    (seq_reader limit (word_lang w.Int d) (loops_lang d) (λ _ h. ends_first h) (read_word w.Int) _ (word_reader limit d hd w.Int)
    (listed_reader d (loop_int_lang d) ends_first limit hd (loop_int_at limit r) (loop_int_reader limit r d h) (OneLoop some_ident) refl (λ a at g. refl) (λ a k g e. (and_parts _ _ e).0) (λ k e. not_true _ (and_parts _ _ e).1))
    (λ a b k g1 g2 e. (refl, e)) (OneLoop some_ident, []) refl)
    (plain_reader limit r d h))

pub first_begins : (d : ℕ) (x : First) (more : List Mark) (h : Option Token) → holds begins_first (first (tokens (first_marks d x ++ more)) h) ≡ true
first_begins d (FirstInts at x xs) more h = refl
first_begins d (FirstPlain (SetTo (TargetOf x i) at e)) more h = refl
first_begins d (FirstPlain (Changed (TargetOf x i) how at e)) more h = refl
first_begins d (FirstPlain (SteppedAfter (TargetOf x i) step at)) more h = refl
first_begins d (FirstPlain (SteppedBefore step at t)) more h = step_some step at

abbrev pub ends_ops : Option Token → Bool
ends_ops h = ends_expr h && not (holds (is_sign s.Comma) h)

abbrev pub loop_step_lang : ℕ → Lang Token LoopStep
loop_step_lang d = record { marks = loop_step_marks d; good = is_loop_step; stops = λ _ h. ends_ops h }

abbrev more_ops : ℕ → Lang Token (List (Spot × Op))
more_ops d = commas_lang d (op_lang d) ends_ops

more_ops_good : (d : ℕ) (xs : List (Spot × Op)) → (more_ops d).good xs ≡ true
more_ops_good d [] = refl
more_ops_good d (x ∷ xs) = more_ops_good d xs

abbrev loop_step_parts : ℕ → Lang Token (Plain × List (Spot × Op))
loop_step_parts d = pair (plain_lang d) (more_ops d) (λ _ h. ends_ops h)

step_fits : (d : ℕ) (xs : List (Spot × Op)) (h : Option Token) → ends_ops h ≡ true → ends_expr (first (toks (more_ops d) xs) h) ≡ true
step_fits d [] h e = (and_parts _ _ e).0
step_fits d (x ∷ xs) h e = refl

abbrev loop_step_to : LoopStep → Plain × List (Spot × Op)
loop_step_to (LoopStepOf p ops) = (p, ops)

loop_step_back : (x : LoopStep) → loop_step_from (loop_step_to x) ≡ x
loop_step_back (LoopStepOf p ops) = refl

loop_step_good : (d : ℕ) (x : Plain × List (Spot × Op)) → is_loop_step (loop_step_from x) ≡ (loop_step_parts d).good x
loop_step_good d x = sym (ap (λ (v : Bool). is_plain x.0 && v) (more_ops_good d x.1) ∙ and_true (is_plain x.0))

pub loop_step_reader : (limit r d : ℕ) → r + d ≡ limit → IsReader limit (loop_step_lang d) (loop_step_at limit r)
loop_step_reader limit r d h =
    let hd : d ≤ limit = omega (arith, h) in
    map_reader limit (loop_step_parts d) (loop_step_lang d) loop_step_from loop_step_to (same_all (loop_step_parts d) (loop_step_lang d) loop_step_from loop_step_to loop_step_back (λ x. refl) (loop_step_good d) (λ x k e. e)) _
    (seq_reader limit (plain_lang d) (more_ops d) (λ _ h. ends_ops h) (plain_at limit r) (commas read_op) (plain_reader limit r d h)
    (commas_reader d (op_lang d) ends_ops limit hd read_op (op_reader limit d hd) some_op refl (λ a at g. refl) (λ a k g e. refl) (λ k e. not_true _ (and_parts _ _ e).1))
    (λ a b k g1 g2 e. (step_fits d b k e, e)) [] refl)

pub loop_step_begins : (d : ℕ) (x : LoopStep) (more : List Mark) (h : Option Token) → holds begins_plain (first (tokens (loop_step_marks d x ++ more)) h) ≡ true
loop_step_begins d (LoopStepOf (SetTo (TargetOf x i) at e) ops) more h = refl
loop_step_begins d (LoopStepOf (Changed (TargetOf x i) how at e) ops) more h = refl
loop_step_begins d (LoopStepOf (SteppedAfter (TargetOf x i) step at) ops) more h = refl
loop_step_begins d (LoopStepOf (SteppedBefore step at t) ops) more h = step_some step at

pub cond_begins : (d : ℕ) (c : Cond) (more : List Mark) (h : Option Token) → holds begins_expr (first (tokens (cond_marks d c ++ more)) h) ≡ true
cond_begins d (Bare e) more h = expr_begins d 0 e more h
cond_begins d (OnTrue (TrueGuardOf before e after both before2 guard after2)) more h = refl
cond_begins d (OnFalse before e after at before2 guard after2) more h = refl
cond_begins d (OnBoth before g after at before2 guard after2) more h = refl
