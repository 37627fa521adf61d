-- The laws of the readers of the headers' calls.
use Rattle.std.proofs.Common.{◌≡◌, ℕ, zero, suc, ◌+◌, ◌≤◌, pos, Bool, true, false, ◌&&◌, List, [], ◌∷◌, ◌++◌, Option, Some, None, refl, sym, ap, subst, ◌∙◌, inl, inr, ◌⊎◌, arith}
use Rattle.std.proofs.lemmas.Bool.{and_parts, lt-ltb}
use Rattle.cfix_base.specs.declared.Spot.{Spot}
use Rattle.c_grammar.specs.declared.word.Word.TheVariants as w
use Rattle.c_grammar.specs.declared.sign.Sign.TheVariants as s
use Rattle.c_grammar.specs.Marks.{first, tokens}
use Rattle.c_reading.specs.Reader.{Lang, toks, seq, holds}
use Rattle.c_grammar.specs.Token.{Kind, IsWord, Token, Text, sign, word}
use Rattle.c_grammar.specs.Expr.{Expr, Number, Name, Index, Paren, Cast, Unary, Operation, Long, long_pieces, is_unary, is_expr, pieces, placed}
use Rattle.c_grammar.specs.Simple.{TargetOf, is_target, ThreadArg, NullArg, CastArg, is_thread_arg, thread_arg_marks, Library, Create, Join, Lock, Unlock, Print, Scan, Wait, Signal, Broadcast, is_library, library_marks}
use Rattle.c_reading.specs.Read.{is_word, is_word_kind, read_word, read_sign, read_ident, read_text, commas}
use Rattle.c_reading.specs.ReadExpr.{begins_expr, begins_expr_kind, NameParts, Operand, CastParts, expr_at, index_at}
use Rattle.c_reading.specs.ReadSimple.{is_paren, target_at, LongParts, CastTail, cast_from, cast_tail_at, cast_unary_at, CastArgParts, thread_arg_from, cast_arg_at, thread_arg_at, CreateParts, JoinParts, LockParts, PrintParts, ScanParts, WaitParts, WakeParts, LibraryParts, library_from, create_at, join_at, lock_tail, print_at, scan_at, wait_at, library_at}
use Rattle.c_reading.proofs.Reader.{IsReader, pair, seq_reader, map_reader, choice, choice_reader, shut_reader}
use Rattle.c_reading.proofs.Token.{no_spot, only_sign_token, word_lang, sign_lang, ident_lang, text_lang, word_reader, sign_reader, ident_reader, text_reader}
use Rattle.c_reading.proofs.Commas.{commas_lang, commas_reader}
use Rattle.c_reading.proofs.ReadExpr.{ends_unary, not_true, apart, expr_begins, unary_lang, expr_lang, some_expr, inside_part, inside_reader, name_part, name_reader, name_marks, paren_marks, name_good, paren_good, operand_lang, operand_reader, unary_reader, expr_reader, prefix_at_reader, index_at_reader, whole_expr_reader, and_true}
use Rattle.c_reading.proofs.ReadValue.{some_ident, target_lang, target_reader, ends_list, exprs_good}

abbrev pub some_text : Text
some_text = record { bytes = []; spot = no_spot }

-- ---- the argument of a thread

abbrev long_part : ℕ → Lang Token LongParts
long_part d = (pair (word_lang w.Long (suc d)) (pair (sign_lang s.CloseParen (suc d)) (unary_lang d 0) (λ _ h. ends_unary h)) (λ _ h. ends_unary h))

abbrev cast_tail_part : ℕ → Lang Token (LongParts ⊎ (CastParts ⊎ (Expr × Spot)))
cast_tail_part d = choice (long_part d) (inside_part d 0)

abbrev cast_tail_lang : ℕ → Lang Token CastTail
cast_tail_lang d = pair (sign_lang s.OpenParen (suc d)) (cast_tail_part d) (λ x h. (cast_tail_part d).stops x.1 h)

expr_no_long_kind : (k : Kind) → begins_expr_kind k ≡ true → is_word_kind w.Long k ≡ false
expr_no_long_kind (IsWord x) e = absurd cc
expr_no_long_kind _ e = refl

inside_no_long : (d : ℕ) (c : CastParts ⊎ (Expr × Spot)) (h : Option Token) → holds (is_word w.Long) (first (toks (inside_part d 0) c) h) ≡ false
inside_no_long d (inl x) h = refl
inside_no_long d (inr x) h = apart begins_expr (is_word w.Long) (λ y. expr_no_long_kind y.kind) _ (expr_begins (suc d) 0 x.0 _ h)

cast_tail_reader : (limit r d : ℕ) → r + d ≡ limit → IsReader limit (cast_tail_lang d) (cast_tail_at limit r)
cast_tail_reader limit zero d h =
    let same : d ≡ limit = omega (arith, h) in
    subst (λ (x : ℕ). IsReader limit (cast_tail_lang x) (cast_tail_at limit zero)) (sym same) (shut_reader limit (cast_tail_lang limit) is_paren (record {
      begun = λ a k g. refl;
      deep = λ a g. rw (lt-ltb limit (suc limit) (omega arith)) refl;
      each = λ x e. (
        (x.spot, inr (inr (some_expr, no_spot))),
        tokens (placed 0 (pieces (suc limit) some_expr) ++ (sign s.CloseParen no_spot, suc limit) ∷ []),
        ap (λ (y : Token). y ∷ tokens (placed 0 (pieces (suc limit) some_expr) ++ (sign s.CloseParen no_spot, suc limit) ∷ [])) (sym (only_sign_token s.OpenParen x e)),
        refl,
      );
      some = (no_spot, inr (inr (some_expr, no_spot)));
      some_good = refl;
    }))
cast_tail_reader limit (suc r) d h =
    let hd : suc d ≤ limit = omega (arith, h) in
    seq_reader limit (sign_lang s.OpenParen (suc d)) (cast_tail_part d) (λ x h. (cast_tail_part d).stops x.1 h) (read_sign s.OpenParen) _ (sign_reader limit (suc d) hd s.OpenParen)
    (choice_reader limit (is_word w.Long) (long_part d) (inside_part d 0) _ _ (λ a k g. refl) (λ c k g e. inside_no_long d c k)
    (seq_reader limit _ _ (λ _ h. ends_unary h) (read_word w.Long) _ (word_reader limit (suc d) hd w.Long)
    (seq_reader limit _ _ (λ _ h. ends_unary h) (read_sign s.CloseParen) _ (sign_reader limit (suc d) hd s.CloseParen)
    (unary_reader limit (suc r) d 0 limit h (omega arith))
    (λ a b k g1 g2 e. (refl, e)) some_expr refl)
    (λ a b k g1 g2 e. (refl, e)) (no_spot, some_expr) refl)
    (inside_reader limit d 0 hd (expr_at r limit) (expr_reader limit r (suc d) 0 limit (omega (arith, h)) (omega arith))))
    (λ a b k g1 g2 e. (refl, e)) (inr (inr (some_expr, no_spot))) refl

abbrev cast_lang : ℕ → Lang Token (Long × Expr)
cast_lang d = record { marks = λ x. placed 0 (long_pieces d x.0 ++ pieces d x.1); good = λ x. is_unary x.1 && is_expr x.1; stops = λ _ h. ends_unary h }

abbrev cast_parts : ℕ → Lang Token (Operand NameParts CastTail)
cast_parts d = operand_lang d 0 (name_part d 0) (cast_tail_lang d)

abbrev cast_to : Long × Expr → Operand NameParts CastTail
cast_to (Some at, e) = inr (inr (inr (at.0, inl (at.1.0, (at.1.1, e)))))
cast_to (None, Number m) = inr (inl m)
cast_to (None, Name x) = inr (inr (inl (x, None)))
cast_to (None, Index x before e after) = inr (inr (inl (x, Some (before, (e, after)))))
cast_to (None, Paren before e after) = inr (inr (inr (before, inr (inr (e, after)))))
cast_to (None, Cast before int after long x) = inr (inr (inr (before, inr (inl (int, (after, (long, x)))))))
cast_to (None, Unary op at e) = inl ((op, at), e)
cast_to (None, Operation a op at b) = inr (inl (record { value = pos 0; spot = no_spot }))

cast_back : (x : Long × Expr) → (is_unary x.1 && is_expr x.1) ≡ true → cast_from (cast_to x) ≡ x
cast_back (Some at, e) g = refl
cast_back (None, Number m) g = refl
cast_back (None, Name x) g = refl
cast_back (None, Index x before e after) g = refl
cast_back (None, Paren before e after) g = refl
cast_back (None, Cast before int after long x) g = refl
cast_back (None, Unary op at e) g = refl
cast_back (None, Operation a op at b) g = absurd cc

cast_marks : (d : ℕ) (x : Operand NameParts CastTail) → (cast_lang d).marks (cast_from x) ≡ (cast_parts d).marks x
cast_marks d (inl x) = refl
cast_marks d (inr (inl m)) = refl
cast_marks d (inr (inr (inl x))) = name_marks d 0 x
cast_marks d (inr (inr (inr (before, inl x)))) = refl
cast_marks d (inr (inr (inr (before, inr x)))) = paren_marks d 0 (before, x)

cast_good : (d : ℕ) (x : Operand NameParts CastTail) → (cast_lang d).good (cast_from x) ≡ (cast_parts d).good x
cast_good d (inl x) = refl
cast_good d (inr (inl m)) = refl
cast_good d (inr (inr (inl x))) = name_good d 0 x
cast_good d (inr (inr (inr (before, inl x)))) = refl
cast_good d (inr (inr (inr (before, inr x)))) = paren_good d 0 (before, x)

cast_stops : (d : ℕ) (x : Long × Expr) (h : Option Token) → ends_unary h ≡ true → (cast_parts d).stops (cast_to x) h ≡ true
cast_stops d (Some at, e) h k = k
cast_stops d (None, Number m) h k = refl
cast_stops d (None, Name x) h k = k
cast_stops d (None, Index x before e after) h k = k
cast_stops d (None, Paren before e after) h k = refl
cast_stops d (None, Cast before int after long x) h k = refl
cast_stops d (None, Unary op at e) h k = k
cast_stops d (None, Operation a op at b) h k = refl

cast_unary_reader : (limit r d : ℕ) → r + d ≡ limit → IsReader limit (cast_lang d) (cast_unary_at limit r)
cast_unary_reader limit r d h = map_reader limit (cast_parts d) (cast_lang d) cast_from cast_to
    (record {
      back = cast_back;
      good_back = λ x g. sym (cast_good d (cast_to x)) ∙ ap (cast_lang d).good (cast_back x g) ∙ g;
      marks = λ x g. cast_marks d x;
      good = λ x g. cast_good d x ∙ g;
      stops = λ x k g e. cast_stops d x k e;
    }) _
    (operand_reader d 0 (name_part d 0) (cast_tail_lang d) limit (omega (arith, h)) (λ a k g. refl) (λ a k g. refl) _ _ _ (prefix_at_reader limit r d 0 limit h (omega arith))
    (name_reader limit d 0 (omega (arith, h)) (index_at r limit) (index_at_reader limit r d 0 limit h (omega arith))) (cast_tail_reader limit r d h))

abbrev cast_arg_lang : ℕ → Lang Token CastArgParts
cast_arg_lang d = (pair (sign_lang s.OpenParen (suc d)) (pair (word_lang w.Void (suc d)) (pair (sign_lang s.Star (suc d)) (pair (sign_lang s.CloseParen (suc d)) (cast_lang d) (λ _ h. ends_unary h)) (λ _ h. ends_unary h)) (λ _ h. ends_unary h)) (λ _ h. ends_unary h))

cast_arg_reader : (limit r d : ℕ) → r + d ≡ limit → IsReader limit (cast_arg_lang d) (cast_arg_at limit r)
cast_arg_reader limit zero d h =
    let same : d ≡ limit = omega (arith, h) in
    subst (λ (x : ℕ). IsReader limit (cast_arg_lang x) (cast_arg_at limit zero)) (sym same) (shut_reader limit (cast_arg_lang limit) is_paren (record {
      begun = λ a k g. refl;
      deep = λ a g. rw (lt-ltb limit (suc limit) (omega arith)) refl;
      each = λ x e. (
        (x.spot, (no_spot, (no_spot, (no_spot, (None, some_expr))))),
        word w.Void no_spot ∷ (sign s.Star no_spot ∷ (sign s.CloseParen no_spot ∷ tokens (placed 0 (pieces limit some_expr)))),
        ap (λ (y : Token). y ∷ (word w.Void no_spot ∷ (sign s.Star no_spot ∷ (sign s.CloseParen no_spot ∷ tokens (placed 0 (pieces limit some_expr)))))) (sym (only_sign_token s.OpenParen x e)),
        refl,
      );
      some = (no_spot, (no_spot, (no_spot, (no_spot, (None, some_expr)))));
      some_good = refl;
    }))
cast_arg_reader limit (suc r) d h =
    let hd : suc d ≤ limit = omega (arith, h) in
    seq_reader limit _ _ (λ _ h. ends_unary h) (read_sign s.OpenParen) _ (sign_reader limit (suc d) hd s.OpenParen)
    (seq_reader limit _ _ (λ _ h. ends_unary h) (read_word w.Void) _ (word_reader limit (suc d) hd w.Void)
    (seq_reader limit _ _ (λ _ h. ends_unary h) (read_sign s.Star) _ (sign_reader limit (suc d) hd s.Star)
    (seq_reader limit _ _ (λ _ h. ends_unary h) (read_sign s.CloseParen) _ (sign_reader limit (suc d) hd s.CloseParen)
    (cast_unary_reader limit (suc r) d h)
    (λ a b k g1 g2 e. (refl, e)) (None, some_expr) refl)
    (λ a b k g1 g2 e. (refl, e)) (no_spot, (None, some_expr)) refl)
    (λ a b k g1 g2 e. (refl, e)) (no_spot, (no_spot, (None, some_expr))) refl)
    (λ a b k g1 g2 e. (refl, e)) (no_spot, (no_spot, (no_spot, (None, some_expr)))) refl

abbrev pub thread_arg_lang : ℕ → Lang Token ThreadArg
thread_arg_lang d = record { marks = thread_arg_marks d; good = is_thread_arg; stops = λ _ h. ends_unary h }

abbrev thread_arg_parts : ℕ → Lang Token (Spot ⊎ CastArgParts)
thread_arg_parts d = choice (word_lang w.Null d) (cast_arg_lang d)

abbrev thread_arg_to : ThreadArg → Spot ⊎ CastArgParts
thread_arg_to (NullArg at) = inl at
thread_arg_to (CastArg before void star after long e) = inr (before, (void, (star, (after, (long, e)))))

pub thread_arg_reader : (limit r d : ℕ) → r + d ≡ limit → IsReader limit (thread_arg_lang d) (thread_arg_at limit r)
unfolding thread_arg_at
thread_arg_reader limit r d h = map_reader limit (thread_arg_parts d) (thread_arg_lang d) thread_arg_from thread_arg_to
    (record {
      back = elim [ NullArg at ↦ λ g. refl | CastArg before void star after long e ↦ λ g. refl ];
      good_back = elim [ NullArg at ↦ λ g. refl | CastArg before void star after long e ↦ λ g. g ];
      marks = elim [ inl x ↦ λ g. refl | inr x ↦ λ g. refl ];
      good = elim [ inl x ↦ λ g. refl | inr x ↦ λ g. g ];
      stops = elim [ NullArg at ↦ λ k g e. refl | CastArg before void star after long x ↦ λ k g e. e ];
    }) _
    (choice_reader limit (is_word w.Null) (word_lang w.Null d) (cast_arg_lang d) (read_word w.Null) (cast_arg_at limit r) (λ a k g. refl) (λ c k g e. refl) (word_reader limit d (omega (arith, h)) w.Null) (cast_arg_reader limit r d h))

-- ---- the calls

abbrev more_lang : ℕ → Lang Token (List (Spot × Expr))
more_lang d = commas_lang d (expr_lang d 0) ends_list

more_reader : (limit r d : ℕ) → r + d ≡ limit → IsReader limit (more_lang d) (commas (expr_at r limit))
more_reader limit r d h = commas_reader d (expr_lang d 0) ends_list limit (omega (arith, h)) (expr_at r limit) (whole_expr_reader limit r d h) some_expr refl (λ a at g. refl) (λ a h g e. (and_parts _ _ e).0) (λ h e. not_true _ (and_parts _ _ e).1)

abbrev create_lang : ℕ → Lang Token CreateParts
create_lang d = (pair (word_lang w.Create d) (pair (sign_lang s.OpenParen d) (pair (sign_lang s.Ampersand d) (pair (target_lang d) (pair (sign_lang s.Comma d) (pair (word_lang w.Null d) (pair (sign_lang s.Comma d) (pair (ident_lang d) (pair (sign_lang s.Comma d) (pair (thread_arg_lang d) (sign_lang s.CloseParen d) (λ _ _. true)) (λ _ _. true)) (λ _ _. true)) (λ _ _. true)) (λ _ _. true)) (λ _ _. true)) (λ _ _. true)) (λ _ _. true)) (λ _ _. true)) (λ _ _. true))

create_reader : (limit r d : ℕ) → r + d ≡ limit → IsReader limit (create_lang d) (create_at limit r)
create_reader limit r d h =
    let hd : d ≤ limit = omega (arith, h) in
    seq_reader limit _ _ (λ _ _. true) (read_word w.Create) _ (word_reader limit d hd w.Create)
    (seq_reader limit _ _ (λ _ _. true) (read_sign s.OpenParen) _ (sign_reader limit d hd s.OpenParen)
    (seq_reader limit _ _ (λ _ _. true) (read_sign s.Ampersand) _ (sign_reader limit d hd s.Ampersand)
    (seq_reader limit _ _ (λ _ _. true) (target_at limit r) _ (target_reader limit r d h)
    (seq_reader limit _ _ (λ _ _. true) (read_sign s.Comma) _ (sign_reader limit d hd s.Comma)
    (seq_reader limit _ _ (λ _ _. true) (read_word w.Null) _ (word_reader limit d hd w.Null)
    (seq_reader limit _ _ (λ _ _. true) (read_sign s.Comma) _ (sign_reader limit d hd s.Comma)
    (seq_reader limit _ _ (λ _ _. true) read_ident _ (ident_reader limit d hd)
    (seq_reader limit _ _ (λ _ _. true) (read_sign s.Comma) _ (sign_reader limit d hd s.Comma)
    (seq_reader limit _ _ (λ _ _. true) (thread_arg_at limit r) _ (thread_arg_reader limit r d h)
    (sign_reader limit d hd s.CloseParen)
    (λ a b k g1 g2 e. (refl, refl)) no_spot refl)
    (λ a b k g1 g2 e. (refl, refl)) ((NullArg no_spot), no_spot) refl)
    (λ a b k g1 g2 e. (refl, refl)) (no_spot, ((NullArg no_spot), no_spot)) refl)
    (λ a b k g1 g2 e. (refl, refl)) (some_ident, (no_spot, ((NullArg no_spot), no_spot))) refl)
    (λ a b k g1 g2 e. (refl, refl)) (no_spot, (some_ident, (no_spot, ((NullArg no_spot), no_spot)))) refl)
    (λ a b k g1 g2 e. (refl, refl)) (no_spot, (no_spot, (some_ident, (no_spot, ((NullArg no_spot), no_spot))))) refl)
    (λ a b k g1 g2 e. (refl, refl)) (no_spot, (no_spot, (no_spot, (some_ident, (no_spot, ((NullArg no_spot), no_spot)))))) refl)
    (λ a b k g1 g2 e. (refl, refl)) ((TargetOf some_ident None), (no_spot, (no_spot, (no_spot, (some_ident, (no_spot, ((NullArg no_spot), no_spot))))))) refl)
    (λ a b k g1 g2 e. (refl, refl)) (no_spot, ((TargetOf some_ident None), (no_spot, (no_spot, (no_spot, (some_ident, (no_spot, ((NullArg no_spot), no_spot)))))))) refl)
    (λ a b k g1 g2 e. (refl, refl)) (no_spot, (no_spot, ((TargetOf some_ident None), (no_spot, (no_spot, (no_spot, (some_ident, (no_spot, ((NullArg no_spot), no_spot))))))))) refl

abbrev join_lang : ℕ → Lang Token JoinParts
join_lang d = (pair (word_lang w.Join d) (pair (sign_lang s.OpenParen d) (pair (target_lang d) (pair (sign_lang s.Comma d) (pair (word_lang w.Null d) (sign_lang s.CloseParen d) (λ _ _. true)) (λ _ _. true)) (λ _ _. true)) (λ _ _. true)) (λ _ _. true))

join_reader : (limit r d : ℕ) → r + d ≡ limit → IsReader limit (join_lang d) (join_at limit r)
join_reader limit r d h =
    let hd : d ≤ limit = omega (arith, h) in
    seq_reader limit _ _ (λ _ _. true) (read_word w.Join) _ (word_reader limit d hd w.Join)
    (seq_reader limit _ _ (λ _ _. true) (read_sign s.OpenParen) _ (sign_reader limit d hd s.OpenParen)
    (seq_reader limit _ _ (λ _ _. true) (target_at limit r) _ (target_reader limit r d h)
    (seq_reader limit _ _ (λ _ _. true) (read_sign s.Comma) _ (sign_reader limit d hd s.Comma)
    (seq_reader limit _ _ (λ _ _. true) (read_word w.Null) _ (word_reader limit d hd w.Null)
    (sign_reader limit d hd s.CloseParen)
    (λ a b k g1 g2 e. (refl, refl)) no_spot refl)
    (λ a b k g1 g2 e. (refl, refl)) (no_spot, no_spot) refl)
    (λ a b k g1 g2 e. (refl, refl)) (no_spot, (no_spot, no_spot)) refl)
    (λ a b k g1 g2 e. (refl, refl)) ((TargetOf some_ident None), (no_spot, (no_spot, no_spot))) refl)
    (λ a b k g1 g2 e. (refl, refl)) (no_spot, ((TargetOf some_ident None), (no_spot, (no_spot, no_spot)))) refl

abbrev lock_lang : ℕ → Lang Token LockParts
lock_lang d = (pair (word_lang w.Lock d) (pair (sign_lang s.OpenParen d) (pair (sign_lang s.Ampersand d) (pair (ident_lang d) (sign_lang s.CloseParen d) (λ _ _. true)) (λ _ _. true)) (λ _ _. true)) (λ _ _. true))

lock_reader : (limit r d : ℕ) → r + d ≡ limit → IsReader limit (lock_lang d) (seq (read_word w.Lock) lock_tail)
lock_reader limit r d h =
    let hd : d ≤ limit = omega (arith, h) in
    seq_reader limit _ _ (λ _ _. true) (read_word w.Lock) _ (word_reader limit d hd w.Lock)
    (seq_reader limit _ _ (λ _ _. true) (read_sign s.OpenParen) _ (sign_reader limit d hd s.OpenParen)
    (seq_reader limit _ _ (λ _ _. true) (read_sign s.Ampersand) _ (sign_reader limit d hd s.Ampersand)
    (seq_reader limit _ _ (λ _ _. true) read_ident _ (ident_reader limit d hd)
    (sign_reader limit d hd s.CloseParen)
    (λ a b k g1 g2 e. (refl, refl)) no_spot refl)
    (λ a b k g1 g2 e. (refl, refl)) (some_ident, no_spot) refl)
    (λ a b k g1 g2 e. (refl, refl)) (no_spot, (some_ident, no_spot)) refl)
    (λ a b k g1 g2 e. (refl, refl)) (no_spot, (no_spot, (some_ident, no_spot))) refl

abbrev unlock_lang : ℕ → Lang Token LockParts
unlock_lang d = (pair (word_lang w.Unlock d) (pair (sign_lang s.OpenParen d) (pair (sign_lang s.Ampersand d) (pair (ident_lang d) (sign_lang s.CloseParen d) (λ _ _. true)) (λ _ _. true)) (λ _ _. true)) (λ _ _. true))

unlock_reader : (limit r d : ℕ) → r + d ≡ limit → IsReader limit (unlock_lang d) (seq (read_word w.Unlock) lock_tail)
unlock_reader limit r d h =
    let hd : d ≤ limit = omega (arith, h) in
    seq_reader limit _ _ (λ _ _. true) (read_word w.Unlock) _ (word_reader limit d hd w.Unlock)
    (seq_reader limit _ _ (λ _ _. true) (read_sign s.OpenParen) _ (sign_reader limit d hd s.OpenParen)
    (seq_reader limit _ _ (λ _ _. true) (read_sign s.Ampersand) _ (sign_reader limit d hd s.Ampersand)
    (seq_reader limit _ _ (λ _ _. true) read_ident _ (ident_reader limit d hd)
    (sign_reader limit d hd s.CloseParen)
    (λ a b k g1 g2 e. (refl, refl)) no_spot refl)
    (λ a b k g1 g2 e. (refl, refl)) (some_ident, no_spot) refl)
    (λ a b k g1 g2 e. (refl, refl)) (no_spot, (some_ident, no_spot)) refl)
    (λ a b k g1 g2 e. (refl, refl)) (no_spot, (no_spot, (some_ident, no_spot))) refl

abbrev print_lang : ℕ → Lang Token PrintParts
print_lang d = (pair (word_lang w.Printf d) (pair (sign_lang s.OpenParen d) (pair (text_lang d) (pair (more_lang d) (sign_lang s.CloseParen d) (λ _ _. true)) (λ _ _. true)) (λ _ _. true)) (λ _ _. true))

print_reader : (limit r d : ℕ) → r + d ≡ limit → IsReader limit (print_lang d) (print_at limit r)
print_reader limit r d h =
    let hd : d ≤ limit = omega (arith, h) in
    seq_reader limit _ _ (λ _ _. true) (read_word w.Printf) _ (word_reader limit d hd w.Printf)
    (seq_reader limit _ _ (λ _ _. true) (read_sign s.OpenParen) _ (sign_reader limit d hd s.OpenParen)
    (seq_reader limit _ _ (λ _ _. true) read_text _ (text_reader limit d hd)
    (seq_reader limit _ _ (λ _ _. true) (commas (expr_at r limit)) _ (more_reader limit r d h)
    (sign_reader limit d hd s.CloseParen)
    (λ a b k g1 g2 e. (refl, refl)) no_spot refl)
    (λ a b k g1 g2 e. (refl, refl)) ([], no_spot) refl)
    (λ a b k g1 g2 e. (refl, refl)) (some_text, ([], no_spot)) refl)
    (λ a b k g1 g2 e. (refl, refl)) (no_spot, (some_text, ([], no_spot))) refl

abbrev scan_lang : ℕ → Lang Token ScanParts
scan_lang d = (pair (word_lang w.Scanf d) (pair (sign_lang s.OpenParen d) (pair (text_lang d) (pair (sign_lang s.Comma d) (pair (sign_lang s.Ampersand d) (pair (target_lang d) (sign_lang s.CloseParen d) (λ _ _. true)) (λ _ _. true)) (λ _ _. true)) (λ _ _. true)) (λ _ _. true)) (λ _ _. true))

scan_reader : (limit r d : ℕ) → r + d ≡ limit → IsReader limit (scan_lang d) (scan_at limit r)
scan_reader limit r d h =
    let hd : d ≤ limit = omega (arith, h) in
    seq_reader limit _ _ (λ _ _. true) (read_word w.Scanf) _ (word_reader limit d hd w.Scanf)
    (seq_reader limit _ _ (λ _ _. true) (read_sign s.OpenParen) _ (sign_reader limit d hd s.OpenParen)
    (seq_reader limit _ _ (λ _ _. true) read_text _ (text_reader limit d hd)
    (seq_reader limit _ _ (λ _ _. true) (read_sign s.Comma) _ (sign_reader limit d hd s.Comma)
    (seq_reader limit _ _ (λ _ _. true) (read_sign s.Ampersand) _ (sign_reader limit d hd s.Ampersand)
    (seq_reader limit _ _ (λ _ _. true) (target_at limit r) _ (target_reader limit r d h)
    (sign_reader limit d hd s.CloseParen)
    (λ a b k g1 g2 e. (refl, refl)) no_spot refl)
    (λ a b k g1 g2 e. (refl, refl)) ((TargetOf some_ident None), no_spot) refl)
    (λ a b k g1 g2 e. (refl, refl)) (no_spot, ((TargetOf some_ident None), no_spot)) refl)
    (λ a b k g1 g2 e. (refl, refl)) (no_spot, (no_spot, ((TargetOf some_ident None), no_spot))) refl)
    (λ a b k g1 g2 e. (refl, refl)) (some_text, (no_spot, (no_spot, ((TargetOf some_ident None), no_spot)))) refl)
    (λ a b k g1 g2 e. (refl, refl)) (no_spot, (some_text, (no_spot, (no_spot, ((TargetOf some_ident None), no_spot))))) refl

abbrev wait_lang : ℕ → Lang Token WaitParts
wait_lang d = (pair (word_lang w.CondWait d) (pair (sign_lang s.OpenParen d) (pair (sign_lang s.Ampersand d) (pair (ident_lang d) (pair (sign_lang s.Comma d) (pair (sign_lang s.Ampersand d) (pair (ident_lang d) (sign_lang s.CloseParen d) (λ _ _. true)) (λ _ _. true)) (λ _ _. true)) (λ _ _. true)) (λ _ _. true)) (λ _ _. true)) (λ _ _. true))

wait_reader : (limit r d : ℕ) → r + d ≡ limit → IsReader limit (wait_lang d) wait_at
wait_reader limit r d h =
    let hd : d ≤ limit = omega (arith, h) in
    seq_reader limit _ _ (λ _ _. true) (read_word w.CondWait) _ (word_reader limit d hd w.CondWait)
    (seq_reader limit _ _ (λ _ _. true) (read_sign s.OpenParen) _ (sign_reader limit d hd s.OpenParen)
    (seq_reader limit _ _ (λ _ _. true) (read_sign s.Ampersand) _ (sign_reader limit d hd s.Ampersand)
    (seq_reader limit _ _ (λ _ _. true) read_ident _ (ident_reader limit d hd)
    (seq_reader limit _ _ (λ _ _. true) (read_sign s.Comma) _ (sign_reader limit d hd s.Comma)
    (seq_reader limit _ _ (λ _ _. true) (read_sign s.Ampersand) _ (sign_reader limit d hd s.Ampersand)
    (seq_reader limit _ _ (λ _ _. true) read_ident _ (ident_reader limit d hd)
    (sign_reader limit d hd s.CloseParen)
    (λ a b k g1 g2 e. (refl, refl)) no_spot refl)
    (λ a b k g1 g2 e. (refl, refl)) (some_ident, no_spot) refl)
    (λ a b k g1 g2 e. (refl, refl)) (no_spot, (some_ident, no_spot)) refl)
    (λ a b k g1 g2 e. (refl, refl)) (no_spot, (no_spot, (some_ident, no_spot))) refl)
    (λ a b k g1 g2 e. (refl, refl)) (some_ident, (no_spot, (no_spot, (some_ident, no_spot)))) refl)
    (λ a b k g1 g2 e. (refl, refl)) (no_spot, (some_ident, (no_spot, (no_spot, (some_ident, no_spot))))) refl)
    (λ a b k g1 g2 e. (refl, refl)) (no_spot, (no_spot, (some_ident, (no_spot, (no_spot, (some_ident, no_spot)))))) refl

abbrev signal_lang : ℕ → Lang Token WakeParts
signal_lang d = (pair (word_lang w.Signal d) (pair (sign_lang s.OpenParen d) (pair (sign_lang s.Ampersand d) (pair (ident_lang d) (sign_lang s.CloseParen d) (λ _ _. true)) (λ _ _. true)) (λ _ _. true)) (λ _ _. true))

signal_reader : (limit r d : ℕ) → r + d ≡ limit → IsReader limit (signal_lang d) (seq (read_word w.Signal) lock_tail)
signal_reader limit r d h =
    let hd : d ≤ limit = omega (arith, h) in
    seq_reader limit _ _ (λ _ _. true) (read_word w.Signal) _ (word_reader limit d hd w.Signal)
    (seq_reader limit _ _ (λ _ _. true) (read_sign s.OpenParen) _ (sign_reader limit d hd s.OpenParen)
    (seq_reader limit _ _ (λ _ _. true) (read_sign s.Ampersand) _ (sign_reader limit d hd s.Ampersand)
    (seq_reader limit _ _ (λ _ _. true) read_ident _ (ident_reader limit d hd)
    (sign_reader limit d hd s.CloseParen)
    (λ a b k g1 g2 e. (refl, refl)) no_spot refl)
    (λ a b k g1 g2 e. (refl, refl)) (some_ident, no_spot) refl)
    (λ a b k g1 g2 e. (refl, refl)) (no_spot, (some_ident, no_spot)) refl)
    (λ a b k g1 g2 e. (refl, refl)) (no_spot, (no_spot, (some_ident, no_spot))) refl

abbrev broadcast_lang : ℕ → Lang Token WakeParts
broadcast_lang d = (pair (word_lang w.Broadcast d) (pair (sign_lang s.OpenParen d) (pair (sign_lang s.Ampersand d) (pair (ident_lang d) (sign_lang s.CloseParen d) (λ _ _. true)) (λ _ _. true)) (λ _ _. true)) (λ _ _. true))

broadcast_reader : (limit r d : ℕ) → r + d ≡ limit → IsReader limit (broadcast_lang d) (seq (read_word w.Broadcast) lock_tail)
broadcast_reader limit r d h =
    let hd : d ≤ limit = omega (arith, h) in
    seq_reader limit _ _ (λ _ _. true) (read_word w.Broadcast) _ (word_reader limit d hd w.Broadcast)
    (seq_reader limit _ _ (λ _ _. true) (read_sign s.OpenParen) _ (sign_reader limit d hd s.OpenParen)
    (seq_reader limit _ _ (λ _ _. true) (read_sign s.Ampersand) _ (sign_reader limit d hd s.Ampersand)
    (seq_reader limit _ _ (λ _ _. true) read_ident _ (ident_reader limit d hd)
    (sign_reader limit d hd s.CloseParen)
    (λ a b k g1 g2 e. (refl, refl)) no_spot refl)
    (λ a b k g1 g2 e. (refl, refl)) (some_ident, no_spot) refl)
    (λ a b k g1 g2 e. (refl, refl)) (no_spot, (some_ident, no_spot)) refl)
    (λ a b k g1 g2 e. (refl, refl)) (no_spot, (no_spot, (some_ident, no_spot))) refl

abbrev library_parts : ℕ → Lang Token LibraryParts
library_parts d = (choice (create_lang d) (choice (join_lang d) (choice (lock_lang d) (choice (unlock_lang d) (choice (print_lang d) (choice (scan_lang d) (choice (wait_lang d) (choice (signal_lang d) (broadcast_lang d)))))))))

not_0 : (d : ℕ) (c : JoinParts ⊎ (LockParts ⊎ (LockParts ⊎ (PrintParts ⊎ (ScanParts ⊎ (WaitParts ⊎ (WakeParts ⊎ WakeParts))))))) (h : Option Token) → holds (is_word w.Create) (first (toks (choice (join_lang d) (choice (lock_lang d) (choice (unlock_lang d) (choice (print_lang d) (choice (scan_lang d) (choice (wait_lang d) (choice (signal_lang d) (broadcast_lang d)))))))) c) h) ≡ false
not_0 d (inl x) h = refl
not_0 d (inr (inl x)) h = refl
not_0 d (inr (inr (inl x))) h = refl
not_0 d (inr (inr (inr (inl x)))) h = refl
not_0 d (inr (inr (inr (inr (inl x))))) h = refl
not_0 d (inr (inr (inr (inr (inr (inl x)))))) h = refl
not_0 d (inr (inr (inr (inr (inr (inr (inl x))))))) h = refl
not_0 d (inr (inr (inr (inr (inr (inr (inr x))))))) h = refl

not_1 : (d : ℕ) (c : LockParts ⊎ (LockParts ⊎ (PrintParts ⊎ (ScanParts ⊎ (WaitParts ⊎ (WakeParts ⊎ WakeParts)))))) (h : Option Token) → holds (is_word w.Join) (first (toks (choice (lock_lang d) (choice (unlock_lang d) (choice (print_lang d) (choice (scan_lang d) (choice (wait_lang d) (choice (signal_lang d) (broadcast_lang d))))))) c) h) ≡ false
not_1 d (inl x) h = refl
not_1 d (inr (inl x)) h = refl
not_1 d (inr (inr (inl x))) h = refl
not_1 d (inr (inr (inr (inl x)))) h = refl
not_1 d (inr (inr (inr (inr (inl x))))) h = refl
not_1 d (inr (inr (inr (inr (inr (inl x)))))) h = refl
not_1 d (inr (inr (inr (inr (inr (inr x)))))) h = refl

not_2 : (d : ℕ) (c : LockParts ⊎ (PrintParts ⊎ (ScanParts ⊎ (WaitParts ⊎ (WakeParts ⊎ WakeParts))))) (h : Option Token) → holds (is_word w.Lock) (first (toks (choice (unlock_lang d) (choice (print_lang d) (choice (scan_lang d) (choice (wait_lang d) (choice (signal_lang d) (broadcast_lang d)))))) c) h) ≡ false
not_2 d (inl x) h = refl
not_2 d (inr (inl x)) h = refl
not_2 d (inr (inr (inl x))) h = refl
not_2 d (inr (inr (inr (inl x)))) h = refl
not_2 d (inr (inr (inr (inr (inl x))))) h = refl
not_2 d (inr (inr (inr (inr (inr x))))) h = refl

not_3 : (d : ℕ) (c : PrintParts ⊎ (ScanParts ⊎ (WaitParts ⊎ (WakeParts ⊎ WakeParts)))) (h : Option Token) → holds (is_word w.Unlock) (first (toks (choice (print_lang d) (choice (scan_lang d) (choice (wait_lang d) (choice (signal_lang d) (broadcast_lang d))))) c) h) ≡ false
not_3 d (inl x) h = refl
not_3 d (inr (inl x)) h = refl
not_3 d (inr (inr (inl x))) h = refl
not_3 d (inr (inr (inr (inl x)))) h = refl
not_3 d (inr (inr (inr (inr x)))) h = refl

not_4 : (d : ℕ) (c : ScanParts ⊎ (WaitParts ⊎ (WakeParts ⊎ WakeParts))) (h : Option Token) → holds (is_word w.Printf) (first (toks (choice (scan_lang d) (choice (wait_lang d) (choice (signal_lang d) (broadcast_lang d)))) c) h) ≡ false
not_4 d (inl x) h = refl
not_4 d (inr (inl x)) h = refl
not_4 d (inr (inr (inl x))) h = refl
not_4 d (inr (inr (inr x))) h = refl

not_5 : (d : ℕ) (c : WaitParts ⊎ (WakeParts ⊎ WakeParts)) (h : Option Token) → holds (is_word w.Scanf) (first (toks (choice (wait_lang d) (choice (signal_lang d) (broadcast_lang d))) c) h) ≡ false
not_5 d (inl x) h = refl
not_5 d (inr (inl x)) h = refl
not_5 d (inr (inr x)) h = refl

not_6 : (d : ℕ) (c : WakeParts ⊎ WakeParts) (h : Option Token) → holds (is_word w.CondWait) (first (toks (choice (signal_lang d) (broadcast_lang d)) c) h) ≡ false
not_6 d (inl x) h = refl
not_6 d (inr x) h = refl

not_7 : (d : ℕ) (c : WakeParts) (h : Option Token) → holds (is_word w.Signal) (first (toks (broadcast_lang d) c) h) ≡ false
not_7 d x h = refl

abbrev library_to : Library → LibraryParts
library_to (Create a b c d e f g h i j k) = inl (a, (b, (c, (d, (e, (f, (g, (h, (i, (j, k))))))))))
library_to (Join a b c d e f) = inr (inl (a, (b, (c, (d, (e, f))))))
library_to (Lock a b c d e) = inr (inr (inl (a, (b, (c, (d, e))))))
library_to (Unlock a b c d e) = inr (inr (inr (inl (a, (b, (c, (d, e)))))))
library_to (Print a b c d e) = inr (inr (inr (inr (inl (a, (b, (c, (d, e))))))))
library_to (Scan a b c d e f g) = inr (inr (inr (inr (inr (inl (a, (b, (c, (d, (e, (f, g)))))))))))
library_to (Wait a b c d e f g h) = inr (inr (inr (inr (inr (inr (inl (a, (b, (c, (d, (e, (f, (g, h)))))))))))))
library_to (Signal a b c d e) = inr (inr (inr (inr (inr (inr (inr (inl (a, (b, (c, (d, e)))))))))))
library_to (Broadcast a b c d e) = inr (inr (inr (inr (inr (inr (inr (inr (a, (b, (c, (d, e)))))))))))

library_back : (x : Library) → library_from (library_to x) ≡ x
library_back (Create a b c d e f g h i j k) = refl
library_back (Join a b c d e f) = refl
library_back (Lock a b c d e) = refl
library_back (Unlock a b c d e) = refl
library_back (Print a b c d e) = refl
library_back (Scan a b c d e f g) = refl
library_back (Wait a b c d e f g h) = refl
library_back (Signal a b c d e) = refl
library_back (Broadcast a b c d e) = refl

library_marks_is : (d : ℕ) (x : LibraryParts) → library_marks d (library_from x) ≡ (library_parts d).marks x
library_marks_is d (inl x) = refl
library_marks_is d (inr (inl x)) = refl
library_marks_is d (inr (inr (inl x))) = refl
library_marks_is d (inr (inr (inr (inl x)))) = refl
library_marks_is d (inr (inr (inr (inr (inl x))))) = refl
library_marks_is d (inr (inr (inr (inr (inr (inl x)))))) = refl
library_marks_is d (inr (inr (inr (inr (inr (inr (inl x))))))) = refl
library_marks_is d (inr (inr (inr (inr (inr (inr (inr (inl x)))))))) = refl
library_marks_is d (inr (inr (inr (inr (inr (inr (inr (inr x)))))))) = refl

library_good_is : (d : ℕ) (x : LibraryParts) → is_library (library_from x) ≡ (library_parts d).good x
library_good_is d (inl x) = ap (λ (v : Bool). is_target x.1.1.1.0 && v) (sym (and_true _))
library_good_is d (inr (inl x)) = sym (and_true _)
library_good_is d (inr (inr (inl x))) = refl
library_good_is d (inr (inr (inr (inl x)))) = refl
library_good_is d (inr (inr (inr (inr (inl x))))) = exprs_good d ends_list x.1.1.1.0 ∙ sym (and_true _)
library_good_is d (inr (inr (inr (inr (inr (inl x)))))) = sym (and_true _)
library_good_is d (inr (inr (inr (inr (inr (inr (inl x))))))) = refl
library_good_is d (inr (inr (inr (inr (inr (inr (inr (inl x)))))))) = refl
library_good_is d (inr (inr (inr (inr (inr (inr (inr (inr x)))))))) = refl

abbrev pub library_lang : ℕ → Lang Token Library
library_lang d = record { marks = library_marks d; good = is_library; stops = λ _ _. true }

library_stops : (d : ℕ) (x : Library) (h : Option Token) → (library_parts d).stops (library_to x) h ≡ true
library_stops d (Create a b c e f g i j k l m) h = refl
library_stops d (Join a b c e f g) h = refl
library_stops d (Lock a b c e f) h = refl
library_stops d (Unlock a b c e f) h = refl
library_stops d (Print a b c e f) h = refl
library_stops d (Scan a b c e f g i) h = refl
library_stops d (Wait a b c e f g i j) h = refl
library_stops d (Signal a b c e f) h = refl
library_stops d (Broadcast a b c e f) h = refl

pub library_reader : (limit r d : ℕ) → r + d ≡ limit → IsReader limit (library_lang d) (library_at limit r)
unfolding library_at
library_reader limit r d h = map_reader limit (library_parts d) (library_lang d) library_from library_to
    (record {
      back = λ x g. library_back x;
      good_back = λ x g. sym (library_good_is d (library_to x)) ∙ ap is_library (library_back x) ∙ g;
      marks = λ x g. library_marks_is d x;
      good = λ x g. library_good_is d x ∙ g;
      stops = λ x k g e. library_stops d x k;
    }) _
    (choice_reader limit (is_word w.Create) (create_lang d) (choice (join_lang d) (choice (lock_lang d) (choice (unlock_lang d) (choice (print_lang d) (choice (scan_lang d) (choice (wait_lang d) (choice (signal_lang d) (broadcast_lang d)))))))) _ _ (λ a k g. refl) (λ c k g e. not_0 d c k)
    (create_reader limit r d h)
    (choice_reader limit (is_word w.Join) (join_lang d) (choice (lock_lang d) (choice (unlock_lang d) (choice (print_lang d) (choice (scan_lang d) (choice (wait_lang d) (choice (signal_lang d) (broadcast_lang d))))))) _ _ (λ a k g. refl) (λ c k g e. not_1 d c k)
    (join_reader limit r d h)
    (choice_reader limit (is_word w.Lock) (lock_lang d) (choice (unlock_lang d) (choice (print_lang d) (choice (scan_lang d) (choice (wait_lang d) (choice (signal_lang d) (broadcast_lang d)))))) _ _ (λ a k g. refl) (λ c k g e. not_2 d c k)
    (lock_reader limit r d h)
    (choice_reader limit (is_word w.Unlock) (unlock_lang d) (choice (print_lang d) (choice (scan_lang d) (choice (wait_lang d) (choice (signal_lang d) (broadcast_lang d))))) _ _ (λ a k g. refl) (λ c k g e. not_3 d c k)
    (unlock_reader limit r d h)
    (choice_reader limit (is_word w.Printf) (print_lang d) (choice (scan_lang d) (choice (wait_lang d) (choice (signal_lang d) (broadcast_lang d)))) _ _ (λ a k g. refl) (λ c k g e. not_4 d c k)
    (print_reader limit r d h)
    (choice_reader limit (is_word w.Scanf) (scan_lang d) (choice (wait_lang d) (choice (signal_lang d) (broadcast_lang d))) _ _ (λ a k g. refl) (λ c k g e. not_5 d c k)
    (scan_reader limit r d h)
    (choice_reader limit (is_word w.CondWait) (wait_lang d) (choice (signal_lang d) (broadcast_lang d)) _ _ (λ a k g. refl) (λ c k g e. not_6 d c k)
    (wait_reader limit r d h)
    (choice_reader limit (is_word w.Signal) (signal_lang d) (broadcast_lang d) _ _ (λ a k g. refl) (λ c k g e. not_7 d c k)
    (signal_reader limit r d h)
    (broadcast_reader limit r d h)))))))))
