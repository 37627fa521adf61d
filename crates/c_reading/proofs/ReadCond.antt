-- The laws of the reader of conditions.
use Rattle.std.proofs.Common.{◌≡◌, ℕ, zero, suc, ◌+◌, ◌-◌, ◌≤◌, pos, max, Bool, true, false, ◌&&◌, List, [], ◌∷◌, ◌++◌, Option, Some, None, refl, sym, ap, subst, ◌∙◌, append_assoc, inl, inr, ◌⊎◌, arith}
use Rattle.std.proofs.lemmas.Bool.{and_from, and_parts, lt-ltb}
use Rattle.cfix_base.specs.declared.Spot.{Spot}
use Rattle.c_grammar.specs.declared.word.Word.TheVariants as w
use Rattle.c_grammar.specs.declared.sign.Sign.TheVariants as s
use Rattle.c_grammar.specs.Marks.{first, tokens, each}
use Rattle.c_reading.specs.Reader.{Lang, toks, seq, mapped, holds}
use Rattle.c_grammar.specs.Token.{Token, sign, digit, Mark}
use Rattle.c_grammar.specs.Expr.{Binary, Or, And, Equal, NotEqual, Less, LessEqual, Greater, GreaterEqual, Add, Subtract, Multiply, Divide, Remainder, Expr, Number, Name, Index, Paren, Cast, Unary, Operation, is_unary, is_expr, Piece, plain, pieces, placed}
use Rattle.c_grammar.specs.Op.{Op, OpOf}
use Rattle.c_grammar.specs.Cond.{Guard, GuardOf, TrueGuard, TrueGuardOf, Cond, Bare, OnTrue, OnFalse, OnBoth, is_true_guard, is_cond, op_pieces, guard_pieces, true_guard_pieces, cond_marks}
use Rattle.c_reading.specs.Read.{is_word, is_sign, read_sign}
use Rattle.c_reading.specs.ReadExpr.{operators, CastParts, NameParts, Operand, read_cast, unary_at, is_some}
use Rattle.c_reading.specs.ReadSimple.{is_paren}
use Rattle.c_reading.specs.ReadCond.{Guarded, guard_digit, Tail, tail_at, is_par, inner_from, inner_at, HeadTail, CondHead, cond_head_from, head_tail_at, cond_head_at, guarded_at, or_tail_at, or_from, guard_operators, cond_tail_at, guard_cond, cond_from, cond_at}
use Rattle.c_reading.proofs.Reader.{IsReader, pair, pair_dep, seq_reader, dep_reader, map_reader, sum, alt_reader, shut_reader}
use Rattle.c_reading.proofs.Token.{no_spot, only_sign_token, sign_lang, sign_reader}
use Rattle.c_reading.proofs.Group.{count, count-append, count_is, placed-append, lead, tail, lead_good, tail_good, grow_good, group_back}
use Rattle.c_reading.proofs.ReadExpr.{spelled, ends_unary, ends_expr, expr_no_int, binary_some, binary_ends_unary, unary_lang, flat_marks, links_good, some_expr, cast_part, cast_reader, name_part, name_marks, paren_marks, name_good, paren_good, operand_lang, operand_reader, unary_reader, prefix_at_reader, and_true}
use Rattle.c_reading.proofs.ReadGuard.{guard_placed, guard_marks, guarded_lang, some_guard, guard_closed, read_name_reader, tail_marks, tail_lang, tail_reader}

-- ---- the pieces of guards

count_ops : (d : ℕ) (more : List (Op × Spot)) → count (each (λ x. op_pieces d x.0 ++ plain (sign s.Comma x.1) d ∷ []) more) ≡ 0
count_ops d [] = refl
count_ops d ((OpOf verb at before n after, c) ∷ more) = count_ops d more

count_guard : (n d : ℕ) (g : Guard) → count (guard_pieces n d g) ≡ 0
count_guard n d (GuardOf (OpOf verb at before m after) comma more spot) =
    omega (arith, count-append (each (λ x. op_pieces d x.0 ++ plain (sign s.Comma x.1) d ∷ []) more) (plain (digit n spot) d ∷ []), count_ops d more)

-- what stands behind something in parentheses, an operator and a guard
abbrev closing : (n d : ℕ) → Spot → Binary × Spot → Guarded → List Piece
closing n d after op g = plain (sign s.CloseParen after) (suc d) ∷ ((spelled op, d, true) ∷ (plain (sign s.OpenParen g.0) (suc d) ∷ (guard_pieces n (suc d) g.1.0 ++ plain (sign s.CloseParen g.1.1) (suc d) ∷ [])))

closing_marks : (n d p : ℕ) (after : Spot) (op : Binary × Spot) (g : Guarded) → placed p (closing n d after op g) ≡ (sign s.CloseParen after, suc d) ∷ ((spelled op, max d (suc p)) ∷ (guarded_lang n d).marks g)
closing_marks n d p after op g = ap (λ (z : List Mark). (sign s.CloseParen after, suc d) ∷ ((spelled op, max d (suc p)) ∷ ((sign s.OpenParen g.0, suc d) ∷ z)))
    (guard_placed (suc p) n (suc d) g.1.0 (plain (sign s.CloseParen g.1.1) (suc d) ∷ []))

count_closing : (n d : ℕ) (after : Spot) (op : Binary × Spot) (g : Guarded) → count (closing n d after op g) ≡ 1
count_closing n d after op g = omega (arith, count-append (guard_pieces n (suc d) g.1.0) (plain (sign s.CloseParen g.1.1) (suc d) ∷ []), count_guard n (suc d) g.1.0)

-- something in parentheses, an operator and a guard
guarded_marks : (n d p c : ℕ) (before : Spot) (xs : List Piece) (after : Spot) (op : Binary × Spot) (g : Guarded) → count xs ≡ c
    → placed p (plain (sign s.OpenParen before) (suc d) ∷ (xs ++ closing n d after op g))
    ≡ ((sign s.OpenParen before, suc d) ∷ (placed p xs ++ (sign s.CloseParen after, suc d) ∷ [])) ++ ((spelled op, max d (suc (p + c))) ∷ (guarded_lang n d).marks g)
guarded_marks n d p c before xs after op g e =
    ap (λ (z : List Mark). (sign s.OpenParen before, suc d) ∷ z)
    (placed-append p xs (closing n d after op g)
    ∙ ap (λ (z : List Mark). placed p xs ++ z) (closing_marks n d (p + count xs) after op g ∙ ap (λ (k : ℕ). (sign s.CloseParen after, suc d) ∷ ((spelled op, max d (suc (p + k))) ∷ (guarded_lang n d).marks g)) e)
    ∙ sym (append_assoc (placed p xs) ((sign s.CloseParen after, suc d) ∷ []) ((spelled op, max d (suc (p + c))) ∷ (guarded_lang n d).marks g)))

paren_is : (d p : ℕ) (before : Spot) (e : Expr) (after : Spot) → placed p (pieces d (Paren before e after)) ≡ (sign s.OpenParen before, suc d) ∷ (placed p (pieces (suc d) e) ++ (sign s.CloseParen after, suc d) ∷ [])
paren_is d p before e after = ap (λ (z : List Mark). (sign s.OpenParen before, suc d) ∷ z) (placed-append p (pieces (suc d) e) (plain (sign s.CloseParen after) (suc d) ∷ []))

expr_guarded : (n d p : ℕ) (before : Spot) (e : Expr) (after : Spot) (op : Binary × Spot) (g : Guarded)
    → placed p (plain (sign s.OpenParen before) (suc d) ∷ (pieces (suc d) e ++ closing n d after op g)) ≡ placed p (pieces d (Paren before e after)) ++ ((spelled op, max d (suc (p + operators e))) ∷ (guarded_lang n d).marks g)
expr_guarded n d p before e after op g =
    guarded_marks n d p (operators e) before (pieces (suc d) e) after op g (count_is (suc d) e)
    ∙ ap (λ (z : List Mark). z ++ ((spelled op, max d (suc (p + operators e))) ∷ (guarded_lang n d).marks g)) (sym (paren_is d p before e after))

-- ---- an expression or a true guard

and_false : {X : Type 0} (v : Bool) → (v && false) ≡ true → X
and_false true e = absurd cc
and_false false e = absurd cc

abbrev inner_lang : ℕ → Lang Token (Expr ⊎ TrueGuard)
inner_lang d = record {
  marks = λ x. elim x [ inl e ↦ placed 0 (pieces d e) | inr g ↦ placed 0 (true_guard_pieces d g) ];
  good = λ x. elim x [ inl e ↦ is_expr e | inr g ↦ is_true_guard g ];
  stops = λ _ h. ends_expr h;
}

abbrev inner_parts : (limit d : ℕ) → Lang Token (Expr × Tail)
inner_parts limit d = pair_dep (unary_lang d 0) (λ u. tail_lang limit false (is_par u) d (0 + operators u)) (λ _ h. ends_expr h)

tail_fits : (limit : ℕ) (top guards : Bool) (d p : ℕ) (xs : Tail) (h : Option Token) → ends_expr h ≡ true → ends_unary (first (toks (tail_lang limit top guards d p) xs) h) ≡ true
tail_fits limit top guards d p (inl (op, g)) h e = binary_ends_unary (Some (spelled op)) (binary_some op.0 op.1)
tail_fits limit top guards d p (inr []) h e = (and_parts _ _ e).0
tail_fits limit top guards d p (inr (x ∷ more)) h e = binary_ends_unary (Some (spelled x.0)) (binary_some x.0.0 x.0.1)

abbrev inner_to : Expr ⊎ TrueGuard → Expr × Tail
inner_to (inl e) = (lead e, inr (tail e []))
inner_to (inr (TrueGuardOf before e after both before2 guard after2)) = (Paren before e after, inl ((And, both), (before2, (guard, after2))))

inner_back : (d : ℕ) (x : Expr ⊎ TrueGuard) → (inner_lang d).good x ≡ true → inner_from (inner_to x) ≡ x
inner_back d (inl e) g = ap inl (group_back e g)
inner_back d (inr (TrueGuardOf before e after both before2 guard after2)) g = refl

inner_good_back : (limit d : ℕ) (x : Expr ⊎ TrueGuard) → (inner_lang d).good x ≡ true → (inner_parts limit d).good (inner_to x) ≡ true
inner_good_back limit d (inl e) g = and_from _ _ (lead_good e g) (sym (links_good (tail e [])) ∙ tail_good e [] g refl)
inner_good_back limit d (inr (TrueGuardOf before e after both before2 guard after2)) g = and_from _ _ g refl

-- the operator of a guard inside parentheses is `&&`
only_and : (op : Binary) → is_some (guard_digit false op) ≡ true → op ≡ And
only_and And e = refl
only_and Or e = absurd cc
only_and Equal e = absurd cc
only_and NotEqual e = absurd cc
only_and Less e = absurd cc
only_and LessEqual e = absurd cc
only_and Greater e = absurd cc
only_and GreaterEqual e = absurd cc
only_and Add e = absurd cc
only_and Subtract e = absurd cc
only_and Multiply e = absurd cc
only_and Divide e = absurd cc
only_and Remainder e = absurd cc

inner_marks : (limit d : ℕ) (x : Expr × Tail) → (inner_parts limit d).good x ≡ true → (inner_lang d).marks (inner_from x) ≡ (inner_parts limit d).marks x
inner_marks limit d (u, inr more) g = flat_marks limit d 0 (u, more)
inner_marks limit d (Paren before e after, inl ((op, at), g)) k =
    let is : op ≡ And = only_and op (and_parts _ _ k).1 in
    subst (λ (o : Binary). placed 0 (true_guard_pieces d (TrueGuardOf before e after at g.0 g.1.0 g.1.1)) ≡ (inner_parts limit d).marks (Paren before e after, inl ((o, at), g))) (sym is) (expr_guarded 1 d 0 before e after (And, at) g)
inner_marks limit d (Number n, inl x) g = absurd cc
inner_marks limit d (Name n, inl x) g = absurd cc
inner_marks limit d (Index n before e after, inl x) g = and_false _ g
inner_marks limit d (Cast before int after long n, inl x) g = absurd cc
inner_marks limit d (Unary op at e, inl x) g = and_false _ g
inner_marks limit d (Operation a op at b, inl x) g = absurd cc

inner_good : (limit d : ℕ) (x : Expr × Tail) → (inner_parts limit d).good x ≡ true → (inner_lang d).good (inner_from x) ≡ true
inner_good limit d (u, inr more) g = let gs = and_parts _ _ g in grow_good u more (and_parts _ _ gs.0).1 (links_good more ∙ gs.1)
inner_good limit d (Paren before e after, inl x) g = (and_parts _ _ g).0
inner_good limit d (Number n, inl x) g = absurd cc
inner_good limit d (Name n, inl x) g = absurd cc
inner_good limit d (Index n before e after, inl x) g = and_false _ g
inner_good limit d (Cast before int after long n, inl x) g = absurd cc
inner_good limit d (Unary op at e, inl x) g = and_false _ g
inner_good limit d (Operation a op at b, inl x) g = absurd cc

inner_reader : (limit r d : ℕ) → r + d ≡ limit → IsReader limit (inner_lang d) (inner_at limit r)
unfolding inner_at
inner_reader limit r d h = map_reader limit (inner_parts limit d) (inner_lang d) inner_from inner_to
    (record { back = inner_back d; good_back = inner_good_back limit d; marks = inner_marks limit d; good = inner_good limit d; stops = elim [ inl e ↦ λ i g u. u | inr (TrueGuardOf before e after both before2 guard after2) ↦ λ i g u. u ] }) _
    (dep_reader limit (unary_lang d 0) (λ u. tail_lang limit false (is_par u) d (0 + operators u)) (λ _ h. ends_expr h) (unary_at r limit) (λ u. tail_at false (is_par u) r (limit - operators u))
    (unary_reader limit r d 0 limit h (omega arith)) (λ u. tail_reader limit false (is_par u) r d (0 + operators u) (limit - operators u) h (omega arith))
    (λ u xs i g1 g2 e. (tail_fits limit false (is_par u) d (0 + operators u) xs i e, e)) (λ u. inr []) (λ u. refl))

-- ---- the head of a condition

abbrev in_parens : ℕ → Lang Token ((Expr ⊎ TrueGuard) × Spot)
in_parens d = pair (inner_lang (suc d)) (sign_lang s.CloseParen (suc d)) (λ _ _. true)

abbrev head_inside : ℕ → Lang Token (CastParts ⊎ ((Expr ⊎ TrueGuard) × Spot))
head_inside d = sum (cast_part d) (in_parens d) (λ _ _. true)

abbrev head_tail_lang : ℕ → Lang Token HeadTail
head_tail_lang d = pair (sign_lang s.OpenParen (suc d)) (head_inside d) (λ _ _. true)

inner_no_int : (d : ℕ) (c : (Expr ⊎ TrueGuard) × Spot) (h : Option Token) → holds (is_word w.Int) (first (toks (in_parens d) c) h) ≡ false
inner_no_int d (inl e, at) h = expr_no_int (suc d) 0 e _ h
inner_no_int d (inr (TrueGuardOf before e after both before2 guard after2), at) h = refl

head_tail_reader : (limit r d : ℕ) → r + d ≡ limit → IsReader limit (head_tail_lang d) (head_tail_at limit r)
head_tail_reader limit zero d h =
    let same : d ≡ limit = omega (arith, h) in
    subst (λ (x : ℕ). IsReader limit (head_tail_lang x) (head_tail_at limit zero)) (sym same) (shut_reader limit (head_tail_lang limit) is_paren (record {
      begun = λ a k g. refl;
      deep = λ a g. rw (lt-ltb limit (suc limit) (omega arith)) refl;
      each = λ x e. (
        (x.spot, inr (inl some_expr, no_spot)),
        tokens (placed 0 (pieces (suc limit) some_expr) ++ (sign s.CloseParen no_spot, suc limit) ∷ []),
        ap (λ (y : Token). y ∷ tokens (placed 0 (pieces (suc limit) some_expr) ++ (sign s.CloseParen no_spot, suc limit) ∷ [])) (sym (only_sign_token s.OpenParen x e)),
        refl,
      );
      some = (no_spot, inr (inl some_expr, no_spot));
      some_good = refl;
    }))
head_tail_reader limit (suc r) d h =
    let hd : suc d ≤ limit = omega (arith, h) in
    seq_reader limit (sign_lang s.OpenParen (suc d)) (head_inside d) (λ _ _. true) (read_sign s.OpenParen) _ (sign_reader limit (suc d) hd s.OpenParen)
    (alt_reader limit (is_word w.Int) (cast_part d) (in_parens d) (λ _ _. true) read_cast (seq (inner_at limit r) (read_sign s.CloseParen))
    (record { one = λ a k g. refl; other = λ c k g e. inner_no_int d c k; stops_one = λ a k g e. refl; stops_other = λ c k g e. refl }) (cast_reader limit d hd)
    (seq_reader limit (inner_lang (suc d)) (sign_lang s.CloseParen (suc d)) (λ _ _. true) (inner_at limit r) (read_sign s.CloseParen) (inner_reader limit r (suc d) (omega (arith, h))) (sign_reader limit (suc d) hd s.CloseParen) (λ a b k g1 g2 e. (refl, refl)) no_spot refl))
    (λ a b k g1 g2 e. (refl, refl)) (inr (inl some_expr, no_spot)) refl

abbrev head_lang : ℕ → Lang Token CondHead
head_lang d = record {
  marks = λ x. elim x [ inl u ↦ placed 0 (pieces d u) | inr y ↦ (sign s.OpenParen y.0, suc d) ∷ (placed 0 (true_guard_pieces (suc d) y.1.0) ++ (sign s.CloseParen y.1.1, suc d) ∷ []) ];
  good = λ x. elim x [ inl u ↦ is_unary u && is_expr u | inr y ↦ is_true_guard y.1.0 ];
  stops = λ x h. elim x [ inl u ↦ ends_unary h | inr y ↦ true ];
}

abbrev head_parts : ℕ → Lang Token (Operand NameParts HeadTail)
head_parts d = operand_lang d 0 (name_part d 0) (head_tail_lang d)

abbrev head_to : CondHead → Operand NameParts HeadTail
head_to (inr y) = inr (inr (inr (y.0, inr (inr y.1.0, y.1.1))))
head_to (inl (Number m)) = inr (inl m)
head_to (inl (Name x)) = inr (inr (inl (x, None)))
head_to (inl (Index x before e after)) = inr (inr (inl (x, Some (before, (e, after)))))
head_to (inl (Paren before e after)) = inr (inr (inr (before, inr (inl e, after))))
head_to (inl (Cast before int after long x)) = inr (inr (inr (before, inl (int, (after, (long, x))))))
head_to (inl (Unary op at e)) = inl ((op, at), e)
head_to (inl (Operation a op at b)) = inr (inl (record { value = pos 0; spot = no_spot }))

head_back : (d : ℕ) (x : CondHead) → (head_lang d).good x ≡ true → cond_head_from (head_to x) ≡ x
head_back d (inr y) e = refl
head_back d (inl (Number m)) e = refl
head_back d (inl (Name x)) e = refl
head_back d (inl (Index x before i after)) e = refl
head_back d (inl (Paren before i after)) e = refl
head_back d (inl (Cast before int after long x)) e = refl
head_back d (inl (Unary op at i)) e = refl
head_back d (inl (Operation a op at b)) e = absurd cc

head_marks : (d : ℕ) (x : Operand NameParts HeadTail) → (head_lang d).marks (cond_head_from x) ≡ (head_parts d).marks x
head_marks d (inl x) = refl
head_marks d (inr (inl m)) = refl
head_marks d (inr (inr (inl x))) = name_marks d 0 x
head_marks d (inr (inr (inr (before, inl c)))) = paren_marks d 0 (before, inl c)
head_marks d (inr (inr (inr (before, inr (inl e, after))))) = paren_marks d 0 (before, inr (e, after))
head_marks d (inr (inr (inr (before, inr (inr g, after))))) = refl

head_good : (d : ℕ) (x : Operand NameParts HeadTail) → (head_lang d).good (cond_head_from x) ≡ (head_parts d).good x
head_good d (inl x) = refl
head_good d (inr (inl m)) = refl
head_good d (inr (inr (inl x))) = name_good d 0 x
head_good d (inr (inr (inr (before, inl c)))) = paren_good d 0 (before, inl c)
head_good d (inr (inr (inr (before, inr (inl e, after))))) = sym (and_true (is_expr e))
head_good d (inr (inr (inr (before, inr (inr g, after))))) = sym (and_true (is_true_guard g))

head_stops : (d : ℕ) (x : CondHead) (h : Option Token) → (head_lang d).stops x h ≡ true → (head_parts d).stops (head_to x) h ≡ true
head_stops d (inr y) h k = refl
head_stops d (inl (Number m)) h k = refl
head_stops d (inl (Name x)) h k = k
head_stops d (inl (Index x before e after)) h k = k
head_stops d (inl (Paren before e after)) h k = refl
head_stops d (inl (Cast before int after long x)) h k = refl
head_stops d (inl (Unary op at e)) h k = k
head_stops d (inl (Operation a op at b)) h k = refl

head_reader : (limit r d : ℕ) → r + d ≡ limit → IsReader limit (head_lang d) (cond_head_at limit r)
head_reader limit r d h = map_reader limit (head_parts d) (head_lang d) cond_head_from head_to
    (record {
      back = head_back d;
      good_back = λ x g. sym (head_good d (head_to x)) ∙ ap (head_lang d).good (head_back d x g) ∙ g;
      marks = λ x g. head_marks d x;
      good = λ x g. head_good d x ∙ g;
      stops = λ x k g e. head_stops d x k e;
    }) _
    (operand_reader d 0 (name_part d 0) (head_tail_lang d) limit (omega (arith, h)) (λ a k g. refl) (λ a k g. refl) _ _ _ (prefix_at_reader limit r d 0 limit h (omega arith)) (read_name_reader limit r d 0 limit h (omega arith)) (head_tail_reader limit r d h))

-- ---- behind a true guard in parentheses

guarded_reader : (limit n r d : ℕ) → r + d ≡ limit → IsReader limit (guarded_lang n d) (guarded_at n r)
guarded_reader limit n zero d h =
    let same : d ≡ limit = omega (arith, h) in
    subst (λ (x : ℕ). IsReader limit (guarded_lang n x) (guarded_at n zero)) (sym same) (shut_reader limit (guarded_lang n limit) is_paren (record {
      begun = λ a k g. refl;
      deep = λ a g. rw (lt-ltb limit (suc limit) (omega arith)) refl;
      each = λ x e. (
        (x.spot, (some_guard, no_spot)),
        tokens (guard_marks n (suc limit) some_guard ++ (sign s.CloseParen no_spot, suc limit) ∷ []),
        ap (λ (y : Token). y ∷ tokens (guard_marks n (suc limit) some_guard ++ (sign s.CloseParen no_spot, suc limit) ∷ [])) (sym (only_sign_token s.OpenParen x e)),
        refl,
      );
      some = (no_spot, (some_guard, no_spot));
      some_good = refl;
    }))
guarded_reader limit n (suc r) d h =
    let hd : suc d ≤ limit = omega (arith, h) in
    seq_reader limit (sign_lang s.OpenParen (suc d)) _ (λ _ _. true) (read_sign s.OpenParen) _ (sign_reader limit (suc d) hd s.OpenParen) (guard_closed limit n d hd) (λ a b k g1 g2 e. (refl, refl)) (some_guard, no_spot) refl

abbrev or_part : (d p : ℕ) → Lang Token (Spot × Guarded)
or_part d p = pair (sign_lang s.OrOr (max d (suc p))) (guarded_lang 0 d) (λ _ _. true)

or_part_reader : (limit r d p k : ℕ) → r + d ≡ limit → k ≡ limit - p → IsReader limit (or_part d p) (or_tail_at r k)
or_part_reader limit r d p zero h e = shut_reader limit (or_part d p) (is_sign s.OrOr) (record {
  begun = λ a k g. refl;
  deep = λ a g. rw (lt-ltb limit (max d (suc p)) (omega (arith, e))) refl;
  each = λ x i. ((x.spot, (no_spot, (some_guard, no_spot))), toks (guarded_lang 0 d) (no_spot, (some_guard, no_spot)), ap (λ (y : Token). y ∷ toks (guarded_lang 0 d) (no_spot, (some_guard, no_spot))) (sym (only_sign_token s.OrOr x i)), refl);
  some = (no_spot, (no_spot, (some_guard, no_spot)));
  some_good = refl;
})
or_part_reader limit r d p (suc m) h e = seq_reader limit (sign_lang s.OrOr (max d (suc p))) (guarded_lang 0 d) (λ _ _. true) (read_sign s.OrOr) (guarded_at 0 r) (sign_reader limit (max d (suc p)) (omega (arith, h, e)) s.OrOr)
    (guarded_reader limit 0 r d h) (λ a b k g1 g2 u. (refl, refl)) (no_spot, (some_guard, no_spot)) refl

abbrev is_or : Tail → Bool
is_or (inl ((Or, at), g)) = true
is_or _ = false

abbrev or_to : Tail → Spot × Guarded
or_to (inl (op, g)) = (op.1, g)
or_to (inr more) = (no_spot, (no_spot, (some_guard, no_spot)))

abbrev or_lang : (d p : ℕ) → Lang Token Tail
or_lang d p = record { marks = λ x. (or_part d p).marks (or_to x); good = is_or; stops = λ _ h. ends_expr h }

or_back : (x : Tail) → is_or x ≡ true → or_from (or_to x) ≡ x
or_back (inl ((Or, at), g)) e = refl
or_back _ e = absurd cc

or_reader : (limit r d p k : ℕ) → r + d ≡ limit → k ≡ limit - p → IsReader limit (or_lang d p) (mapped or_from (or_tail_at r k))
or_reader limit r d p k h e = map_reader limit (or_part d p) (or_lang d p) or_from or_to (record { back = or_back; good_back = λ x g. refl; marks = λ x g. refl; good = λ x g. refl; stops = λ x i g u. refl }) _ (or_part_reader limit r d p k h e)

-- ---- conditions

abbrev cond_tail_lang : (limit d : ℕ) → CondHead → Lang Token Tail
cond_tail_lang limit d (inl u) = tail_lang limit true (is_par u) d (0 + operators u)
cond_tail_lang limit d (inr y) = or_lang d (0 + guard_operators y.1.0)

abbrev cond_parts : (limit d : ℕ) → Lang Token (CondHead × Tail)
cond_parts limit d = pair_dep (head_lang d) (cond_tail_lang limit d) (λ _ h. ends_expr h)

cond_fits : (limit d : ℕ) (a : CondHead) (xs : Tail) (h : Option Token) → ends_expr h ≡ true → ((head_lang d).stops a (first (toks (cond_tail_lang limit d a) xs) h) ≡ true) × ((cond_tail_lang limit d a).stops xs h ≡ true)
cond_fits limit d (inl u) xs h e = (tail_fits limit true (is_par u) d (0 + operators u) xs h e, e)
cond_fits limit d (inr y) xs h e = (refl, e)

cond_tail_reader : (limit r d : ℕ) → r + d ≡ limit → (a : CondHead) → IsReader limit (cond_tail_lang limit d a) (cond_tail_at limit r a)
cond_tail_reader limit r d h (inl u) = tail_reader limit true (is_par u) r d (0 + operators u) (limit - operators u) h (omega arith)
cond_tail_reader limit r d h (inr y) = or_reader limit r d (0 + guard_operators y.1.0) (limit - guard_operators y.1.0) h (omega arith)

abbrev cond_to : Cond → CondHead × Tail
cond_to (Bare e) = (inl (lead e), inr (tail e []))
cond_to (OnTrue (TrueGuardOf before e after both before2 guard after2)) = (inl (Paren before e after), inl ((And, both), (before2, (guard, after2))))
cond_to (OnFalse before e after at before2 guard after2) = (inl (Paren before e after), inl ((Or, at), (before2, (guard, after2))))
cond_to (OnBoth before g after at before2 guard after2) = (inr (before, (g, after)), inl ((Or, at), (before2, (guard, after2))))

cond_back : (c : Cond) → is_cond c ≡ true → cond_from (cond_to c) ≡ c
cond_back (Bare e) g = ap Bare (group_back e g)
cond_back (OnTrue (TrueGuardOf before e after both before2 guard after2)) g = refl
cond_back (OnFalse before e after at before2 guard after2) g = refl
cond_back (OnBoth before t after at before2 guard after2) g = refl

cond_good_back : (limit d : ℕ) (c : Cond) → is_cond c ≡ true → (cond_parts limit d).good (cond_to c) ≡ true
cond_good_back limit d (Bare e) g = and_from _ _ (lead_good e g) (sym (links_good (tail e [])) ∙ tail_good e [] g refl)
cond_good_back limit d (OnTrue (TrueGuardOf before e after both before2 guard after2)) g = and_from _ _ g refl
cond_good_back limit d (OnFalse before e after at before2 guard after2) g = and_from _ _ g refl
cond_good_back limit d (OnBoth before t after at before2 guard after2) g = and_from _ _ g refl

count_true_guard : (d : ℕ) (g : TrueGuard) → count (true_guard_pieces d g) ≡ guard_operators g
count_true_guard d (TrueGuardOf before e after both before2 guard after2) =
    omega (arith, count-append (pieces (suc d) e) (closing 1 d after (And, both) (before2, (guard, after2))), count_is (suc d) e, count_closing 1 d after (And, both) (before2, (guard, after2)))

-- a guard of the whole condition behind an expression
guard_cond_marks : (limit d : ℕ) (before : Spot) (e : Expr) (after : Spot) (op : Binary) (at : Spot) (g : Guarded) → is_some (guard_digit true op) ≡ true
    → cond_marks d (guard_cond before e after op at g) ≡ placed 0 (pieces d (Paren before e after)) ++ tail_marks limit true d (0 + operators e) (inl ((op, at), g))
guard_cond_marks limit d before e after And at g k = expr_guarded 1 d 0 before e after (And, at) g
guard_cond_marks limit d before e after Or at g k = expr_guarded 0 d 0 before e after (Or, at) g
guard_cond_marks limit d before e after Equal at g k = absurd cc
guard_cond_marks limit d before e after NotEqual at g k = absurd cc
guard_cond_marks limit d before e after Less at g k = absurd cc
guard_cond_marks limit d before e after LessEqual at g k = absurd cc
guard_cond_marks limit d before e after Greater at g k = absurd cc
guard_cond_marks limit d before e after GreaterEqual at g k = absurd cc
guard_cond_marks limit d before e after Add at g k = absurd cc
guard_cond_marks limit d before e after Subtract at g k = absurd cc
guard_cond_marks limit d before e after Multiply at g k = absurd cc
guard_cond_marks limit d before e after Divide at g k = absurd cc
guard_cond_marks limit d before e after Remainder at g k = absurd cc

guard_cond_good : (before : Spot) (e : Expr) (after : Spot) (op : Binary) (at : Spot) (g : Guarded) → is_expr e ≡ true → is_cond (guard_cond before e after op at g) ≡ true
guard_cond_good before e after And at g k = k
guard_cond_good before e after _ at g k = k

both_marks : (limit d : ℕ) (y : Spot × (TrueGuard × Spot)) (at : Spot) (g : Guarded) → cond_marks d (OnBoth y.0 y.1.0 y.1.1 at g.0 g.1.0 g.1.1) ≡ (cond_parts limit d).marks (inr y, inl ((Or, at), g))
both_marks limit d y at g = guarded_marks 0 d 0 (guard_operators y.1.0) y.0 (true_guard_pieces (suc d) y.1.0) y.1.1 (Or, at) g (count_true_guard (suc d) y.1.0)

cond_marks_is : (limit d : ℕ) (x : CondHead × Tail) → (cond_parts limit d).good x ≡ true → cond_marks d (cond_from x) ≡ (cond_parts limit d).marks x
cond_marks_is limit d (inl u, inr more) g = flat_marks limit d 0 (u, more)
cond_marks_is limit d (inl (Paren before e after), inl ((op, at), g)) k = guard_cond_marks limit d before e after op at g (and_parts _ _ k).1
cond_marks_is limit d (inl (Number n), inl x) g = absurd cc
cond_marks_is limit d (inl (Name n), inl x) g = absurd cc
cond_marks_is limit d (inl (Index n before e after), inl x) g = and_false _ g
cond_marks_is limit d (inl (Cast before int after long n), inl x) g = absurd cc
cond_marks_is limit d (inl (Unary op at e), inl x) g = and_false _ g
cond_marks_is limit d (inl (Operation a op at b), inl x) g = absurd cc
cond_marks_is limit d (inr y, inl ((op, at), g)) k =
    let is : op ≡ Or = only_or op at g (and_parts _ _ k).1 in
    subst (λ (o : Binary). cond_marks d (OnBoth y.0 y.1.0 y.1.1 at g.0 g.1.0 g.1.1) ≡ (cond_parts limit d).marks (inr y, inl ((o, at), g))) (sym is) (both_marks limit d y at g)
  where
    only_or : (o : Binary) (at : Spot) (g : Guarded) → is_or (inl ((o, at), g)) ≡ true → o ≡ Or
    only_or Or at g e = refl
    only_or _ at g e = absurd cc
cond_marks_is limit d (inr (before, (TrueGuardOf before1 e after1 both before2 guard after2, after)), inr more) g = and_false _ g

cond_good_is : (limit d : ℕ) (x : CondHead × Tail) → (cond_parts limit d).good x ≡ true → is_cond (cond_from x) ≡ true
cond_good_is limit d (inl u, inr more) g = let gs = and_parts _ _ g in grow_good u more (and_parts _ _ gs.0).1 (links_good more ∙ gs.1)
cond_good_is limit d (inl (Paren before e after), inl ((op, at), g)) k = guard_cond_good before e after op at g (and_parts _ _ k).0
cond_good_is limit d (inl (Number n), inl x) g = absurd cc
cond_good_is limit d (inl (Name n), inl x) g = absurd cc
cond_good_is limit d (inl (Index n before e after), inl x) g = and_false _ g
cond_good_is limit d (inl (Cast before int after long n), inl x) g = absurd cc
cond_good_is limit d (inl (Unary op at e), inl x) g = and_false _ g
cond_good_is limit d (inl (Operation a op at b), inl x) g = absurd cc
cond_good_is limit d (inr y, inl ((op, at), g)) k = (and_parts _ _ k).0
cond_good_is limit d (inr (before, (TrueGuardOf before1 e after1 both before2 guard after2, after)), inr more) g = and_false _ g

abbrev some_tail : CondHead → Tail
some_tail (inl u) = inr []
some_tail (inr y) = inl ((Or, no_spot), (no_spot, (some_guard, no_spot)))

some_tail_good : (limit d : ℕ) (a : CondHead) → (cond_tail_lang limit d a).good (some_tail a) ≡ true
some_tail_good limit d (inl u) = refl
some_tail_good limit d (inr y) = refl

abbrev pub cond_lang : ℕ → Lang Token Cond
cond_lang d = record { marks = cond_marks d; good = is_cond; stops = λ _ h. ends_expr h }

pub cond_reader : (limit r d : ℕ) → r + d ≡ limit → IsReader limit (cond_lang d) (cond_at limit r)
unfolding cond_at
cond_reader limit r d h = map_reader limit (cond_parts limit d) (cond_lang d) cond_from cond_to
    (record { back = cond_back; good_back = cond_good_back limit d; marks = cond_marks_is limit d; good = cond_good_is limit d; stops = λ c i g u. cond_stops c i u }) _
    (dep_reader limit (head_lang d) (cond_tail_lang limit d) (λ _ h. ends_expr h) (cond_head_at limit r) (cond_tail_at limit r) (head_reader limit r d h) (cond_tail_reader limit r d h)
    (λ a xs i g1 g2 e. cond_fits limit d a xs i e) some_tail (λ a. some_tail_good limit d a))
  where
    cond_stops : (c : Cond) (i : Option Token) → ends_expr i ≡ true → ends_expr i ≡ true
    cond_stops c i e = e
