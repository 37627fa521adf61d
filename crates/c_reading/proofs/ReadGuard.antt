-- The laws of the readers of guards, and of an operand in whose place a guard may stand.
use Rattle.std.proofs.Common.{◌≡◌, ℕ, zero, suc, ◌+◌, ◌-◌, ◌≤◌, ℤ, pos, negsuc, max, Bool, true, false, ◌&&◌, List, [], ◌∷◌, ◌++◌, Option, Some, None, refl, sym, ap, subst, ◌∙◌, append_assoc, inl, inr, ◌⊎◌, cond, arith}
use Rattle.std.proofs.lemmas.Bool.{and_from, and_parts, lt-ltb, eqb-true, eq-eqb}
use Rattle.std.proofs.lemmas.List.{append-nil}
use Rattle.cfix_base.specs.declared.Spot.{Spot}
use Rattle.c_grammar.specs.declared.sign.Sign.TheVariants as s
use Rattle.c_grammar.specs.Marks.{first, tokens, each, maybe}
use Rattle.c_reading.specs.Reader.{Lang, toks, one_of, seq, seq_dep, holds, nothing}
use Rattle.c_grammar.specs.Token.{Kind, IsNumber, IsWord, Token, sign, digit, Mark}
use Rattle.c_grammar.specs.Expr.{Or, Expr, Number, Name, Index, Paren, Cast, Unary, Operation, is_unary, is_expr, Piece, plain, pieces, placed}
use Rattle.c_grammar.specs.Op.{Op, OpOf, op_marks}
use Rattle.c_grammar.specs.Cond.{Guard, GuardOf, op_pieces, guard_pieces}
use Rattle.c_reading.specs.Read.{read_sign}
use Rattle.c_reading.specs.ReadExpr.{is_some, is_binary, binary_of, begins_expr, begins_expr_kind, operators, Link, CastParts, NameParts, Operand, unary_at, expr_at, index_at}
use Rattle.c_reading.specs.ReadSimple.{is_paren}
use Rattle.c_reading.specs.ReadOp.{is_verb, verb_in, read_op}
use Rattle.c_reading.specs.ReadCond.{is_number_of, is_digit_kind, is_digit, at_digit, GuardParts, guard_from, read_guard, Guarded, guard_digit, SecondTail, second_from, second_tail_at, read_name_at, second_at, second_links_at, FirstLink, first_link_at, Tail, tail_from, tail_at}
use Rattle.c_reading.proofs.Reader.{IsReader, one_reader, pair, pair_dep, seq_reader, dep_reader, same_all, map_reader, sum, alt_reader, empty, nothing_reader, shut_reader, choice, choice_reader}
use Rattle.c_reading.proofs.Many.{items, many_reader}
use Rattle.c_reading.proofs.Token.{no_spot, only_sign_token, sign_lang, sign_reader}
use Rattle.c_reading.proofs.Group.{is_link}
use Rattle.c_reading.proofs.Chain.{chain_good}
use Rattle.c_reading.proofs.ReadExpr.{made, some_of, spelled, only_binary, binary_some, binary_ends_unary, binary_lang, binary_reader, ends_unary, ends_expr, not_true, apart, expr_begins, and_true, unary_lang, chain_lang, links_reader, some_expr, inside_part, inside_reader, name_part, name_reader, name_marks, paren_marks, name_good, paren_good, operand_lang, operand_reader, unary_reader, expr_reader, prefix_at_reader, index_at_reader}
use Rattle.c_reading.proofs.ReadValue.{no_links_lang, no_links_reader}
use Rattle.c_reading.proofs.ReadOp.{op_lang, op_reader, op_begins, no_verb, some_op, verb_some}

-- ---- the number at the end of a guard

only_number : (n : ℕ) (z : ℤ) → is_number_of n z ≡ true → z ≡ pos n
only_number n (pos m) e = ap pos (eqb-true m n e)
only_number n (negsuc m) e = absurd cc

only_digit_kind : (n : ℕ) (k : Kind) → is_digit_kind n k ≡ true → k ≡ IsNumber (pos n)
only_digit_kind n (IsNumber z) e = ap IsNumber (only_number n z e)
only_digit_kind n _ e = absurd cc

only_digit : (n : ℕ) (v : Bool) (t : Token) (at : Spot) → is_digit n t ≡ v → cond v (Some t.spot) None ≡ Some at → t ≡ digit n at
only_digit n true t at h e = let k : t.spot ≡ at = cc in ap (λ (z : Kind). made z t.spot) (only_digit_kind n t.kind h) ∙ ap (digit n) k
only_digit n false t at h e = absurd cc

abbrev digit_lang : (n d : ℕ) → Lang Token Spot
digit_lang n d = record { marks = λ at. (digit n at, d) ∷ []; good = λ _. true; stops = λ _ _. true }

digit_reader : (limit n d : ℕ) → d ≤ limit → IsReader limit (digit_lang n d) (one_of (at_digit n))
digit_reader limit n d h = one_reader limit (digit_lang n d) (at_digit n) (digit n) (record {
  back = λ at g. rw (eq-eqb n n refl) refl;
  only = λ t at e. (only_digit n (is_digit n t) t at refl e, refl);
  depth = d;
  marks = λ at. refl;
  shallow = h;
  some = no_spot;
  some_good = refl;
})

-- ---- guards

abbrev pub guard_marks : (n d : ℕ) → Guard → List Mark
guard_marks n d (GuardOf op comma more at) = op_marks d op ++ ((sign s.Comma comma, d) ∷ (each (λ x. op_marks d x.0 ++ (sign s.Comma x.1, d) ∷ []) more ++ (digit n at, d) ∷ []))

op_placed : (p d : ℕ) (op : Op) (ys : List Piece) → placed p (op_pieces d op ++ ys) ≡ op_marks d op ++ placed p ys
op_placed p d (OpOf verb at before n after) ys = refl

ops_placed : (p d : ℕ) (more : List (Op × Spot)) (ys : List Piece) → placed p (each (λ x. op_pieces d x.0 ++ plain (sign s.Comma x.1) d ∷ []) more ++ ys) ≡ each (λ x. op_marks d x.0 ++ (sign s.Comma x.1, d) ∷ []) more ++ placed p ys
ops_placed p d [] ys = refl
ops_placed p d ((OpOf verb at before n after, c) ∷ more) ys =
    ap (λ (z : List Mark). op_marks d (OpOf verb at before n after) ++ ((sign s.Comma c, d) ∷ z)) (ops_placed p d more ys)

-- a guard has no binary operator
pub guard_placed : (p n d : ℕ) (g : Guard) (ys : List Piece) → placed p (guard_pieces n d g ++ ys) ≡ guard_marks n d g ++ placed p ys
guard_placed p n d (GuardOf (OpOf verb at before m after) comma more spot) ys =
    ap (λ (z : List Mark). op_marks d (OpOf verb at before m after) ++ ((sign s.Comma comma, d) ∷ z))
    (ap (placed p) (append_assoc (each (λ x. op_pieces d x.0 ++ plain (sign s.Comma x.1) d ∷ []) more) (plain (digit n spot) d ∷ []) ys) ∙ ops_placed p d more (plain (digit n spot) d ∷ ys) ∙ sym (append_assoc (each (λ x. op_marks d x.0 ++ (sign s.Comma x.1, d) ∷ []) more) ((digit n spot, d) ∷ []) (placed p ys)))

abbrev pub guard_lang : (n d : ℕ) → Lang Token Guard
guard_lang n d = record { marks = guard_marks n d; good = λ _. true; stops = λ _ _. true }

abbrev comma_ops : ℕ → Lang Token (List (Op × Spot))
comma_ops d = items (pair (op_lang d) (sign_lang s.Comma d) (λ _ _. true)) no_verb

comma_ops_good : (d : ℕ) (xs : List (Op × Spot)) → (comma_ops d).good xs ≡ true
comma_ops_good d [] = refl
comma_ops_good d (x ∷ xs) = comma_ops_good d xs

abbrev guard_parts : (n d : ℕ) → Lang Token GuardParts
guard_parts n d = pair (op_lang d) (pair (sign_lang s.Comma d) (pair (comma_ops d) (digit_lang n d) (λ _ _. true)) (λ _ _. true)) (λ _ _. true)

abbrev guard_to : Guard → GuardParts
guard_to (GuardOf op comma more at) = (op, (comma, (more, at)))

guard_back : (g : Guard) → guard_from (guard_to g) ≡ g
guard_back (GuardOf op comma more at) = refl

pub guard_reader : (limit n d : ℕ) → d ≤ limit → IsReader limit (guard_lang n d) (read_guard n)
guard_reader limit n d h = map_reader limit (guard_parts n d) (guard_lang n d) guard_from guard_to
    (same_all (guard_parts n d) (guard_lang n d) guard_from guard_to guard_back (λ x. refl) (λ x. sym (and_true _ ∙ comma_ops_good d x.1.1.0)) (λ x k e. refl)) _
    (seq_reader limit _ _ (λ _ _. true) read_op _ (op_reader limit d h)
    (seq_reader limit _ _ (λ _ _. true) (read_sign s.Comma) _ (sign_reader limit d h s.Comma)
    (seq_reader limit (comma_ops d) (digit_lang n d) (λ _ _. true) _ _
    (many_reader limit (pair (op_lang d) (sign_lang s.Comma d) (λ _ _. true)) is_verb no_verb
    (record { begun = λ x k g. op_begins d x.0 _ k; ends = λ k e. not_true _ e; stops_more = λ x k g e. refl; stops_last = λ x k g e. refl }) (seq read_op (read_sign s.Comma))
    (seq_reader limit (op_lang d) (sign_lang s.Comma d) (λ _ _. true) read_op (read_sign s.Comma) (op_reader limit d h) (sign_reader limit d h s.Comma) (λ a b k g1 g2 e. (refl, refl)) no_spot refl))
    (digit_reader limit n d h) (λ a b k g1 g2 e. (refl, refl)) no_spot refl)
    (λ a b k g1 g2 e. (refl, refl)) ([], no_spot) refl)
    (λ a b k g1 g2 e. (refl, refl)) (no_spot, ([], no_spot)) refl)

guard_begins : (n d : ℕ) (g : Guard) (more : List Mark) (h : Option Token) → holds is_verb (first (tokens (guard_marks n d g ++ more)) h) ≡ true
guard_begins n d (GuardOf (OpOf verb at before m after) comma xs spot) more h = verb_some verb at

abbrev pub guarded_lang : (n d : ℕ) → Lang Token Guarded
guarded_lang n d = pair (sign_lang s.OpenParen (suc d)) (pair (guard_lang n (suc d)) (sign_lang s.CloseParen (suc d)) (λ _ _. true)) (λ _ _. true)

abbrev pub some_guard : Guard
some_guard = GuardOf some_op no_spot [] no_spot

pub guard_closed : (limit n d : ℕ) → suc d ≤ limit → IsReader limit (pair (guard_lang n (suc d)) (sign_lang s.CloseParen (suc d)) (λ _ _. true)) (seq (read_guard n) (read_sign s.CloseParen))
guard_closed limit n d h = seq_reader limit (guard_lang n (suc d)) (sign_lang s.CloseParen (suc d)) (λ _ _. true) (read_guard n) (read_sign s.CloseParen) (guard_reader limit n (suc d) h) (sign_reader limit (suc d) h s.CloseParen) (λ a b k g1 g2 e. (refl, refl)) no_spot refl

-- ---- the operand behind the first operator

abbrev second_tail_part : (n d p : ℕ) → Lang Token ((Guard × Spot) ⊎ (CastParts ⊎ (Expr × Spot)))
second_tail_part n d p = choice (pair (guard_lang n (suc d)) (sign_lang s.CloseParen (suc d)) (λ _ _. true)) (inside_part d p)

abbrev second_tail_lang : (n d p : ℕ) → Lang Token SecondTail
second_tail_lang n d p = pair (sign_lang s.OpenParen (suc d)) (second_tail_part n d p) (λ x h. (second_tail_part n d p).stops x.1 h)

expr_no_verb_kind : (at : Spot) (k : Kind) → begins_expr_kind k ≡ true → is_some (verb_in k at) ≡ false
expr_no_verb_kind at (IsWord x) e = absurd cc
expr_no_verb_kind at _ e = refl

pub expr_no_verb : (d p : ℕ) (e : Expr) (more : List Mark) (h : Option Token) → holds is_verb (first (tokens (placed p (pieces d e) ++ more)) h) ≡ false
expr_no_verb d p e more h = apart begins_expr is_verb (λ y. expr_no_verb_kind y.spot y.kind) _ (expr_begins d p e more h)

inside_no_verb : (d p : ℕ) (c : CastParts ⊎ (Expr × Spot)) (h : Option Token) → holds is_verb (first (toks (inside_part d p) c) h) ≡ false
inside_no_verb d p (inl x) h = refl
inside_no_verb d p (inr x) h = expr_no_verb (suc d) p x.0 _ h

second_tail_reader : (limit n r d p k : ℕ) → r + d ≡ limit → k ≡ limit - p → IsReader limit (second_tail_lang n d p) (second_tail_at n r k)
second_tail_reader limit n zero d p k h e =
    let same : d ≡ limit = omega (arith, h) in
    subst (λ (x : ℕ). IsReader limit (second_tail_lang n x p) (second_tail_at n zero k)) (sym same) (shut_reader limit (second_tail_lang n limit p) is_paren (record {
      begun = λ a k g. refl;
      deep = λ a g. rw (lt-ltb limit (suc limit) (omega arith)) refl;
      each = λ x e. (
        (x.spot, inr (inr (some_expr, no_spot))),
        tokens (placed p (pieces (suc limit) some_expr) ++ (sign s.CloseParen no_spot, suc limit) ∷ []),
        ap (λ (y : Token). y ∷ tokens (placed p (pieces (suc limit) some_expr) ++ (sign s.CloseParen no_spot, suc limit) ∷ [])) (sym (only_sign_token s.OpenParen x e)),
        refl,
      );
      some = (no_spot, inr (inr (some_expr, no_spot)));
      some_good = refl;
    }))
second_tail_reader limit n (suc r) d p k h e =
    let hd : suc d ≤ limit = omega (arith, h) in
    seq_reader limit (sign_lang s.OpenParen (suc d)) (second_tail_part n d p) (λ x h. (second_tail_part n d p).stops x.1 h) (read_sign s.OpenParen) _ (sign_reader limit (suc d) hd s.OpenParen)
    (choice_reader limit is_verb (pair (guard_lang n (suc d)) (sign_lang s.CloseParen (suc d)) (λ _ _. true)) (inside_part d p) _ _ (λ a k g. guard_begins n (suc d) a.0 _ k) (λ c k g e. inside_no_verb d p c k)
    (guard_closed limit n d hd) (inside_reader limit d p hd (expr_at r k) (expr_reader limit r (suc d) p k (omega (arith, h)) e)))
    (λ a b k g1 g2 e. (refl, e)) (inr (inr (some_expr, no_spot))) refl

-- the operand or the guard, where a guard ends with the number o
abbrev digit_value : Option ℕ → ℕ
digit_value o = maybe 0 (λ n. n) o

abbrev second_lang : (o : Option ℕ) (d p : ℕ) → Lang Token (Guarded ⊎ Expr)
second_lang o d p = record {
  marks = λ x. elim x [ inl g ↦ (guarded_lang (digit_value o) d).marks g | inr v ↦ placed p (pieces d v) ];
  good = λ x. elim x [ inl g ↦ is_some o | inr v ↦ is_unary v && is_expr v ];
  stops = λ x h. elim x [ inl g ↦ true | inr v ↦ ends_unary h ];
}

abbrev second_parts : (n d p : ℕ) → Lang Token (Operand NameParts SecondTail)
second_parts n d p = operand_lang d p (name_part d p) (second_tail_lang n d p)

abbrev second_to : Guarded ⊎ Expr → Operand NameParts SecondTail
second_to (inl g) = inr (inr (inr (g.0, inl g.1)))
second_to (inr (Number m)) = inr (inl m)
second_to (inr (Name x)) = inr (inr (inl (x, None)))
second_to (inr (Index x before e after)) = inr (inr (inl (x, Some (before, (e, after)))))
second_to (inr (Paren before e after)) = inr (inr (inr (before, inr (inr (e, after)))))
second_to (inr (Cast before int after long x)) = inr (inr (inr (before, inr (inl (int, (after, (long, x)))))))
second_to (inr (Unary op at e)) = inl ((op, at), e)
second_to (inr (Operation a op at b)) = inr (inl (record { value = pos 0; spot = no_spot }))

second_back : (n d p : ℕ) (x : Guarded ⊎ Expr) → (second_lang (Some n) d p).good x ≡ true → second_from (second_to x) ≡ x
second_back n d p (inl g) e = refl
second_back n d p (inr (Number m)) e = refl
second_back n d p (inr (Name x)) e = refl
second_back n d p (inr (Index x before i after)) e = refl
second_back n d p (inr (Paren before i after)) e = refl
second_back n d p (inr (Cast before int after long x)) e = refl
second_back n d p (inr (Unary op at i)) e = refl
second_back n d p (inr (Operation a op at b)) e = absurd cc

second_marks : (n d p : ℕ) (x : Operand NameParts SecondTail) → (second_lang (Some n) d p).marks (second_from x) ≡ (second_parts n d p).marks x
second_marks n d p (inl x) = refl
second_marks n d p (inr (inl m)) = refl
second_marks n d p (inr (inr (inl x))) = name_marks d p x
second_marks n d p (inr (inr (inr (before, inl g)))) = refl
second_marks n d p (inr (inr (inr (before, inr x)))) = paren_marks d p (before, x)

second_good : (n d p : ℕ) (x : Operand NameParts SecondTail) → (second_lang (Some n) d p).good (second_from x) ≡ (second_parts n d p).good x
second_good n d p (inl x) = refl
second_good n d p (inr (inl m)) = refl
second_good n d p (inr (inr (inl x))) = name_good d p x
second_good n d p (inr (inr (inr (before, inl g)))) = refl
second_good n d p (inr (inr (inr (before, inr x)))) = paren_good d p (before, x)

second_stops : (n d p : ℕ) (x : Guarded ⊎ Expr) (h : Option Token) → (second_lang (Some n) d p).stops x h ≡ true → (second_parts n d p).stops (second_to x) h ≡ true
second_stops n d p (inl g) h k = refl
second_stops n d p (inr (Number m)) h k = refl
second_stops n d p (inr (Name x)) h k = k
second_stops n d p (inr (Index x before e after)) h k = k
second_stops n d p (inr (Paren before e after)) h k = refl
second_stops n d p (inr (Cast before int after long x)) h k = refl
second_stops n d p (inr (Unary op at e)) h k = k
second_stops n d p (inr (Operation a op at b)) h k = refl

pub read_name_reader : (limit r d p k : ℕ) → r + d ≡ limit → k ≡ limit - p → IsReader limit (name_part d p) (read_name_at r k)
read_name_reader limit r d p k h e = name_reader limit d p (omega (arith, h)) (index_at r k) (index_at_reader limit r d p k h e)

abbrev plain_second : Guarded ⊎ Expr → Expr
plain_second (inl g) = some_expr
plain_second (inr v) = v

second_reader : (limit : ℕ) (o : Option ℕ) (r d p k : ℕ) → r + d ≡ limit → k ≡ limit - p → IsReader limit (second_lang o d p) (second_at o r k)
second_reader limit None r d p k h e = map_reader limit (unary_lang d p) (second_lang None d p) inr plain_second
    (record {
      back = elim [ inl g ↦ λ e. absurd cc | inr v ↦ λ e. refl ];
      good_back = elim [ inl g ↦ λ e. absurd cc | inr v ↦ λ e. e ];
      marks = λ v e. refl;
      good = λ v e. e;
      stops = elim [ inl g ↦ λ h e k. absurd cc | inr v ↦ λ h e k. k ];
    }) _ (unary_reader limit r d p k h e)
second_reader limit (Some n) r d p k h e = map_reader limit (second_parts n d p) (second_lang (Some n) d p) second_from second_to
    (record {
      back = second_back n d p;
      good_back = λ x g. sym (second_good n d p (second_to x)) ∙ ap (second_lang (Some n) d p).good (second_back n d p x g) ∙ g;
      marks = λ x g. second_marks n d p x;
      good = λ x g. second_good n d p x ∙ g;
      stops = λ x i g u. second_stops n d p x i u;
    }) _
    (operand_reader d p (name_part d p) (second_tail_lang n d p) limit (omega (arith, h)) (λ a k g. refl) (λ a k g. refl) _ _ _ (prefix_at_reader limit r d p k h e) (read_name_reader limit r d p k h e) (second_tail_reader limit n r d p k h e))

-- ---- an operator with what stands behind it

abbrev second_links_lang : (limit d p : ℕ) → Guarded ⊎ Expr → Lang Token (List Link)
second_links_lang limit d p (inl g) = no_links_lang
second_links_lang limit d p (inr v) = chain_lang limit d (p + suc (operators v))

abbrev behind_lang : (limit : ℕ) (o : Option ℕ) (d p : ℕ) → Lang Token ((Guarded ⊎ Expr) × List Link)
behind_lang limit o d p = pair_dep (second_lang o d (suc p)) (second_links_lang limit d p) (λ _ h. ends_expr h)

abbrev first_link_lang : (limit : ℕ) (top : Bool) (d p : ℕ) → Lang Token FirstLink
first_link_lang limit top d p = pair_dep (binary_lang d p) (λ op. behind_lang limit (guard_digit top op.0) d p) (λ _ h. ends_expr h)

behind_fits : (limit : ℕ) (o : Option ℕ) (d p : ℕ) (a : Guarded ⊎ Expr) (xs : List Link) (h : Option Token) → ends_expr h ≡ true → ((second_lang o d (suc p)).stops a (first (toks (second_links_lang limit d p a) xs) h) ≡ true) × ((second_links_lang limit d p a).stops xs h ≡ true)
behind_fits limit o d p (inl g) xs h e = (refl, refl)
behind_fits limit o d p (inr v) [] h e = ((and_parts _ _ e).0, e)
behind_fits limit o d p (inr v) (x ∷ xs) h e = (binary_ends_unary (Some (spelled x.0)) (binary_some x.0.0 x.0.1), e)

second_links_reader : (limit r d p m : ℕ) → r + d ≡ limit → m ≡ limit - suc p → (a : Guarded ⊎ Expr) → IsReader limit (second_links_lang limit d p a) (second_links_at r m a)
second_links_reader limit r d p m h e (inl g) = no_links_reader limit
second_links_reader limit r d p m h e (inr v) = links_reader limit d (omega (arith, h)) (λ k. unary_at r k) (λ n k e. unary_reader limit r d n k h e) (p + suc (operators v)) (m - operators v) (omega (arith, e))

first_link_reader : (limit : ℕ) (top : Bool) (r d p k : ℕ) → r + d ≡ limit → k ≡ limit - p → IsReader limit (first_link_lang limit top d p) (first_link_at top r k)
first_link_reader limit top r d p zero h e = shut_reader limit (first_link_lang limit top d p) is_binary (record {
  begun = λ a k g. binary_some a.0.0 a.0.1;
  deep = λ a g. rw (lt-ltb limit (max d (suc p)) (omega (arith, e))) refl;
  each = λ x i. let o = some_of (binary_of x) i in ((o.0, (inr some_expr, [])), tokens (placed (suc p) (pieces d some_expr) ++ []), ap (λ (y : Token). y ∷ tokens (placed (suc p) (pieces d some_expr) ++ [])) (sym (only_binary x.kind x.spot o.0 o.1)), refl);
  some = ((Or, no_spot), (inr some_expr, []));
  some_good = refl;
})
first_link_reader limit top r d p (suc m) h e =
    dep_reader limit (binary_lang d p) (λ op. behind_lang limit (guard_digit top op.0) d p) (λ _ h. ends_expr h) (one_of binary_of) (λ op. seq_dep (second_at (guard_digit top op.0) r m) (second_links_at r m))
    (binary_reader limit d p (omega (arith, h)) (omega (arith, e)))
    (λ op. dep_reader limit (second_lang (guard_digit top op.0) d (suc p)) (second_links_lang limit d p) (λ _ h. ends_expr h) (second_at (guard_digit top op.0) r m) (second_links_at r m)
    (second_reader limit (guard_digit top op.0) r d (suc p) m h (omega (arith, e))) (second_links_reader limit r d p m h (omega (arith, e)))
    (λ a xs k g1 g2 u. behind_fits limit (guard_digit top op.0) d p a xs k u) (λ a. []) (elim [ inl g ↦ refl | inr v ↦ refl ]))
    (λ a b k g1 g2 u. (refl, u)) (λ op. (inr some_expr, [])) (λ op. refl)

-- ---- what stands behind the first operand

abbrev pub tail_marks : (limit : ℕ) (top : Bool) (d p : ℕ) → Tail → List Mark
tail_marks limit top d p (inl (op, g)) = (spelled op, max d (suc p)) ∷ (guarded_lang (digit_value (guard_digit top op.0)) d).marks g
tail_marks limit top d p (inr more) = (chain_lang limit d p).marks more

abbrev pub is_tail : (top guards : Bool) → Tail → Bool
is_tail top guards (inl (op, g)) = guards && is_some (guard_digit top op.0)
is_tail top guards (inr more) = chain_good is_link more

abbrev pub tail_lang : (limit : ℕ) (top guards : Bool) (d p : ℕ) → Lang Token Tail
tail_lang limit top guards d p = record { marks = tail_marks limit top d p; good = is_tail top guards; stops = λ _ h. ends_expr h }

abbrev tail_parts : (limit : ℕ) (top : Bool) (d p : ℕ) → Lang Token (FirstLink ⊎ Unit {0})
tail_parts limit top d p = sum (first_link_lang limit top d p) empty (λ _ h. ends_expr h)

abbrev tail_to : Tail → FirstLink ⊎ Unit {0}
tail_to (inl (op, g)) = inl (op, (inl g, []))
tail_to (inr []) = inr tt
tail_to (inr (x ∷ more)) = inl (x.0, (inr x.1, more))

tail_back : (x : Tail) → tail_from (tail_to x) ≡ x
tail_back (inl (op, g)) = refl
tail_back (inr []) = refl
tail_back (inr (x ∷ more)) = refl

tail_good_back : (limit : ℕ) (top : Bool) (d p : ℕ) (x : Tail) → is_tail top true x ≡ true → (tail_parts limit top d p).good (tail_to x) ≡ true
tail_good_back limit top d p (inl (op, g)) e = and_from _ _ e refl
tail_good_back limit top d p (inr []) e = refl
tail_good_back limit top d p (inr (x ∷ more)) e = e

tail_marks_is : (limit : ℕ) (top : Bool) (d p : ℕ) (x : FirstLink ⊎ Unit {0}) → tail_marks limit top d p (tail_from x) ≡ (tail_parts limit top d p).marks x
tail_marks_is limit top d p (inl (op, (inl g, more))) = ap (λ (z : List Mark). (spelled op, max d (suc p)) ∷ z) (sym (append-nil ((guarded_lang (digit_value (guard_digit top op.0)) d).marks g)))
tail_marks_is limit top d p (inl (op, (inr v, more))) = refl
tail_marks_is limit top d p (inr u) = refl

tail_good_is : (limit : ℕ) (top : Bool) (d p : ℕ) (x : FirstLink ⊎ Unit {0}) → (tail_parts limit top d p).good x ≡ true → is_tail top true (tail_from x) ≡ true
tail_good_is limit top d p (inl (op, (inl g, more))) e = (and_parts _ _ e).0
tail_good_is limit top d p (inl (op, (inr v, more))) e = e
tail_good_is limit top d p (inr u) e = refl

abbrev links_of : Tail → List Link
links_of (inl x) = []
links_of (inr more) = more

pub tail_reader : (limit : ℕ) (top guards : Bool) (r d p k : ℕ) → r + d ≡ limit → k ≡ limit - p → IsReader limit (tail_lang limit top guards d p) (tail_at top guards r k)
tail_reader limit top true r d p k h e = map_reader limit (tail_parts limit top d p) (tail_lang limit top true d p) tail_from tail_to
    (record {
      back = λ x g. tail_back x;
      good_back = tail_good_back limit top d p;
      marks = λ x g. tail_marks_is limit top d p x;
      good = tail_good_is limit top d p;
      stops = λ x i g u. u;
    }) _
    (alt_reader limit is_binary (first_link_lang limit top d p) empty (λ _ h. ends_expr h) (first_link_at top r k) nothing
    (record { one = λ a h g. binary_some a.0.0 a.0.1; other = λ c h g u. not_true _ (and_parts _ _ u).1; stops_one = λ a h g u. u; stops_other = λ c h g u. refl }) (first_link_reader limit top r d p k h e) (nothing_reader limit))
tail_reader limit top false r d p k h e = map_reader limit (chain_lang limit d p) (tail_lang limit top false d p) inr links_of
    (record {
      back = elim [ inl x ↦ λ g. absurd cc | inr more ↦ λ g. refl ];
      good_back = elim [ inl x ↦ λ g. absurd cc | inr more ↦ λ g. g ];
      marks = λ x g. refl;
      good = λ x g. g;
      stops = λ x i g u. u;
    }) _ (links_reader limit d (omega (arith, h)) (λ k. unary_at r k) (λ n k e. unary_reader limit r d n k h e) p k e)
