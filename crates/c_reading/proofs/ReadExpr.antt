-- The laws of the readers of expressions.
use Rattle.std.proofs.Common.{◌≡◌, ℕ, zero, suc, ◌+◌, ◌-◌, ◌≤◌, max, pos, Bool, true, false, not, ◌&&◌, List, [], ◌∷◌, ◌++◌, Option, Some, None, refl, sym, ap, subst, ◌∙◌, append_assoc, inl, inr, ◌⊎◌, arith}
use Rattle.std.proofs.lemmas.Bool.{and_from, and_parts, lt-ltb}
use Rattle.cfix_base.specs.declared.Spot.{Spot}
use Rattle.c_grammar.specs.declared.word.Word.TheVariants as w
use Rattle.c_grammar.specs.declared.sign.Sign.{Sign}
use Rattle.c_grammar.specs.declared.sign.Sign.TheVariants as s
use Rattle.c_reading.specs.Reader.{Out, first_deep, Lang, toks, one_of, seq, seq_dep, holds, shut, maybe_read}
use Rattle.c_grammar.specs.Marks.{first, tokens, each}
use Rattle.c_grammar.specs.Token.{Kind, IsName, IsWord, IsSign, Token, Numeral, ident, sign, Mark}
use Rattle.c_grammar.specs.Expr.{Prefix, Negate, Invert, Binary, Or, And, Equal, NotEqual, Less, LessEqual, Greater, GreaterEqual, Add, Subtract, Multiply, Divide, Remainder, prefix_sign, binary_sign, Expr, Number, Name, Index, Paren, Cast, Unary, Operation, is_unary, is_expr, plain, pieces, placed}
use Rattle.c_reading.specs.Read.{is_word, is_word_kind, is_sign, is_sign_kind, is_name, is_name_kind, is_number, read_word, read_sign, read_ident, read_numeral}
use Rattle.c_reading.specs.ReadExpr.{prefix_in, binary_in, prefix_of, binary_of, is_some, is_prefix, is_binary, operators, Link, group, link_with, links_with, expr_with, Bracketed, CastParts, Parenthesised, read_long, read_cast, inside_with, unary_with, unary_at, expr_at, paren_from, operand_with, NameParts, Operand, name_from, operand_from, index_at, begins_expr_kind, paren_at, begins_expr, prefix_at}
use Rattle.c_reading.proofs.Reader.{IsReader, one_reader, pair, pair_dep, seq_reader, dep_reader, Same, map_reader, sum, alt_reader, shut_reader, tokens-append, optional, maybe_reader, choice, choice_reader}
use Rattle.c_reading.proofs.Chain.{chain_marks, chain_good, links, IsLink, chain_reader}
use Rattle.c_reading.proofs.Token.{only_sign_token, no_spot, word_lang, sign_lang, ident_lang, numeral_lang, word_reader, sign_reader, ident_reader, numeral_reader}
use Rattle.c_reading.proofs.Group.{count, count_is, placed-append, bare, bare-append, placed_tokens, link_pieces, grow_pieces, is_link, are_links, grow_good, tail, lead_good, tail_good, flatten, group_back}

-- ---- operators

prefix_back : (op : Prefix) (at : Spot) → prefix_of (sign (prefix_sign op) at) ≡ Some (op, at)
prefix_back Negate at = refl
prefix_back Invert at = refl

prefix_some : (op : Prefix) (at : Spot) → is_prefix (sign (prefix_sign op) at) ≡ true
prefix_some Negate at = refl
prefix_some Invert at = refl

only_prefix : (k : Kind) (at : Spot) (x : Prefix × Spot) → prefix_in k at ≡ Some x → let y : Token = record { kind = k; spot = at } in y ≡ sign (prefix_sign x.0) x.1
only_prefix (IsSign s.Minus) at x e = let h : (Negate, at) ≡ x = cc in ap (λ (z : Prefix × Spot). sign (prefix_sign z.0) z.1) h
only_prefix (IsSign s.Not) at x e = let h : (Invert, at) ≡ x = cc in ap (λ (z : Prefix × Spot). sign (prefix_sign z.0) z.1) h
only_prefix _ at x e = absurd cc

binary_back : (op : Binary) (at : Spot) → binary_of (sign (binary_sign op) at) ≡ Some (op, at)
binary_back Or at = refl
binary_back And at = refl
binary_back Equal at = refl
binary_back NotEqual at = refl
binary_back Less at = refl
binary_back LessEqual at = refl
binary_back Greater at = refl
binary_back GreaterEqual at = refl
binary_back Add at = refl
binary_back Subtract at = refl
binary_back Multiply at = refl
binary_back Divide at = refl
binary_back Remainder at = refl

pub binary_some : (op : Binary) (at : Spot) → is_binary (sign (binary_sign op) at) ≡ true
binary_some op at = ap is_some (binary_back op at)

abbrev pub spelled : Binary × Spot → Token
spelled x = sign (binary_sign x.0) x.1

abbrev pub made : Kind → Spot → Token
made k at = record { kind = k; spot = at }

pub only_binary : (k : Kind) (at : Spot) (x : Binary × Spot) → binary_in k at ≡ Some x → made k at ≡ spelled x
only_binary (IsSign s.OrOr) at x e = let h : (Or, at) ≡ x = cc in ap spelled h
only_binary (IsSign s.AndAnd) at x e = let h : (And, at) ≡ x = cc in ap spelled h
only_binary (IsSign s.Equal) at x e = let h : (Equal, at) ≡ x = cc in ap spelled h
only_binary (IsSign s.NotEqual) at x e = let h : (NotEqual, at) ≡ x = cc in ap spelled h
only_binary (IsSign s.Less) at x e = let h : (Less, at) ≡ x = cc in ap spelled h
only_binary (IsSign s.LessEqual) at x e = let h : (LessEqual, at) ≡ x = cc in ap spelled h
only_binary (IsSign s.Greater) at x e = let h : (Greater, at) ≡ x = cc in ap spelled h
only_binary (IsSign s.GreaterEqual) at x e = let h : (GreaterEqual, at) ≡ x = cc in ap spelled h
only_binary (IsSign s.Plus) at x e = let h : (Add, at) ≡ x = cc in ap spelled h
only_binary (IsSign s.Minus) at x e = let h : (Subtract, at) ≡ x = cc in ap spelled h
only_binary (IsSign s.Star) at x e = let h : (Multiply, at) ≡ x = cc in ap spelled h
only_binary (IsSign s.Slash) at x e = let h : (Divide, at) ≡ x = cc in ap spelled h
only_binary (IsSign s.Percent) at x e = let h : (Remainder, at) ≡ x = cc in ap spelled h
only_binary _ at x e = absurd cc

pub some_of : {A : Type 0} (o : Option A) → is_some o ≡ true → (a : A) × (o ≡ Some a)
some_of None e = absurd cc
some_of (Some a) e = (a, refl)

abbrev pub prefix_lang : ℕ → Lang Token (Prefix × Spot)
prefix_lang d = record { marks = λ x. (sign (prefix_sign x.0) x.1, d) ∷ []; good = λ _. true; stops = λ _ _. true }

prefix_reader : (limit d : ℕ) → d ≤ limit → IsReader limit (prefix_lang d) (one_of prefix_of)
prefix_reader limit d h = one_reader limit (prefix_lang d) prefix_of (λ x. sign (prefix_sign x.0) x.1) (record {
  back = λ x g. prefix_back x.0 x.1;
  only = λ t x e. (only_prefix t.kind t.spot x e, refl);
  depth = d;
  marks = λ x. refl;
  shallow = h;
  some = (Negate, no_spot);
  some_good = refl;
})

-- a binary operator in d constructs, with n operators before it in its chain
abbrev pub binary_lang : ℕ → ℕ → Lang Token (Binary × Spot)
binary_lang d n = record { marks = λ x. (spelled x, max d (suc n)) ∷ []; good = λ _. true; stops = λ _ _. true }

pub binary_reader : (limit d n : ℕ) → d ≤ limit → suc n ≤ limit → IsReader limit (binary_lang d n) (one_of binary_of)
binary_reader limit d n h k = one_reader limit (binary_lang d n) binary_of spelled (record {
  back = λ x g. binary_back x.0 x.1;
  only = λ t x e. (only_binary t.kind t.spot x e, refl);
  depth = max d (suc n);
  marks = λ x. refl;
  shallow = omega (arith, h, k);
  some = (Or, no_spot);
  some_good = refl;
})

-- ---- what may follow

abbrev pub is_bracket : Token → Bool
is_bracket = is_sign s.OpenBracket

abbrev pub ends_unary : Option Token → Bool
ends_unary h = not (holds is_bracket h)

abbrev pub ends_expr : Option Token → Bool
ends_expr h = not (holds is_bracket h) && not (holds is_binary h)

pub not_true : (v : Bool) → not v ≡ true → v ≡ false
not_true true e = absurd cc
not_true false e = refl

binary_no_bracket : (k : Kind) (at : Spot) → is_some (binary_in k at) ≡ true → not (is_sign_kind s.OpenBracket k) ≡ true
binary_no_bracket (IsSign s.OpenBracket) at e = absurd cc
binary_no_bracket _ at e = refl

pub binary_ends_unary : (h : Option Token) → holds is_binary h ≡ true → ends_unary h ≡ true
binary_ends_unary None e = refl
binary_ends_unary (Some x) e = binary_no_bracket x.kind x.spot e

-- ---- what an expression begins with

prefix_begins : (op : Prefix) → begins_expr_kind (IsSign (prefix_sign op)) ≡ true
prefix_begins Negate = refl
prefix_begins Invert = refl

bare_begins : (d : ℕ) (e : Expr) (more : List Token) (h : Option Token) → holds begins_expr (first (bare (pieces d e) ++ more) h) ≡ true
bare_begins d (Number n) more h = refl
bare_begins d (Name x) more h = refl
bare_begins d (Index x before e after) more h = refl
bare_begins d (Paren before e after) more h = refl
bare_begins d (Cast before int after long x) more h = refl
bare_begins d (Unary op at e) more h = prefix_begins op
bare_begins d (Operation a op at b) more h =
    ap (λ (z : List Token). holds begins_expr (first z h)) (ap (λ (z : List Token). z ++ more) (bare-append (pieces d a) ((sign (binary_sign op) at, d, true) ∷ pieces d b)) ∙ append_assoc (bare (pieces d a)) _ more)
    ∙ bare_begins d a (bare ((sign (binary_sign op) at, d, true) ∷ pieces d b) ++ more) h

-- two kinds of token that no token has both of
pub apart : (b c : Token → Bool) → ((x : Token) → b x ≡ true → c x ≡ false) → (h : Option Token) → holds b h ≡ true → holds c h ≡ false
apart b c f None e = refl
apart b c f (Some x) e = f x e

pub expr_begins : (d n : ℕ) (e : Expr) (more : List Mark) (h : Option Token) → holds begins_expr (first (tokens (placed n (pieces d e) ++ more)) h) ≡ true
expr_begins d n e more h =
    ap (λ (z : List Token). holds begins_expr (first z h)) (tokens-append (placed n (pieces d e)) more ∙ ap (λ (z : List Token). z ++ tokens more) (placed_tokens n (pieces d e)))
    ∙ bare_begins d e (tokens more) h

-- ---- the languages: in d constructs, with n operators before it in its chain

abbrev pub unary_lang : (d n : ℕ) → Lang Token Expr
unary_lang d n = record { marks = λ e. placed n (pieces d e); good = λ e. is_unary e && is_expr e; stops = λ _ h. ends_unary h }

abbrev pub expr_lang : (d n : ℕ) → Lang Token Expr
expr_lang d n = record { marks = λ e. placed n (pieces d e); good = is_expr; stops = λ _ h. ends_expr h }

abbrev pub some_expr : Expr
some_expr = Number (record { value = pos 0; spot = no_spot })

abbrev pub link_marks : ℕ → ℕ → Link → List Mark
link_marks d n x = (spelled x.0, max d (suc n)) ∷ placed (suc n) (pieces d x.1)

abbrev link_lang : ℕ → ℕ → Lang Token Link
link_lang d n = record { marks = link_marks d n; good = is_link; stops = λ _ h. ends_unary h }

-- what stands behind an operand is what a chain of links has
links_is : (d n : ℕ) (more : List Link) → placed n (each (link_pieces d) more) ≡ chain_marks (link_marks d) (λ x. operators x.1) n more
links_is d n [] = refl
links_is d n (x ∷ more) =
    ap (λ (z : List Mark). (spelled x.0, max d (suc n)) ∷ z)
    (placed-append (suc n) (pieces d x.1) (each (link_pieces d) more)
    ∙ ap (λ (z : List Mark). placed (suc n) (pieces d x.1) ++ z) (ap (λ (k : ℕ). placed k (each (link_pieces d) more)) (behind n (count (pieces d x.1)) (operators x.1) (count_is d x.1)) ∙ links_is d (n + suc (operators x.1)) more))
  where
    behind : (n c o : ℕ) → c ≡ o → suc n + c ≡ n + suc o
    behind n c o e = omega (arith, e)

-- ---- operators behind an operand

abbrev pub chain_lang : (limit d n : ℕ) → Lang Token (List Link)
chain_lang limit d n = links limit (link_marks d) is_link (λ _ h. ends_unary h) (λ x. operators x.1) is_binary ends_expr n

-- an operand and the operators behind it
abbrev pub flat_lang : (limit d n : ℕ) → Lang Token (Expr × List Link)
flat_lang limit d n = pair_dep (unary_lang d n) (λ u. chain_lang limit d (n + operators u)) (λ _ h. ends_expr h)

pub flat_marks : (limit d n : ℕ) (x : Expr × List Link) → placed n (pieces d (group x)) ≡ (flat_lang limit d n).marks x
flat_marks limit d n x =
    ap (placed n) (grow_pieces d x.0 x.1) ∙ placed-append n (pieces d x.0) (each (link_pieces d) x.1)
    ∙ ap (λ (z : List Mark). placed n (pieces d x.0) ++ z) (ap (λ (k : ℕ). placed (n + k) (each (link_pieces d) x.1)) (count_is d x.0) ∙ links_is d (n + operators x.0) x.1)

pub links_good : (more : List Link) → are_links more ≡ chain_good is_link more
links_good [] = refl
links_good (x ∷ more) = ap (λ (v : Bool). is_link x && v) (links_good more)

module _ (limit d : ℕ) (hd : d ≤ limit) (unary : ℕ → List Token → Out Token Expr) (ru : (n k : ℕ) → k ≡ limit - n → IsReader limit (unary_lang d n) (unary k)) where
  binary_begins : (x : Token) → is_binary x ≡ true → (a : Link) × (is_link a ≡ true) × ((n : ℕ) → (t : List Token) × (tokens (link_marks d n a) ≡ x ∷ t))
  binary_begins x e =
      let o = some_of (binary_of x) e in
      ((o.0, some_expr), refl, λ n. (tokens (placed (suc n) (pieces d some_expr)), ap (λ (y : Token). y ∷ tokens (placed (suc n) (pieces d some_expr))) (sym (only_binary x.kind x.spot o.0 o.1))))

  past_limit : (a : Link) (n : ℕ) (more : List Mark) → limit ≤ n → first_deep limit (link_marks d n a ++ more) ≡ Some (tokens (link_marks d n a ++ more))
  past_limit a n more h = rw (lt-ltb limit (max d (suc n)) (omega (arith, h))) refl

  is_chain : IsLink limit (link_marks d) is_link (λ _ h. ends_unary h) (λ x. operators x.1) is_binary ends_expr
  is_chain = record {
    begun = λ a n h g. binary_some a.0.0 a.0.1;
    ends = λ h e. not_true _ (and_parts _ _ e).1;
    stops_more = λ a h g e. binary_ends_unary h e;
    stops_last = λ a h g e. (and_parts _ _ e).0;
    past = past_limit;
    each = binary_begins;
    some = ((Or, no_spot), some_expr);
    some_good = refl;
  }

  link_reader_at : (n m : ℕ) → limit - n ≡ m → IsReader limit (link_lang d n) (link_with m unary)
  link_reader_at n zero e = shut_reader limit (link_lang d n) is_binary (record {
    begun = λ a h g. binary_some a.0.0 a.0.1;
    deep = λ a g. rw (lt-ltb limit (max d (suc n)) (omega (arith, e))) refl;
    each = λ x h. let b = binary_begins x h in let c = b.2 n in (b.0, c.0, c.1, b.1);
    some = ((Or, no_spot), some_expr);
    some_good = refl;
  })
  link_reader_at n (suc m) e = seq_reader limit (binary_lang d n) (unary_lang d (suc n)) (λ _ h. ends_unary h) (one_of binary_of) (unary m)
      (binary_reader limit d n hd (omega (arith, e))) (ru (suc n) m (omega (arith, e))) (λ a b h g1 g2 k. (refl, k)) some_expr refl

  pub links_reader : (n k : ℕ) → k ≡ limit - n → IsReader limit (chain_lang limit d n) (links_with k unary)
  links_reader n k e = chain_reader limit (link_marks d) is_link (λ _ h. ends_unary h) (λ x. operators x.1) is_binary ends_expr is_chain (λ m. link_with m unary)
      (λ n. link_reader_at n (limit - n) refl) k n k e (omega arith)

  -- ---- expressions

  flat_fits : (n : ℕ) (u : Expr) (more : List Link) (h : Option Token) → ends_expr h ≡ true → ends_unary (first (toks (chain_lang limit d (n + operators u)) more) h) ≡ true
  flat_fits n u [] h e = (and_parts _ _ e).0
  flat_fits n u (x ∷ more) h e = binary_ends_unary (Some (spelled x.0)) (binary_some x.0.0 x.0.1)

  flat_same : (n : ℕ) → Same (flat_lang limit d n) (expr_lang d n) group flatten
  flat_same n = record {
    back = group_back;
    good_back = λ e g. and_from _ _ (lead_good e g) (sym (links_good (tail e [])) ∙ tail_good e [] g refl);
    marks = λ x g. flat_marks limit d n x;
    good = λ x g. let gs = and_parts _ _ g in grow_good x.0 x.1 (and_parts _ _ gs.0).1 (links_good x.1 ∙ gs.1);
    stops = λ e h g k. k;
  }

  pub expr_with_reader : (n k : ℕ) → k ≡ limit - n → IsReader limit (expr_lang d n) (expr_with k unary)
  expr_with_reader n k e = map_reader limit (flat_lang limit d n) (expr_lang d n) group flatten (flat_same n) (seq_dep (unary k) (λ u. links_with (k - operators u) unary))
      (dep_reader limit (unary_lang d n) (λ u. chain_lang limit d (n + operators u)) (λ _ h. ends_expr h) (unary k) (λ u. links_with (k - operators u) unary) (ru n k e)
      (λ u. links_reader (n + operators u) (k - operators u) (omega (arith, e))) (λ u more h g1 g2 k. (flat_fits n u more h k, k)) (λ _. []) (λ _. refl))

-- ---- unaries

pub and_true : (v : Bool) → (v && true) ≡ v
and_true true = refl
and_true false = refl

-- the parts of a unary in d constructs, with n operators before it in its chain
abbrev pub prefix_part : (d n : ℕ) → Lang Token ((Prefix × Spot) × Expr)
prefix_part d n = pair (prefix_lang (suc d)) (unary_lang (suc d) n) (λ _ h. ends_unary h)

abbrev pub bracket_part : (d n : ℕ) → Lang Token Bracketed
bracket_part d n = pair (sign_lang s.OpenBracket (suc d)) (pair (expr_lang (suc d) n) (sign_lang s.CloseBracket (suc d)) (λ _ _. true)) (λ _ _. true)

abbrev pub long_lang : ℕ → Lang Token (Spot × (Spot × Spot))
long_lang d = pair (sign_lang s.OpenParen (suc d)) (pair (word_lang w.Long (suc d)) (sign_lang s.CloseParen (suc d)) (λ _ _. true)) (λ _ _. true)

abbrev pub no_paren : Option Token → Bool
no_paren h = not (holds (is_sign s.OpenParen) h)

abbrev pub cast_part : ℕ → Lang Token CastParts
cast_part d = pair (word_lang w.Int (suc d)) (pair (sign_lang s.CloseParen (suc d)) (pair (optional (long_lang d) no_paren) (ident_lang d) (λ _ _. true)) (λ _ _. true)) (λ _ _. true)

abbrev pub inside_part : (d n : ℕ) → Lang Token (CastParts ⊎ (Expr × Spot))
inside_part d n = sum (cast_part d) (pair (expr_lang (suc d) n) (sign_lang s.CloseParen (suc d)) (λ _ _. true)) (λ _ _. true)

abbrev pub paren_part : (d n : ℕ) → Lang Token Parenthesised
paren_part d n = pair (sign_lang s.OpenParen (suc d)) (inside_part d n) (λ _ _. true)

pub long_reader : (limit d : ℕ) → suc d ≤ limit → IsReader limit (optional (long_lang d) no_paren) read_long
long_reader limit d h = maybe_reader limit (is_sign s.OpenParen) (long_lang d) no_paren _
    (seq_reader limit _ _ (λ _ _. true) (read_sign s.OpenParen) _ (sign_reader limit (suc d) h s.OpenParen)
    (seq_reader limit _ _ (λ _ _. true) (read_word w.Long) (read_sign s.CloseParen) (word_reader limit (suc d) h w.Long) (sign_reader limit (suc d) h s.CloseParen) (λ a b k g1 g2 e. (refl, refl)) no_spot refl)
    (λ a b k g1 g2 e. (refl, refl)) (no_spot, no_spot) refl)
    (λ a k g. refl) (λ k e. not_true _ e) (λ a k g e. refl)

pub cast_reader : (limit d : ℕ) → suc d ≤ limit → IsReader limit (cast_part d) read_cast
cast_reader limit d h =
    seq_reader limit _ _ (λ _ _. true) (read_word w.Int) _ (word_reader limit (suc d) h w.Int)
    (seq_reader limit _ _ (λ _ _. true) (read_sign s.CloseParen) _ (sign_reader limit (suc d) h s.CloseParen)
    (seq_reader limit _ _ (λ _ _. true) read_long read_ident (long_reader limit d h) (ident_reader limit d (omega (arith, h))) (λ a b k g1 g2 e. (refl, refl)) (record { text = []; spot = no_spot }) refl)
    (λ a b k g1 g2 e. (refl, refl)) (None, record { text = []; spot = no_spot }) refl)
    (λ a b k g1 g2 e. (refl, refl)) (no_spot, (None, record { text = []; spot = no_spot })) refl

expr_no_int_kind : (k : Kind) → begins_expr_kind k ≡ true → is_word_kind w.Int k ≡ false
expr_no_int_kind (IsWord x) e = absurd cc
expr_no_int_kind _ e = refl

name_no_number : (k : Kind) → is_name_kind k ≡ true → (at : Spot) → is_number (record { kind = k; spot = at }) ≡ false
name_no_number (IsName x) e at = refl
name_no_number _ e at = absurd cc

name_no_prefix : (k : Kind) → is_name_kind k ≡ true → (at : Spot) → is_prefix (record { kind = k; spot = at }) ≡ false
name_no_prefix (IsName x) e at = refl
name_no_prefix _ e at = absurd cc

paren_no_name : (k : Kind) → is_sign_kind s.OpenParen k ≡ true → (at : Spot) → is_name (record { kind = k; spot = at }) ≡ false
paren_no_name (IsSign x) e at = refl
paren_no_name _ e at = absurd cc

paren_no_number : (k : Kind) → is_sign_kind s.OpenParen k ≡ true → (at : Spot) → is_number (record { kind = k; spot = at }) ≡ false
paren_no_number (IsSign x) e at = refl
paren_no_number _ e at = absurd cc

paren_no_prefix : (k : Kind) → is_sign_kind s.OpenParen k ≡ true → (at : Spot) → is_prefix (record { kind = k; spot = at }) ≡ false
paren_no_prefix (IsSign s.OpenParen) e at = refl
paren_no_prefix _ e at = absurd cc

pub expr_no_int : (d n : ℕ) (e : Expr) (more : List Mark) (h : Option Token) → holds (is_word w.Int) (first (tokens (placed n (pieces d e) ++ more)) h) ≡ false
expr_no_int d n e more h = apart begins_expr (is_word w.Int) (λ x. expr_no_int_kind x.kind) _ (expr_begins d n e more h)

pub closed_reader : (limit d n : ℕ) → suc d ≤ limit → (g : Sign) → ends_expr (Some (sign g no_spot)) ≡ true → ((at : Spot) → ends_expr (Some (sign g at)) ≡ true) → (expr : List Token → Out Token Expr) → IsReader limit (expr_lang (suc d) n) expr
    → IsReader limit (pair (expr_lang (suc d) n) (sign_lang g (suc d)) (λ _ _. true)) (seq expr (read_sign g))
closed_reader limit d n h g e0 e expr re = seq_reader limit _ _ (λ _ _. true) expr (read_sign g) re (sign_reader limit (suc d) h g) (λ a b k g1 g2 u. (e b, refl)) no_spot refl

pub inside_reader : (limit d n : ℕ) → suc d ≤ limit → (expr : List Token → Out Token Expr) → IsReader limit (expr_lang (suc d) n) expr → IsReader limit (inside_part d n) (inside_with expr)
inside_reader limit d n h expr re = alt_reader limit (is_word w.Int) (cast_part d) _ (λ _ _. true) read_cast (seq expr (read_sign s.CloseParen))
    (record { one = λ a k g. refl; other = λ c k g e. expr_no_int (suc d) n c.0 _ k; stops_one = λ a k g e. refl; stops_other = λ c k g e. refl })
    (cast_reader limit d h) (closed_reader limit d n h s.CloseParen refl (λ at. refl) expr re)

-- a name in d constructs, with an index or without
abbrev pub name_part : (d n : ℕ) → Lang Token NameParts
name_part d n = pair (ident_lang d) (optional (bracket_part d n) ends_unary) (λ _ h. ends_unary h)

pub name_reader : (limit d n : ℕ) → d ≤ limit → (index : List Token → Out Token Bracketed) → IsReader limit (bracket_part d n) index → IsReader limit (name_part d n) (seq read_ident (maybe_read is_bracket index))
name_reader limit d n h index ri = seq_reader limit (ident_lang d) (optional (bracket_part d n) ends_unary) (λ _ h. ends_unary h) read_ident _ (ident_reader limit d h)
    (maybe_reader limit is_bracket (bracket_part d n) ends_unary index ri (λ a h g. refl) (λ h e. not_true _ e) (λ a h g e. refl)) (λ a b h g1 g2 e. (refl, e)) None refl

abbrev pub unary_from : Operand NameParts Parenthesised → Expr
unary_from = operand_from name_from paren_from

abbrev pub unary_to : Expr → Operand NameParts Parenthesised
unary_to (Number m) = inr (inl m)
unary_to (Name x) = inr (inr (inl (x, None)))
unary_to (Index x before e after) = inr (inr (inl (x, Some (before, (e, after)))))
unary_to (Paren before e after) = inr (inr (inr (before, inr (e, after))))
unary_to (Cast before int after long x) = inr (inr (inr (before, inl (int, (after, (long, x))))))
unary_to (Unary op at e) = inl ((op, at), e)
unary_to (Operation a op at b) = inr (inl (record { value = pos 0; spot = no_spot }))

pub unary_back : (e : Expr) → is_unary e ≡ true → unary_from (unary_to e) ≡ e
unary_back (Number m) g = refl
unary_back (Name x) g = refl
unary_back (Index x before e after) g = refl
unary_back (Paren before e after) g = refl
unary_back (Cast before int after long x) g = refl
unary_back (Unary op at e) g = refl
unary_back (Operation a op at b) g = absurd cc

pub name_marks : (d n : ℕ) (x : NameParts) → placed n (pieces d (name_from x)) ≡ (name_part d n).marks x
name_marks d n (x, None) = refl
name_marks d n (x, Some i) = ap (λ (z : List Mark). (ident x, d) ∷ ((sign s.OpenBracket i.0, suc d) ∷ z)) (placed-append n (pieces (suc d) i.1.0) (plain (sign s.CloseBracket i.1.1) (suc d) ∷ []))

pub paren_marks : (d n : ℕ) (x : Parenthesised) → placed n (pieces d (paren_from x)) ≡ (paren_part d n).marks x
paren_marks d n (before, inl (int, (after, (None, x)))) = refl
paren_marks d n (before, inl (int, (after, (Some at, x)))) = refl
paren_marks d n (before, inr p) = ap (λ (z : List Mark). (sign s.OpenParen before, suc d) ∷ z) (placed-append n (pieces (suc d) p.0) (plain (sign s.CloseParen p.1) (suc d) ∷ []))

pub name_good : (d n : ℕ) (x : NameParts) → (is_unary (name_from x) && is_expr (name_from x)) ≡ (name_part d n).good x
name_good d n (x, None) = refl
name_good d n (x, Some i) = sym (and_true (is_expr i.1.0))

pub paren_good : (d n : ℕ) (x : Parenthesised) → (is_unary (paren_from x) && is_expr (paren_from x)) ≡ (paren_part d n).good x
paren_good d n (before, inl (int, (after, (None, x)))) = refl
paren_good d n (before, inl (int, (after, (Some at, x)))) = refl
paren_good d n (before, inr p) = sym (and_true (is_expr p.0))

-- ---- operands, whatever may stand behind a name or in parentheses

module _ {N P : Type 0} (d n : ℕ) (ln : Lang Token N) (lp : Lang Token P) where
  abbrev pub operand_lang : Lang Token (Operand N P)
  operand_lang = choice (prefix_part d n) (choice (numeral_lang d) (choice ln lp))

  pub operand_reader : (limit : ℕ) → d ≤ limit → ((a : N) (h : Option Token) → ln.good a ≡ true → holds is_name (first (toks ln a) h) ≡ true)
      → ((a : P) (h : Option Token) → lp.good a ≡ true → holds (is_sign s.OpenParen) (first (toks lp a) h) ≡ true)
      → (prefix : List Token → Out Token ((Prefix × Spot) × Expr)) (name : List Token → Out Token N) (paren : List Token → Out Token P)
      → IsReader limit (prefix_part d n) prefix → IsReader limit ln name → IsReader limit lp paren → IsReader limit operand_lang (operand_with prefix name paren)
  operand_reader limit hd begun_name begun_paren prefix name paren rx rn rp =
      choice_reader limit is_prefix (prefix_part d n) (choice (numeral_lang d) (choice ln lp)) prefix _ (λ a h g. prefix_some a.0.0 a.0.1) not_prefix rx
      (choice_reader limit is_number (numeral_lang d) (choice ln lp) read_numeral _ (λ a h g. refl) not_number (numeral_reader limit d hd)
      (choice_reader limit is_name ln lp name paren begun_name (λ c h g e. not_name c h g) rn rp))
    where
      paren_kinds : (b : Token → Bool) → ((k : Kind) → is_sign_kind s.OpenParen k ≡ true → (at : Spot) → b (record { kind = k; spot = at }) ≡ false) → (c : P) (h : Option Token) → lp.good c ≡ true → holds b (first (toks lp c) h) ≡ false
      paren_kinds b f c h g = apart (is_sign s.OpenParen) b (λ x e. f x.kind e x.spot) _ (begun_paren c h g)

      name_kinds : (b : Token → Bool) → ((k : Kind) → is_name_kind k ≡ true → (at : Spot) → b (record { kind = k; spot = at }) ≡ false) → (c : N) (h : Option Token) → ln.good c ≡ true → holds b (first (toks ln c) h) ≡ false
      name_kinds b f c h g = apart is_name b (λ x e. f x.kind e x.spot) _ (begun_name c h g)

      not_name : (c : P) (h : Option Token) → lp.good c ≡ true → holds is_name (first (toks lp c) h) ≡ false
      not_name c h g = paren_kinds is_name paren_no_name c h g

      not_number : (c : N ⊎ P) (h : Option Token) → (choice ln lp).good c ≡ true → (choice ln lp).stops c h ≡ true → holds is_number (first (toks (choice ln lp) c) h) ≡ false
      not_number (inl x) h g e = name_kinds is_number name_no_number x h g
      not_number (inr x) h g e = paren_kinds is_number paren_no_number x h g

      not_prefix : (c : Numeral ⊎ (N ⊎ P)) (h : Option Token) → (choice (numeral_lang d) (choice ln lp)).good c ≡ true → (choice (numeral_lang d) (choice ln lp)).stops c h ≡ true
          → holds is_prefix (first (toks (choice (numeral_lang d) (choice ln lp)) c) h) ≡ false
      not_prefix (inl m) h g e = refl
      not_prefix (inr (inl x)) h g e = name_kinds is_prefix name_no_prefix x h g
      not_prefix (inr (inr x)) h g e = paren_kinds is_prefix paren_no_prefix x h g

parts_marks : (d n : ℕ) (x : Operand NameParts Parenthesised) → placed n (pieces d (unary_from x)) ≡ (operand_lang d n (name_part d n) (paren_part d n)).marks x
parts_marks d n (inl x) = refl
parts_marks d n (inr (inl m)) = refl
parts_marks d n (inr (inr (inl x))) = name_marks d n x
parts_marks d n (inr (inr (inr x))) = paren_marks d n x

parts_good : (d n : ℕ) (x : Operand NameParts Parenthesised) → (is_unary (unary_from x) && is_expr (unary_from x)) ≡ (operand_lang d n (name_part d n) (paren_part d n)).good x
parts_good d n (inl x) = refl
parts_good d n (inr (inl m)) = refl
parts_good d n (inr (inr (inl x))) = name_good d n x
parts_good d n (inr (inr (inr x))) = paren_good d n x

unary_stops : (d n : ℕ) (e : Expr) (h : Option Token) → ends_unary h ≡ true → (operand_lang d n (name_part d n) (paren_part d n)).stops (unary_to e) h ≡ true
unary_stops d n (Number m) h k = refl
unary_stops d n (Name x) h k = k
unary_stops d n (Index x before e after) h k = k
unary_stops d n (Paren before e after) h k = refl
unary_stops d n (Cast before int after long x) h k = refl
unary_stops d n (Unary op at e) h k = k
unary_stops d n (Operation a op at b) h k = refl

-- ---- unaries

module _ (limit d n : ℕ) (hd : d ≤ limit)
    (prefix : List Token → Out Token ((Prefix × Spot) × Expr)) (index : List Token → Out Token Bracketed) (paren : List Token → Out Token Parenthesised)
    (rp : IsReader limit (prefix_part d n) prefix) (ri : IsReader limit (bracket_part d n) index) (ro : IsReader limit (paren_part d n) paren) where
  abbrev l_parts : Lang Token (Operand NameParts Parenthesised)
  l_parts = operand_lang d n (name_part d n) (paren_part d n)

  parts_reader : IsReader limit l_parts (operand_with prefix (seq read_ident (maybe_read is_bracket index)) paren)
  parts_reader = operand_reader d n (name_part d n) (paren_part d n) limit hd (λ a h g. refl) (λ a h g. refl) prefix _ paren rp (name_reader limit d n hd index ri) ro

  unary_same : Same l_parts (unary_lang d n) unary_from unary_to
  unary_same = record {
    back = λ e g. unary_back e (and_parts _ _ g).0;
    good_back = λ e g. sym (parts_good d n (unary_to e)) ∙ ap (λ (z : Expr). is_unary z && is_expr z) (unary_back e (and_parts _ _ g).0) ∙ g;
    marks = λ x g. parts_marks d n x;
    good = λ x g. parts_good d n x ∙ g;
    stops = λ e h g k. unary_stops d n e h k;
  }

  pub unary_with_reader : IsReader limit (unary_lang d n) (unary_with prefix index paren)
  unary_with_reader = map_reader limit l_parts (unary_lang d n) unary_from unary_to unary_same _ parts_reader

-- ---- where nothing more may be nested, and where something may

prefix_shut : (limit n : ℕ) → IsReader limit (prefix_part limit n) (shut is_prefix)
prefix_shut limit n = shut_reader limit (prefix_part limit n) is_prefix (record {
  begun = λ a h g. prefix_some a.0.0 a.0.1;
  deep = λ a g. rw (lt-ltb limit (suc limit) (omega arith)) refl;
  each = λ x e. let o = some_of (prefix_of x) e in ((o.0, some_expr), tokens (placed n (pieces (suc limit) some_expr)), ap (λ (y : Token). y ∷ tokens (placed n (pieces (suc limit) some_expr))) (sym (only_prefix x.kind x.spot o.0 o.1)), refl);
  some = ((Negate, no_spot), some_expr);
  some_good = refl;
})

bracket_shut : (limit n : ℕ) → IsReader limit (bracket_part limit n) (shut is_bracket)
bracket_shut limit n = shut_reader limit (bracket_part limit n) is_bracket (record {
  begun = λ a h g. refl;
  deep = λ a g. rw (lt-ltb limit (suc limit) (omega arith)) refl;
  each = λ x e. (
    (x.spot, (some_expr, no_spot)),
    tokens (placed n (pieces (suc limit) some_expr) ++ (sign s.CloseBracket no_spot, suc limit) ∷ []),
    ap (λ (y : Token). y ∷ tokens (placed n (pieces (suc limit) some_expr) ++ (sign s.CloseBracket no_spot, suc limit) ∷ [])) (sym (only_sign_token s.OpenBracket x e)),
    refl,
  );
  some = (no_spot, (some_expr, no_spot));
  some_good = refl;
})

pub paren_shut : (limit n : ℕ) → IsReader limit (paren_part limit n) (shut (is_sign s.OpenParen))
paren_shut limit n = shut_reader limit (paren_part limit n) (is_sign s.OpenParen) (record {
  begun = λ a h g. refl;
  deep = λ a g. rw (lt-ltb limit (suc limit) (omega arith)) refl;
  each = λ x e. (
    (x.spot, inr (some_expr, no_spot)),
    tokens (placed n (pieces (suc limit) some_expr) ++ (sign s.CloseParen no_spot, suc limit) ∷ []),
    ap (λ (y : Token). y ∷ tokens (placed n (pieces (suc limit) some_expr) ++ (sign s.CloseParen no_spot, suc limit) ∷ [])) (sym (only_sign_token s.OpenParen x e)),
    refl,
  );
  some = (no_spot, inr (some_expr, no_spot));
  some_good = refl;
})

-- r: how many more constructs may be nested
pub unary_reader : (limit r d n k : ℕ) → r + d ≡ limit → k ≡ limit - n → IsReader limit (unary_lang d n) (unary_at r k)
unfolding unary_at
unary_reader limit zero d n k h e =
    let same : d ≡ limit = omega (arith, h) in
    subst (λ (x : ℕ). IsReader limit (unary_lang x n) (unary_at zero k)) (sym same)
    (unary_with_reader limit limit n (omega arith) _ _ _ (prefix_shut limit n) (bracket_shut limit n) (paren_shut limit n))
unary_reader limit (suc r) d n k h e =
    let deeper : suc d ≤ limit = omega (arith, h) in
    let inner : (n k : ℕ) → k ≡ limit - n → IsReader limit (unary_lang (suc d) n) (unary_at r k) = λ n k e. unary_reader limit r (suc d) n k (omega (arith, h)) e in
    let expr = expr_with_reader limit (suc d) deeper (λ k. unary_at r k) inner n k e in
    unary_with_reader limit d n (omega (arith, h)) _ _ _
    (seq_reader limit (prefix_lang (suc d)) (unary_lang (suc d) n) (λ _ h. ends_unary h) (one_of prefix_of) (unary_at r k) (prefix_reader limit (suc d) deeper) (inner n k e) (λ a b h g1 g2 e. (refl, e)) some_expr refl)
    (seq_reader limit _ _ (λ _ _. true) (read_sign s.OpenBracket) _ (sign_reader limit (suc d) deeper s.OpenBracket) (closed_reader limit d n deeper s.CloseBracket refl (λ at. refl) _ expr) (λ a b h g1 g2 e. (refl, refl)) (some_expr, no_spot) refl)
    (seq_reader limit _ _ (λ _ _. true) (read_sign s.OpenParen) _ (sign_reader limit (suc d) deeper s.OpenParen) (inside_reader limit d n deeper _ expr) (λ a b h g1 g2 e. (refl, refl)) (inr (some_expr, no_spot)) refl)

pub expr_reader : (limit r d n k : ℕ) → r + d ≡ limit → k ≡ limit - n → IsReader limit (expr_lang d n) (expr_at r k)
unfolding expr_at
expr_reader limit r d n k h e = expr_with_reader limit d (omega (arith, h)) (λ k. unary_at r k) (λ n k e. unary_reader limit r d n k h e) n k e

-- ---- the parts of a unary alone

pub prefix_at_reader : (limit r d n k : ℕ) → r + d ≡ limit → k ≡ limit - n → IsReader limit (prefix_part d n) (prefix_at r k)
unfolding prefix_at
prefix_at_reader limit zero d n k h e = let same : d ≡ limit = omega (arith, h) in subst (λ (x : ℕ). IsReader limit (prefix_part x n) (prefix_at zero k)) (sym same) (prefix_shut limit n)
prefix_at_reader limit (suc r) d n k h e = seq_reader limit (prefix_lang (suc d)) (unary_lang (suc d) n) (λ _ h. ends_unary h) (one_of prefix_of) (unary_at r k) (prefix_reader limit (suc d) (omega (arith, h)))
    (unary_reader limit r (suc d) n k (omega (arith, h)) e) (λ a b h g1 g2 e. (refl, e)) some_expr refl

pub index_at_reader : (limit r d n k : ℕ) → r + d ≡ limit → k ≡ limit - n → IsReader limit (bracket_part d n) (index_at r k)
unfolding index_at
index_at_reader limit zero d n k h e = let same : d ≡ limit = omega (arith, h) in subst (λ (x : ℕ). IsReader limit (bracket_part x n) (index_at zero k)) (sym same) (bracket_shut limit n)
index_at_reader limit (suc r) d n k h e = seq_reader limit _ _ (λ _ _. true) (read_sign s.OpenBracket) _ (sign_reader limit (suc d) (omega (arith, h)) s.OpenBracket)
    (closed_reader limit d n (omega (arith, h)) s.CloseBracket refl (λ at. refl) (expr_at r k) (expr_reader limit r (suc d) n k (omega (arith, h)) e)) (λ a b h g1 g2 e. (refl, refl)) (some_expr, no_spot) refl

pub paren_at_reader : (limit r d n k : ℕ) → r + d ≡ limit → k ≡ limit - n → IsReader limit (paren_part d n) (paren_at r k)
unfolding paren_at
paren_at_reader limit zero d n k h e = let same : d ≡ limit = omega (arith, h) in subst (λ (x : ℕ). IsReader limit (paren_part x n) (paren_at zero k)) (sym same) (paren_shut limit n)
paren_at_reader limit (suc r) d n k h e = seq_reader limit _ _ (λ _ _. true) (read_sign s.OpenParen) _ (sign_reader limit (suc d) (omega (arith, h)) s.OpenParen)
    (inside_reader limit d n (omega (arith, h)) (expr_at r k) (expr_reader limit r (suc d) n k (omega (arith, h)) e)) (λ a b h g1 g2 e. (refl, refl)) (inr (some_expr, no_spot)) refl

-- ---- whole expressions

pub whole_expr_reader : (limit r d : ℕ) → r + d ≡ limit → IsReader limit (expr_lang d 0) (expr_at r limit)
whole_expr_reader limit r d h = expr_reader limit r d 0 limit h (omega arith)
