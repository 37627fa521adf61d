-- The laws of the readers of targets, calls, and what is an expression or a call.
use Rattle.std.proofs.Common.{◌≡◌, ℕ, ◌+◌, ◌-◌, pos, Bool, true, false, not, ◌&&◌, List, [], ◌∷◌, Option, Some, None, refl, sym, ap, ◌∙◌, inl, inr, ◌⊎◌, arith}
use Rattle.std.proofs.lemmas.Bool.{and_from, and_parts}
use Rattle.std.proofs.lemmas.List.{append-nil}
use Rattle.cfix_base.specs.declared.Spot.{Spot}
use Rattle.c_grammar.specs.declared.sign.Sign.TheVariants as s
use Rattle.c_reading.specs.Reader.{Got, Lang, toks, seq, holds, alt, maybe_read}
use Rattle.c_grammar.specs.Marks.{first, maybe}
use Rattle.c_grammar.specs.Token.{Kind, IsSign, Token, Ident, sign}
use Rattle.c_grammar.specs.Expr.{Expr, Number, Name, Index, Paren, Cast, Unary, Operation, is_unary, is_expr, pieces, placed}
use Rattle.c_grammar.specs.Simple.{Place, is_place, Target, TargetOf, is_target, target_marks, Args, are_args, are_exprs, Call, CallOf, is_call, call_marks, Value, Computed, Called, is_value, value_marks}
use Rattle.c_reading.specs.Read.{is_sign, is_sign_kind, read_sign, read_ident, listed}
use Rattle.c_reading.specs.ReadExpr.{is_some, binary_in, is_binary, begins_expr, operators, Link, Operand, Parenthesised, unary_at, expr_at, index_at}
use Rattle.c_reading.specs.ReadSimple.{is_bracket, is_paren, target_from, target_at, args_at, CallTail, call_tail_at, call_from, Named, head_from, value_head_at, no_links, value_links_at, value_from, value_at}
use Rattle.c_reading.proofs.Reader.{IsReader, pair, pair_dep, seq_reader, dep_reader, Same, same_all, map_reader, optional, maybe_reader, choice, choice_reader}
use Rattle.c_reading.proofs.Token.{no_spot, sign_lang, ident_lang, sign_reader, ident_reader}
use Rattle.c_reading.proofs.Commas.{commas_lang, listed_lang, list_good_is, listed_reader}
use Rattle.c_reading.proofs.Group.{lead, tail, lead_good, tail_good, grow_good, group_back}
use Rattle.c_reading.proofs.ReadExpr.{ends_unary, ends_expr, not_true, expr_begins, expr_lang, chain_lang, spelled, binary_some, flat_marks, links_good, links_reader, and_true, bracket_part, paren_part, name_part, name_reader, name_marks, paren_marks, name_good, paren_good, operand_lang, operand_reader, unary_reader, prefix_at_reader, index_at_reader, paren_at_reader, whole_expr_reader, some_expr, no_paren}

abbrev pub some_ident : Ident
some_ident = record { text = []; spot = no_spot }

-- ---- what may follow

-- behind a name that is no call
abbrev pub ends_name : Option Token → Bool
ends_name h = ends_unary h && no_paren h

-- behind an expression that begins with a name
abbrev pub ends_value : Option Token → Bool
ends_value h = ends_expr h && no_paren h

value_ends_name : (h : Option Token) → ends_value h ≡ true → ends_name h ≡ true
value_ends_name h e =
    let p : (ends_expr h ≡ true) × (no_paren h ≡ true) = and_parts _ _ e in
    let q : (ends_unary h ≡ true) × (not (holds is_binary h) ≡ true) = and_parts _ _ p.0 in
    and_from (ends_unary h) (no_paren h) q.0 p.1

binary_no_paren : (k : Kind) (at : Spot) → is_some (binary_in k at) ≡ true → (not (is_sign_kind s.OpenBracket k) && not (is_sign_kind s.OpenParen k)) ≡ true
binary_no_paren (IsSign s.OpenBracket) at e = absurd cc
binary_no_paren (IsSign s.OpenParen) at e = absurd cc
binary_no_paren _ at e = refl

binary_ends_name : (x : Token) → is_binary x ≡ true → ends_name (Some x) ≡ true
binary_ends_name x e = binary_no_paren x.kind x.spot e

-- ---- targets

abbrev pub target_lang : ℕ → Lang Token Target
target_lang d = record { marks = target_marks d; good = is_target; stops = λ _ h. ends_unary h }

pub place_good : (d : ℕ) (i : Option Place) → maybe true is_place i ≡ maybe true (bracket_part d 0).good i
place_good d None = refl
place_good d (Some i) = sym (and_true (is_expr i.1.0))

abbrev target_to : Target → Ident × Option Place
target_to (TargetOf x i) = (x, i)

target_back : (t : Target) → target_from (target_to t) ≡ t
target_back (TargetOf x i) = refl

pub target_reader : (limit r d : ℕ) → r + d ≡ limit → IsReader limit (target_lang d) (target_at limit r)
target_reader limit r d h = map_reader limit (name_part d 0) (target_lang d) target_from target_to
    (same_all (name_part d 0) (target_lang d) target_from target_to target_back (λ x. refl) (λ x. place_good d x.1) (λ x h e. e)) _
    (name_reader limit d 0 (omega (arith, h)) (index_at r limit) (index_at_reader limit r d 0 limit h (omega arith)))

-- ---- calls

pub close_ends_expr : (at : Spot) → ends_expr (Some (sign s.CloseParen at)) ≡ true
close_ends_expr at = refl

-- what ends arguments: no comma, and nothing that an expression goes on with or begins with
abbrev pub ends_list : Option Token → Bool
ends_list h = ends_expr h && not (holds (is_sign s.Comma) h)

abbrev pub ends_args : Option Token → Bool
ends_args h = ends_list h && not (holds begins_expr h)

abbrev pub exprs_lang : ℕ → Lang Token (Expr × List (Spot × Expr))
exprs_lang d = listed_lang d (expr_lang d 0) ends_args

abbrev args_lang : ℕ → Lang Token Args
args_lang d = optional (exprs_lang d) ends_args

pub exprs_good : (d : ℕ) (ends : Option Token → Bool) (xs : List (Spot × Expr)) → are_exprs xs ≡ (commas_lang d (expr_lang d 0) ends).good xs
exprs_good d ends xs = list_good_is d (expr_lang d 0) ends is_expr (λ e. refl) xs

args_reader : (limit r d : ℕ) → r + d ≡ limit → IsReader limit (args_lang d) (args_at limit r)
args_reader limit r d h = maybe_reader limit begins_expr (exprs_lang d) ends_args (listed (expr_at r limit))
    (listed_reader d (expr_lang d 0) ends_args limit (omega (arith, h)) (expr_at r limit) (whole_expr_reader limit r d h) some_expr refl (λ a at g. refl) (λ a h g e. (and_parts _ _ (and_parts _ _ e).0).0)
    (λ h e. not_true _ (and_parts _ _ (and_parts _ _ e).0).1))
    (λ x h g. expr_begins d 0 x.0 _ h) (λ h e. not_true _ (and_parts _ _ e).1) (λ x h g e. e)

abbrev pub call_tail_lang : ℕ → Lang Token CallTail
call_tail_lang d = pair (sign_lang s.OpenParen d) (pair (args_lang d) (sign_lang s.CloseParen d) (λ _ _. true)) (λ _ _. true)

pub call_tail_reader : (limit r d : ℕ) → r + d ≡ limit → IsReader limit (call_tail_lang d) (call_tail_at limit r)
call_tail_reader limit r d h = seq_reader limit _ _ (λ _ _. true) (read_sign s.OpenParen) _ (sign_reader limit d (omega (arith, h)) s.OpenParen)
    (seq_reader limit (args_lang d) (sign_lang s.CloseParen d) (λ _ _. true) (args_at limit r) (read_sign s.CloseParen) (args_reader limit r d h) (sign_reader limit d (omega (arith, h)) s.CloseParen) (λ a b k g1 g2 e. (refl, refl)) no_spot refl)
    (λ a b k g1 g2 e. (refl, refl)) (None, no_spot) refl

pub args_good : (d : ℕ) (a : Args) → are_args a ≡ (args_lang d).good a
args_good d None = refl
args_good d (Some x) = ap (λ (v : Bool). is_expr x.0 && v) (exprs_good d ends_args x.1)

pub call_good : (d : ℕ) (x : Ident) (t : CallTail) → is_call (call_from (x, t)) ≡ (call_tail_lang d).good t
call_good d x t = args_good d t.1.0 ∙ sym (and_true _)

-- ---- a call, or the first operand of an expression

abbrev named_tail_lang : ℕ → Lang Token (CallTail ⊎ Option Place)
named_tail_lang d = choice (call_tail_lang d) (optional (bracket_part d 0) ends_name)

abbrev named_lang : ℕ → Lang Token Named
named_lang d = pair (ident_lang d) (named_tail_lang d) (λ x h. (named_tail_lang d).stops x.1 h)

place_no_paren : (d : ℕ) (i : Option Place) (h : Option Token) → ends_name h ≡ true → holds is_paren (first (toks (optional (bracket_part d 0) ends_name) i) h) ≡ false
place_no_paren d None h e = not_true _ (and_parts _ _ e).1
place_no_paren d (Some i) h e = refl

named_reader : (limit r d : ℕ) → r + d ≡ limit → IsReader limit (named_lang d) (seq read_ident (alt is_paren (call_tail_at limit r) (maybe_read is_bracket (index_at r limit))))
named_reader limit r d h = seq_reader limit (ident_lang d) (named_tail_lang d) (λ x h. (named_tail_lang d).stops x.1 h) read_ident _ (ident_reader limit d (omega (arith, h)))
    (choice_reader limit is_paren (call_tail_lang d) (optional (bracket_part d 0) ends_name) (call_tail_at limit r) _ (λ a k g. refl) (λ c k g e. place_no_paren d c k e) (call_tail_reader limit r d h)
    (maybe_reader limit is_bracket (bracket_part d 0) ends_name (index_at r limit) (index_at_reader limit r d 0 limit h (omega arith)) (λ a k g. refl) (λ k e. not_true _ (and_parts _ _ e).0) (λ a k g e. refl)))
    (λ a b k g1 g2 e. (refl, e)) (inr None) refl

abbrev head_lang : ℕ → Lang Token (Call ⊎ Expr)
head_lang d = record {
  marks = λ x. elim x [ inl c ↦ call_marks d c | inr u ↦ placed 0 (pieces d u) ];
  good = λ x. elim x [ inl c ↦ is_call c | inr u ↦ is_unary u && is_expr u ];
  stops = λ x h. elim x [ inl c ↦ true | inr u ↦ ends_name h ];
}

abbrev head_parts : ℕ → Lang Token (Operand Named Parenthesised)
head_parts d = operand_lang d 0 (named_lang d) (paren_part d 0)

abbrev head_to : Call ⊎ Expr → Operand Named Parenthesised
head_to (inl (CallOf f before args after)) = inr (inr (inl (f, inl (before, (args, after)))))
head_to (inr (Number m)) = inr (inl m)
head_to (inr (Name x)) = inr (inr (inl (x, inr None)))
head_to (inr (Index x before e after)) = inr (inr (inl (x, inr (Some (before, (e, after))))))
head_to (inr (Paren before e after)) = inr (inr (inr (before, inr (e, after))))
head_to (inr (Cast before int after long x)) = inr (inr (inr (before, inl (int, (after, (long, x))))))
head_to (inr (Unary op at e)) = inl ((op, at), e)
head_to (inr (Operation a op at b)) = inr (inl (record { value = pos 0; spot = no_spot }))

head_back : (d : ℕ) (x : Call ⊎ Expr) → (head_lang d).good x ≡ true → head_from (head_to x) ≡ x
head_back d (inl (CallOf f before args after)) g = refl
head_back d (inr (Number m)) g = refl
head_back d (inr (Name x)) g = refl
head_back d (inr (Index x before e after)) g = refl
head_back d (inr (Paren before e after)) g = refl
head_back d (inr (Cast before int after long x)) g = refl
head_back d (inr (Unary op at e)) g = refl
head_back d (inr (Operation a op at b)) g = absurd cc

head_marks : (d : ℕ) (x : Operand Named Parenthesised) → (head_lang d).marks (head_from x) ≡ (head_parts d).marks x
head_marks d (inl x) = refl
head_marks d (inr (inl m)) = refl
head_marks d (inr (inr (inl (x, inl t)))) = refl
head_marks d (inr (inr (inl (x, inr None)))) = refl
head_marks d (inr (inr (inl (x, inr (Some i))))) = name_marks d 0 (x, Some i)
head_marks d (inr (inr (inr x))) = paren_marks d 0 x

head_good : (d : ℕ) (x : Operand Named Parenthesised) → (head_lang d).good (head_from x) ≡ (head_parts d).good x
head_good d (inl x) = refl
head_good d (inr (inl m)) = refl
head_good d (inr (inr (inl (x, inl t)))) = call_good d x t
head_good d (inr (inr (inl (x, inr None)))) = refl
head_good d (inr (inr (inl (x, inr (Some i))))) = name_good d 0 (x, Some i)
head_good d (inr (inr (inr x))) = paren_good d 0 x

head_stops : (d : ℕ) (x : Call ⊎ Expr) (h : Option Token) → (head_lang d).stops x h ≡ true → (head_parts d).stops (head_to x) h ≡ true
head_stops d (inl (CallOf f before args after)) h e = refl
head_stops d (inr (Number m)) h e = refl
head_stops d (inr (Name x)) h e = e
head_stops d (inr (Index x before i after)) h e = e
head_stops d (inr (Paren before i after)) h e = refl
head_stops d (inr (Cast before int after long x)) h e = refl
head_stops d (inr (Unary op at i)) h e = (and_parts _ _ e).0
head_stops d (inr (Operation a op at b)) h e = refl

head_reader : (limit r d : ℕ) → r + d ≡ limit → IsReader limit (head_lang d) (value_head_at limit r)
head_reader limit r d h = map_reader limit (head_parts d) (head_lang d) head_from head_to
    (record {
      back = head_back d;
      good_back = λ x g. sym (head_good d (head_to x)) ∙ ap (head_lang d).good (head_back d x g) ∙ g;
      marks = λ x g. head_marks d x;
      good = λ x g. head_good d x ∙ g;
      stops = λ x k g e. head_stops d x k e;
    }) _
    (operand_reader d 0 (named_lang d) (paren_part d 0) limit (omega (arith, h)) (λ a k g. refl) (λ a k g. refl) _ _ _ (prefix_at_reader limit r d 0 limit h (omega arith)) (named_reader limit r d h) (paren_at_reader limit r d 0 limit h (omega arith)))

-- ---- an expression or a call

abbrev is_nil : List Link → Bool
is_nil [] = true
is_nil (x ∷ xs) = false

abbrev pub no_links_lang : Lang Token (List Link)
no_links_lang = record { marks = λ _. []; good = is_nil; stops = λ _ _. true }

pub no_links_reader : (limit : ℕ) → IsReader limit no_links_lang no_links
no_links_reader limit = record {
  sound = λ ts xs rest e. record { whole = cc; good = let h : [] ≡ xs = cc in ap is_nil (sym h); level = refl; again = λ r h. let k : [] ≡ xs = cc in ap (λ (z : List Link). Got z r) k };
  complete = λ xs rest g h. ap (λ (z : List Link). Got z rest) (nil_only xs g);
  fault = λ ts f rest e. absurd cc;
  fixed = λ a b h k ga gb sa sb da db. tt;
}
  where
    nil_only : (xs : List Link) → is_nil xs ≡ true → [] ≡ xs
    nil_only [] g = refl
    nil_only (x ∷ xs) g = absurd cc

abbrev links_lang : (limit d : ℕ) → Call ⊎ Expr → Lang Token (List Link)
links_lang limit d (inl c) = no_links_lang
links_lang limit d (inr u) = chain_lang limit d (0 + operators u)

abbrev pub value_lang : ℕ → Lang Token Value
value_lang d = record { marks = value_marks d; good = is_value; stops = λ _ h. ends_value h }

abbrev value_parts : (limit d : ℕ) → Lang Token ((Call ⊎ Expr) × List Link)
value_parts limit d = pair_dep (head_lang d) (links_lang limit d) (λ _ h. ends_value h)

value_fits : (limit d : ℕ) (a : Call ⊎ Expr) (xs : List Link) (h : Option Token) → ends_value h ≡ true → ((head_lang d).stops a (first (toks (links_lang limit d a) xs) h) ≡ true) × ((links_lang limit d a).stops xs h ≡ true)
value_fits limit d (inl c) xs h e = (refl, refl)
value_fits limit d (inr u) [] h e = (value_ends_name h e, (and_parts _ _ e).0)
value_fits limit d (inr u) (x ∷ xs) h e = (binary_ends_name (spelled x.0) (binary_some x.0.0 x.0.1), (and_parts _ _ e).0)

abbrev value_to : Value → (Call ⊎ Expr) × List Link
value_to (Called c) = (inl c, [])
value_to (Computed e) = (inr (lead e), tail e [])

value_same : (limit d : ℕ) → Same (value_parts limit d) (value_lang d) value_from value_to
value_same limit d = record {
  back = elim [ Called c ↦ λ g. refl | Computed e ↦ λ g. ap Computed (group_back e g) ];
  good_back = elim [ Called c ↦ λ g. and_from _ _ g refl | Computed e ↦ λ g. and_from _ _ (lead_good e g) (sym (links_good (tail e [])) ∙ tail_good e [] g refl) ];
  marks = marks_at;
  good = good_at;
  stops = elim [ Called c ↦ λ h g e. e | Computed x ↦ λ h g e. e ];
}
  where
    marks_at : (x : (Call ⊎ Expr) × List Link) → (value_parts limit d).good x ≡ true → value_marks d (value_from x) ≡ (value_parts limit d).marks x
    marks_at (inl c, xs) g = sym (append-nil (call_marks d c))
    marks_at (inr u, xs) g = flat_marks limit d 0 (u, xs)

    good_at : (x : (Call ⊎ Expr) × List Link) → (value_parts limit d).good x ≡ true → is_value (value_from x) ≡ true
    good_at (inl c, xs) g = (and_parts _ _ g).0
    good_at (inr u, xs) g = let gs = and_parts _ _ g in grow_good u xs (and_parts _ _ gs.0).1 (links_good xs ∙ gs.1)

links_at_reader : (limit r d : ℕ) → r + d ≡ limit → (a : Call ⊎ Expr) → IsReader limit (links_lang limit d a) (value_links_at limit r a)
links_at_reader limit r d h (inl c) = no_links_reader limit
links_at_reader limit r d h (inr u) = links_reader limit d (omega (arith, h)) (λ k. unary_at r k) (λ n k e. unary_reader limit r d n k h e) (0 + operators u) (limit - operators u) (omega arith)

pub value_reader : (limit r d : ℕ) → r + d ≡ limit → IsReader limit (value_lang d) (value_at limit r)
unfolding value_at
value_reader limit r d h = map_reader limit (value_parts limit d) (value_lang d) value_from value_to (value_same limit d) _
    (dep_reader limit (head_lang d) (links_lang limit d) (λ _ h. ends_value h) (value_head_at limit r) (value_links_at limit r) (head_reader limit r d h) (links_at_reader limit r d h)
    (λ a xs k g1 g2 e. value_fits limit d a xs k e) (λ a. []) (elim [ inl c ↦ refl | inr u ↦ refl ]))
