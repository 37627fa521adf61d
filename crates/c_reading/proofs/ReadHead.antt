-- The laws of the readers of heads and functions.
use Rattle.std.proofs.Common.{◌≡◌, ℕ, Bool, true, false, not, ◌&&◌, List, [], ◌∷◌, Option, Some, None, refl, sym, ap, inl, inr, ◌⊎◌, arith}
use Rattle.std.proofs.lemmas.Bool.{and_parts}
use Rattle.cfix_base.specs.declared.Spot.{Spot}
use Rattle.c_grammar.specs.declared.word.Word.TheVariants as w
use Rattle.c_grammar.specs.declared.sign.Sign.TheVariants as s
use Rattle.c_grammar.specs.Marks.{first}
use Rattle.c_reading.specs.Reader.{Lang, toks, one_of, holds, maybe_read}
use Rattle.c_grammar.specs.Token.{Kind, IsWord, Token, Ident, word}
use Rattle.c_grammar.specs.Op.{Ops}
use Rattle.c_grammar.specs.Stmt.{Items, NoItems}
use Rattle.c_grammar.specs.Decl.{Qualifier, Static, Volatile, qualifier_word}
use Rattle.c_grammar.specs.File.{Param, ParamOf, Params, NoParams, VoidParams, SomeParams, param_marks, params_marks}
use Rattle.c_reading.specs.Read.{is_word, is_sign, is_name, read_word, read_sign, read_ident}
use Rattle.c_reading.specs.ReadExpr.{is_some}
use Rattle.c_reading.specs.ReadOp.{read_ops}
use Rattle.c_reading.specs.ReadStmt.{is_semicolon, stmt_at}
use Rattle.c_reading.specs.ReadFile.{qualifier_in, qualifier_of, is_qualifier, Qualifiers, read_qualifiers, param_from, read_param, params_from, read_params, HeadEnd, head_end_at, HeadTail, head_tail_at}
use Rattle.c_reading.proofs.Reader.{IsReader, one_reader, pair, seq_reader, same_all, map_reader, optional, maybe_reader, choice, choice_reader}
use Rattle.c_reading.proofs.Many.{items, many_reader}
use Rattle.c_reading.proofs.Token.{no_spot, word_lang, sign_lang, ident_lang, word_reader, sign_reader, ident_reader}
use Rattle.c_reading.proofs.Commas.{listed_lang, commas_lang, listed_reader}
use Rattle.c_reading.proofs.ReadExpr.{made, not_true}
use Rattle.c_reading.proofs.ReadOp.{ops_lang, ops_reader}
use Rattle.c_reading.proofs.ReadBlock.{close_lang, close_on, close_reader, on_no_verb}
use Rattle.c_reading.proofs.ReadNest.{stmt_reader}

-- ---- qualifiers

abbrev qualifiers : Qualifier × Spot → Token
qualifiers x = word (qualifier_word x.0) x.1

qualifier_back : (q : Qualifier) (at : Spot) → qualifier_of (word (qualifier_word q) at) ≡ Some (q, at)
qualifier_back Static at = refl
qualifier_back Volatile at = refl

only_qualifier : (k : Kind) (at : Spot) (x : Qualifier × Spot) → qualifier_in k at ≡ Some x → made k at ≡ qualifiers x
only_qualifier (IsWord w.Static) at x e = let h : (Static, at) ≡ x = cc in ap qualifiers h
only_qualifier (IsWord w.Volatile) at x e = let h : (Volatile, at) ≡ x = cc in ap qualifiers h
only_qualifier _ at x e = absurd cc

abbrev qualifier_lang : Lang Token (Qualifier × Spot)
qualifier_lang = record { marks = λ x. (qualifiers x, 0) ∷ []; good = λ _. true; stops = λ _ _. true }

qualifier_reader : (limit : ℕ) → IsReader limit qualifier_lang (one_of qualifier_of)
qualifier_reader limit = one_reader limit qualifier_lang qualifier_of qualifiers (record {
  back = λ x g. qualifier_back x.0 x.1;
  only = λ t x e. (only_qualifier t.kind t.spot x e, refl);
  depth = 0;
  marks = λ x. refl;
  shallow = omega arith;
  some = (Static, no_spot);
  some_good = refl;
})

abbrev pub no_qualifier : Option Token → Bool
no_qualifier h = not (holds is_qualifier h)

abbrev pub qualifiers_lang : Lang Token Qualifiers
qualifiers_lang = items qualifier_lang no_qualifier

pub qualifiers_reader : (limit : ℕ) → IsReader limit qualifiers_lang read_qualifiers
qualifiers_reader limit = many_reader limit qualifier_lang is_qualifier no_qualifier
    (record { begun = λ x h g. ap is_some (qualifier_back x.0 x.1); ends = λ h e. not_true _ e; stops_more = λ x h g e. refl; stops_last = λ x h g e. refl }) (one_of qualifier_of) (qualifier_reader limit)

pub qualifiers_good : (q : Qualifiers) → qualifiers_lang.good q ≡ true
qualifiers_good [] = refl
qualifiers_good (x ∷ q) = qualifiers_good q

-- ---- parameters

abbrev no_name : Option Token → Bool
no_name h = not (holds is_name h)

abbrev pub name_lang : Lang Token (Option Ident)
name_lang = optional (ident_lang 0) no_name

pub name_reader : (limit : ℕ) → IsReader limit name_lang (maybe_read is_name read_ident)
name_reader limit = maybe_reader limit is_name (ident_lang 0) no_name read_ident (ident_reader limit 0 (omega arith)) (λ a h g. refl) (λ h e. not_true _ e) (λ a h g e. refl)

pub names_good : (x : Option Ident) → name_lang.good x ≡ true
names_good None = refl
names_good (Some x) = refl

abbrev param_lang : Lang Token Param
param_lang = record { marks = param_marks; good = λ _. true; stops = λ _ h. no_name h }

abbrev param_parts : Lang Token (Spot × Option Ident)
param_parts = pair (word_lang w.Int 0) name_lang (λ _ h. no_name h)

abbrev param_to : Param → Spot × Option Ident
param_to (ParamOf at name) = (at, name)

param_marks_is : (x : Spot × Option Ident) → param_marks (param_from x) ≡ param_parts.marks x
param_marks_is (at, None) = refl
param_marks_is (at, Some x) = refl

param_reader : (limit : ℕ) → IsReader limit param_lang read_param
param_reader limit = map_reader limit param_parts param_lang param_from param_to
    (same_all param_parts param_lang param_from param_to (elim [ ParamOf at name ↦ refl ]) param_marks_is (λ x. sym (names_good x.1)) (λ x h e. e)) _
    (seq_reader limit (word_lang w.Int 0) name_lang (λ _ h. no_name h) (read_word w.Int) _ (word_reader limit 0 (omega arith) w.Int) (name_reader limit) (λ a b h g1 g2 e. (refl, e)) None refl)

abbrev ends_params : Option Token → Bool
ends_params h = no_name h && (not (holds (is_sign s.Comma) h) && not (holds (is_word w.Int) h))

abbrev ends_all : Option Token → Bool
ends_all h = ends_params h && not (holds (is_word w.Void) h)

params_no_int : (h : Option Token) → ends_all h ≡ true → holds (is_word w.Int) h ≡ false
params_no_int h e =
    let p : (ends_params h ≡ true) × (not (holds (is_word w.Void) h) ≡ true) = and_parts _ _ e in
    not_true _ (and_parts _ _ (and_parts _ _ p.0).1).1

abbrev some_params : Lang Token (Param × List (Spot × Param))
some_params = listed_lang 0 param_lang ends_params

abbrev params_parts : Lang Token (Spot ⊎ Option (Param × List (Spot × Param)))
params_parts = choice (word_lang w.Void 0) (optional some_params ends_all)

abbrev pub params_lang : Lang Token Params
params_lang = record { marks = params_marks; good = λ _. true; stops = λ _ h. ends_all h }

abbrev params_to : Params → Spot ⊎ Option (Param × List (Spot × Param))
params_to NoParams = inr None
params_to (VoidParams at) = inl at
params_to (SomeParams p more) = inr (Some (p, more))

more_good : (xs : List (Spot × Param)) → (commas_lang 0 param_lang ends_params).good xs ≡ true
more_good [] = refl
more_good (x ∷ xs) = more_good xs

params_marks_is : (x : Spot ⊎ Option (Param × List (Spot × Param))) → params_marks (params_from x) ≡ params_parts.marks x
params_marks_is (inl at) = refl
params_marks_is (inr None) = refl
params_marks_is (inr (Some x)) = refl

params_good_is : (x : Spot ⊎ Option (Param × List (Spot × Param))) → true ≡ params_parts.good x
params_good_is (inl at) = refl
params_good_is (inr None) = refl
params_good_is (inr (Some x)) = sym (more_good x.1)

params_no_void : (c : Option (Param × List (Spot × Param))) (h : Option Token) → ends_all h ≡ true → holds (is_word w.Void) (first (toks (optional some_params ends_all) c) h) ≡ false
params_no_void None h e = not_true _ (and_parts _ _ e).1
params_no_void (Some (ParamOf at name, more)) h e = refl

some_begins : (x : Param × List (Spot × Param)) (h : Option Token) → holds (is_word w.Int) (first (toks some_params x) h) ≡ true
some_begins (ParamOf at name, more) h = refl

params_back : (x : Params) → params_from (params_to x) ≡ x
params_back NoParams = refl
params_back (VoidParams at) = refl
params_back (SomeParams p more) = refl

params_stops_is : (x : Params) (h : Option Token) → ends_all h ≡ true → params_parts.stops (params_to x) h ≡ true
params_stops_is NoParams h e = e
params_stops_is (VoidParams at) h e = refl
params_stops_is (SomeParams p more) h e = e

pub params_reader : (limit : ℕ) → IsReader limit params_lang read_params
params_reader limit = map_reader limit params_parts params_lang params_from params_to
    (record {
      back = λ x g. params_back x;
      good_back = λ x g. sym (params_good_is (params_to x));
      marks = λ x g. params_marks_is x;
      good = λ x g. refl;
      stops = λ x h g e. params_stops_is x h e;
    }) _
    (choice_reader limit (is_word w.Void) (word_lang w.Void 0) (optional some_params ends_all) _ _ (λ a h g. refl) (λ c h g e. params_no_void c h e) (word_reader limit 0 (omega arith) w.Void)
    (maybe_reader limit (is_word w.Int) some_params ends_all _
    (listed_reader 0 param_lang ends_params limit (omega arith) read_param (param_reader limit) (ParamOf no_spot None) refl (λ a at g. refl) (λ a h g e. (and_parts _ _ e).0) (λ h e. not_true _ (and_parts _ _ (and_parts _ _ e).1).0))
    (λ a h g. some_begins a h) (λ h e. params_no_int h e) (λ a h g e. (and_parts _ _ e).0)))

-- ---- the end of a prototype or a function

abbrev body_lang : Lang Token (Spot × (Ops × (Items × Spot)))
body_lang = pair (sign_lang s.OpenBrace 0) (pair (ops_lang 0) (close_lang 0) (λ _ _. true)) (λ _ _. true)

abbrev pub head_end_lang : Lang Token HeadEnd
head_end_lang = choice (sign_lang s.Semicolon 0) body_lang

pub head_end_stops : (x : HeadEnd) (h : Option Token) → head_end_lang.stops x h ≡ true
head_end_stops (inl at) h = refl
head_end_stops (inr x) h = refl

pub head_end_reader : (limit : ℕ) → IsReader limit head_end_lang (head_end_at limit)
head_end_reader limit = choice_reader limit is_semicolon (sign_lang s.Semicolon 0) body_lang _ _ (λ a h g. refl) (λ c h g e. refl) (sign_reader limit 0 (omega arith) s.Semicolon)
    (seq_reader limit (sign_lang s.OpenBrace 0) (pair (ops_lang 0) (close_lang 0) (λ _ _. true)) (λ _ _. true) (read_sign s.OpenBrace) _ (sign_reader limit 0 (omega arith) s.OpenBrace)
    (seq_reader limit (ops_lang 0) (close_lang 0) (λ _ _. true) read_ops _ (ops_reader limit 0 (omega arith)) (close_reader limit limit 0 (omega arith) (stmt_at limit limit) (stmt_reader limit limit 0 (omega arith))) (λ a b k g1 g2 e. (on_no_verb _ (close_on 0 b k), refl)) (NoItems, no_spot) refl)
    (λ a b k g1 g2 e. (refl, refl)) ([], (NoItems, no_spot)) refl)

abbrev pub head_tail_lang : Lang Token HeadTail
head_tail_lang = (pair (sign_lang s.OpenParen 0) (pair params_lang (pair (sign_lang s.CloseParen 0) head_end_lang (λ _ _. true)) (λ _ _. true)) (λ _ _. true))

pub head_tail_reader : (limit : ℕ) → IsReader limit head_tail_lang (head_tail_at limit)
head_tail_reader limit =
    seq_reader limit _ _ (λ _ _. true) (read_sign s.OpenParen) _ (sign_reader limit 0 (omega arith) s.OpenParen)
    (seq_reader limit params_lang _ (λ _ _. true) read_params _ (params_reader limit)
    (seq_reader limit (sign_lang s.CloseParen 0) head_end_lang (λ _ _. true) (read_sign s.CloseParen) _ (sign_reader limit 0 (omega arith) s.CloseParen) (head_end_reader limit) (λ a b k g1 g2 e. (refl, head_end_stops b k)) (inl no_spot) refl)
    (λ a b k g1 g2 e. (refl, refl)) (no_spot, inl no_spot) refl)
    (λ a b k g1 g2 e. (refl, refl)) (NoParams, (no_spot, inl no_spot)) refl
