-- The laws of the readers of declarations.
use Rattle.std.proofs.Common.{◌≡◌, ℕ, ◌+◌, ◌≤◌, Bool, true, false, not, ◌&&◌, List, [], ◌∷◌, ◌++◌, Option, Some, None, refl, sym, ap, ◌∙◌, inl, inr, ◌⊎◌, arith}
use Rattle.std.proofs.lemmas.Bool.{and_from, and_parts}
use Rattle.cfix_base.specs.declared.Spot.{Spot}
use Rattle.c_grammar.specs.declared.word.Word.TheVariants as w
use Rattle.c_grammar.specs.declared.sign.Sign.TheVariants as s
use Rattle.c_reading.specs.Reader.{Out, Lang, toks, seq, holds}
use Rattle.c_grammar.specs.Marks.{first, tokens}
use Rattle.c_grammar.specs.Token.{Token, Ident, Numeral, Mark}
use Rattle.c_grammar.specs.Expr.{Expr}
use Rattle.c_grammar.specs.Simple.{Value, Computed}
use Rattle.c_grammar.specs.Decl.{Size, Count, Named, size_marks, Hold, OneThread, Threads, hold_marks, LocalInt, OneLocal, SetLocal, LocalArray, is_local_int, local_int_marks, Decl, Ints, Holds, is_decl, decl_marks, LoopInt, OneLoop, SetLoop, is_loop_int, loop_int_marks}
use Rattle.c_reading.specs.Read.{is_word, is_sign, is_number, read_word, read_sign, read_ident, read_numeral, listed, is_name}
use Rattle.c_reading.specs.ReadExpr.{expr_at}
use Rattle.c_reading.specs.ReadSimple.{is_bracket, value_at}
use Rattle.c_reading.specs.ReadDecl.{is_assign, size_from, read_size, Length, read_length, hold_from, read_hold, Declared, declared_with, local_from, local_at, decl_from, decl_at, loop_int_from, loop_int_at}
use Rattle.c_reading.proofs.Reader.{IsReader, pair, seq_reader, same_all, map_reader, optional, maybe_reader, choice, choice_reader}
use Rattle.c_reading.proofs.Token.{no_spot, word_lang, sign_lang, ident_lang, numeral_lang, word_reader, sign_reader, ident_reader, numeral_reader}
use Rattle.c_reading.proofs.Commas.{commas_lang, listed_lang, list_good_is, listed_reader}
use Rattle.c_reading.proofs.ReadExpr.{ends_unary, ends_expr, not_true, expr_lang, some_expr, whole_expr_reader}
use Rattle.c_reading.proofs.ReadValue.{some_ident, ends_value, value_lang, value_reader}
use Rattle.c_reading.proofs.ReadOp.{some_numeral}

-- ---- sizes and lengths

abbrev pub size_lang : ℕ → Lang Token Size
size_lang d = record { marks = size_marks d; good = λ _. true; stops = λ _ _. true }

abbrev size_to : Size → Numeral ⊎ Ident
size_to (Count n) = inl n
size_to (Named x) = inr x

pub size_reader : (limit d : ℕ) → d ≤ limit → IsReader limit (size_lang d) read_size
size_reader limit d h = map_reader limit (choice (numeral_lang d) (ident_lang d)) (size_lang d) size_from size_to
    (same_all _ _ size_from size_to (elim [ Count n ↦ refl | Named x ↦ refl ]) (elim [ inl n ↦ refl | inr x ↦ refl ]) (elim [ inl n ↦ refl | inr x ↦ refl ]) (elim [ inl n ↦ λ k e. refl | inr x ↦ λ k e. refl ])) _
    (choice_reader limit is_number (numeral_lang d) (ident_lang d) read_numeral read_ident (λ a k g. refl) (λ c k g e. refl) (numeral_reader limit d h) (ident_reader limit d h))

abbrev pub some_size : Size
some_size = Count some_numeral

abbrev pub length_lang : ℕ → Lang Token Length
length_lang d = pair (sign_lang s.OpenBracket d) (pair (size_lang d) (sign_lang s.CloseBracket d) (λ _ _. true)) (λ _ _. true)

length_reader : (limit d : ℕ) → d ≤ limit → IsReader limit (length_lang d) read_length
length_reader limit d h = seq_reader limit _ _ (λ _ _. true) (read_sign s.OpenBracket) _ (sign_reader limit d h s.OpenBracket)
    (seq_reader limit (size_lang d) (sign_lang s.CloseBracket d) (λ _ _. true) read_size (read_sign s.CloseBracket) (size_reader limit d h) (sign_reader limit d h s.CloseBracket) (λ a b k g1 g2 e. (refl, refl)) no_spot refl)
    (λ a b k g1 g2 e. (refl, refl)) (some_size, no_spot) refl

abbrev pub lengths_lang : ℕ → (Option Token → Bool) → Lang Token (Option Length)
lengths_lang d ends = optional (length_lang d) ends

pub lengths_good : (d : ℕ) (ends : Option Token → Bool) (n : Option Length) → (lengths_lang d ends).good n ≡ true
lengths_good d ends None = refl
lengths_good d ends (Some n) = refl

-- ---- threads

abbrev pub hold_lang : ℕ → Lang Token Hold
hold_lang d = record { marks = hold_marks d; good = λ _. true; stops = λ _ h. ends_unary h }

abbrev hold_parts : ℕ → Lang Token (Ident × Option Length)
hold_parts d = pair (ident_lang d) (lengths_lang d ends_unary) (λ _ h. ends_unary h)

abbrev hold_to : Hold → Ident × Option Length
hold_to (OneThread x) = (x, None)
hold_to (Threads x before n after) = (x, Some (before, (n, after)))

hold_back : (x : Hold) → hold_from (hold_to x) ≡ x
hold_back (OneThread x) = refl
hold_back (Threads x before n after) = refl

hold_marks_is : (d : ℕ) (x : Ident × Option Length) → hold_marks d (hold_from x) ≡ (hold_parts d).marks x
hold_marks_is d (x, None) = refl
hold_marks_is d (x, Some n) = refl

pub hold_reader : (limit d : ℕ) → d ≤ limit → IsReader limit (hold_lang d) read_hold
hold_reader limit d h = map_reader limit (hold_parts d) (hold_lang d) hold_from hold_to
    (same_all (hold_parts d) (hold_lang d) hold_from hold_to hold_back (hold_marks_is d) (λ x. sym (lengths_good d ends_unary x.1)) (λ x k e. e)) _
    (seq_reader limit (ident_lang d) (lengths_lang d ends_unary) (λ _ h. ends_unary h) read_ident _ (ident_reader limit d h)
    (maybe_reader limit is_bracket (length_lang d) ends_unary read_length (length_reader limit d h) (λ a k g. refl) (λ k e. not_true _ e) (λ a k g e. refl)) (λ a b k g1 g2 e. (refl, e)) None refl)

abbrev pub ends_hold : Option Token → Bool
ends_hold h = ends_unary h && not (holds (is_sign s.Comma) h)

abbrev pub holds_lang : ℕ → Lang Token (Spot × (Hold × List (Spot × Hold)))
holds_lang d = pair (word_lang w.Thread d) (listed_lang d (hold_lang d) ends_hold) (λ _ h. ends_hold h)

pub holds_reader : (limit d : ℕ) → d ≤ limit → IsReader limit (holds_lang d) (seq (read_word w.Thread) (listed read_hold))
holds_reader limit d h = seq_reader limit (word_lang w.Thread d) (listed_lang d (hold_lang d) ends_hold) (λ _ h. ends_hold h) (read_word w.Thread) _ (word_reader limit d h w.Thread)
    (listed_reader d (hold_lang d) ends_hold limit h read_hold (hold_reader limit d h) (OneThread some_ident) refl (λ a at g. refl) (λ a k g e. (and_parts _ _ e).0) (λ k e. not_true _ (and_parts _ _ e).1))
    (λ a b k g1 g2 e. (refl, e)) (OneThread some_ident, []) refl

pub holds_good : (d : ℕ) (xs : List (Spot × Hold)) → (commas_lang d (hold_lang d) ends_hold).good xs ≡ true
holds_good d [] = refl
holds_good d (x ∷ xs) = holds_good d xs

-- ---- what stands behind a declared name

abbrev pub no_assign : Option Token → Bool
no_assign h = not (holds is_assign h)

abbrev pub ends_declared : Option Token → Bool
ends_declared h = ends_unary h && no_assign h

module _ {V : Type 0} (d : ℕ) (lv : Lang Token V) where
  abbrev pub set_lang : Lang Token (Spot × V)
  set_lang = pair (sign_lang s.Assign d) lv (λ x h. lv.stops x.1 h)

  abbrev pub declared_lang : Lang Token (Declared V)
  declared_lang = choice set_lang (lengths_lang d ends_declared)

  lengths_no_assign : (c : Option Length) (h : Option Token) → ends_declared h ≡ true → holds is_assign (first (toks (lengths_lang d ends_declared) c) h) ≡ false
  lengths_no_assign None h e = not_true _ (and_parts _ _ e).1
  lengths_no_assign (Some n) h e = refl

  pub set_reader : (limit : ℕ) → d ≤ limit → (value : List Token → Out Token V) → IsReader limit lv value → (v0 : V) → lv.good v0 ≡ true → IsReader limit set_lang (seq (read_sign s.Assign) value)
  set_reader limit hd value rv v0 g0 = seq_reader limit (sign_lang s.Assign d) lv (λ x h. lv.stops x.1 h) (read_sign s.Assign) value (sign_reader limit d hd s.Assign) rv (λ a b k g1 g2 e. (refl, e)) v0 g0

  pub declared_reader : (limit : ℕ) → d ≤ limit → (value : List Token → Out Token V) → IsReader limit lv value → (v0 : V) → lv.good v0 ≡ true → IsReader limit declared_lang (declared_with value)
  declared_reader limit hd value rv v0 g0 = choice_reader limit is_assign set_lang (lengths_lang d ends_declared) _ _ (λ a k g. refl) (λ c k g e. lengths_no_assign c k e) (set_reader limit hd value rv v0 g0)
      (maybe_reader limit is_bracket (length_lang d) ends_declared read_length (length_reader limit d hd) (λ a k g. refl) (λ k e. not_true _ (and_parts _ _ e).0) (λ a k g e. refl))

-- ---- local variables

abbrev pub ends_local : Option Token → Bool
ends_local h = ends_value h && no_assign h

local_declared : (h : Option Token) → ends_local h ≡ true → ends_declared h ≡ true
local_declared h e =
    let p : (ends_value h ≡ true) × (no_assign h ≡ true) = and_parts _ _ e in
    let q : (ends_expr h ≡ true) × (not (holds (is_sign s.OpenParen) h) ≡ true) = and_parts _ _ p.0 in
    and_from (ends_unary h) (no_assign h) (and_parts _ _ q.0).0 p.1

abbrev pub local_lang : ℕ → Lang Token LocalInt
local_lang d = record { marks = local_int_marks d; good = is_local_int; stops = λ _ h. ends_local h }

abbrev local_parts : ℕ → Lang Token (Ident × Declared Value)
local_parts d = pair (ident_lang d) (declared_lang d (value_lang d)) (λ x h. (declared_lang d (value_lang d)).stops x.1 h)

abbrev local_to : LocalInt → Ident × Declared Value
local_to (OneLocal x) = (x, inr None)
local_to (SetLocal x at v) = (x, inl (at, v))
local_to (LocalArray x before n after) = (x, inr (Some (before, (n, after))))

local_back : (x : LocalInt) → local_from (local_to x) ≡ x
local_back (OneLocal x) = refl
local_back (SetLocal x at v) = refl
local_back (LocalArray x before n after) = refl

local_marks_is : (d : ℕ) (x : Ident × Declared Value) → local_int_marks d (local_from x) ≡ (local_parts d).marks x
local_marks_is d (x, inl v) = refl
local_marks_is d (x, inr None) = refl
local_marks_is d (x, inr (Some n)) = refl

local_good_is : (d : ℕ) (x : Ident × Declared Value) → is_local_int (local_from x) ≡ (local_parts d).good x
local_good_is d (x, inl v) = refl
local_good_is d (x, inr None) = refl
local_good_is d (x, inr (Some n)) = refl

local_stops_is : (d : ℕ) (x : LocalInt) (h : Option Token) → ends_local h ≡ true → (local_parts d).stops (local_to x) h ≡ true
local_stops_is d (OneLocal x) h k = local_declared h k
local_stops_is d (SetLocal x at v) h k = (and_parts _ _ k).0
local_stops_is d (LocalArray x before n after) h k = local_declared h k

pub local_reader : (limit r d : ℕ) → r + d ≡ limit → IsReader limit (local_lang d) (local_at limit r)
unfolding local_at
local_reader limit r d h = map_reader limit (local_parts d) (local_lang d) local_from local_to
    (record {
      back = λ x g. local_back x;
      good_back = λ x g. sym (local_good_is d (local_to x)) ∙ ap is_local_int (local_back x) ∙ g;
      marks = λ x g. local_marks_is d x;
      good = λ x g. local_good_is d x ∙ g;
      stops = λ x k g e. local_stops_is d x k e;
    }) _
    (seq_reader limit (ident_lang d) (declared_lang d (value_lang d)) (λ x h. (declared_lang d (value_lang d)).stops x.1 h) read_ident _ (ident_reader limit d (omega (arith, h)))
    (declared_reader d (value_lang d) limit (omega (arith, h)) (value_at limit r) (value_reader limit r d h) (Computed some_expr) refl) (λ a b k g1 g2 e. (refl, e)) (inr None) refl)

abbrev pub ends_decl : Option Token → Bool
ends_decl h = ends_local h && not (holds (is_sign s.Comma) h)

abbrev locals_lang : ℕ → Lang Token (LocalInt × List (Spot × LocalInt))
locals_lang d = listed_lang d (local_lang d) ends_decl

abbrev ints_lang : ℕ → Lang Token (Spot × (LocalInt × List (Spot × LocalInt)))
ints_lang d = pair (word_lang w.Int d) (locals_lang d) (λ _ h. ends_decl h)

ints_reader : (limit r d : ℕ) → r + d ≡ limit → IsReader limit (ints_lang d) (seq (read_word w.Int) (listed (local_at limit r)))
ints_reader limit r d h = seq_reader limit (word_lang w.Int d) (locals_lang d) (λ _ h. ends_decl h) (read_word w.Int) _ (word_reader limit d (omega (arith, h)) w.Int)
    (listed_reader d (local_lang d) ends_decl limit (omega (arith, h)) (local_at limit r) (local_reader limit r d h) (OneLocal some_ident) refl (λ a at g. refl) (λ a k g e. (and_parts _ _ e).0) (λ k e. not_true _ (and_parts _ _ e).1))
    (λ a b k g1 g2 e. (refl, e)) (OneLocal some_ident, []) refl

abbrev pub decl_lang : ℕ → Lang Token Decl
decl_lang d = record { marks = decl_marks d; good = is_decl; stops = λ _ h. ends_decl h }

abbrev decl_parts : ℕ → Lang Token ((Spot × (LocalInt × List (Spot × LocalInt))) ⊎ (Spot × (Hold × List (Spot × Hold))))
decl_parts d = choice (ints_lang d) (holds_lang d)

abbrev decl_to : Decl → (Spot × (LocalInt × List (Spot × LocalInt))) ⊎ (Spot × (Hold × List (Spot × Hold)))
decl_to (Ints at x more) = inl (at, (x, more))
decl_to (Holds at x more) = inr (at, (x, more))

decl_back : (x : Decl) → decl_from (decl_to x) ≡ x
decl_back (Ints at x more) = refl
decl_back (Holds at x more) = refl

decl_marks_is : (d : ℕ) (x : (Spot × (LocalInt × List (Spot × LocalInt))) ⊎ (Spot × (Hold × List (Spot × Hold)))) → decl_marks d (decl_from x) ≡ (decl_parts d).marks x
decl_marks_is d (inl x) = refl
decl_marks_is d (inr x) = refl

decl_good_is : (d : ℕ) (x : (Spot × (LocalInt × List (Spot × LocalInt))) ⊎ (Spot × (Hold × List (Spot × Hold)))) → is_decl (decl_from x) ≡ (decl_parts d).good x
decl_good_is d (inl x) = ap (λ (v : Bool). is_local_int x.1.0 && v) (list_good_is d (local_lang d) ends_decl is_local_int (λ a. refl) x.1.1)
decl_good_is d (inr x) = sym (holds_good d x.1.1)

decl_hold : (h : Option Token) → ends_decl h ≡ true → ends_hold h ≡ true
decl_hold h e =
    let p : (ends_local h ≡ true) × (not (holds (is_sign s.Comma) h) ≡ true) = and_parts _ _ e in
    let q : (ends_unary h ≡ true) × (no_assign h ≡ true) = and_parts _ _ (local_declared h p.0) in
    and_from (ends_unary h) (not (holds (is_sign s.Comma) h)) q.0 p.1

decl_stops_is : (d : ℕ) (x : Decl) (h : Option Token) → ends_decl h ≡ true → (decl_parts d).stops (decl_to x) h ≡ true
decl_stops_is d (Ints at x more) h k = k
decl_stops_is d (Holds at x more) h k = decl_hold h k

pub decl_reader : (limit r d : ℕ) → r + d ≡ limit → IsReader limit (decl_lang d) (decl_at limit r)
unfolding decl_at
decl_reader limit r d h = map_reader limit (decl_parts d) (decl_lang d) decl_from decl_to
    (record {
      back = λ x g. decl_back x;
      good_back = λ x g. sym (decl_good_is d (decl_to x)) ∙ ap is_decl (decl_back x) ∙ g;
      marks = λ x g. decl_marks_is d x;
      good = λ x g. decl_good_is d x ∙ g;
      stops = λ x k g e. decl_stops_is d x k e;
    }) _
    (choice_reader limit (is_word w.Int) (ints_lang d) (holds_lang d) _ _ (λ a k g. refl) (λ c k g e. refl) (ints_reader limit r d h) (holds_reader limit d (omega (arith, h))))

-- ---- the variables of a `for`

abbrev pub ends_loop : Option Token → Bool
ends_loop h = ends_expr h && no_assign h

abbrev pub loop_int_lang : ℕ → Lang Token LoopInt
loop_int_lang d = record { marks = loop_int_marks d; good = is_loop_int; stops = λ _ h. ends_loop h }

abbrev loop_int_parts : ℕ → Lang Token (Ident × Option (Spot × Expr))
loop_int_parts d = pair (ident_lang d) (optional (set_lang d (expr_lang d 0)) ends_loop) (λ _ h. ends_loop h)

abbrev loop_int_to : LoopInt → Ident × Option (Spot × Expr)
loop_int_to (OneLoop x) = (x, None)
loop_int_to (SetLoop x at e) = (x, Some (at, e))

pub loop_int_reader : (limit r d : ℕ) → r + d ≡ limit → IsReader limit (loop_int_lang d) (loop_int_at limit r)
unfolding loop_int_at
loop_int_reader limit r d h = map_reader limit (loop_int_parts d) (loop_int_lang d) loop_int_from loop_int_to
    (same_all (loop_int_parts d) (loop_int_lang d) loop_int_from loop_int_to (elim [ OneLoop x ↦ refl | SetLoop x at e ↦ refl ]) marks_is good_is (λ x k e. stops_is x k e)) _
    (seq_reader limit (ident_lang d) (optional (set_lang d (expr_lang d 0)) ends_loop) (λ _ h. ends_loop h) read_ident _ (ident_reader limit d (omega (arith, h)))
    (maybe_reader limit is_assign (set_lang d (expr_lang d 0)) ends_loop _ (set_reader d (expr_lang d 0) limit (omega (arith, h)) (expr_at r limit) (whole_expr_reader limit r d h) some_expr refl) (λ a k g. refl) (λ k e. not_true _ (and_parts _ _ e).1) (λ a k g e. (and_parts _ _ e).0))
    (λ a b k g1 g2 e. (refl, e)) None refl)
  where
    marks_is : (x : Ident × Option (Spot × Expr)) → loop_int_marks d (loop_int_from x) ≡ (loop_int_parts d).marks x
    marks_is (x, None) = refl
    marks_is (x, Some v) = refl

    good_is : (x : Ident × Option (Spot × Expr)) → is_loop_int (loop_int_from x) ≡ (loop_int_parts d).good x
    good_is (x, None) = refl
    good_is (x, Some v) = refl

    stops_is : (x : Ident × Option (Spot × Expr)) (k : Option Token) → ends_loop k ≡ true → ends_loop k ≡ true
    stops_is x k e = e

-- a declared name begins with a name
pub local_begins : (d : ℕ) (x : LocalInt) (more : List Mark) (h : Option Token) → holds is_name (first (tokens (local_int_marks d x ++ more)) h) ≡ true
local_begins d (OneLocal x) more h = refl
local_begins d (SetLocal x at v) more h = refl
local_begins d (LocalArray x before n after) more h = refl
