-- The laws of the readers of assignments and steps.
use Rattle.std.proofs.Common.{◌≡◌, ℕ, ◌+◌, ◌≤◌, true, false, List, [], ◌∷◌, ◌++◌, Option, Some, None, refl, sym, ap, ◌∙◌, inl, inr, ◌⊎◌, arith}
use Rattle.std.proofs.lemmas.Bool.{and_parts}
use Rattle.cfix_base.specs.declared.Spot.{Spot}
use Rattle.c_grammar.specs.declared.sign.Sign.TheVariants as s
use Rattle.c_reading.specs.Reader.{Out, Lang, toks, one_of, seq, holds}
use Rattle.c_grammar.specs.Marks.{first, tokens}
use Rattle.c_grammar.specs.Token.{Kind, IsSign, Token, sign, Mark}
use Rattle.c_grammar.specs.Expr.{Expr}
use Rattle.c_grammar.specs.Simple.{Target, TargetOf, is_target, target_marks, Change, AddTo, SubtractFrom, MultiplyBy, DivideBy, RemainderBy, change_sign, Step, Up, Down, step_sign, Plain, SetTo, Changed, SteppedAfter, SteppedBefore, is_plain, plain_marks}
use Rattle.c_reading.specs.Read.{is_sign, is_sign_kind, is_name, read_sign}
use Rattle.c_reading.specs.ReadExpr.{is_some, expr_at}
use Rattle.c_reading.specs.ReadSimple.{change_in, step_in, change_of, step_of, is_change, is_step, target_at, Assigns, assigns_with, plain_from, plain_at}
use Rattle.c_reading.proofs.Reader.{IsReader, one_reader, pair, seq_reader, map_reader, choice, choice_reader}
use Rattle.c_reading.proofs.Token.{no_spot, sign_lang, sign_reader}
use Rattle.c_reading.proofs.ReadExpr.{made, ends_unary, ends_expr, expr_lang, some_expr, whole_expr_reader, and_true}
use Rattle.c_reading.proofs.ReadValue.{some_ident, target_lang, target_reader}

-- ---- operators

abbrev changes : Change × Spot → Token
changes x = sign (change_sign x.0) x.1

abbrev steps : Step × Spot → Token
steps x = sign (step_sign x.0) x.1

change_back : (c : Change) (at : Spot) → change_of (sign (change_sign c) at) ≡ Some (c, at)
change_back AddTo at = refl
change_back SubtractFrom at = refl
change_back MultiplyBy at = refl
change_back DivideBy at = refl
change_back RemainderBy at = refl

step_back : (c : Step) (at : Spot) → step_of (sign (step_sign c) at) ≡ Some (c, at)
step_back Up at = refl
step_back Down at = refl

only_change : (k : Kind) (at : Spot) (x : Change × Spot) → change_in k at ≡ Some x → made k at ≡ changes x
only_change (IsSign s.PlusAssign) at x e = let h : (AddTo, at) ≡ x = cc in ap changes h
only_change (IsSign s.MinusAssign) at x e = let h : (SubtractFrom, at) ≡ x = cc in ap changes h
only_change (IsSign s.StarAssign) at x e = let h : (MultiplyBy, at) ≡ x = cc in ap changes h
only_change (IsSign s.SlashAssign) at x e = let h : (DivideBy, at) ≡ x = cc in ap changes h
only_change (IsSign s.PercentAssign) at x e = let h : (RemainderBy, at) ≡ x = cc in ap changes h
only_change _ at x e = absurd cc

only_step : (k : Kind) (at : Spot) (x : Step × Spot) → step_in k at ≡ Some x → made k at ≡ steps x
only_step (IsSign s.PlusPlus) at x e = let h : (Up, at) ≡ x = cc in ap steps h
only_step (IsSign s.MinusMinus) at x e = let h : (Down, at) ≡ x = cc in ap steps h
only_step _ at x e = absurd cc

abbrev pub change_lang : ℕ → Lang Token (Change × Spot)
change_lang d = record { marks = λ x. (changes x, d) ∷ []; good = λ _. true; stops = λ _ _. true }

abbrev pub step_lang : ℕ → Lang Token (Step × Spot)
step_lang d = record { marks = λ x. (steps x, d) ∷ []; good = λ _. true; stops = λ _ _. true }

change_reader : (limit d : ℕ) → d ≤ limit → IsReader limit (change_lang d) (one_of change_of)
change_reader limit d h = one_reader limit (change_lang d) change_of changes (record {
  back = λ x g. change_back x.0 x.1;
  only = λ t x e. (only_change t.kind t.spot x e, refl);
  depth = d;
  marks = λ x. refl;
  shallow = h;
  some = (AddTo, no_spot);
  some_good = refl;
})

pub step_reader : (limit d : ℕ) → d ≤ limit → IsReader limit (step_lang d) (one_of step_of)
step_reader limit d h = one_reader limit (step_lang d) step_of steps (record {
  back = λ x g. step_back x.0 x.1;
  only = λ t x e. (only_step t.kind t.spot x e, refl);
  depth = d;
  marks = λ x. refl;
  shallow = h;
  some = (Up, no_spot);
  some_good = refl;
})

change_some : (c : Change) (at : Spot) → is_change (sign (change_sign c) at) ≡ true
change_some c at = ap is_some (change_back c at)

pub step_some : (c : Step) (at : Spot) → is_step (sign (step_sign c) at) ≡ true
step_some c at = ap is_some (step_back c at)

change_no_assign : (c : Change) → is_sign_kind s.Assign (IsSign (change_sign c)) ≡ false
change_no_assign AddTo = refl
change_no_assign SubtractFrom = refl
change_no_assign MultiplyBy = refl
change_no_assign DivideBy = refl
change_no_assign RemainderBy = refl

step_no_assign : (c : Step) → is_sign_kind s.Assign (IsSign (step_sign c)) ≡ false
step_no_assign Up = refl
step_no_assign Down = refl

step_no_change : (c : Step) (at : Spot) → is_change (sign (step_sign c) at) ≡ false
step_no_change Up at = refl
step_no_change Down at = refl

pub step_no_name : (c : Step) (at : Spot) → is_name (sign (step_sign c) at) ≡ false
step_no_name c at = refl

change_ends_unary : (c : Change) (at : Spot) → ends_unary (Some (sign (change_sign c) at)) ≡ true
change_ends_unary AddTo at = refl
change_ends_unary SubtractFrom at = refl
change_ends_unary MultiplyBy at = refl
change_ends_unary DivideBy at = refl
change_ends_unary RemainderBy at = refl

step_ends_unary : (c : Step) (at : Spot) → ends_unary (Some (sign (step_sign c) at)) ≡ true
step_ends_unary Up at = refl
step_ends_unary Down at = refl

-- ---- what stands behind a target

module _ {V : Type 0} (d : ℕ) (lv : Lang Token V) where
  abbrev set_part : Lang Token (Spot × V)
  set_part = pair (sign_lang s.Assign d) lv (λ x h. lv.stops x.1 h)

  abbrev change_part : Lang Token ((Change × Spot) × Expr)
  change_part = pair (change_lang d) (expr_lang d 0) (λ _ h. ends_expr h)

  abbrev pub assigns_lang : Lang Token (Assigns V)
  assigns_lang = choice set_part (choice change_part (step_lang d))

  pub assigns_end : (x : Assigns V) (h : Option Token) → ends_unary (first (toks assigns_lang x) h) ≡ true
  assigns_end (inl x) h = refl
  assigns_end (inr (inl x)) h = change_ends_unary x.0.0 x.0.1
  assigns_end (inr (inr x)) h = step_ends_unary x.0 x.1

  no_assign : (c : ((Change × Spot) × Expr) ⊎ (Step × Spot)) (h : Option Token) → holds (is_sign s.Assign) (first (toks (choice change_part (step_lang d)) c) h) ≡ false
  no_assign (inl x) h = change_no_assign x.0.0
  no_assign (inr x) h = step_no_assign x.0

  pub assigns_reader : (limit r : ℕ) → r + d ≡ limit → (value : List Token → Out Token V) → IsReader limit lv value → (v0 : V) → lv.good v0 ≡ true → IsReader limit assigns_lang (assigns_with limit r value)
  assigns_reader limit r h value rv v0 g0 =
      choice_reader limit (is_sign s.Assign) set_part (choice change_part (step_lang d)) _ _ (λ a k g. refl) (λ c k g e. no_assign c k)
      (seq_reader limit (sign_lang s.Assign d) lv (λ x h. lv.stops x.1 h) (read_sign s.Assign) value (sign_reader limit d (omega (arith, h)) s.Assign) rv (λ a b k g1 g2 e. (refl, e)) v0 g0)
      (choice_reader limit is_change change_part (step_lang d) _ _ (λ a k g. change_some a.0.0 a.0.1) (λ c k g e. step_no_change c.0 c.1)
      (seq_reader limit (change_lang d) (expr_lang d 0) (λ _ h. ends_expr h) (one_of change_of) (expr_at r limit) (change_reader limit d (omega (arith, h))) (whole_expr_reader limit r d h) (λ a b k g1 g2 e. (refl, e)) some_expr refl)
      (step_reader limit d (omega (arith, h))))

-- ---- plain assignments and steps

abbrev pub plain_lang : ℕ → Lang Token Plain
plain_lang d = record { marks = plain_marks d; good = is_plain; stops = λ _ h. ends_expr h }

abbrev assigned_lang : ℕ → Lang Token (Target × Assigns Expr)
assigned_lang d = pair (target_lang d) (assigns_lang d (expr_lang d 0)) (λ x h. (assigns_lang d (expr_lang d 0)).stops x.1 h)

abbrev pub before_lang : ℕ → Lang Token ((Step × Spot) × Target)
before_lang d = pair (step_lang d) (target_lang d) (λ _ h. ends_unary h)

pub before_reader : (limit r d : ℕ) → r + d ≡ limit → IsReader limit (before_lang d) (seq (one_of step_of) (target_at limit r))
before_reader limit r d h = seq_reader limit (step_lang d) (target_lang d) (λ _ h. ends_unary h) (one_of step_of) (target_at limit r) (step_reader limit d (omega (arith, h))) (target_reader limit r d h) (λ a b k g1 g2 e. (refl, e)) (TargetOf some_ident None) refl

abbrev plain_parts : ℕ → Lang Token ((Target × Assigns Expr) ⊎ ((Step × Spot) × Target))
plain_parts d = choice (assigned_lang d) (before_lang d)

abbrev plain_to : Plain → (Target × Assigns Expr) ⊎ ((Step × Spot) × Target)
plain_to (SetTo t at e) = inl (t, inl (at, e))
plain_to (Changed t c at e) = inl (t, inr (inl ((c, at), e)))
plain_to (SteppedAfter t step at) = inl (t, inr (inr (step, at)))
plain_to (SteppedBefore step at t) = inr ((step, at), t)

plain_back : (p : Plain) → plain_from (plain_to p) ≡ p
plain_back (SetTo t at e) = refl
plain_back (Changed t c at e) = refl
plain_back (SteppedAfter t step at) = refl
plain_back (SteppedBefore step at t) = refl

plain_marks_is : (d : ℕ) (x : (Target × Assigns Expr) ⊎ ((Step × Spot) × Target)) → plain_marks d (plain_from x) ≡ (plain_parts d).marks x
plain_marks_is d (inl (t, inl x)) = refl
plain_marks_is d (inl (t, inr (inl x))) = refl
plain_marks_is d (inl (t, inr (inr x))) = refl
plain_marks_is d (inr x) = refl

plain_good_is : (d : ℕ) (x : (Target × Assigns Expr) ⊎ ((Step × Spot) × Target)) → is_plain (plain_from x) ≡ (plain_parts d).good x
plain_good_is d (inl (t, inl x)) = refl
plain_good_is d (inl (t, inr (inl x))) = refl
plain_good_is d (inl (t, inr (inr x))) = sym (and_true (is_target t))
plain_good_is d (inr x) = refl

plain_stops_is : (d : ℕ) (p : Plain) (h : Option Token) → ends_expr h ≡ true → (plain_parts d).stops (plain_to p) h ≡ true
plain_stops_is d (SetTo t at e) h k = k
plain_stops_is d (Changed t c at e) h k = k
plain_stops_is d (SteppedAfter t step at) h k = refl
plain_stops_is d (SteppedBefore step at t) h k = (and_parts _ _ k).0

pub target_name : (d : ℕ) (t : Target) (ms : List Mark) (h : Option Token) → holds is_name (first (tokens (target_marks d t ++ ms)) h) ≡ true
target_name d (TargetOf x i) ms h = refl

pub plain_reader : (limit r d : ℕ) → r + d ≡ limit → IsReader limit (plain_lang d) (plain_at limit r)
unfolding plain_at
plain_reader limit r d h = map_reader limit (plain_parts d) (plain_lang d) plain_from plain_to
    (record {
      back = λ p g. plain_back p;
      good_back = λ p g. sym (plain_good_is d (plain_to p)) ∙ ap is_plain (plain_back p) ∙ g;
      marks = λ x g. plain_marks_is d x;
      good = λ x g. plain_good_is d x ∙ g;
      stops = λ p k g e. plain_stops_is d p k e;
    }) _
    (choice_reader limit is_name (assigned_lang d) (before_lang d) _ _ (λ a k g. target_name d a.0 _ k) (λ c k g e. step_no_name c.0.0 c.0.1)
    (seq_reader limit (target_lang d) (assigns_lang d (expr_lang d 0)) (λ x h. (assigns_lang d (expr_lang d 0)).stops x.1 h) (target_at limit r) _ (target_reader limit r d h)
    (assigns_reader d (expr_lang d 0) limit r h (expr_at r limit) (whole_expr_reader limit r d h) some_expr refl) (λ a b k g1 g2 e. (assigns_end d (expr_lang d 0) b k, e)) (inr (inr (Up, no_spot))) refl)
    (before_reader limit r d h))

pub change_no_paren : (c : Change) → is_sign_kind s.OpenParen (IsSign (change_sign c)) ≡ false
change_no_paren AddTo = refl
change_no_paren SubtractFrom = refl
change_no_paren MultiplyBy = refl
change_no_paren DivideBy = refl
change_no_paren RemainderBy = refl

pub step_no_paren : (c : Step) → is_sign_kind s.OpenParen (IsSign (step_sign c)) ≡ false
step_no_paren Up = refl
step_no_paren Down = refl
