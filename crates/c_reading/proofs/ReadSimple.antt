-- The laws of the reader of simple statements.
use Rattle.std.proofs.Common.{◌≡◌, ℕ, ◌+◌, Bool, true, false, ◌&&◌, Option, Some, None, refl, sym, ap, ◌∙◌, inl, inr, ◌⊎◌, arith}
use Rattle.std.proofs.lemmas.Bool.{and_parts}
use Rattle.cfix_base.specs.declared.Spot.{Spot}
use Rattle.c_grammar.specs.Marks.{first, tokens, maybe}
use Rattle.c_reading.specs.Reader.{Lang, toks, one_of, seq, holds, alt, maybe_read}
use Rattle.c_grammar.specs.Token.{Token, Ident}
use Rattle.c_grammar.specs.Expr.{is_expr}
use Rattle.c_grammar.specs.Simple.{Place, is_place, Target, TargetOf, CallOf, is_call, Value, Computed, Called, Step, Up, SetTo, Changed, SteppedAfter, SteppedBefore, Library, Create, Join, Lock, Unlock, Print, Scan, Wait, Signal, Broadcast, library_marks, Simple, PlainPart, SetCall, OnlyCall, LibraryPart, is_simple, simple_marks}
use Rattle.c_reading.specs.Read.{is_name, read_ident}
use Rattle.c_reading.specs.ReadExpr.{index_at}
use Rattle.c_reading.specs.ReadSimple.{is_bracket, is_paren, is_step, step_of, target_at, call_tail_at, value_at, Assigns, assigns_with, library_at, SimpleTail, SimpleParts, simple_from, simple_at}
use Rattle.c_reading.proofs.Reader.{IsReader, pair, seq_reader, map_reader, optional, maybe_reader, choice, choice_reader}
use Rattle.c_reading.proofs.Token.{no_spot, ident_lang, ident_reader}
use Rattle.c_reading.proofs.ReadExpr.{ends_unary, ends_expr, no_paren, not_true, bracket_part, index_at_reader, and_true, some_expr}
use Rattle.c_reading.proofs.ReadValue.{ends_value, place_good, call_tail_lang, call_tail_reader, call_good, value_lang, value_reader}
use Rattle.c_reading.proofs.ReadPlain.{assigns_lang, assigns_end, assigns_reader, before_lang, before_reader, step_some, change_no_paren, step_no_paren}
use Rattle.c_reading.proofs.ReadLibrary.{library_lang, library_reader}

abbrev assign_lang : ℕ → Lang Token (Assigns Value)
assign_lang d = assigns_lang d (value_lang d)

-- what may follow an index that a `=` or the like must follow: no parenthesis and no bracket, so that a call is told apart
abbrev tail_lang : ℕ → Lang Token (Option Place × Assigns Value)
tail_lang d = pair (optional (bracket_part d 0) ends_unary) (assign_lang d) (λ x h. (assign_lang d).stops x.1 h)

abbrev behind_lang : ℕ → Lang Token SimpleTail
behind_lang d = choice (call_tail_lang d) (tail_lang d)

abbrev named_lang : ℕ → Lang Token (Ident × SimpleTail)
named_lang d = pair (ident_lang d) (behind_lang d) (λ x h. (behind_lang d).stops x.1 h)

abbrev simple_parts : ℕ → Lang Token SimpleParts
simple_parts d = choice (named_lang d) (choice (before_lang d) (library_lang d))

tail_no_paren : (d : ℕ) (c : Option Place × Assigns Value) (h : Option Token) → holds is_paren (first (toks (tail_lang d) c) h) ≡ false
tail_no_paren d (Some i, x) h = refl
tail_no_paren d (None, inl x) h = refl
tail_no_paren d (None, inr (inl x)) h = change_no_paren x.0.0
tail_no_paren d (None, inr (inr x)) h = step_no_paren x.0

tail_reader : (limit r d : ℕ) → r + d ≡ limit → IsReader limit (tail_lang d) (seq (maybe_read is_bracket (index_at r limit)) (assigns_with limit r (value_at limit r)))
tail_reader limit r d h = seq_reader limit (optional (bracket_part d 0) ends_unary) (assign_lang d) (λ x h. (assign_lang d).stops x.1 h) _ _
    (maybe_reader limit is_bracket (bracket_part d 0) ends_unary (index_at r limit) (index_at_reader limit r d 0 limit h (omega arith)) (λ a k g. refl) (λ k e. not_true _ e) (λ a k g e. refl))
    (assigns_reader d (value_lang d) limit r h (value_at limit r) (value_reader limit r d h) (Computed some_expr) refl) (λ a b k g1 g2 e. (assigns_end d (value_lang d) b k, e)) (inr (inr (Up, no_spot))) refl

named_reader : (limit r d : ℕ) → r + d ≡ limit → IsReader limit (named_lang d) (seq read_ident (alt is_paren (call_tail_at limit r) (seq (maybe_read is_bracket (index_at r limit)) (assigns_with limit r (value_at limit r)))))
named_reader limit r d h = seq_reader limit (ident_lang d) (behind_lang d) (λ x h. (behind_lang d).stops x.1 h) read_ident _ (ident_reader limit d (omega (arith, h)))
    (choice_reader limit is_paren (call_tail_lang d) (tail_lang d) _ _ (λ a k g. refl) (λ c k g e. tail_no_paren d c k) (call_tail_reader limit r d h) (tail_reader limit r d h))
    (λ a b k g1 g2 e. (refl, e)) (inr (None, inr (inr (Up, no_spot)))) refl

library_no_step : (d : ℕ) (x : Library) (h : Option Token) → holds is_step (first (tokens (library_marks d x)) h) ≡ false
library_no_step d (Create a b c e f g i j k l m) h = refl
library_no_step d (Join a b c e f g) h = refl
library_no_step d (Lock a b c e f) h = refl
library_no_step d (Unlock a b c e f) h = refl
library_no_step d (Print a b c e f) h = refl
library_no_step d (Scan a b c e f g i) h = refl
library_no_step d (Wait a b c e f g i j) h = refl
library_no_step d (Signal a b c e f) h = refl
library_no_step d (Broadcast a b c e f) h = refl

other_no_name : (d : ℕ) (x : ((Step × Spot) × Target) ⊎ Library) (h : Option Token) → holds is_name (first (toks (choice (before_lang d) (library_lang d)) x) h) ≡ false
other_no_name d (inl x) h = refl
other_no_name d (inr (Create a b c e f g i j k l m)) h = refl
other_no_name d (inr (Join a b c e f g)) h = refl
other_no_name d (inr (Lock a b c e f)) h = refl
other_no_name d (inr (Unlock a b c e f)) h = refl
other_no_name d (inr (Print a b c e f)) h = refl
other_no_name d (inr (Scan a b c e f g i)) h = refl
other_no_name d (inr (Wait a b c e f g i j)) h = refl
other_no_name d (inr (Signal a b c e f)) h = refl
other_no_name d (inr (Broadcast a b c e f)) h = refl

parts_reader : (limit r d : ℕ) → r + d ≡ limit → IsReader limit (simple_parts d) (alt is_name (seq read_ident (alt is_paren (call_tail_at limit r) (seq (maybe_read is_bracket (index_at r limit)) (assigns_with limit r (value_at limit r)))))
    (alt is_step (seq (one_of step_of) (target_at limit r)) (library_at limit r)))
parts_reader limit r d h = choice_reader limit is_name (named_lang d) (choice (before_lang d) (library_lang d)) _ _ (λ a k g. refl) (λ c k g e. other_no_name d c k) (named_reader limit r d h)
    (choice_reader limit is_step (before_lang d) (library_lang d) _ _ (λ a k g. step_some a.0.0 a.0.1) (λ c k g e. library_no_step d c k) (before_reader limit r d h) (library_reader limit r d h))

abbrev simple_to : Simple → SimpleParts
simple_to (PlainPart (SetTo (TargetOf x i) at e)) = inl (x, inr (i, inl (at, Computed e)))
simple_to (PlainPart (Changed (TargetOf x i) c at e)) = inl (x, inr (i, inr (inl ((c, at), e))))
simple_to (PlainPart (SteppedAfter (TargetOf x i) step at)) = inl (x, inr (i, inr (inr (step, at))))
simple_to (PlainPart (SteppedBefore step at t)) = inr (inl ((step, at), t))
simple_to (SetCall (TargetOf x i) at c) = inl (x, inr (i, inl (at, Called c)))
simple_to (OnlyCall (CallOf f before args after)) = inl (f, inl (before, (args, after)))
simple_to (LibraryPart x) = inr (inr x)

simple_back : (x : Simple) → simple_from (simple_to x) ≡ x
simple_back (PlainPart (SetTo (TargetOf x i) at e)) = refl
simple_back (PlainPart (Changed (TargetOf x i) c at e)) = refl
simple_back (PlainPart (SteppedAfter (TargetOf x i) step at)) = refl
simple_back (PlainPart (SteppedBefore step at t)) = refl
simple_back (SetCall (TargetOf x i) at c) = refl
simple_back (OnlyCall (CallOf f before args after)) = refl
simple_back (LibraryPart x) = refl

simple_marks_is : (d : ℕ) (x : SimpleParts) → simple_marks d (simple_from x) ≡ (simple_parts d).marks x
simple_marks_is d (inl (x, inl t)) = refl
simple_marks_is d (inl (x, inr (i, inl (at, Computed e)))) = refl
simple_marks_is d (inl (x, inr (i, inl (at, Called c)))) = refl
simple_marks_is d (inl (x, inr (i, inr (inl y)))) = refl
simple_marks_is d (inl (x, inr (i, inr (inr y)))) = refl
simple_marks_is d (inr (inl x)) = refl
simple_marks_is d (inr (inr x)) = refl

-- the index of a target, as the tests of both sides say it
place_same : (d : ℕ) (i : Option Place) (v : Bool) → (maybe true is_place i && v) ≡ ((optional (bracket_part d 0) ends_unary).good i && v)
place_same d i v = ap (λ (u : Bool). u && v) (place_good d i)

simple_good_is : (d : ℕ) (x : SimpleParts) → is_simple (simple_from x) ≡ (simple_parts d).good x
simple_good_is d (inl (x, inl t)) = call_good d x t
simple_good_is d (inl (x, inr (i, inl (at, Computed e)))) = place_same d i (is_expr e)
simple_good_is d (inl (x, inr (i, inl (at, Called c)))) = place_same d i (is_call c)
simple_good_is d (inl (x, inr (i, inr (inl y)))) = place_same d i (is_expr y.1)
simple_good_is d (inl (x, inr (i, inr (inr y)))) = sym (and_true (maybe true is_place i)) ∙ place_same d i true
simple_good_is d (inr (inl x)) = refl
simple_good_is d (inr (inr x)) = refl

abbrev pub simple_lang : ℕ → Lang Token Simple
simple_lang d = record { marks = simple_marks d; good = is_simple; stops = λ _ h. ends_value h }

simple_stops_is : (d : ℕ) (x : Simple) (h : Option Token) → ends_value h ≡ true → (simple_parts d).stops (simple_to x) h ≡ true
simple_stops_is d (PlainPart (SetTo (TargetOf x i) at e)) h k = k
simple_stops_is d (PlainPart (Changed (TargetOf x i) c at e)) h k = (and_parts _ _ k).0
simple_stops_is d (PlainPart (SteppedAfter (TargetOf x i) step at)) h k = refl
simple_stops_is d (PlainPart (SteppedBefore step at t)) h k = let p : (ends_expr h ≡ true) × (no_paren h ≡ true) = and_parts _ _ k in (and_parts _ _ p.0).0
simple_stops_is d (SetCall (TargetOf x i) at c) h k = k
simple_stops_is d (OnlyCall (CallOf f before args after)) h k = refl
simple_stops_is d (LibraryPart x) h k = refl

pub simple_reader : (limit r d : ℕ) → r + d ≡ limit → IsReader limit (simple_lang d) (simple_at limit r)
unfolding simple_at
simple_reader limit r d h = map_reader limit (simple_parts d) (simple_lang d) simple_from simple_to
    (record {
      back = λ x g. simple_back x;
      good_back = λ x g. sym (simple_good_is d (simple_to x)) ∙ ap is_simple (simple_back x) ∙ g;
      marks = λ x g. simple_marks_is d x;
      good = λ x g. simple_good_is d x ∙ g;
      stops = λ x k g e. simple_stops_is d x k e;
    }) _ (parts_reader limit r d h)
