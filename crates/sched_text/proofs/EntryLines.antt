-- The lines of entries.
use Rattle.std.proofs.Common.{◌≡◌, ℕ, ◌<◌, ◌≤◌, ◌^◌, Bool, true, false, List, [], ◌∷◌, ◌++◌, length, get_or, refl, sym, ap, ◌∙◌, arith}
use Rattle.std.specs.Fmt.{decimal}
use Rattle.std.specs.List.{All}
use Rattle.std.specs.Str.Parse.{AllDigits}
use Rattle.std.proofs.lemmas.List.{append-nil, append_cancel_right}
use Rattle.std.proofs.lemmas.List.Elements.{All-cons, All-nil, All-append}
use Rattle.std.proofs.lemmas.Str.Parse.{digit_at, digit_from_value}
use Rattle.std.proofs.lemmas.Fmt.{decimal_is_IsNumeral, decimal_injective}
use Rattle.std.proofs.lemmas.Bool.Decides.{nat_tests}
use Rattle.std.proofs.Math.Seq.{get_or-append_seam}
use Rattle.std.proofs.lemmas.List.{length-append}
use Rattle.cfix_base.specs.declared.entry.Entry.{Entry}
use Rattle.sched_text.specs.Schedules.{mark, entry_line, IsEntry, IsMalformedLine}
use Rattle.sched_text.proofs.Lines.{IsInLine}
use Rattle.sched_text.proofs.Numbers.{IsNoNumber}

below_64 : (n : ℕ) → n < 2 ^ 32 → n < 2 ^ 64
below_64 n h = omega arith

digits_of : (n : ℕ) → n < 2 ^ 32 → AllDigits 10 (decimal n)
digits_of n h = (decimal_is_IsNumeral n (below_64 n h)).0.1

-- no number's text ends in a mark
ends_unmarked : (front : List ℕ) (n : ℕ) → n < 2 ^ 32 → front ++ 33 ∷ [] ≡ decimal n → ⊥
ends_unmarked front n h e =
    let place : length front < length (decimal n) = omega (arith, ap length e, length-append front (33 ∷ [])) in
    let digit = digit_at (decimal n) (length front) (digits_of n h) place in
    let here : get_or (decimal n) (length front) 0 ≡ 33 = ap (λ (z : List ℕ). get_or z (length front) 0) (sym e) ∙ get_or-append_seam front 33 [] 0 in
    omega (arith, digit, here)

malformed_by_mark : (line digits : List ℕ) (timeout : Bool) (entry : Entry) (wanted : Bool) → entry.timeout ≡ wanted
    → line ≡ digits ++ mark timeout → (timeout ≡ false → (front : List ℕ) → line ≡ front ++ 33 ∷ [] → ⊥)
    → IsNoNumber digits → IsEntry entry → line ≡ decimal entry.thread ++ mark wanted → ⊥
malformed_by_mark line digits true entry true t e unmarked none range is =
    none entry.thread range (append_cancel_right digits (decimal entry.thread) (33 ∷ []) (sym e ∙ is))
malformed_by_mark line digits true entry false t e unmarked none range is =
    ends_unmarked digits entry.thread range (sym e ∙ is ∙ append-nil (decimal entry.thread))
malformed_by_mark line digits false entry true t e unmarked none range is = unmarked refl (decimal entry.thread) is
malformed_by_mark line digits false entry false t e unmarked none range is =
    none entry.thread range (sym (append-nil digits) ∙ sym e ∙ is ∙ append-nil (decimal entry.thread))

-- a line is no entry's where what stands before its mark is no thread's number
pub malformed_line : (line digits : List ℕ) (timeout : Bool) → line ≡ digits ++ mark timeout
    → (timeout ≡ false → (front : List ℕ) → line ≡ front ++ 33 ∷ [] → ⊥) → IsNoNumber digits → IsMalformedLine line
malformed_line line digits timeout e unmarked none entry range is =
    malformed_by_mark line digits timeout entry entry.timeout refl e unmarked none range is

same_entry : (e f : Entry) → e.thread ≡ f.thread → e.timeout ≡ f.timeout → e ≡ f
same_entry e f thread timeout =
    ap (λ (t : ℕ). let made : Entry = record { thread = t; timeout = e.timeout } in made) thread
    ∙ ap (λ (b : Bool). let made : Entry = record { thread = f.thread; timeout = b } in made) timeout

same_by_mark : (e f : Entry) (a b : Bool) → e.timeout ≡ a → f.timeout ≡ b → IsEntry e → IsEntry f
    → decimal e.thread ++ mark a ≡ decimal f.thread ++ mark b → e ≡ f
same_by_mark e f true true ta tb he hf is =
    same_entry e f (decimal_injective e.thread f.thread (below_64 _ he) (below_64 _ hf) (append_cancel_right _ _ (33 ∷ []) is)) (ta ∙ sym tb)
same_by_mark e f true false ta tb he hf is = absurd (ends_unmarked (decimal e.thread) f.thread hf (is ∙ append-nil (decimal f.thread)))
same_by_mark e f false true ta tb he hf is = absurd (ends_unmarked (decimal f.thread) e.thread he (sym is ∙ append-nil (decimal e.thread)))
same_by_mark e f false false ta tb he hf is =
    same_entry e f (decimal_injective e.thread f.thread (below_64 _ he) (below_64 _ hf) (sym (append-nil (decimal e.thread)) ∙ is ∙ append-nil (decimal f.thread))) (ta ∙ sym tb)

-- a line is of one entry at most
pub entry_line-injective : (e f : Entry) → IsEntry e → IsEntry f → entry_line e ≡ entry_line f → e ≡ f
entry_line-injective e f he hf is = same_by_mark e f e.timeout f.timeout refl refl he hf is

digit_in_line : (d : ℕ) → 48 ≤ d → IsInLine d
digit_in_line d h = grind (arith, nat_tests)

in_line_from_digits : (ds : List ℕ) → AllDigits 10 ds → All IsInLine ds
in_line_from_digits [] h = All-nil IsInLine
in_line_from_digits (d ∷ ds) h =
    All-cons IsInLine d ds (let range = digit_from_value d h.0 in digit_in_line d range.0) (in_line_from_digits ds h.1)

mark-in_line : (timeout : Bool) → All IsInLine (mark timeout)
mark-in_line true = All-cons IsInLine 33 [] refl (All-nil IsInLine)
mark-in_line false = All-nil IsInLine

-- an entry's line has no line feed
pub entry_line-in_line : (e : Entry) → IsEntry e → All IsInLine (entry_line e)
entry_line-in_line e h = All-append IsInLine (decimal e.thread) (mark e.timeout) (in_line_from_digits (decimal e.thread) (digits_of e.thread h)) (mark-in_line e.timeout)
