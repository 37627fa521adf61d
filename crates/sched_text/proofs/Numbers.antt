-- A number and its text.
use Rattle.std.proofs.Common.{◌≡◌, ℕ, zero, suc, ◌<◌, ◌^◌, ◌⊎◌, inl, inr, List, [], ◌∷◌, length, get_or, refl, sym, ap, subst, ◌∙◌, arith, Result, Ok, Err, MatchResult, Option, MatchOption}
use Rattle.std.specs.Result.{result_ok}
use Rattle.std.specs.Fmt.{decimal}
use Rattle.std.specs.Str.{IsUtf8}
use Rattle.std.specs.Str.Parse.{AllDigits, digits_value, ParsesUnsigned, IsNumeral, without_leading_plus}
use Rattle.std.proofs.lemmas.Str.{IsUtf8-from_ascii}
use Rattle.std.proofs.lemmas.Str.Parse.{IsNumeralModel, numerals_by_value, tells_digits, digit_at, without_leading_plus_none}
use Rattle.std.proofs.lemmas.Fmt.{decimal_is_IsNumeral, decimal_nonempty, first_decimal, decimal_digit, parse-decimal, decimal-digits_value, IsAscii-decimal}

own : IsNumeralModel (AllDigits 10) (digits_value 10)
own = numerals_by_value (AllDigits 10) tells_digits

abbrev pub HasNeedlessFront : List ℕ → Type 0
HasNeedlessFront bs = (get_or bs 0 0 ≡ 43) ⊎ ((get_or bs 0 0 ≡ 48) × (1 < length bs))

abbrev pub IsNoNumber : List ℕ → Type 0
IsNoNumber bs = (number : ℕ) → number < 2 ^ 32 → bs ≡ decimal number → ⊥

below_64 : (n : ℕ) → n < 2 ^ 32 → n < 2 ^ 64
below_64 n h = omega arith

needless_here : (n : ℕ) → n < 2 ^ 32 → HasNeedlessFront (decimal n) → ⊥
needless_here n h (inl plus) =
    let digit = digit_at (decimal n) 0 (decimal_is_IsNumeral n (below_64 n h)).0.1 (decimal_nonempty n (below_64 n h)) in
    omega (arith, digit)
needless_here zero h (inr zeros) = omega (arith, zeros.1, ap length (decimal_digit 0 (omega arith)))
needless_here (suc n) h (inr zeros) = omega (arith, zeros.0, first_decimal (suc n) (omega arith) (below_64 (suc n) h))

-- no number's text has a sign or a needless zero in front
pub needless_front : (bs : List ℕ) → HasNeedlessFront bs → IsNoNumber bs
needless_front bs front number h e = needless_here number h (subst HasNeedlessFront e front)

pub not_utf8 : (bs : List ℕ) → (IsUtf8 bs → ⊥) → IsNoNumber bs
not_utf8 bs ill number h e = ill (subst IsUtf8 (sym e) (IsUtf8-from_ascii (decimal number) (IsAscii-decimal number (below_64 number h))))

lone : (bs : List ℕ) → 0 < length bs → get_or bs 0 0 ≡ 48 → (HasNeedlessFront bs → ⊥) → length bs ≡ 1
lone [] h e plain = absurd (omega arith)
lone (first ∷ []) h e plain = refl
lone (first ∷ next ∷ rest) h e plain = absurd (plain (inr (e, omega arith)))

-- what `parse` reads of a text with no needless front
pub parsed_number : {E : Type 0} (bs : List ℕ) (r : Result ℕ E) → ParsesUnsigned 32 10 bs r → (HasNeedlessFront bs → ⊥)
    → MatchResult r (λ number. (number < 2 ^ 32) × (bs ≡ decimal number)) (λ _. IsNoNumber bs)
parsed_number bs (Ok number) h plain =
    let same : without_leading_plus bs ≡ bs = without_leading_plus_none bs (λ e. plain (inl e)) in
    let digits : IsNumeral 10 bs = subst (IsNumeral 10) same h.0.0 in
    let small : digits_value 10 bs < 2 ^ 32 = subst (λ z. digits_value 10 z < 2 ^ 32) same h.0.1 in
    let value : number ≡ digits_value 10 bs = h.1 ∙ ap (digits_value 10) same in
    let alone : get_or bs 0 0 ≡ 48 → length bs ≡ 1 = λ e. lone bs digits.0 e plain in
    let text : decimal (digits_value 10 bs) ≡ bs = decimal-digits_value own bs digits.1 digits.0 alone (below_64 _ small) in
    (omega arith, sym text ∙ ap decimal (sym value))
parsed_number bs (Err e) h plain = λ number small is. cc (parse-decimal 32 number bs (Err e) small (below_64 number small) is h)

-- the same of what `ok` makes of it
pub found_number : {E : Type 0} (digits text : List ℕ) (r : Result ℕ E) (o : Option ℕ) → text ≡ digits → ParsesUnsigned 32 10 text r → o ≡ result_ok r
    → (HasNeedlessFront digits → ⊥) → MatchOption o (IsNoNumber digits) (λ number. (number < 2 ^ 32) × (digits ≡ decimal number))
found_number {E} digits text (Ok number) o e h is plain =
    let read = parsed_number {E = E} text (Ok number) h (λ f. plain (subst HasNeedlessFront e f)) in
    rw is (read.0, sym e ∙ read.1)
found_number {E} digits text (Err fault) o e h is plain =
    let read = parsed_number {E = E} text (Err fault) h (λ f. plain (subst HasNeedlessFront e f)) in
    rw is (λ number small same. read number small (e ∙ same))
