-- Marks among the words.
use Rattle.std.proofs.Common.{◌≡◌, inl, inr, ℕ, ◌<◌, ◌≤◌, ◌^◌, Bool, true, false, ◌&&◌, nat_le, if◌then◌else◌, List, Option, Some, None, refl, ap, sym, subst, ◌∙◌, arith}
use Rattle.std.proofs.lemmas.Bool.Decides.{leb_tells}
use Rattle.std.proofs.lemmas.Fmt.{digits_value-decimal}
use Rattle.std.proofs.lemmas.Slice.Eq.{bytes_eq-Decides}
use Rattle.std.proofs.lemmas.Str.Parse.{IsNumeralModel, numerals_by_value, tells_digits}
use Rattle.std.specs.Fmt.{decimal}
use Rattle.std.specs.Str.{bytes_eq}
use Rattle.std.specs.Str.Parse.{AllDigits, digits_value}
use Rattle.cfix_core.specs.Words.{mark_of, max_mark}

own : IsNumeralModel (AllDigits 10) (digits_value 10)
own = numerals_by_value (AllDigits 10) tells_digits

picked : (a b : Bool) (v n : ℕ) → a ≡ true → b ≡ true → v ≡ n → (if a && b then Some v else None) ≡ Some n
picked true true v n is within same = ap Some same
picked true false v n is within same = absurd (cc within)
picked false b v n is within same = absurd (cc is)

left_out : (a b : Bool) (v : ℕ) → (a ≡ true → b ≡ true → ⊥) → (if a && b then Some v else None) ≡ None
left_out true true v none = absurd (none refl refl)
left_out true false v none = refl
left_out false b v none = refl

module _ (word : List ℕ) (n : ℕ) (small : n < 2 ^ 32) (is : word ≡ decimal n) where
  value : digits_value 10 word ≡ n
  value = ap (digits_value 10) is ∙ digits_value-decimal own n (omega (arith, small))

  canonical : bytes_eq word (decimal (digits_value 10 word)) ≡ true
  canonical = (bytes_eq-Decides word (decimal (digits_value 10 word))).1 (is ∙ ap decimal (sym value))

  pub marked : n ≤ max_mark → mark_of word ≡ Some n
  marked within = elim (leb_tells (digits_value 10 word) max_mark) [
    | inl below ↦ picked (bytes_eq word (decimal (digits_value 10 word))) (nat_le (digits_value 10 word) max_mark) (digits_value 10 word) n canonical below.0 value
    | inr past ↦ absurd (omega (arith, past.1, within, value))
  ]

  pub too_great : max_mark < n → mark_of word ≡ None
  too_great past =
      left_out (bytes_eq word (decimal (digits_value 10 word))) (nat_le (digits_value 10 word) max_mark) (digits_value 10 word) (λ same within.
      elim (leb_tells (digits_value 10 word) max_mark) [
        | inl below ↦ absurd (omega (arith, below.1, past, value))
        | inr above ↦ absurd (cc (within, above.0))
      ])

pub no_mark : (word : List ℕ) → ((n : ℕ) → n < 2 ^ 32 → word ≡ decimal n → ⊥) → mark_of word ≡ None
no_mark word none =
    left_out (bytes_eq word (decimal (digits_value 10 word))) (nat_le (digits_value 10 word) max_mark) (digits_value 10 word) (λ same within.
    elim (leb_tells (digits_value 10 word) max_mark) [
      | inl below ↦ none (digits_value 10 word) (omega (arith, below.1)) ((bytes_eq-Decides word (decimal (digits_value 10 word))).0 same)
      | inr above ↦ absurd (cc (within, above.0))
    ])
