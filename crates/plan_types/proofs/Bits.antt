-- The set that words of 64 bits hold: its size, its numbers, and one more number.
use Rattle.std.proofs.Common.{◌≡◌, ◌≢◌, ℕ, ◌*◌, ◌/◌, ◌%◌, ◌^◌, ◌<◌, ◌≤◌, true, false, eqb, List, length, get_or, set, ap, sym, ◌∙◌, arith, inl, inr, w64}
use Rattle.std.proofs.lemmas.List.{ext_get_or, length-set, length-replicate, get_or-replicate, get_or-set_same, get_or-set_other, get_or_past}
use Rattle.std.proofs.lemmas.List.FromFn.{length-map-range_with_len, get_or-map-range_with_len}
use Rattle.std.proofs.lemmas.Nat.Bits.{bit_at-zero, bit_at_set_same, bit_at_set_other, shr_and_one}
use Rattle.std.proofs.lemmas.Bool.{cases_eq, cases_lt}
use Rattle.std.specs.Int.{bit_at}
use Rattle.std.specs.Int.RustNames.{bit_or}
use lib.Bits.{bit_and}
use Rattle.plan_types.specs.Bits.{has_bit, numbers_of, zeros}
use Rattle.plan_types.specs.Sets.{no_numbers, is_in, with_number}

pub size-numbers : (size : ℕ) (words : List ℕ) → length (numbers_of size words) ≡ size
size-numbers size words = length-map-range_with_len (has_bit words) 0 size

pub in-numbers : (size : ℕ) (words : List ℕ) (k : ℕ) → k < size → is_in (numbers_of size words) k ≡ has_bit words k
in-numbers size words k h = get_or-map-range_with_len (has_bit words) 0 size k k false h (omega arith)

pub past-numbers : (size : ℕ) (words : List ℕ) (k : ℕ) → size ≤ k → is_in (numbers_of size words) k ≡ false
past-numbers size words k h = get_or_past (numbers_of size words) k false (omega (arith, size-numbers size words))

zero-word : (n i : ℕ) → get_or (zeros n) i 0 ≡ 0
zero-word n i = elim (cases_lt i n) [
  | inl h ↦ get_or-replicate n i 0 0 h
  | inr h ↦ get_or_past (zeros n) i 0 (let e : length (zeros n) ≡ n = length-replicate {A = ℕ} n 0 in omega arith)
]

no-bit : (n k : ℕ) → has_bit (zeros n) k ≡ false
no-bit n k = ap (λ w. eqb (bit_at w (k % 64)) 1) (zero-word n (k / 64)) ∙ ap (λ b. eqb b 1) (bit_at-zero (k % 64))

pub empty-numbers : (size n : ℕ) → numbers_of size (zeros n) ≡ no_numbers size
empty-numbers size n =
    ext_get_or false (numbers_of size (zeros n)) (no_numbers size)
    (size-numbers size (zeros n) ∙ sym (length-replicate size false))
    (λ k h. let below : k < size = omega (arith, size-numbers size (zeros n)) in
    in-numbers size (zeros n) k below ∙ no-bit n k ∙ sym (get_or-replicate size k false false below))

-- the words with the bit of one more number
abbrev pub words_with : List ℕ → ℕ → List ℕ
words_with words number = set words (number / 64) (bit_or (get_or words (number / 64) 0) (1 * 2 ^ (number % 64) % 2 ^ 64))

same-bit : (words : List ℕ) (number : ℕ) → number / 64 < length words → has_bit (words_with words number) number ≡ true
same-bit words number h =
    ap (λ w. eqb (bit_at w (number % 64)) 1) (get_or-set_same words (number / 64) (bit_or (get_or words (number / 64) 0) (1 * 2 ^ (number % 64) % 2 ^ 64)) 0 h)
    ∙ ap (λ b. eqb b 1) (bit_at_set_same w64 (get_or words (number / 64) 0) (number % 64) (omega arith))

other-bit : (words : List ℕ) (number k : ℕ) → number / 64 < length words → (k ≡ number → ⊥) → has_bit (words_with words number) k ≡ has_bit words k
other-bit words number k h other = elim (cases_eq (k / 64) (number / 64)) [
  | inl same ↦
      let place : k % 64 ≢ number % 64 = λ e. other (omega arith) in
      ap (λ i. eqb (bit_at (get_or (words_with words number) i 0) (k % 64)) 1) same
      ∙ ap (λ w. eqb (bit_at w (k % 64)) 1) (get_or-set_same words (number / 64) (bit_or (get_or words (number / 64) 0) (1 * 2 ^ (number % 64) % 2 ^ 64)) 0 h)
      ∙ ap (λ b. eqb b 1) (bit_at_set_other w64 (get_or words (number / 64) 0) (number % 64) (omega arith) (k % 64) place)
      ∙ ap (λ i. eqb (bit_at (get_or words i 0) (k % 64)) 1) (sym same)
  | inr differ ↦
      ap (λ w. eqb (bit_at w (k % 64)) 1) (get_or-set_other words (number / 64) (k / 64) (bit_or (get_or words (number / 64) 0) (1 * 2 ^ (number % 64) % 2 ^ 64)) 0 differ)
]

pub insert-numbers : (size : ℕ) (words : List ℕ) (number : ℕ) → number < size → size ≤ 64 * length words
    → numbers_of size (words_with words number) ≡ with_number (numbers_of size words) number
insert-numbers size words number below fits =
    ext_get_or false (numbers_of size (words_with words number)) (with_number (numbers_of size words) number)
    (size-numbers size (words_with words number) ∙ sym (size-numbers size words) ∙ sym (length-set (numbers_of size words) number true))
    (λ k h. at k (omega (arith, size-numbers size (words_with words number))))
  where
    place : number / 64 < length words
    place = omega arith

    at : (k : ℕ) → k < size → is_in (numbers_of size (words_with words number)) k ≡ is_in (with_number (numbers_of size words) number) k
    at k h = in-numbers size (words_with words number) k h ∙ elim (cases_eq k number) [
      | inl same ↦
          ap (has_bit (words_with words number)) same ∙ same-bit words number place
          ∙ sym (get_or-set_same (numbers_of size words) number true false (omega (arith, size-numbers size words)))
          ∙ ap (is_in (with_number (numbers_of size words) number)) (sym same)
      | inr other ↦
          other-bit words number k place other ∙ sym (in-numbers size words k h)
          ∙ sym (get_or-set_other (numbers_of size words) number k true false other)
    ]

pub empty-words : (size : ℕ) (words : List ℕ) → words ≡ zeros (length words) → numbers_of size words ≡ no_numbers size
empty-words size words h = ap (numbers_of size) h ∙ empty-numbers size (length words)

-- the test `word >> n % 64 & 1 == 1`
pub bit-test : (words : List ℕ) (number word : ℕ) → word ≡ get_or words (number / 64) 0 → eqb (bit_and (word / 2 ^ (number % 64)) 1) 1 ≡ has_bit words number
bit-test words number word e =
    ap (λ b. eqb b 1) (shr_and_one word (number % 64)) ∙ ap (λ w. eqb (bit_at w (number % 64)) 1) e

-- the word read and written back with one more bit
pub insert-words : (size : ℕ) (words : List ℕ) (number word : ℕ) → number < size → size ≤ 64 * length words → word ≡ get_or words (number / 64) 0
    → numbers_of size (set words (number / 64) (bit_or word (1 * 2 ^ (number % 64) % 2 ^ 64))) ≡ with_number (numbers_of size words) number
insert-words size words number word below fits e =
    ap (λ w. numbers_of size (set words (number / 64) (bit_or w (1 * 2 ^ (number % 64) % 2 ^ 64)))) e
    ∙ insert-numbers size words number below fits

pub number-place : (size : ℕ) (words : List ℕ) (number : ℕ) → number < size → size ≤ 64 * length words → number / 64 < length words
number-place size words number below fits = omega arith
