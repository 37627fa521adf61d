-- Sets that words of 64 bits hold, united and compared word by word.
use Rattle.std.proofs.Common.{◌≡◌, ℕ, zero, suc, ◌*◌, ◌/◌, ◌%◌, ◌<◌, ◌≤◌, true, false, ◌||◌, eqb, List, length, get_or, ap, sym, ◌∙◌, refl, arith, inl, inr, max, min}
use Rattle.std.proofs.lemmas.Nat.Bits.{bit_at-zero, bit_at-lt, bit_at_or, bit_at_and}
use Rattle.std.proofs.lemmas.Bool.{cases_lt, false≢true}
use Rattle.std.proofs.lemmas.Bool.Decides.{eqb_tells}
use Rattle.std.specs.Int.{bit_at}
use lib.Bits.{bit_and}
use Rattle.plan_types.specs.Bits.{has_bit, numbers_of, AreUnited}
use Rattle.plan_types.specs.Sets.{is_in, IsIn, IsUnion}
use Rattle.plan_types.proofs.Bits.{size-numbers, in-numbers, past-numbers}

-- of two bits, the greater one is 1 where one of them is
either-bit : (x y : ℕ) → x < 2 → y < 2 → eqb (max x y) 1 ≡ (eqb x 1 || eqb y 1)
either-bit zero zero xs ys = refl
either-bit zero (suc zero) xs ys = refl
either-bit (suc zero) zero xs ys = refl
either-bit (suc zero) (suc zero) xs ys = refl
either-bit (suc (suc x)) y xs ys = absurd (omega (arith, xs))
either-bit zero (suc (suc y)) xs ys = absurd (omega (arith, ys))
either-bit (suc zero) (suc (suc y)) xs ys = absurd (omega (arith, ys))

united-bit : (words others united : List ℕ) (n : ℕ) → AreUnited words others united → n / 64 < length words
    → has_bit united n ≡ (has_bit words n || has_bit others n)
united-bit words others united n are within =
    ap (λ w. eqb (bit_at w (n % 64)) 1) (are.at (n / 64) within)
    ∙ ap (λ b. eqb b 1) (bit_at_or (get_or words (n / 64) 0) (get_or others (n / 64) 0) (n % 64))
    ∙ either-bit (bit_at (get_or words (n / 64) 0) (n % 64)) (bit_at (get_or others (n / 64) 0) (n % 64))
    (bit_at-lt (get_or words (n / 64) 0) (n % 64)) (bit_at-lt (get_or others (n / 64) 0) (n % 64))

pub united-numbers : (size : ℕ) (words others united : List ℕ) → AreUnited words others united → size ≤ 64 * length words
    → IsUnion (numbers_of size words) (numbers_of size others) (numbers_of size united)
united-numbers size words others united are fits = record {
  sized = size-numbers size united ∙ sym (size-numbers size words);
  has = λ n. elim (cases_lt n size) [
    | inl below ↦
        in-numbers size united n below ∙ united-bit words others united n are (omega (arith, below, fits))
        ∙ ap (λ b. b || has_bit others n) (sym (in-numbers size words n below))
        ∙ ap (λ b. is_in (numbers_of size words) n || b) (sym (in-numbers size others n below))
    | inr past ↦
        past-numbers size united n past
        ∙ ap (λ b. b || false) (sym (past-numbers size words n past))
        ∙ ap (λ b. is_in (numbers_of size words) n || b) (sym (past-numbers size others n past))
  ];
}

one-bit : (b : ℕ) → eqb b 1 ≡ true → b ≡ 1
one-bit b is = elim (eqb_tells b 1) [
  | inl same ↦ same.1
  | inr differ ↦ absurd (false≢true (sym differ.0 ∙ is))
]

-- two words without a common bit
pub no-shared-bit : (words others : List ℕ) (n : ℕ) → bit_and (get_or words (n / 64) 0) (get_or others (n / 64) 0) ≡ 0
    → has_bit words n ≡ true → has_bit others n ≡ true → ⊥
no-shared-bit words others n none one other =
    let first : bit_at (get_or words (n / 64) 0) (n % 64) ≡ 1 = one-bit _ one in
    let second : bit_at (get_or others (n / 64) 0) (n % 64) ≡ 1 = one-bit _ other in
    let both : bit_at (bit_and (get_or words (n / 64) 0) (get_or others (n / 64) 0)) (n % 64) ≡ 1 =
    bit_at_and (get_or words (n / 64) 0) (get_or others (n / 64) 0) (n % 64)
    ∙ ap (λ b. min b (bit_at (get_or others (n / 64) 0) (n % 64))) first ∙ ap (min 1) second in
    let empty : bit_at (bit_and (get_or words (n / 64) 0) (get_or others (n / 64) 0)) (n % 64) ≡ 0 =
    ap (λ w. bit_at w (n % 64)) none ∙ bit_at-zero (n % 64) in
    omega (arith, both, empty)

-- a number of a set stands below its size, and its bit is 1
pub in-bit : (size : ℕ) (words : List ℕ) (n : ℕ) → IsIn (numbers_of size words) n → (n < size) × (has_bit words n ≡ true)
in-bit size words n here = elim (cases_lt n size) [
  | inl below ↦ (below, sym (in-numbers size words n below) ∙ here)
  | inr past ↦ absurd (false≢true (sym (past-numbers size words n past) ∙ here))
]
