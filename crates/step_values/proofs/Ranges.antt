-- The range of 32-bit numbers, as a test and as a fact.
use Rattle.std.proofs.Common.{◌≡◌, ◌≢◌, ◌⊎◌, ⊎_elim, ℕ, zero, suc, ◌<◌, ◌≤◌, ◌^◌, ◌-◌, ℤ, pos, negsuc, Bool, true, false, Option, Some, None, refl, ap, sym, ◌∙◌, arith}
use Rattle.std.specs.Prelude.{SomeIff, FitsSigned, int_div, int_rem, ◌&&◌}
use Rattle.std.specs.Int.{w32, CanDivide, IsNonZero}
use Rattle.std.proofs.lemmas.Bool.Decides.{leb_tells}
use Rattle.std.proofs.lemmas.Bool.{lt-ltb, le-ltb, cases_lt}
use Rattle.step_state.specs.declared.event.Trap.TheVariants.{Overflow, Zero}
use Rattle.step_state.specs.Values.{Computed, value, trap, checked, in_range, fits, is_zero, quotient, remainder, remainder_in}

pub fits_true : (z : ℤ) → FitsSigned w32 z → fits z ≡ true
fits_true (pos n) h = lt-ltb n 2147483648 h.sfits
fits_true (negsuc n) h =
    ⊎_elim (λ p. ap (λ b. b && true) p.0) (λ p. absurd (omega (arith, p.1, h.sfits))) (leb_tells n 2147483647)

pub fits_false : (z : ℤ) → (FitsSigned w32 z → ⊥) → fits z ≡ false
fits_false (pos n) h = ⊎_elim (λ p. absurd (h (record { sfits = p }))) (λ p. le-ltb n 2147483648 p) (cases_lt n 2147483648)
fits_false (negsuc n) h =
    ⊎_elim (λ p. absurd (h (record { sfits = omega (arith, p.1) }))) (λ p. ap (λ b. b && true) p.0) (leb_tells n 2147483647)

pub checked_fits : (z : ℤ) → FitsSigned w32 z → checked z ≡ value z
checked_fits z h = ap (λ b. in_range b z) (fits_true z h)

pub checked_not : (z : ℤ) → (FitsSigned w32 z → ⊥) → checked z ≡ trap Overflow
checked_not z h = ap (λ b. in_range b z) (fits_false z h)

-- what a checked operation of std gives is what the definitions give
pub checked_none : (z : ℤ) → SomeIff None (FitsSigned w32 z) z → checked z ≡ trap Overflow
checked_none z h = checked_not z h

pub checked_some : (z v : ℤ) → SomeIff (Some v) (FitsSigned w32 z) z → checked z ≡ value v
checked_some z v h = checked_fits z h.0 ∙ ap value (sym h.1)

pub zero_is : (z : ℤ) → z ≡ pos 0 → is_zero z ≡ true
zero_is z e = ap is_zero e

pub other_is : (z : ℤ) → z ≢ pos 0 → is_zero z ≡ false
other_is (pos zero) h = absurd (h refl)
other_is (pos (suc n)) h = refl
other_is (negsuc n) h = refl

pub nonzero : (z : ℤ) → FitsSigned w32 z → is_zero z ≡ false → IsNonZero w32 z
nonzero (pos zero) h e = absurd (let a : true ≡ false = e in cc)
nonzero (pos (suc n)) h e = omega arith
nonzero (negsuc n) h e = omega (arith, h.sfits)

pub quotient_zero : (a b : ℤ) → is_zero b ≡ true → quotient (is_zero b) a b ≡ trap Zero
quotient_zero a b e = ap (λ t. quotient t a b) e

pub quotient_none : (a b : ℤ) → FitsSigned w32 b → is_zero b ≡ false → (CanDivide w32 a b → ⊥) → quotient (is_zero b) a b ≡ trap Overflow
quotient_none a b r e h = ap (λ t. quotient t a b) e ∙ checked_not (int_div a b) (λ f. h (nonzero b r e, f))

pub quotient_some : (a b v : ℤ) → is_zero b ≡ false → CanDivide w32 a b → v ≡ int_div a b → quotient (is_zero b) a b ≡ value v
quotient_some a b v e h same = ap (λ t. quotient t a b) e ∙ checked_fits (int_div a b) h.1 ∙ ap value (sym same)

pub remainder_zero : (a b : ℤ) → is_zero b ≡ true → remainder (is_zero b) a b ≡ trap Zero
remainder_zero a b e = ap (λ t. remainder t a b) e

pub remainder_none : (a b : ℤ) → FitsSigned w32 b → is_zero b ≡ false → (CanDivide w32 a b → ⊥) → remainder (is_zero b) a b ≡ trap Overflow
remainder_none a b r e h =
    ap (λ t. remainder t a b) e ∙ ap (λ t. remainder_in t a b) (fits_false (int_div a b) (λ f. h (nonzero b r e, f)))

pub remainder_some : (a b v : ℤ) → is_zero b ≡ false → CanDivide w32 a b → v ≡ int_rem a b → remainder (is_zero b) a b ≡ value v
remainder_some a b v e h same =
    ap (λ t. remainder t a b) e ∙ ap (λ t. remainder_in t a b) (fits_true (int_div a b) h.1) ∙ ap value (sym same)
