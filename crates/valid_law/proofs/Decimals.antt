-- A number that no 0 leads is spelled in one way only.
use Rattle.std.proofs.Common.{◌≡◌, ℕ, zero, suc, ◌+◌, ◌-◌, ◌*◌, ◌<◌, ◌≤◌, leb, Bool, true, false, not, ◌&&◌, List, [], ◌∷◌, length, refl, ap, ap₂, sym, ◌∙◌, ⊎_elim, true≢false, arith}
use Rattle.std.specs.List.{list_all}
use Rattle.std.specs.Char.{is_ascii_digit}
use Rattle.std.proofs.lemmas.Bool.{and_parts, not-true, cases_lt}
use Rattle.std.proofs.lemmas.Bool.Decides.{nat_tests}
use Rattle.c_lex.specs.Meaning.{decimal_after, decimal, has_leading_zero, is_number}

abbrev are_digits : List ℕ → Bool
are_digits text = list_all is_ascii_digit text

digit-least : (x : ℕ) → is_ascii_digit x ≡ true → 48 ≤ x
digit-least x is = grind (arith, nat_tests)

digit-most : (x : ℕ) → is_ascii_digit x ≡ true → x ≤ 57
digit-most x is = grind (arith, nat_tests)

same-first : (f g x y : ℕ) → 48 ≤ x → x ≤ 57 → 48 ≤ y → y ≤ 57 → 10 * f + (x - 48) ≡ 10 * g + (y - 48) → f ≡ g
same-first f g x y lx hx ly hy is = omega (arith, lx, hx, ly, hy, is)

same-digit : (f g x y : ℕ) → 48 ≤ x → x ≤ 57 → 48 ≤ y → y ≤ 57 → 10 * f + (x - 48) ≡ 10 * g + (y - 48) → x ≡ y
same-digit f g x y lx hx ly hy is = omega (arith, lx, hx, ly, hy, is)

-- as many digits that write the same number behind fronts are the same, and so are the fronts
same-digits : (xs ys : List ℕ) (f g : ℕ) → are_digits xs ≡ true → are_digits ys ≡ true → length xs ≡ length ys
    → decimal_after f xs ≡ decimal_after g ys → (f ≡ g) × (xs ≡ ys)
same-digits [] [] f g on_xs on_ys long is = (is, refl)
same-digits [] (y ∷ ys) f g on_xs on_ys long is = absurd (omega (arith, long))
same-digits (x ∷ xs) [] f g on_xs on_ys long is = absurd (omega (arith, long))
same-digits (x ∷ xs) (y ∷ ys) f g on_xs on_ys long is =
    let dx : is_ascii_digit x ≡ true = (and_parts (is_ascii_digit x) (are_digits xs) on_xs).0 in
    let dy : is_ascii_digit y ≡ true = (and_parts (is_ascii_digit y) (are_digits ys) on_ys).0 in
    let rest : (10 * f + (x - 48) ≡ 10 * g + (y - 48)) × (xs ≡ ys) =
    same-digits xs ys (10 * f + (x - 48)) (10 * g + (y - 48)) (and_parts (is_ascii_digit x) (are_digits xs) on_xs).1
    (and_parts (is_ascii_digit y) (are_digits ys) on_ys).1 (omega (arith, long)) is in (
      same-first f g x y (digit-least x dx) (digit-most x dx) (digit-least y dy) (digit-most y dy) rest.0,
      ap₂ (λ (a : ℕ) (b : List ℕ). a ∷ b) (same-digit f g x y (digit-least x dx) (digit-most x dx) (digit-least y dy) (digit-most y dy) rest.0) rest.1,
    )

-- ---- digits behind zeros

abbrev zeros : ℕ → List ℕ → List ℕ
zeros zero xs = xs
zeros (suc n) xs = 48 ∷ zeros n xs

zeros-length : (n : ℕ) (xs : List ℕ) → length (zeros n xs) ≡ n + length xs
zeros-length zero xs = omega (arith)
zeros-length (suc n) xs = omega (arith, zeros-length n xs)

zeros-digits : (n : ℕ) (xs : List ℕ) → are_digits xs ≡ true → are_digits (zeros n xs) ≡ true
zeros-digits zero xs is = is
zeros-digits (suc n) xs is = zeros-digits n xs is

zeros-value : (n : ℕ) (xs : List ℕ) → decimal (zeros n xs) ≡ decimal xs
zeros-value zero xs = refl
zeros-value (suc n) xs = zeros-value n xs

zeros-lead : (n x : ℕ) (xs : List ℕ) → has_leading_zero (48 ∷ zeros n (x ∷ xs)) ≡ true
zeros-lead zero x xs = refl
zeros-lead (suc n) x xs = refl

-- where no 0 leads, there are none to be left out
no-zeros : (n x : ℕ) (xs ys : List ℕ) → has_leading_zero ys ≡ false → zeros n (x ∷ xs) ≡ ys → x ∷ xs ≡ ys
no-zeros zero x xs ys free is = is
no-zeros (suc n) x xs ys free is = absurd (true≢false (sym (zeros-lead n x xs) ∙ ap has_leading_zero is ∙ free))

-- ---- numbers

no-lead : (xs : List ℕ) → is_number xs ≡ true → has_leading_zero xs ≡ false
no-lead xs is = not-true (has_leading_zero xs) (and_parts (not (has_leading_zero xs)) (are_digits xs && leb (decimal xs) 2147483647) is).0

number-digits : (xs : List ℕ) → is_number xs ≡ true → are_digits xs ≡ true
number-digits xs is =
    (and_parts (are_digits xs) (leb (decimal xs) 2147483647) (and_parts (not (has_leading_zero xs)) (are_digits xs && leb (decimal xs) 2147483647) is).1).0

pub number-small : (xs : List ℕ) → is_number xs ≡ true → leb (decimal xs) 2147483647 ≡ true
number-small xs is =
    (and_parts (are_digits xs) (leb (decimal xs) 2147483647) (and_parts (not (has_leading_zero xs)) (are_digits xs && leb (decimal xs) 2147483647) is).1).1

-- of two spellings one is no longer than the other
shorter : (x : ℕ) (xs ys : List ℕ) → is_number (x ∷ xs) ≡ true → is_number ys ≡ true → length (x ∷ xs) ≤ length ys
    → decimal (x ∷ xs) ≡ decimal ys → x ∷ xs ≡ ys
shorter x xs ys on_xs on_ys less is =
    let n : ℕ = length ys - length (x ∷ xs) in
    let long : length (zeros n (x ∷ xs)) ≡ length ys = zeros-length n (x ∷ xs) ∙ omega (arith, less) in
    no-zeros n x xs ys (no-lead ys on_ys)
    (same-digits (zeros n (x ∷ xs)) ys 0 0 (zeros-digits n (x ∷ xs) (number-digits (x ∷ xs) on_xs)) (number-digits ys on_ys) long
    (zeros-value n (x ∷ xs) ∙ is)).1

-- digits that write the same number are the same
pub one-spelling : (x y : ℕ) (xs ys : List ℕ) → is_number (x ∷ xs) ≡ true → is_number (y ∷ ys) ≡ true
    → decimal (x ∷ xs) ≡ decimal (y ∷ ys) → x ∷ xs ≡ y ∷ ys
one-spelling x y xs ys on_xs on_ys is =
    ⊎_elim
    (λ (less : length (x ∷ xs) < length (y ∷ ys)). shorter x xs (y ∷ ys) on_xs on_ys (omega (arith, less)) is)
    (λ (more : length (y ∷ ys) ≤ length (x ∷ xs)). sym (shorter y ys (x ∷ xs) on_ys on_xs more (sym is)))
    (cases_lt (length (x ∷ xs)) (length (y ∷ ys)))
