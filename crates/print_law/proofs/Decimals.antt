-- Decimal numbers as they are written and read.
use Rattle.std.proofs.Common.{◌≡◌, ℕ, ◌+◌, ◌-◌, ◌*◌, ◌/◌, ◌%◌, ◌^◌, ◌<◌, ◌≤◌, eqb, Bool, true, false, List, [], ◌∷◌, ◌++◌, refl, sym, ◌∙◌, arith, true≢false}
use Rattle.std.proofs.lemmas.Bool.{and_parts, eqb-true}
use Rattle.std.proofs.lemmas.Bool.Decides.{nat_tests}
use Rattle.std.proofs.lemmas.Fmt.{decimal_by_steps}
use Rattle.std.specs.Fmt as fmt
use Rattle.std.specs.List.{list_all, count_by}
use Rattle.std.specs.Char.{is_ascii_digit}
use Rattle.c_lex.specs.Bytes.{is_line_feed}
use Rattle.c_lex.specs.Meaning.{decimal_after, decimal, has_leading_zero}
use Rattle.print_law.proofs.Apart.{both}

abbrev begins_zero : List ℕ → Bool
begins_zero [] = false
begins_zero (digit ∷ rest) = eqb digit 48

abbrev is_some_text : List ℕ → Bool
is_some_text [] = false
is_some_text (digit ∷ rest) = true

-- what is written of a number: digits, of which the first is 0 for 0 alone
pub record Written (n : ℕ) (text : List ℕ) : Type 0 where
  pub digits : list_all is_ascii_digit text ≡ true
  pub value : decimal text ≡ n
  pub first : has_leading_zero text ≡ false
  pub zero : begins_zero text ≡ true → n ≡ 0
  pub some : is_some_text text ≡ true

digit_byte : (n : ℕ) → n < 10 → is_ascii_digit (48 + n) ≡ true
digit_byte n h = grind (arith, nat_tests)

one : (n : ℕ) → n < 10 → Written n ((48 + n) ∷ [])
one n h = record {
  digits = both _ _ (digit_byte n h) refl;
  value = omega arith;
  first = refl;
  zero = λ e. let same = eqb-true (48 + n) 48 e in omega (arith, same);
  some = refl;
}

pub all-append : (p : ℕ → Bool) (xs ys : List ℕ) → list_all p xs ≡ true → list_all p ys ≡ true → list_all p (xs ++ ys) ≡ true
all-append p [] ys h g = g
all-append p (x ∷ xs) ys h g = let hs = and_parts (p x) (list_all p xs) h in both _ _ hs.0 (all-append p xs ys hs.1 g)

after-last : (front : ℕ) (ds : List ℕ) (d : ℕ) → decimal_after front (ds ++ d ∷ []) ≡ 10 * decimal_after front ds + (d - 48)
after-last front [] d = refl
after-last front (x ∷ ds) d = after-last (10 * front + (x - 48)) ds d

not_zero : (b : Bool) (m : ℕ) → (b ≡ true → m ≡ 0) → 1 ≤ m → b ≡ false
not_zero true m h less = absurd (let z = h refl in omega (arith, z, less))
not_zero false m h less = refl

lead : (ds : List ℕ) (d : ℕ) → is_some_text ds ≡ true → begins_zero ds ≡ false → has_leading_zero (ds ++ d ∷ []) ≡ false
lead [] d s z = absurd (true≢false (sym s))
lead (x ∷ []) d s z = z
lead (x ∷ y ∷ ds) d s z = z

begun : (ds : List ℕ) (d : ℕ) → is_some_text ds ≡ true → begins_zero (ds ++ d ∷ []) ≡ begins_zero ds
begun [] d s = absurd (true≢false (sym s))
begun (x ∷ ds) d s = refl

some-more : (ds : List ℕ) (d : ℕ) → is_some_text (ds ++ d ∷ []) ≡ true
some-more [] d = refl
some-more (x ∷ ds) d = refl

last-digit : (n : ℕ) → n % 10 < 10
last-digit n = omega arith

more : (n : ℕ) (ds : List ℕ) → 10 ≤ n → Written (n / 10) ds → Written n (ds ++ (48 + n % 10) ∷ [])
more n ds h w =
    let high : 1 ≤ n / 10 = omega (arith, h) in
    let none : begins_zero ds ≡ false = not_zero (begins_zero ds) (n / 10) w.zero high in
    record {
      digits = all-append is_ascii_digit ds ((48 + n % 10) ∷ []) w.digits (both _ _ (digit_byte (n % 10) (last-digit n)) refl);
      value = after-last 0 ds (48 + n % 10) ∙ omega (arith, w.value);
      first = lead ds (48 + n % 10) w.some none;
      zero = λ e. absurd (true≢false (sym e ∙ begun ds (48 + n % 10) w.some ∙ none));
      some = some-more ds (48 + n % 10);
    }

pub written : (n : ℕ) → n < 2 ^ 64 → Written n (fmt.decimal n)
written = decimal_by_steps Written one more

no-feed : (byte : ℕ) → is_ascii_digit byte ≡ true → is_line_feed byte ≡ false
no-feed byte h = grind (arith, nat_tests)

count-none : (p q : ℕ → Bool) → ((byte : ℕ) → p byte ≡ true → q byte ≡ false) → (xs : List ℕ) → list_all p xs ≡ true → count_by q xs ≡ 0
count-none p q h [] g = refl
count-none p q h (x ∷ xs) g =
    let gs = and_parts (p x) (list_all p xs) g in
    rw (h x gs.0) (count-none p q h xs gs.1)

-- digits have no line feed
pub quiet-digits : (xs : List ℕ) → list_all is_ascii_digit xs ≡ true → count_by is_line_feed xs ≡ 0
quiet-digits xs g = count-none is_ascii_digit is_line_feed no-feed xs g
