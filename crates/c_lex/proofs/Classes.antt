-- Which bytes begin which pieces: no byte begins pieces of two kinds, but for `/`.
use Rattle.std.proofs.Common.{◌≡◌, ℕ, Bool, true, false, not, ◌&&◌, ◌||◌, inl, inr, eqb, List, [], ◌∷◌, refl, sym, subst, arith}
use Rattle.std.proofs.lemmas.Bool.{and_parts, or_parts, or_cases, not-true}
use Rattle.std.proofs.lemmas.Bool.Decides.{nat_tests}
use Rattle.std.proofs.lemmas.Slice.Eq.{bytes_eq-Decides}
use Rattle.std.specs.List.{list_any, list_all}
use Rattle.std.specs.Char.{is_ascii_digit}
use Rattle.std.specs.Str.{bytes_eq}
use Rattle.cfix_base.specs.Words.{is_name_start, is_name_byte}
use Rattle.c_lex.specs.Bytes.{is_blank, is_sign, signs}

pub blank_begins : (byte : ℕ) → is_name_start byte ≡ true → is_blank byte ≡ false
blank_begins byte h = grind (arith, nat_tests)

pub blank_digit : (byte : ℕ) → is_ascii_digit byte ≡ true → is_blank byte ≡ false
blank_digit byte h = grind (arith, nat_tests)

pub name_digit : (byte : ℕ) → is_ascii_digit byte ≡ true → is_name_start byte ≡ false
name_digit byte h = grind (arith, nat_tests)

pub start_is_byte : (byte : ℕ) → is_name_start byte ≡ true → is_name_byte byte ≡ true
start_is_byte byte h = grind (arith, nat_tests)

pub digit_is_byte : (byte : ℕ) → is_ascii_digit byte ≡ true → is_name_byte byte ≡ true
digit_is_byte byte h = grind (arith, nat_tests)

-- a byte that begins no blank, no name, no number and no string
abbrev pub is_other : ℕ → Bool
is_other byte = not (((is_blank byte || is_name_start byte) || is_ascii_digit byte) || eqb byte 34)

-- no pair of bytes that begins a comment
abbrev pub is_no_comment : ℕ → ℕ → Bool
is_no_comment byte next = not (eqb byte 47 && (eqb next 47 || eqb next 42))

-- the form of a sign
abbrev pub is_sign_form : List ℕ → Bool
is_sign_form [] = false
is_sign_form (byte ∷ []) = is_other byte
is_sign_form (byte ∷ next ∷ []) = is_other byte && is_no_comment byte next
is_sign_form (byte ∷ next ∷ third ∷ rest) = false

same_text : (xs ys : List ℕ) → bytes_eq xs ys ≡ true → xs ≡ ys
same_text xs ys e = (bytes_eq-Decides xs ys).0 e

pub all_of_any : (p : List ℕ → Bool) (text : List ℕ) (table : List (List ℕ)) → list_all p table ≡ true → list_any (bytes_eq text) table ≡ true → p text ≡ true
all_of_any p text [] h e = cc
all_of_any p text (x ∷ xs) h e =
    let hs = and_parts (p x) (list_all p xs) h in
    elim (or_cases (bytes_eq text x) (list_any (bytes_eq text) xs) e) [
      | inl here ↦ subst (λ (z : List ℕ). p z ≡ true) (sym (same_text text x here)) hs.0
      | inr later ↦ all_of_any p text xs hs.1 later
    ]

pub sign_form : (text : List ℕ) → is_sign text ≡ true → is_sign_form text ≡ true
sign_form text e = all_of_any is_sign_form text signs refl e

-- what a byte that begins nothing else is not
pub record Other (byte : ℕ) : Type 0 where
  pub blank : is_blank byte ≡ false
  pub name : is_name_start byte ≡ false
  pub digit : is_ascii_digit byte ≡ false
  pub quote : eqb byte 34 ≡ false

pub other : (byte : ℕ) → is_other byte ≡ true → Other byte
other byte e =
    let a = or_parts ((is_blank byte || is_name_start byte) || is_ascii_digit byte) (eqb byte 34) (not-true _ e) in
    let b = or_parts (is_blank byte || is_name_start byte) (is_ascii_digit byte) a.0 in
    let c = or_parts (is_blank byte) (is_name_start byte) b.0 in
    record { blank = c.0; name = c.1; digit = b.1; quote = a.1 }
