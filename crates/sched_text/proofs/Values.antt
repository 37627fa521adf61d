-- The value of a word.
use Rattle.std.proofs.Common.{◌≡◌, ℕ, Bool, true, false, List, [], ◌∷◌, refl, arith, ◌==◌}
use Rattle.std.specs.Str.{IsAscii, IsUtf8}
use Rattle.std.specs.Str.Parse.{IsNumeral, without_leading_sign}
use Rattle.std.proofs.lemmas.Str.{IsUtf8-from_ascii}
use Rattle.std.proofs.lemmas.Str.Ascii.{IsAscii-cons}
use Rattle.std.proofs.lemmas.Fmt.{IsAscii-from_digits}
use Rattle.std.proofs.lemmas.Bool.Decides.{nat_tests}

sign_first : (b : ℕ) (bs : List ℕ) (minus plus : Bool) → b == 45 ≡ minus → b == 43 ≡ plus
    → IsAscii (without_leading_sign (b ∷ bs)) → IsAscii (b ∷ bs)
sign_first b bs true plus m p h = let rest : IsAscii bs = rw m at h in IsAscii-cons b bs (grind (arith, nat_tests, m)) rest
sign_first b bs false true m p h = let rest : IsAscii bs = rw (m, p) at h in IsAscii-cons b bs (grind (arith, nat_tests, p)) rest
sign_first b bs false false m p h = rw (m, p) at h

signed_ascii : (bs : List ℕ) → IsAscii (without_leading_sign bs) → IsAscii bs
signed_ascii [] h = h
signed_ascii (b ∷ bs) h = sign_first b bs (b == 45) (b == 43) refl refl h

-- a word that writes a number is text
pub numeral_utf8 : (bs : List ℕ) → IsNumeral 10 (without_leading_sign bs) → IsUtf8 bs
numeral_utf8 bs h = IsUtf8-from_ascii bs (signed_ascii bs (IsAscii-from_digits (without_leading_sign bs) h.1))
