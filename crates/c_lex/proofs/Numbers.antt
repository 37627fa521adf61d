-- Decimal digits that are read from the front.
use Rattle.std.proofs.Common.{◌≡◌, ℕ, ◌+◌, ◌-◌, ◌*◌, ◌≤◌, ◌<◌, Bool, true, false, ◌&&◌, leb, List, [], ◌∷◌, refl, arith}
use Rattle.std.proofs.lemmas.Grind.{common_steps}
use Rattle.c_lex.specs.Meaning.{decimal_after}

pub decimal_after-ge : (front : ℕ) (text : List ℕ) → front ≤ decimal_after front text
decimal_after-ge front [] = omega arith
decimal_after-ge front (digit ∷ rest) = omega (arith, decimal_after-ge (10 * front + (digit - 48)) rest)

pub too_great : (digits : Bool) (value : ℕ) → 2147483647 < value → (digits && leb value 2147483647) ≡ false
too_great false value h = refl
too_great true value h = grind (arith, common_steps)
