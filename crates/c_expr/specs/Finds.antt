-- A token with what a test finds in it, where one is next.
use Rattle.std.specs.Prelude.{◌≡◌, ℕ, true, false, List, drop, Option, Some, None}
use Rattle.c_reading.specs.Reader.{Unexpected, Got, Stop, one_of, begins}
use Rattle.c_grammar.specs.Token.{Token}
use Rattle.c_reading.specs.ReadExpr.{is_some}

-- The next token is one in which the test finds this, and behind it the place is this one; or it finds nothing there.
abbrev pub Finds : {X B : Type 0} → (X → B) → (Token → Option B) → List Token → ℕ → Option (X × ℕ) → Type 0
Finds view by ts at None = (begins (λ t. is_some (by t)) (drop at ts) ≡ false) × (one_of by (drop at ts) ≡ Stop Unexpected (drop at ts))
Finds view by ts at (Some x) = (begins (λ t. is_some (by t)) (drop at ts) ≡ true) × (one_of by (drop at ts) ≡ Got (view x.0) (drop x.1 ts))
