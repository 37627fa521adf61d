-- Which readers answer exactly what a list of tokens is for a grammar.
use Rattle.std.specs.Prelude.{◌≡◌, ℕ, Bool, List, []}
use Rattle.c_grammar.specs.Verdict.{IsRead, IsUnexpectedAt, IsDeepAt}
use Rattle.c_reading.specs.Reader.{Unexpected, Deep, Out, Got, Stop}

-- The reader answers a tree exactly where the tokens are its, and each fault exactly where it stands.
pub record ReadsExactly {T A : Type 0} (limit : ℕ) (marks : A → List (T × ℕ)) (good : A → Bool) (p : List T → Out T A) : Type 0 where
  pub found : (ts : List T) (a : A) (rest : List T) → p ts ≡ Got a rest → (rest ≡ []) × IsRead limit marks good ts a
  pub finds : (ts : List T) (a : A) → IsRead limit marks good ts a → p ts ≡ Got a []
  pub unexpected : (ts rest : List T) → p ts ≡ Stop Unexpected rest → IsUnexpectedAt limit marks good ts rest
  pub stops_unexpected : (ts rest : List T) → IsUnexpectedAt limit marks good ts rest → p ts ≡ Stop Unexpected rest
  pub deep : (ts rest : List T) → p ts ≡ Stop Deep rest → IsDeepAt limit marks good ts rest
  pub stops_deep : (ts rest : List T) → IsDeepAt limit marks good ts rest → p ts ≡ Stop Deep rest
