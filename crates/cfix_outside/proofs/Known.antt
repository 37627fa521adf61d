-- Bytes that a writer holds, where it tells them: one piece after another.
use Rattle.std.proofs.Common.{◌≡◌, ◌≤◌, ℕ, ◌+◌, ◌-◌, List, ◌++◌, length, take, drop, Option, Some, None, ap, sym, subst, ◌∙◌, arith}
use Rattle.std.proofs.Math.Seq.{take-add}
use Rattle.std.proofs.lemmas.Grind.{common_steps}
use Rattle.std.specs.Io.KnownBytes.{Appends}

-- these came, and then those
pub appends-then : (a b c : Option (List ℕ)) (xs ys zs : List ℕ) → Appends a b xs → Appends b c ys → zs ≡ xs ++ ys → Appends a c zs
appends-then None b c xs ys zs p q e = tt
appends-then (Some had) None c xs ys zs p q e = absurd p
appends-then (Some had) (Some more) None xs ys zs p q e = absurd q
appends-then (Some had) (Some more) (Some all) xs ys zs p q e = grind (arith, common_steps)

-- the first i of these, and then the next n
pub appends-next : (a b c : Option (List ℕ)) (xs : List ℕ) (i n : ℕ) → Appends a b (take i xs) → Appends b c (take n (drop i xs)) → Appends a c (take (i + n) xs)
appends-next a b c xs i n p q = appends-then a b c (take i xs) (take n (drop i xs)) (take (i + n) xs) p q (take-add i n xs)

-- what a writer has after one more write, counted by what is left of the piece
pub appends-on : (a b c : Option (List ℕ)) (xs rest after : List ℕ) (n : ℕ) → Appends a b (take (length xs - length rest) xs) → rest ≡ drop (length xs - length rest) xs → length rest ≤ length xs → n ≤ length rest → after ≡ drop n rest → Appends b c (take n rest) → Appends a c (take (length xs - length after) xs) × (after ≡ drop (length xs - length after) xs) × (length after ≤ length xs)
appends-on a b c xs rest after n p e l k f q =
    let here : length xs - length after ≡ (length xs - length rest) + n = gone xs rest after n l k f in (
      (let P : ℕ → Type 0 = λ m. Appends a c (take m xs) in
          subst P (sym here) (appends-next a b c xs (length xs - length rest) n p (let Q : List ℕ → Type 0 = λ ys. Appends b c (take n ys) in subst Q e q))),
      left xs rest after n (length xs - length rest) e f ∙ ap (λ m. drop m xs) (sym here),
      fewer xs rest after n l f,
    )
  where
    gone : (xs rest after : List ℕ) (n : ℕ) → length rest ≤ length xs → n ≤ length rest → after ≡ drop n rest → length xs - length after ≡ (length xs - length rest) + n
    gone xs rest after n l k f = grind (arith, common_steps)

    left : (xs rest after : List ℕ) (n m : ℕ) → rest ≡ drop m xs → after ≡ drop n rest → after ≡ drop (m + n) xs
    left xs rest after n m e f = grind (arith, common_steps)

    fewer : (xs rest after : List ℕ) (n : ℕ) → length rest ≤ length xs → after ≡ drop n rest → length after ≤ length xs
    fewer xs rest after n l f = grind (arith, common_steps)
