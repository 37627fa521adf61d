-- Bytes that a sink gained one after another, and counts that rose on the way.
use Rattle.std.proofs.Common.{min, ◌≡◌, ◌≤◌, ℕ, ◌+◌, ◌-◌, List, [], ◌++◌, length, take, drop, Option, Some, None, refl, ap, ◌∙◌, subst, arith}
use Rattle.std.proofs.Math.Seq.{take-add, take-append-add}
use Rattle.std.specs.List.{slice_range}
use Rattle.std.proofs.lemmas.Grind.{common_steps}
use Rattle.cfix_outside.specs.Faults.{Rose}
use Rattle.cfix_outside.specs.Sinks.{Gained, GainedFront}

-- nothing came
pub gained-none : (a : Option (List ℕ)) → Gained a a []
gained-none None = refl
gained-none (Some had) = grind (arith, common_steps)

-- these came, and then those
pub gained-then : (a b c : Option (List ℕ)) (xs ys zs : List ℕ) → Gained a b xs → Gained b c ys → zs ≡ xs ++ ys → Gained a c zs
gained-then None None c xs ys zs p q e = q
gained-then None (Some had) c xs ys zs p q e = cc
gained-then (Some had) None c xs ys zs p q e = cc
gained-then (Some had) (Some more) c xs ys zs p q e = grind (arith, common_steps)

-- the first i of these, and then the next n
pub gained-next : (a b c : Option (List ℕ)) (xs : List ℕ) (i n : ℕ) → Gained a b (take i xs) → Gained b c (slice_range xs i (i + n)) → Gained a c (take (i + n) xs)
gained-next a b c xs i n p q =
    gained-then a b c (take i xs) (slice_range xs i (i + n)) (take (i + n) xs) p q
    (take-add i n xs ∙ ap (λ k. take i xs ++ take k (drop i xs)) (let e : n ≡ i + n - i = omega arith in e))

-- the first i of these, and then some of the next n
pub gained-front : (a b c : Option (List ℕ)) (xs : List ℕ) (i n : ℕ) → Gained a b (take i xs) → GainedFront b c (slice_range xs i (i + n)) → GainedFront a c xs
gained-front a b c xs i n p q = (
  i + min q.0 n,
  gained-then a b c (take i xs) (take q.0 (slice_range xs i (i + n))) (take (i + min q.0 n) xs) p q.1
      (take-add i (min q.0 n) xs ∙ ap (λ ys. take i xs ++ ys) (front-of (drop i xs) q.0 n (i + n - i) (omega arith))),
)
  where
    front-of : (ys : List ℕ) (k n m : ℕ) → m ≡ n → take (min k n) ys ≡ take k (take m ys)
    front-of ys k n m e = grind (arith, common_steps)

-- what came whole came in front
pub front-whole : (a b : Option (List ℕ)) (xs : List ℕ) → Gained a b xs → GainedFront a b xs
front-whole a b xs p = (length xs, let P : List ℕ → Type 0 = λ ys. Gained a b ys in subst P (let e : xs ≡ take (length xs) xs = grind (arith, common_steps) in e) p)

-- the front of these is the front of more
pub front-more : (a b : Option (List ℕ)) (xs ys : List ℕ) → GainedFront a b xs → GainedFront a b (xs ++ ys)
front-more a b xs ys p = (
  min p.0 (length xs),
  (let P : List ℕ → Type 0 = λ zs. Gained a b zs in subst P (front-of xs ys p.0) p.1),
)
  where
    front-of : (xs ys : List ℕ) (k : ℕ) → take k xs ≡ take (min k (length xs)) (xs ++ ys)
    front-of xs ys k = grind (arith, common_steps)

-- these came, and then the front of those
pub front-then : (a b c : Option (List ℕ)) (xs ys : List ℕ) → Gained a b xs → GainedFront b c ys → GainedFront a c (xs ++ ys)
front-then a b c xs ys p q = (
  length xs + q.0,
  gained-then a b c xs (take q.0 ys) (take (length xs + q.0) (xs ++ ys)) p q.1 (take-append-add xs ys q.0),
)

-- a count that rose later rose
pub rose-later : (a b c : ℕ) → a ≤ b → Rose b c → Rose a c
rose-later a b c p q = omega arith

-- a count that rose stays risen
pub rose-then : (a b c : ℕ) → Rose a b → b ≤ c → Rose a c
rose-then a b c p q = omega arith
