-- Loops that read items while one begins: the items so far, and those that are still read.
use Rattle.std.proofs.Common.{◌≡◌, ℕ, zero, suc, ◌+◌, ◌-◌, ◌<◌, ◌≤◌, Bool, true, false, List, [], ◌∷◌, ◌++◌, refl, sym, ap, ◌∙◌, append_assoc, inl, arith}
use Rattle.std.proofs.lemmas.List.{append-nil}
use Rattle.c_reading.specs.Reader.{Fault, Out, Got, Stop, next, map_out, glue, begins, size, many_by, many}

-- the items before what is read
abbrev pub with_front : {T A : Type 0} → List A → Out T (List A) → Out T (List A)
with_front front o = next o (λ more r. Got (front ++ more) r)

module _ {T A : Type 0} (b : T → Bool) (p : List T → Out T A) where
  pub many-start : (ts : List T) → with_front [] (many_by (size ts) b p ts) ≡ many b p ts
  many-start ts = by (many_by (size ts) b p ts)
    where
      by : (o : Out T (List A)) → with_front [] o ≡ o
      by (Got more r) = refl
      by (Stop f r) = refl

  pub many-step : (front : List A) (fuel : ℕ) (ts r : List T) (a : A) → begins b ts ≡ true → p ts ≡ Got a r
      → with_front front (many_by (suc fuel) b p ts) ≡ with_front (front ++ a ∷ []) (many_by fuel b p r)
  many-step front fuel ts r a h e = rw (h, e) (regroup (many_by fuel b p r))
    where
      regroup : (o : Out T (List A)) → with_front front (map_out glue (map_out inl (next o (λ more t. Got (a, more) t)))) ≡ with_front (front ++ a ∷ []) o
      regroup (Got more t) = ap (λ (z : List A). Got z t) (sym (append_assoc front (a ∷ []) more))
      regroup (Stop f t) = refl

  pub many-stop : (front : List A) (fuel : ℕ) (ts r : List T) (f : Fault) → begins b ts ≡ true → p ts ≡ Stop f r → with_front front (many_by (suc fuel) b p ts) ≡ Stop f r
  many-stop front fuel ts r f h e = rw (h, e) refl

  pub many-end : (front : List A) (fuel : ℕ) (ts : List T) → begins b ts ≡ false → with_front front (many_by fuel b p ts) ≡ Got front ts
  many-end front zero ts h = ap (λ (z : List A). Got z ts) (append-nil front)
  many-end front (suc fuel) ts h = rw h (ap (λ (z : List A). Got z ts) (append-nil front))

  pub many-out : (front : List A) (ts : List T) → with_front front (many_by zero b p ts) ≡ Got front ts
  many-out front ts = ap (λ (z : List A). Got z ts) (append-nil front)

  -- the turns of a loop over n places, at the place i

  pub turn-start : (ts : List T) → with_front [] (many_by (size ts - 0) b p ts) ≡ many b p ts
  turn-start ts = let e : size ts - 0 ≡ size ts = omega arith in rw e (many-start ts)

  pub turn-step : (n i : ℕ) → i < n → (front : List A) (ts r : List T) (a : A) → begins b ts ≡ true → p ts ≡ Got a r
      → with_front front (many_by (n - i) b p ts) ≡ with_front (front ++ a ∷ []) (many_by (n - (i + 1)) b p r)
  turn-step n i inside front ts r a h e = let k : n - i ≡ suc (n - (i + 1)) = omega arith in rw k (many-step front (n - (i + 1)) ts r a h e)

  pub turn-stop : (n i : ℕ) → i < n → (front : List A) (ts r : List T) (f : Fault) → begins b ts ≡ true → p ts ≡ Stop f r → with_front front (many_by (n - i) b p ts) ≡ Stop f r
  turn-stop n i inside front ts r f h e = let k : n - i ≡ suc (n - (i + 1)) = omega arith in rw k (many-stop front (n - (i + 1)) ts r f h e)

  pub turn-out : (n i : ℕ) → n ≤ i → (front : List A) (ts : List T) → with_front front (many_by (n - i) b p ts) ≡ Got front ts
  turn-out n i done front ts = let k : n - i ≡ 0 = omega arith in rw k (many-out front ts)
