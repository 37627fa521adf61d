-- A loop that reads items while one begins, at most as many as there are tokens.
use Rattle.std.proofs.Common.{◌≡◌, ℕ, zero, suc, ◌+◌, ◌-◌, ◌<◌, Bool, true, false, List, [], ◌∷◌, ◌++◌, refl, sym, ap, ◌∙◌, append_assoc, arith, inl}
use Rattle.std.proofs.lemmas.List.{append-nil}
use Rattle.c_reading.specs.Reader.{Fault, Out, Got, Stop, next, map_out, glue, begins, size, many, many_by}

abbrev pub with_front : {T A : Type 0} → List A → Out T (List A) → Out T (List A)
with_front front o = next o (λ more r. Got (front ++ more) r)

-- in so many turns front was read of ts, and rest is still to be read
pub record SoFar {T A : Type 0} (b : T → Bool) (p : List T → Out T A) (ts : List T) (front : List A) (turns : ℕ) (rest : List T) : Type 0 where
  pub reads : with_front front (many_by (size ts - turns) b p rest) ≡ many b p ts

module _ {T A : Type 0} (b : T → Bool) (p : List T → Out T A) (ts : List T) where
  no_front : (o : Out T (List A)) → with_front [] o ≡ o
  no_front (Got more r) = refl
  no_front (Stop f r) = refl

  pub start : SoFar b p ts [] 0 ts
  start = record { reads = no_front _ ∙ ap (λ (n : ℕ). many_by n b p ts) (let e : size ts - 0 ≡ size ts = omega arith in e) }

  regroup : (front : List A) (a : A) (o : Out T (List A)) → with_front front (map_out glue (map_out inl (next o (λ more t. Got (a, more) t)))) ≡ with_front (front ++ a ∷ []) o
  regroup front a (Got more t) = ap (λ (z : List A). Got z t) (sym (append_assoc front (a ∷ []) more))
  regroup front a (Stop f t) = refl

  module _ (front : List A) (n : ℕ) (rest : List T) (so_far : SoFar b p ts front n rest) where
    pub ends : begins b rest ≡ false → many b p ts ≡ Got front rest
    ends h = sym so_far.reads ∙ at (size ts - n)
      where
        at : (k : ℕ) → with_front front (many_by k b p rest) ≡ Got front rest
        at zero = ap (λ (z : List A). Got z rest) (append-nil front)
        at (suc k) = rw h (ap (λ (z : List A). Got z rest) (append-nil front))

    pub used : n ≡ size ts → many b p ts ≡ Got front rest
    used e = sym so_far.reads ∙ ap (λ (k : ℕ). with_front front (many_by k b p rest)) (let z : size ts - n ≡ zero = omega (arith, e) in z) ∙ ap (λ (z : List A). Got z rest) (append-nil front)

    module _ (room : n < size ts) (more : begins b rest ≡ true) where
      one_more : size ts - n ≡ suc (size ts - (n + 1))
      one_more = omega (arith, room)

      one_read : (k : ℕ) (a : A) (r : List T) → p rest ≡ Got a r → with_front front (many_by (suc k) b p rest) ≡ with_front (front ++ a ∷ []) (many_by k b p r)
      one_read k a r e = rw (more, e) (regroup front a (many_by k b p r))

      pub turns : (a : A) (r : List T) → p rest ≡ Got a r → SoFar b p ts (front ++ a ∷ []) (n + 1) r
      turns a r e = record { reads = sym (one_read (size ts - (n + 1)) a r e) ∙ ap (λ (k : ℕ). with_front front (many_by k b p rest)) (sym one_more) ∙ so_far.reads }

      pub stops : (f : Fault) (r : List T) → p rest ≡ Stop f r → many b p ts ≡ Stop f r
      stops f r e = sym so_far.reads ∙ ap (λ (k : ℕ). with_front front (many_by k b p rest)) one_more ∙ stop_at (size ts - (n + 1))
        where
          stop_at : (k : ℕ) → with_front front (many_by (suc k) b p rest) ≡ Stop f r
          stop_at k = rw (more, e) refl
