-- The longest run of bytes of a class.
use Rattle.std.proofs.Common.{◌≡◌, ℕ, suc, ◌+◌, ◌<◌, Bool, true, false, inl, inr, ◌⊎◌, List, [], ◌∷◌, ◌++◌, length, length-append, take, refl, sym, ap, ◌∙◌, arith}
use Rattle.std.proofs.lemmas.Bool.{and_parts, and_from}
use Rattle.std.proofs.lemmas.List.{append-nil}
use Rattle.std.specs.List.{prefix_len, list_all}

abbrev pub run : (ℕ → Bool) → List ℕ → List ℕ
run p xs = take (prefix_len p xs) xs

take_one_more : (n x : ℕ) (xs : List ℕ) → take (1 + n) (x ∷ xs) ≡ x ∷ take n xs
take_one_more n x xs = let e : 1 + n ≡ suc n = omega arith in rw e refl

pub run-yes : (p : ℕ → Bool) (x : ℕ) (xs : List ℕ) → p x ≡ true → run p (x ∷ xs) ≡ x ∷ run p xs
run-yes p x xs h = rw h (take_one_more (prefix_len p xs) x xs)

pub run-no : (p : ℕ → Bool) (x : ℕ) (xs : List ℕ) → p x ≡ false → run p (x ∷ xs) ≡ []
run-no p x xs h = rw h refl

passes_step : (p : ℕ → Bool) (x : ℕ) (xs : List ℕ) (here : Bool) → p x ≡ here → list_all p (run p xs) ≡ true → list_all p (run p (x ∷ xs)) ≡ true
passes_step p x xs true e h = ap (list_all p) (run-yes p x xs e) ∙ and_from (p x) (list_all p (run p xs)) e h
passes_step p x xs false e h = ap (list_all p) (run-no p x xs e)

pub run_passes : (p : ℕ → Bool) (xs : List ℕ) → list_all p (run p xs) ≡ true
run_passes p [] = refl
run_passes p (x ∷ xs) = passes_step p x xs (p x) refl (run_passes p xs)

-- a run goes through bytes that pass
pub run-append : (p : ℕ → Bool) (body rest : List ℕ) → list_all p body ≡ true → run p (body ++ rest) ≡ body ++ run p rest
run-append p [] rest h = refl
run-append p (x ∷ body) rest h =
    let hs = and_parts (p x) (list_all p body) h in
    run-yes p x (body ++ rest) hs.0 ∙ ap (λ (z : List ℕ). x ∷ z) (run-append p body rest hs.1)

pub longer : (body more : List ℕ) → (body ≡ body ++ more) ⊎ (length body < length (body ++ more))
longer body [] = inl (sym (append-nil body))
longer body (x ∷ more) = inr (omega (arith, length-append body (x ∷ more)))

-- bytes that pass are the run, or shorter than it
pub run_or_longer : (p : ℕ → Bool) (body rest : List ℕ) → list_all p body ≡ true → (body ≡ run p (body ++ rest)) ⊎ (length body < length (run p (body ++ rest)))
run_or_longer p body rest h = rw (run-append p body rest h) (longer body (run p rest))
