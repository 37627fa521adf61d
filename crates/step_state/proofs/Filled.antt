-- Counts of which the first ones are kept, read and written.
use Rattle.std.proofs.Common.{◌≡◌, ℕ, zero, suc, ◌+◌, ◌-◌, ◌<◌, ◌≤◌, List, [], ◌∷◌, ◌++◌, length, get_or, set, replicate, Option, Some, None, refl, ap, sym, ◌∙◌, inl, inr, arith}
use Rattle.std.proofs.lemmas.List.{append_assoc, get_or_past, length-append, length-replicate, length-set, replicate-append-replicate, set-append_left}
use Rattle.std.proofs.lemmas.Bool.{cases_lt}
use Rattle.std.specs.Prelude.{slice_get}
use Rattle.step_state.specs.Filled.{filled}

abbrev pub zeros : ℕ → List ℕ
zeros n = replicate n 0

long : (n : ℕ) → length (zeros n) ≡ n
long n = length-replicate {A = ℕ} n 0

pub none_used : (n : ℕ) → filled [] n ≡ replicate n 0
none_used n = ap (λ k. zeros k) (let e : n - 0 ≡ n = omega arith in e)

zeros_read : (n i : ℕ) → get_or (zeros n) i 0 ≡ 0
zeros_read zero i = refl
zeros_read (suc n) zero = refl
zeros_read (suc n) (suc i) = zeros_read n i

more_read : (xs : List ℕ) (n i : ℕ) → get_or (xs ++ zeros n) i 0 ≡ get_or xs i 0
more_read [] n i = zeros_read n i
more_read (x ∷ xs) n zero = refl
more_read (x ∷ xs) n (suc i) = more_read xs n i

-- a count is read among those that are kept
pub read_used : (used : List ℕ) (n i : ℕ) → get_or (filled used n) i 0 ≡ get_or used i 0
read_used used n i = more_read used (n - length used) i

filled_length : (used : List ℕ) (n : ℕ) → length used ≤ n → length (filled used n) ≡ n
filled_length used n h = omega (arith, length-append used (zeros (n - length used)), long (n - length used))

set_past : (xs : List ℕ) (i x : ℕ) → length xs ≤ i → set xs i x ≡ xs
set_past [] i x h = refl
set_past (y ∷ xs) zero x h = absurd (omega (arith, h))
set_past (y ∷ xs) (suc i) x h = ap (λ ys. y ∷ ys) (set_past xs i x (omega (arith, h)))

-- a write past the end
pub written_past : (used : List ℕ) (n i x : ℕ) → length used ≤ n → n ≤ i → set (filled used n) i x ≡ filled used n
written_past used n i x h past = set_past (filled used n) i x (omega (arith, filled_length used n h))

-- a write among those that are kept
written : (used : List ℕ) (n i x : ℕ) → i < length used → filled (set used i x) n ≡ set (filled used n) i x
written used n i x h =
    ap (λ k. set used i x ++ zeros (n - k)) (length-set used i x) ∙ sym (set-append_left used (zeros (n - length used)) i x h)

-- more of them are kept
abbrev more : List ℕ → ℕ → List ℕ
more used m = used ++ replicate (m - length used) 0

more_length : (used : List ℕ) (m : ℕ) → length (more used m) ≡ length used + (m - length used)
more_length used m = length-append used (zeros (m - length used)) ∙ ap (λ k. length used + k) (long (m - length used))

more_filled : (used : List ℕ) (n m : ℕ) → m ≤ n → filled (more used m) n ≡ filled used n
more_filled used n m h =
    ap (λ k. more used m ++ zeros (n - k)) (more_length used m)
    ∙ append_assoc used (zeros (m - length used)) (zeros (n - (length used + (m - length used))))
    ∙ ap (λ l. used ++ l) (replicate-append-replicate (m - length used) (n - (length used + (m - length used))) 0)
    ∙ ap (λ k. used ++ zeros k) (let e : (m - length used) + (n - (length used + (m - length used))) ≡ n - length used = omega (arith, h) in e)

-- a count is raised, of which the ones before it are kept from now on
pub raised : (used : List ℕ) (n i x : ℕ) → i < n → filled (set (used ++ replicate (i + 1 - length used) 0) i x) n ≡ set (filled used n) i x
raised used n i x h =
    written (more used (i + 1)) n i x (omega (arith, more_length used (i + 1)))
    ∙ ap (λ l. set l i x) (more_filled used n (i + 1) (omega (arith, h)))

pub raised_length : (used : List ℕ) (n i x : ℕ) → length used ≤ n → i < n → length (set (used ++ replicate (i + 1 - length used) 0) i x) ≤ n
raised_length used n i x within h =
    omega (arith, within, h, length-set (more used (i + 1)) i x, more_length used (i + 1))

-- a count that is not 0 is kept
kept : (used : List ℕ) (n i : ℕ) → 0 < get_or (filled used n) i 0 → i < length used
kept used n i h = elim (cases_lt i (length used)) [
  | inl below ↦ below
  | inr past ↦ absurd (omega (arith, h, read_used used n i, get_or_past used i 0 past))
]

pub lowered : (used : List ℕ) (n i x : ℕ) → 0 < get_or (filled used n) i 0 → filled (set used i x) n ≡ set (filled used n) i x
lowered used n i x h = written used n i x (kept used n i h)

pub lowered_length : (used : List ℕ) (n i x : ℕ) → length used ≤ n → length (set used i x) ≤ n
lowered_length used n i x h = omega (arith, h, length-set used i x)

pub read_past : (xs : List ℕ) (i : ℕ) → slice_get xs i ≡ None → get_or xs i 0 ≡ 0
read_past [] i h = refl
read_past (x ∷ xs) zero h = cc
read_past (x ∷ xs) (suc i) h = read_past xs i h
