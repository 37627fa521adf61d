-- Threads among those that sleep.
use Rattle.std.proofs.Common.{◌≡◌, ℕ, ◌+◌, ◌<◌, ◌≤◌, Bool, true, false, ◌||◌, List, [], ◌∷◌, ◌++◌, length, take, drop, get_or, refl, ap, sym, ◌∙◌, arith}
use Rattle.std.specs.Prelude.{nat_lt, ◌==◌}
use Rattle.std.proofs.lemmas.List.{append_assoc, drop_more, drop_all, take_more}
use Rattle.step_state.specs.Sleepers.{all_but_lowest, put_before, sleeps, with_sleeper}

-- what is left, from its first thread on
left_is : (xs : List ℕ) (i x : ℕ) → i < length xs → x ≡ get_or xs i x → drop i xs ≡ x ∷ drop (i + 1) xs
left_is xs i x h e = drop_more xs i x h ∙ ap (λ y. y ∷ drop (i + 1) xs) (sym e)

-- a thread that is not the first one left
pub sleeps_more : (t : ℕ) (xs : List ℕ) (i x : ℕ) → i < length xs → x ≡ get_or xs i x → (x == t) ≡ false → sleeps t (drop i xs) ≡ sleeps t (drop (i + 1) xs)
sleeps_more t xs i x h e other = ap (sleeps t) (left_is xs i x h e) ∙ ap (λ b. b || sleeps t (drop (i + 1) xs)) other

-- a thread stands before the first one left
pub place_here : (t : ℕ) (xs : List ℕ) (i x : ℕ) → i < length xs → x ≡ get_or xs i x → nat_lt t x ≡ true
    → with_sleeper t xs ≡ take i xs ++ with_sleeper t (drop i xs) → with_sleeper t xs ≡ take i xs ++ t ∷ drop i xs
place_here t xs i x h e less passed =
    let left = left_is xs i x h e in
    passed ∙ ap (λ l. take i xs ++ with_sleeper t l) left
    ∙ ap (λ b. take i xs ++ put_before b t x (drop (i + 1) xs) (with_sleeper t (drop (i + 1) xs))) less
    ∙ ap (λ l. take i xs ++ t ∷ l) (sym left)

-- or behind it
pub place_more : (t : ℕ) (xs : List ℕ) (i x : ℕ) → i < length xs → x ≡ get_or xs i x → nat_lt t x ≡ false
    → with_sleeper t xs ≡ take i xs ++ with_sleeper t (drop i xs) → with_sleeper t xs ≡ take (i + 1) xs ++ with_sleeper t (drop (i + 1) xs)
place_more t xs i x h e less passed =
    let rest = with_sleeper t (drop (i + 1) xs) in
    passed ∙ ap (λ l. take i xs ++ with_sleeper t l) (left_is xs i x h e)
    ∙ ap (λ b. take i xs ++ put_before b t x (drop (i + 1) xs) rest) less
    ∙ sym (append_assoc (take i xs) (x ∷ []) rest)
    ∙ ap (λ l. l ++ rest) (ap (λ y. take i xs ++ y ∷ []) e ∙ sym (take_more xs i x h))

-- or at the end
pub place_end : (t : ℕ) (xs : List ℕ) (i : ℕ) → length xs ≤ i
    → with_sleeper t xs ≡ take i xs ++ with_sleeper t (drop i xs) → with_sleeper t xs ≡ take i xs ++ t ∷ drop i xs
place_end t xs i h passed =
    let none = drop_all i xs h in
    passed ∙ ap (λ l. take i xs ++ with_sleeper t l) none ∙ ap (λ l. take i xs ++ t ∷ l) (sym none)

-- all but the first
pub lowest_is : (xs : List ℕ) → drop 1 xs ≡ all_but_lowest xs
lowest_is [] = refl
lowest_is (x ∷ xs) = refl
