-- The last element of a list is the first of the list reversed.
use Rattle.std.proofs.Common.{◌≡◌, ℕ, zero, suc, ◌+◌, ◌-◌, ◌<◌, ◌≤◌, List, [], ◌∷◌, ◌++◌, length, set, reverse, take, drop, replicate, get_or, refl, ap, sym, ◌∙◌, ⊎_elim, arith}
use Rattle.std.proofs.lemmas.List.{append-nil, reverse-append, reverse-reverse, length-reverse, length-drop, take_rest, take-append-drop, take_at, drop_at, take_all, drop_all, drop_more, set_split, length-append, append_assoc}
use Rattle.std.proofs.Math.Seq.{drop-append-add}
use Rattle.std.proofs.lemmas.Bool.{cases_lt}
use mathlib.Core.List.{reverse_aux}
use Rattle.std.specs.Prelude.{slice_get}
use Rattle.step_state.specs.StackLends.{with_top, with_second}

set_aux : {X : Type 0} (xs acc : List X) (n : ℕ) (w : X) → suc n ≡ length xs → reverse_aux (set xs n w) acc ≡ with_top (reverse_aux xs acc) w
set_aux [] acc n w e = absurd (omega arith)
set_aux (x ∷ []) acc zero w e = refl
set_aux (x ∷ []) acc (suc n) w e = absurd (omega arith)
set_aux (x ∷ y ∷ ys) acc zero w e = absurd (omega arith)
set_aux (x ∷ y ∷ ys) acc (suc n) w e = set_aux (y ∷ ys) (x ∷ acc) n w (omega arith)

get_aux : {X : Type 0} (xs acc : List X) (n : ℕ) → suc n ≡ length xs → slice_get (reverse_aux xs acc) 0 ≡ slice_get xs n
get_aux [] acc n e = absurd (omega arith)
get_aux (x ∷ []) acc zero e = refl
get_aux (x ∷ []) acc (suc n) e = absurd (omega arith)
get_aux (x ∷ y ∷ ys) acc zero e = absurd (omega arith)
get_aux (x ∷ y ∷ ys) acc (suc n) e = get_aux (y ∷ ys) (x ∷ acc) n (omega arith)

pub set_last : {X : Type 0} (xs : List X) (n : ℕ) (w : X) → suc n ≡ length xs → reverse (set xs n w) ≡ with_top (reverse xs) w
set_last xs n w e = set_aux xs [] n w e

pub get_last : {X : Type 0} (xs : List X) (n : ℕ) → suc n ≡ length xs → slice_get (reverse xs) 0 ≡ slice_get xs n
get_last xs n e = get_aux xs [] n e

set_second_aux : {X : Type 0} (xs acc : List X) (n : ℕ) (w : X) → suc (suc n) ≡ length xs → reverse_aux (set xs n w) acc ≡ with_second (reverse_aux xs acc) w
set_second_aux [] acc n w e = absurd (omega arith)
set_second_aux (x ∷ []) acc n w e = absurd (omega arith)
set_second_aux (x ∷ y ∷ []) acc zero w e = refl
set_second_aux (x ∷ y ∷ []) acc (suc n) w e = absurd (omega arith)
set_second_aux (x ∷ y ∷ z ∷ zs) acc zero w e = absurd (omega arith)
set_second_aux (x ∷ y ∷ z ∷ zs) acc (suc n) w e = set_second_aux (y ∷ z ∷ zs) (x ∷ acc) n w (omega arith)

get_second_aux : {X : Type 0} (xs acc : List X) (n : ℕ) → suc (suc n) ≡ length xs → slice_get (reverse_aux xs acc) 1 ≡ slice_get xs n
get_second_aux [] acc n e = absurd (omega arith)
get_second_aux (x ∷ []) acc n e = absurd (omega arith)
get_second_aux (x ∷ y ∷ []) acc zero e = refl
get_second_aux (x ∷ y ∷ []) acc (suc n) e = absurd (omega arith)
get_second_aux (x ∷ y ∷ z ∷ zs) acc zero e = absurd (omega arith)
get_second_aux (x ∷ y ∷ z ∷ zs) acc (suc n) e = get_second_aux (y ∷ z ∷ zs) (x ∷ acc) n (omega arith)

pub set_second : {X : Type 0} (xs : List X) (n : ℕ) (w : X) → suc (suc n) ≡ length xs → reverse (set xs n w) ≡ with_second (reverse xs) w
set_second xs n w e = set_second_aux xs [] n w e

pub get_second : {X : Type 0} (xs : List X) (n : ℕ) → suc (suc n) ≡ length xs → slice_get (reverse xs) 1 ≡ slice_get xs n
get_second xs n e = get_second_aux xs [] n e

-- a list in two parts, reversed
halves : {X : Type 0} (xs : List X) (k : ℕ) → reverse xs ≡ reverse (drop k xs) ++ reverse (take k xs)
halves xs k = ap reverse (sym (take-append-drop k xs)) ∙ reverse-append (take k xs) (drop k xs)

back_length : {X : Type 0} (xs : List X) (k n : ℕ) → k ≡ length xs - n → n ≤ length xs → length (reverse (drop k xs)) ≡ n
back_length xs k n e h = omega (arith, length-reverse (drop k xs), length-drop k xs)

-- what is left of a list reversed, and what was taken from it
pub reverse_dropped : {X : Type 0} (xs : List X) (n k : ℕ) → k ≡ length xs - n → reverse (take k xs) ≡ drop n (reverse xs)
reverse_dropped {X = X} xs n k e = ⊎_elim past within (cases_lt (length xs) n)
  where
    past : length xs < n → reverse (take k xs) ≡ drop n (reverse xs)
    past h =
        let z : k ≡ 0 = omega arith in
        ap (λ j. reverse (take j xs)) z ∙ sym (drop_all n (reverse xs) (omega (arith, length-reverse xs)))

    within : n ≤ length xs → reverse (take k xs) ≡ drop n (reverse xs)
    within h = sym (ap (drop n) (halves xs k) ∙ drop_at (reverse (drop k xs)) (reverse (take k xs)) n (back_length xs k n e h))

pub reverse_taken : {X : Type 0} (xs : List X) (n k : ℕ) → k ≡ length xs - n → drop k xs ≡ reverse (take n (reverse xs))
reverse_taken {X = X} xs n k e = ⊎_elim past within (cases_lt (length xs) n)
  where
    past : length xs < n → drop k xs ≡ reverse (take n (reverse xs))
    past h =
        let z : k ≡ 0 = omega arith in
        ap (λ j. drop j xs) z ∙ sym (ap reverse (take_all n (reverse xs) (omega (arith, length-reverse xs))) ∙ reverse-reverse xs)

    within : n ≤ length xs → drop k xs ≡ reverse (take n (reverse xs))
    within h = sym (ap (λ ys. reverse (take n ys)) (halves xs k) ∙ ap reverse (take_at (reverse (drop k xs)) (reverse (take k xs)) n (back_length xs k n e h)) ∙ reverse-reverse (drop k xs))

pub last_taken : {X : Type 0} (xs ys : List X) (n k : ℕ) → reverse xs ≡ ys → k ≡ length xs - n → take (length xs - k) (drop k xs) ≡ reverse (take n ys)
last_taken xs ys n k same e = take_rest xs k ∙ reverse_taken xs n k e ∙ ap (λ zs. reverse (take n zs)) same

-- a list from one place before
pub drop_before : {X : Type 0} (xs : List X) (n m : ℕ) (x : X) → m ≡ n + 1 → n < length xs → x ≡ get_or xs n x → drop n xs ≡ x ∷ drop m xs
drop_before xs n m x e h r =
    drop_more xs n x h ∙ ap (λ y. y ∷ drop (n + 1) xs) (sym r) ∙ ap (λ k. x ∷ drop k xs) (sym e)

-- what was put in front of a list, dropped again
pub drop_pushed : {X : Type 0} (xs ys : List X) (n k : ℕ) → k ≡ length xs - n → drop k (drop n xs ++ ys) ≡ ys
drop_pushed xs ys n k e = drop_at (drop n xs) ys k (length-drop n xs ∙ sym e)

pub replicate_none : {X : Type 0} (xs : List X) (n : ℕ) (x : X) → n ≤ length xs → xs ≡ xs ++ replicate (n - length xs) x
replicate_none xs n x h =
    let z : n - length xs ≡ 0 = omega arith in
    sym (append-nil xs) ∙ ap (λ k. xs ++ replicate k x) (sym z)

-- an item in the middle of a list reversed
reversed_at : {X : Type 0} (front : List X) (x : X) (back : List X) → reverse (front ++ x ∷ back) ≡ reverse back ++ x ∷ reverse front
reversed_at front x back =
    reverse-append front (x ∷ back) ∙ ap (λ l. l ++ reverse front) (reverse-append (x ∷ []) back) ∙ append_assoc (reverse back) (x ∷ []) (reverse front)

-- the item below those that were put on top gets another value
pub expanded : {X : Type 0} (xs items old : List X) (n : ℕ) (w : X) → reverse xs ≡ items ++ old → 0 < length old → n ≡ length xs - 1 - length items → reverse (set xs n w) ≡ items ++ w ∷ drop 1 old
expanded xs items old n w same some e =
    let l : length xs ≡ length items + length old = sym (length-reverse xs) ∙ ap length same ∙ length-append items old in
    let above : reverse (drop (suc n) xs) ≡ items =
    ap reverse (reverse_taken xs (length items) (suc n) (omega arith)) ∙ reverse-reverse (take (length items) (reverse xs)) ∙ ap (take (length items)) same ∙ take_at items old (length items) refl in
    let below : reverse (take n xs) ≡ drop 1 old =
    reverse_dropped xs (length items + 1) n (omega arith) ∙ ap (drop (length items + 1)) same ∙ drop-append-add items old 1 in
    ap reverse (set_split xs n w (omega arith)) ∙ reversed_at (take n xs) w (drop (suc n) xs) ∙ ap (λ l. l ++ w ∷ reverse (take n xs)) above ∙ ap (λ l. items ++ w ∷ l) below
