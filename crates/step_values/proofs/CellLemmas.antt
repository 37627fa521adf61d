-- Cells by their numbers.
use Rattle.std.proofs.Common.{◌≡◌, ℕ, zero, suc, ◌<◌, ℤ, pos, negsuc, List, [], ◌∷◌, ◌++◌, length, set, take, drop, Option, Some, None, refl, ap, sym, ◌∙◌, arith}
use Rattle.std.proofs.lemmas.List.{take_all, drop_all, append-nil}
use Rattle.std.proofs.lemmas.Int.{ints}
use Rattle.std.proofs.lemmas.Option.{get_or_from_slice_get}
use Rattle.std.specs.Prelude.{slice_get, slice_index_or, ◌<ℤ◌, ◌≤ℤ◌}
use Rattle.std.specs.Int.{w64, cast_unsigned}
use Rattle.step_state.specs.Values.{cell, cleared}

pub cell_low : {A : Type 0} (cells : List A) (i : ℤ) → i <ℤ pos 0 → cell cells i ≡ None
cell_low cells (pos n) h = absurd (omega (arith, ints))
cell_low cells (negsuc n) h = refl

pub cell_high : {A : Type 0} (cells : List A) (i : ℤ) (n : ℕ) → pos 0 ≤ℤ i → n ≡ cast_unsigned w64 i → cell cells i ≡ slice_get cells n
cell_high cells (pos m) n h e = ap (slice_get cells) (sym e)
cell_high cells (negsuc m) n h e = absurd (omega (arith, ints))

pub cell_none : {A : Type 0} (i : ℤ) → cell {A = A} [] i ≡ None
cell_none (pos zero) = refl
cell_none (pos (suc n)) = refl
cell_none (negsuc n) = refl

-- one more cell has the value
pub cleared_more : {A : Type 0} (nought : A) (cells : List A) (i : ℕ) → i < length cells → set (cleared nought (take i cells) ++ drop i cells) i nought ≡ cleared nought (take (suc i) cells) ++ drop (suc i) cells
cleared_more nought [] i h = absurd (omega arith)
cleared_more nought (c ∷ cells) zero h = refl
cleared_more nought (c ∷ cells) (suc i) h = ap (λ l. nought ∷ l) (cleared_more nought cells i (omega arith))

pub cleared_all : {A : Type 0} (nought : A) (cells : List A) (n : ℕ) → n ≡ length cells → cleared nought (take n cells) ++ drop n cells ≡ cleared nought cells
cleared_all nought cells n e =
    ap (λ l. cleared nought l ++ drop n cells) (take_all n cells (omega arith)) ∙ ap (λ l. cleared nought cells ++ l) (drop_all n cells (omega arith)) ∙ append-nil (cleared nought cells)

-- the cell of a variable that there is, and of one that there is not
pub cell_within : {A : Type 0} (variables : List (List A)) (x : ℕ) (cells : List A) (i : ℤ) → slice_get variables x ≡ Some cells → cell cells i ≡ cell (slice_index_or variables x []) i
cell_within variables x cells i h = ap (λ l. cell l i) (sym (get_or_from_slice_get variables x cells [] h))

past_is : {X : Type 0} (xs : List X) (i : ℕ) (d : X) → slice_get xs i ≡ None → slice_index_or xs i d ≡ d
past_is [] i d h = refl
past_is (x ∷ xs) zero d h = cc
past_is (x ∷ xs) (suc i) d h = past_is xs i d h

pub cell_past : {A : Type 0} (variables : List (List A)) (x : ℕ) (i : ℤ) → slice_get variables x ≡ None → None ≡ cell (slice_index_or variables x []) i
cell_past {A = A} variables x i h = sym (ap (λ l. cell l i) (past_is variables x [] h) ∙ cell_none {A = A} i)
