-- Locals in a vector, the latest last, as a list with the latest first.
use Rattle.std.specs.Prelude.{find, option_map, reverse}
use Rattle.std.specs.List.{list_any}
use Rattle.std.proofs.Common.{◌≡◌, ℕ, ◌-◌, Bool, true, false, ◌||◌, cond, List, [], ◌∷◌, ◌++◌, map, length, take, drop, Some, refl, ap, sym, ◌∙◌, arith}
use Rattle.std.proofs.lemmas.Grind.{common_steps}
use Rattle.std.proofs.lemmas.List.{reverse-append, map-append, take-append-drop, length-map, length-reverse}
use Rattle.std.proofs.Math.Seq.{take-append_seam, drop-append_seam}

-- a search among seen things
pub find-seen : {X Y : Type 0} (f : X → Y) (p : Y → Bool) (xs : List X) → option_map f (find (λ x. p (f x)) xs) ≡ find p (map f xs)
find-seen f p [] = refl
find-seen {X} {Y} f p (x ∷ xs) = by (p (f x)) (find-seen f p xs)
  where
    by : (b : Bool) → option_map f (find (λ z. p (f z)) xs) ≡ find p (map f xs)
        → option_map f (cond b (Some x) (find (λ z. p (f z)) xs)) ≡ cond b (Some (f x)) (find p (map f xs))
    by true rest = refl
    by false rest = rest

pub any-seen : {X Y : Type 0} (f : X → Y) (p : Y → Bool) (xs : List X) → list_any (λ x. p (f x)) xs ≡ list_any p (map f xs)
any-seen f p [] = refl
any-seen f p (x ∷ xs) = ap (λ b. p (f x) || b) (any-seen f p xs)

-- the latest first
abbrev pub seen : {X Y : Type 0} → (X → Y) → List X → List Y
seen f xs = map f (reverse xs)

pub seen-split : {X Y : Type 0} (f : X → Y) (n : ℕ) (xs : List X) → seen f (drop n xs) ++ seen f (take n xs) ≡ seen f xs
seen-split f n xs =
    sym (map-append f (reverse (drop n xs)) (reverse (take n xs)))
    ∙ ap (map f) (sym (reverse-append (take n xs) (drop n xs)) ∙ ap reverse (take-append-drop n xs))

pub length-seen : {X Y : Type 0} (f : X → Y) (xs : List X) → length (seen f xs) ≡ length xs
length-seen f xs = length-map (reverse xs) f ∙ length-reverse xs

length-drop-seen : {X Y : Type 0} (f : X → Y) (n : ℕ) (xs : List X) → length (seen f xs) - n ≡ length (seen f (drop n xs))
length-drop-seen f n xs =
    ap (λ k. k - n) (length-seen f xs)
    ∙ (let e : length xs - n ≡ length (drop n xs) = grind (arith, common_steps) in e)
    ∙ sym (length-seen f (drop n xs))

pub take-seen : {X Y : Type 0} (f : X → Y) (n : ℕ) (xs : List X) → take (length (seen f xs) - n) (seen f xs) ≡ seen f (drop n xs)
take-seen f n xs =
    ap (λ k. take k (seen f xs)) (length-drop-seen f n xs)
    ∙ ap (take (length (seen f (drop n xs)))) (sym (seen-split f n xs))
    ∙ take-append_seam (seen f (drop n xs)) (seen f (take n xs))

pub drop-seen : {X Y : Type 0} (f : X → Y) (n : ℕ) (xs : List X) → drop (length (seen f xs) - n) (seen f xs) ≡ seen f (take n xs)
drop-seen f n xs =
    ap (λ k. drop k (seen f xs)) (length-drop-seen f n xs)
    ∙ ap (drop (length (seen f (drop n xs)))) (sym (seen-split f n xs))
    ∙ drop-append_seam (seen f (drop n xs)) (seen f (take n xs))
