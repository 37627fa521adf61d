-- What a loop adds for each item of a list.
use Rattle.std.proofs.Common.{◌≡◌, ℕ, ◌+◌, ◌<◌, ◌≤◌, ℤ, pos, List, [], ◌∷◌, ◌++◌, length, map, take, get_or, refl, ap, sym, ◌∙◌, arith}
use Rattle.c_prog.specs.declared.global.Global.{Global}
use Rattle.c_prog.specs.declared.global.GlobalKind.{GlobalKind}
use Rattle.step_state.specs.Start.{all_awake}
use Rattle.std.proofs.lemmas.List.{append_assoc, map-append, take_more, take_all}

pub mapped_more : {X Y : Type 0} (f : X → Y) (old : List Y) (xs : List X) (i : ℕ) (x : X) → i < length xs → x ≡ get_or xs i x → (old ++ map f (take i xs)) ++ f x ∷ [] ≡ old ++ map f (take (i + 1) xs)
mapped_more f old xs i x h e =
    append_assoc old (map f (take i xs)) (f x ∷ []) ∙ ap (λ l. old ++ l) (sym (ap (map f) (take_more xs i x h) ∙ map-append f (take i xs) (get_or xs i x ∷ []) ∙ ap (λ y. map f (take i xs) ++ f y ∷ []) (sym e)))

pub mapped_all : {X Y : Type 0} (f : X → Y) (old : List Y) (xs : List X) (i : ℕ) → length xs ≤ i → old ++ map f (take i xs) ≡ old ++ map f xs
mapped_all f old xs i h = ap (λ l. old ++ map f l) (take_all i xs h)

-- the same, where each item is looked at through one of its parts
pub mapped_on : {X Y Z : Type 0} (g : Y → Z) (f : X → Y) (xs : List X) (i : ℕ) (x : X) → i < length xs → x ≡ get_or xs i x → map g (map f (take i xs)) ++ g (f x) ∷ [] ≡ map g (map f (take (i + 1) xs))
mapped_on g f xs i x h e =
    sym (ap (λ l. map g (map f l)) (take_more xs i x h) ∙ ap (map g) (map-append f (take i xs) (get_or xs i x ∷ [])) ∙ map-append g (map f (take i xs)) (f (get_or xs i x) ∷ []) ∙ ap (λ y. map g (map f (take i xs)) ++ g (f y) ∷ []) (sym e))

pub mapped_end : {X Y Z : Type 0} (g : Y → Z) (f : X → Y) (xs : List X) (i : ℕ) → length xs ≤ i → map g (map f (take i xs)) ≡ map g (map f xs)
mapped_end g f xs i h = ap (λ l. map g (map f l)) (take_all i xs h)

-- an empty list for each item
pub empty_more : (old : List (List ℕ)) (xs : List ℤ) (i : ℕ) → i < length xs → (old ++ map (λ (v : ℤ). []) (take i xs)) ++ [] ∷ [] ≡ old ++ map (λ (v : ℤ). []) (take (i + 1) xs)
empty_more old xs i h =
    append_assoc old (map (λ (v : ℤ). []) (take i xs)) ([] ∷ []) ∙ ap (λ l. old ++ l) (sym (ap (map (λ (v : ℤ). [])) (take_more xs i (pos 0) h) ∙ map-append (λ (v : ℤ). []) (take i xs) (get_or xs i (pos 0) ∷ [])))

-- no sleeper for each global
abbrev kinds : List Global → List GlobalKind
kinds globals = map (λ (global : Global). global.kind) globals

pub awake_more : (xs : List Global) (i : ℕ) (x : Global) → i < length xs → x ≡ get_or xs i x → all_awake (map (λ (global : Global). global.kind) (take i xs)) ++ [] ∷ [] ≡ all_awake (map (λ (global : Global). global.kind) (take (i + 1) xs))
awake_more xs i x h e =
    sym (ap (λ l. all_awake (kinds l)) (take_more xs i x h) ∙ ap all_awake (map-append (λ (global : Global). global.kind) (take i xs) (get_or xs i x ∷ [])) ∙ map-append (λ (g : GlobalKind). []) (kinds (take i xs)) ((get_or xs i x).kind ∷ []))

pub awake_end : (xs : List Global) (i : ℕ) → length xs ≤ i → all_awake (map (λ (global : Global). global.kind) (take i xs)) ≡ all_awake (map (λ (global : Global). global.kind) xs)
awake_end xs i h = ap (λ l. all_awake (kinds l)) (take_all i xs h)
