-- Lists whose items have their commas before them.
use Rattle.std.proofs.Common.{◌≡◌, List, [], ◌∷◌, ◌++◌, map, length, refl, ap}
use Rattle.std.proofs.lemmas.List.{length-map}
use Rattle.c_grammar.specs.Marks.{each}

-- what is seen of the items behind their commas
pub map-seconds : {S A B C : Type 0} (v : A → B) (f : B → C) (more : List (S × A))
    → map f (map (λ (y : S × B). y.1) (map (λ (x : S × A). (x.0, v x.1)) more)) ≡ map (λ a. f (v a)) (map (λ (y : S × A). y.1) more)
map-seconds v f [] = refl
map-seconds v f (x ∷ more) = ap (λ rest. f (v x.1) ∷ rest) (map-seconds v f more)

pub each-seconds : {S A B C : Type 0} (v : A → B) (f : B → List C) (more : List (S × A))
    → each f (map (λ (y : S × B). y.1) (map (λ (x : S × A). (x.0, v x.1)) more)) ≡ each (λ a. f (v a)) (map (λ (y : S × A). y.1) more)
each-seconds v f [] = refl
each-seconds v f (x ∷ more) = ap (λ rest. f (v x.1) ++ rest) (each-seconds v f more)

pub length-maps : {A B : Type 0} (f : A → B) (xs : List A) → length (map f xs) ≡ length xs
length-maps f xs = length-map xs f

pub ruleset listed = (map-seconds, each-seconds, length-maps)
