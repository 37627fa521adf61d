-- Accesses that are certain or not, along lists.
use Rattle.std.proofs.Common.{◌≡◌, Bool, true, false, ◌&&◌, List, [], ◌∷◌, ◌++◌, map, refl, ap, ◌∙◌, append_assoc, sym, arith}
use Rattle.std.proofs.lemmas.Grind.{common_steps}
use Rattle.c_prog.specs.declared.access_item.Touch.{Touch}
use Rattle.c_prog.specs.Accesses.{marked, unsure}

unsure-append : (xs ys : List Touch) → map unsure (xs ++ ys) ≡ map unsure xs ++ map unsure ys
unsure-append xs ys = grind (arith, common_steps)

unsure-unsure : (xs : List Touch) → map unsure (map unsure xs) ≡ map unsure xs
unsure-unsure [] = refl
unsure-unsure (x ∷ xs) = ap (λ ys. unsure x ∷ ys) (unsure-unsure xs)

pub marked-append : (b : Bool) (xs ys : List Touch) → marked b (xs ++ ys) ≡ marked b xs ++ marked b ys
marked-append true xs ys = refl
marked-append false xs ys = unsure-append xs ys

pub marked-marked : (b c : Bool) (xs : List Touch) → marked b (marked c xs) ≡ marked (b && c) xs
marked-marked true c xs = refl
marked-marked false true xs = refl
marked-marked false false xs = unsure-unsure xs

pub marked-none : (b : Bool) → marked b [] ≡ []
marked-none true = refl
marked-none false = refl

-- Marked lists, one after another.
pub marked-both : (b d : Bool) (before between after xs ys : List Touch)
    → between ≡ before ++ marked b xs → after ≡ between ++ marked (b && d) ys → after ≡ before ++ marked b (xs ++ marked d ys)
marked-both b d before between after xs ys p q =
    q ∙ ap (λ zs. zs ++ marked (b && d) ys) p ∙ append_assoc before (marked b xs) (marked (b && d) ys)
    ∙ ap (λ zs. before ++ (marked b xs ++ zs)) (sym (marked-marked b d ys))
    ∙ ap (λ zs. before ++ zs) (sym (marked-append b xs (marked d ys)))

pub ruleset certain_steps = (marked-append, marked-marked, marked-none)
