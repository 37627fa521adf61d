-- Operations put before work one by one, from the last on.
use Rattle.std.proofs.Common.{◌≡◌, ℕ, ◌+◌, ◌<◌, List, [], ◌∷◌, ◌++◌, length, drop, get_or, refl, ap, sym, ◌∙◌, arith}
use Rattle.std.proofs.lemmas.List.{drop_more, drop_all, append-nil}

pub drop_at : {X : Type 0} (xs : List X) (n m : ℕ) (x : X) → m ≡ n + 1 → n < length xs → x ≡ get_or xs n x → drop n xs ≡ x ∷ drop m xs
drop_at xs n m x e h r =
    drop_more xs n x h ∙ ap (λ y. y ∷ drop (n + 1) xs) (sym r) ∙ ap (λ k. x ∷ drop k xs) (sym e)

pub mapped_all : {X : Type 0} (xs : List X) (n : ℕ) → n ≡ length xs → drop n xs ≡ []
mapped_all xs n e = drop_all n xs (omega arith)

pub and_nothing : {X : Type 0} (xs : List X) → xs ++ [] ≡ xs
and_nothing xs = append-nil xs
