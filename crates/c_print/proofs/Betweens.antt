-- Texts with a sign between each two.
use Rattle.std.proofs.Common.{◌≡◌, ℕ, ◌-◌, ◌≤◌, List, [], ◌∷◌, ◌++◌, map, length, length-drop, take, drop, get_or, ap, sym, ◌∙◌, refl, append_assoc, append-nil, arith}
use Rattle.std.proofs.lemmas.List.{take_all}
use Rattle.c_prog.specs.Order.{joined}
use Rattle.c_print.specs.Text.Pieces.{between}

-- the first, and each further one with the sign before it
pub between-more : {A : Type 0} (sign : List ℕ) (f : A → List ℕ) (x : A) (more : List A)
    → between sign (map f (x ∷ more)) ≡ f x ++ joined (map (λ e. sign ++ f e) more)
between-more sign f x [] = sym (append-nil (f x))
between-more sign f x (y ∷ more) =
    ap (λ t. f x ++ sign ++ t) (between-more sign f y more) ∙ simp append_assoc refl

-- with the sign behind each
pub between-behind : {A : Type 0} (sign : List ℕ) (f : A → List ℕ) (x : A) (more : List A)
    → between sign (map f (x ∷ more)) ++ sign ≡ joined (map (λ e. f e ++ sign) (x ∷ more))
between-behind sign f x [] = sym (append-nil (f x ++ sign))
between-behind sign f x (y ∷ more) =
    append_assoc (f x ++ sign) (between sign (map f (y ∷ more))) sign
    ∙ ap (λ t. (f x ++ sign) ++ t) (between-behind sign f y more)

between-first : {A : Type 0} (sign : List ℕ) (f : A → List ℕ) (xs : List A) (x : A) → 1 ≤ length xs → x ≡ get_or xs 0 x
    → between sign (map f xs) ≡ f x ++ joined (map (λ e. sign ++ f e) (drop 1 xs))
between-first sign f [] x some is = absurd (omega (arith, some))
between-first sign f (y ∷ more) x some is =
    between-more sign f y more ∙ ap (λ z. f z ++ joined (map (λ e. sign ++ f e) more)) (sym is)

rest-is : {A : Type 0} (xs : List A) → take (length xs - 1) (drop 1 xs) ≡ drop 1 xs
rest-is xs = take_all (length xs - 1) (drop 1 xs) (omega (arith, length-drop 1 xs))

-- the first item of a list, and then the others
pub list-written : {A : Type 0} (sign : List ℕ) (f : A → List ℕ) (xs : List A) (x : A) (before first last : List ℕ)
    → 1 ≤ length xs → x ≡ get_or xs 0 x → first ≡ before ++ f x
    → last ≡ first ++ joined (map (λ e. sign ++ f e) (take (length xs - 1) (drop 1 xs)))
    → last ≡ before ++ between sign (map f xs)
list-written sign f xs x before first last some is p q =
    q ∙ ap (λ ys. first ++ joined (map (λ e. sign ++ f e) ys)) (rest-is xs)
    ∙ ap (λ t. t ++ joined (map (λ e. sign ++ f e) (drop 1 xs))) p
    ∙ append_assoc before (f x) (joined (map (λ e. sign ++ f e) (drop 1 xs)))
    ∙ ap (λ t. before ++ t) (sym (between-first sign f xs x some is))

-- a text, and then the texts of items
pub between-texts : {A : Type 0} (sign : List ℕ) (f : A → List ℕ) (text : List ℕ) (more : List A)
    → between sign (text ∷ map f more) ≡ text ++ joined (map (λ e. sign ++ f e) more)
between-texts sign f text [] = sym (append-nil text)
between-texts sign f text (x ∷ more) =
    ap (λ t. text ++ sign ++ t) (between-more sign f x more) ∙ simp append_assoc refl
