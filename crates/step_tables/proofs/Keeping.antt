-- Nodes one after another, and what is kept of them.
use Rattle.std.proofs.Common.{◌≡◌, ℕ, suc, ◌+◌, ◌-◌, ◌<◌, ◌^◌, List, [], ◌∷◌, ◌++◌, map, length, slice_get, refl, ap, sym, ◌∙◌, append_assoc, arith}
use Rattle.c_prog.specs.Accesses.{touches_of}
use Rattle.c_prog.specs.Order.{Node, joined}
use Rattle.step_state.specs.Items.{declared}
use Rattle.step_tables.specs.Kept.{kept_from, AreFew}

pub joined-append : {A B : Type 0} (f : A → List B) (xs ys : List A) → joined (map f (xs ++ ys)) ≡ joined (map f xs) ++ joined (map f ys)
joined-append f [] ys = refl
joined-append f (x ∷ xs) ys = ap (λ zs. f x ++ zs) (joined-append f xs ys) ∙ sym (append_assoc (f x) (joined (map f xs)) (joined (map f ys)))

pub kept-length : (of n x : ℕ) (nodes : List Node) → length (kept_from of n x nodes) ≡ length nodes
kept-length of n x [] = refl
kept-length of n x (node ∷ rest) = ap suc (kept-length of (n + 1) (x + declared node) rest)

pub few_front : (a b : List Node) → AreFew (a ++ b) → AreFew a
few_front [] b few = tt
few_front (node ∷ a) b few = (few.0, few_front a b few.1)

pub few_behind : (a b : List Node) → AreFew (a ++ b) → AreFew b
few_behind [] b few = few
few_behind (node ∷ a) b few = few_behind a b few.1

pub few_all : (nodes : List Node) → ((n : ℕ) → length (touches_of (slice_get nodes n)) < 2 ^ 32 - 1) → AreFew nodes
few_all [] few = tt
few_all (node ∷ nodes) few = (omega (arith, few 0), few_all nodes (λ n. few (suc n)))
