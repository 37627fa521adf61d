-- What a search among nodes finds, where lists of nodes stand one after another.
use Rattle.std.proofs.Common.{◌≡◌, ℕ, zero, suc, ◌+◌, ◌-◌, ◌<◌, List, ◌∷◌, ◌++◌, length, slice_get, ap, sym, ◌∙◌, subst, arith}
use Rattle.std.proofs.lemmas.List.{length-append}
use Rattle.c_prog.specs.declared.node.NodeView.{NodeView}
use Rattle.c_nodes.specs.declared.found.Found.{Found}
use Rattle.c_nodes.specs.declared.found.Found.TheVariants as found
use Rattle.c_prog.specs.Order.{Node}
use Rattle.c_prog.specs.View.{seen}
use Rattle.c_nodes.specs.Finding.{Finds}
use Rattle.c_prog.proofs.Gets.{get-front, get-after}

-- among equal nodes
pub finds-among : (r : Found) (xs ys : List Node) (n : ℕ) → xs ≡ ys → Finds r ys n → Finds r xs n
finds-among r xs ys n is = subst (λ zs. Finds r zs n) (sym is)

-- a node that is not the first
pub finds-later : (r : Found) (x : Node) (xs : List Node) (n : ℕ) → 0 < n → Finds r xs (n - 1) → Finds r (x ∷ xs) n
finds-later r x xs zero some finds = absurd (omega (arith, some))
finds-later (found.Node v) x xs (suc n) some finds =
    let one : suc n - 1 ≡ n = omega arith in sym (ap (λ k. slice_get xs k) one) ∙ finds
finds-later (found.Left rest) x xs (suc n) some finds = omega (arith, finds)

-- a node of the first list
pub finds-front : (v : NodeView) (xs ys : List Node) (n : ℕ) → Finds (found.Node v) xs n → Finds (found.Node v) (xs ++ ys) n
finds-front v xs ys n = get-front xs ys n (seen v)

-- a node behind the first list
pub finds-after : (r : Found) (xs ys : List Node) (rest n : ℕ) → rest + length xs ≡ n → Finds r ys rest → Finds r (xs ++ ys) n
finds-after (found.Node v) xs ys rest n passed finds = ap (λ k. slice_get (xs ++ ys) k) (sym passed) ∙ get-after xs ys rest ∙ finds
finds-after (found.Left left) xs ys rest n passed finds = omega (arith, passed, finds, length-append xs ys)
