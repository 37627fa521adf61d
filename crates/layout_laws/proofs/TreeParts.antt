-- The parts of a program are those of its nodes.
use Rattle.std.proofs.Common.{◌≡◌, ℕ, zero, suc, ◌+◌, List, [], ◌∷◌, ◌++◌, map, length, slice_get, Option, Some, None, refl}
use Rattle.c_prog.specs.declared.function.Function.{Function}
use Rattle.c_prog.specs.Order.{Node, joined, function_order, functions_order}
use Rattle.step_state.specs.Parts.{Part}
use Rattle.step_state.specs.Items.{node_part, parts_from, declared, function_parts}

-- each part is of its node
abbrev pub IsPartOf : Part → Node → Type 0
IsPartOf p w = (x : ℕ) × (p ≡ node_part x w)

abbrev pub ArePartsOf : List Part → List Node → Type 0
ArePartsOf [] [] = Unit {0}
ArePartsOf (p ∷ ps) (w ∷ ws) = IsPartOf p w × ArePartsOf ps ws
ArePartsOf _ _ = ⊥

parts_of_append : (ps : List Part) (ws : List Node) (qs : List Part) (vs : List Node) → ArePartsOf ps ws → ArePartsOf qs vs → ArePartsOf (ps ++ qs) (ws ++ vs)
parts_of_append [] [] qs vs h k = k
parts_of_append [] (w ∷ ws) qs vs h k = absurd h
parts_of_append (p ∷ ps) [] qs vs h k = absurd h
parts_of_append (p ∷ ps) (w ∷ ws) qs vs h k = (h.0, parts_of_append ps ws qs vs h.1 k)

from_parts : (x : ℕ) (ws : List Node) → ArePartsOf (parts_from x ws) ws
from_parts x [] = tt
from_parts x (w ∷ ws) = ((x, refl), from_parts (x + declared w) ws)

pub tree_parts_of : (fs : List Function) → ArePartsOf (joined (map function_parts fs)) (functions_order fs)
tree_parts_of [] = tt
tree_parts_of (f ∷ fs) =
    parts_of_append (function_parts f) (function_order f) (joined (map function_parts fs)) (functions_order fs) (from_parts (length f.params) (function_order f)) (tree_parts_of fs)

-- the part with a number, and the node with it
abbrev pub Pair : Option Part → Option Node → Type 0
Pair None None = Unit {0}
Pair (Some p) (Some w) = IsPartOf p w
Pair _ _ = ⊥

pub pair_at : (ps : List Part) (ws : List Node) (n : ℕ) → ArePartsOf ps ws → Pair (slice_get ps n) (slice_get ws n)
pair_at [] [] n h = tt
pair_at [] (w ∷ ws) n h = absurd h
pair_at (p ∷ ps) [] n h = absurd h
pair_at (p ∷ ps) (w ∷ ws) zero h = h.0
pair_at (p ∷ ps) (w ∷ ws) (suc n) h = pair_at ps ws n h.1
