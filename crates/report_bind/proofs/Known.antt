-- Which lines are known, and which nodes exist.
use Rattle.std.proofs.Common.{◌≡◌, ℕ, suc, ◌+◌, ◌<◌, ◌≤◌, List, [], ◌∷◌, length, slice_get, Option, Some, None, refl, ap, ◌∙◌, arith}
use Rattle.std.specs.Prelude.{All}
use Rattle.std.proofs.lemmas.List.Elements.{All-cons, All-weaker, All-append}
use Rattle.cfix_base.specs.declared.number.FnId.{FnId}
use Rattle.cfix_base.specs.declared.number.NodeId.{NodeId}
use Rattle.c_prog.specs.declared.access_item.AccessItem.{AccessItem}
use Rattle.c_prog.specs.declared.access_item.Touch.{Touch}
use Rattle.c_prog.specs.declared.tree.Tree.{Tree}
use Rattle.c_prog.specs.Accesses.{numbered, numbered_one, touches, touches_of}
use Rattle.c_prog.specs.Calls.{callee}
use Rattle.c_prog.specs.Lines.{accesses_from, tree_accesses, if_call, calls_from, tree_calls}
use Rattle.c_prog.specs.Order.{Node, tree_order}
use Rattle.report_bind.specs.Places.{item_at}

nothing : {X : Type 0} (P : X → Type 0) → All P []
nothing P = λ k d below. absurd (omega (arith, below))

one-call : (P : NodeId → Type 0) (node : NodeId) (function : Option FnId) → P node → All P (if_call node function)
one-call P node None is = nothing P
one-call P node (Some function) is = All-cons P node [] is (nothing P)

-- calls are nodes of the program
calls-below : (n high : ℕ) (nodes : List Node) → n + length nodes ≤ high → All (λ node. node.number < high) (calls_from n nodes)
calls-below n high [] fits = nothing (λ node. node.number < high)
calls-below n high (node ∷ rest) fits =
    All-append (λ node. node.number < high) (if_call (record { number = n }) (callee node)) (calls_from (n + 1) rest)
    (one-call (λ node. node.number < high) (record { number = n }) (callee node) (omega (arith, fits)))
    (calls-below (n + 1) high rest (omega (arith, fits)))

pub calls-exist : (tree : Tree) → All (λ node. node.number < length (tree_order tree)) (tree_calls tree)
calls-exist tree = calls-below 0 (length (tree_order tree)) (tree_order tree) (omega arith)

-- an access stands at its place among those of its node, which is one of these
abbrev pub Stands : ℕ → List Node → AccessItem → Type 0
Stands from nodes item =
    (place : ℕ) × (item.id.node.number ≡ from + place) × (place < length nodes)
    × (slice_get (numbered item.id.node 0 (touches_of (slice_get nodes place))) item.id.index ≡ Some item)

abbrev StandsIn : NodeId → ℕ → List Touch → AccessItem → Type 0
StandsIn node first touches item =
    (place : ℕ) × (item.id.node ≡ node) × (item.id.index ≡ first + place) × (slice_get (numbered node first touches) place ≡ Some item)

in-node : (node : NodeId) (first : ℕ) (touches : List Touch) → All (StandsIn node first touches) (numbered node first touches)
in-node node first [] = nothing (StandsIn node first [])
in-node node first (touch ∷ rest) =
    All-cons (StandsIn node first (touch ∷ rest)) (numbered_one node first touch) (numbered node (first + 1) rest) (0, refl, omega arith, refl)
    (All-weaker (StandsIn node (first + 1) rest) (StandsIn node first (touch ∷ rest))
    (λ item at. (suc at.0, at.1, omega (arith, at.2), at.3)) (numbered node (first + 1) rest) (in-node node (first + 1) rest))

in-first : (from : ℕ) (node : Node) (rest : List Node) (item : AccessItem)
    → StandsIn (record { number = from }) 0 (touches node) item → Stands from (node ∷ rest) item
in-first from node rest item at =
    let number : item.id.node.number ≡ from = ap (λ x. x.number) at.1 in
    let index : item.id.index ≡ at.0 = omega (arith, at.2) in (
      0,
      omega (arith, number),
      omega arith,
      ap (λ x. slice_get (numbered x 0 (touches node)) item.id.index) at.1
          ∙ ap (λ i. slice_get (numbered (record { number = from }) 0 (touches node)) i) index ∙ at.3,
    )

standing : (from : ℕ) (nodes : List Node) → All (Stands from nodes) (accesses_from from nodes)
standing from [] = nothing (Stands from [])
standing from (node ∷ rest) =
    All-append (Stands from (node ∷ rest)) (numbered (record { number = from }) 0 (touches node)) (accesses_from (from + 1) rest)
    (All-weaker (StandsIn (record { number = from }) 0 (touches node)) (Stands from (node ∷ rest)) (in-first from node rest)
    (numbered (record { number = from }) 0 (touches node)) (in-node (record { number = from }) 0 (touches node)))
    (All-weaker (Stands (from + 1) rest) (Stands from (node ∷ rest))
    (λ item at. (suc at.0, omega (arith, at.1), omega (arith, at.2), at.3)) (accesses_from (from + 1) rest) (standing (from + 1) rest))

-- the accesses of a program stand at their places
pub accesses-stand : (tree : Tree) → All (Stands 0 (tree_order tree)) (tree_accesses tree)
accesses-stand tree = standing 0 (tree_order tree)

pub stands-at : (tree : Tree) (item : AccessItem) → Stands 0 (tree_order tree) item → item_at tree item.id ≡ Some item
stands-at tree item at =
    let place : item.id.node.number ≡ at.0 = omega (arith, at.1) in
    ap (λ k. slice_get (numbered item.id.node 0 (touches_of (slice_get (tree_order tree) k))) item.id.index) place ∙ at.3

pub stands-below : (tree : Tree) (item : AccessItem) → Stands 0 (tree_order tree) item → item.id.node.number < length (tree_order tree)
stands-below tree item at = omega (arith, at.1, at.2)
