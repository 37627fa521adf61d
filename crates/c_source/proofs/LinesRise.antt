-- The accesses and the calls of a program are in rising order, and so are the lines of a source.
use Rattle.std.proofs.Common.{◌≡◌, ℕ, ◌+◌, ◌<◌, ◌≤◌, true, List, [], ◌∷◌, ◌++◌, map, Option, Some, None, subst, sym, arith}
use Rattle.cfix_base.specs.declared.access.AccessId.{AccessId}
use Rattle.cfix_base.specs.declared.number.FnId.{FnId}
use Rattle.cfix_base.specs.declared.number.NodeId.{NodeId}
use Rattle.c_prog.specs.declared.access_item.AccessItem.{AccessItem}
use Rattle.c_prog.specs.declared.access_item.Touch.{Touch}
use Rattle.c_prog.specs.declared.tree.Tree.{Tree}
use Rattle.c_prog.specs.Accesses.{numbered, touches}
use Rattle.c_prog.specs.Calls.{callee}
use Rattle.c_prog.specs.Lines.{LineTable, InOrder, IsLined, access_before, node_before, accesses_from, tree_accesses, if_call, calls_from, tree_calls}
use Rattle.c_prog.specs.Order.{Node, tree_order}
use Rattle.c_prog.specs.Rising.{IsBefore, Rises}

abbrev node_of : ℕ → NodeId
node_of n = record { number = n }

abbrev ids : List AccessItem → List AccessId
ids items = map (λ item. item.id) items

-- Accesses.

both-before : (a : AccessId) (xs ys : List AccessItem)
    → IsBefore access_before a (ids xs) → IsBefore access_before a (ids ys) → IsBefore access_before a (ids (xs ++ ys))
both-before a [] ys first second = second
both-before a (x ∷ xs) ys first second = (first.0, both-before a xs ys first.1 second)

-- an access of an earlier node, or an earlier one of the node
before-numbered : (a : AccessId) (n k : ℕ) (items : List Touch)
    → ((i : ℕ) → k ≤ i → access_before a (record { node = node_of n; index = i }) ≡ true) → IsBefore access_before a (ids (numbered (node_of n) k items))
before-numbered a n k [] is = tt
before-numbered a n k (x ∷ items) is =
    (is k (omega arith), before-numbered a n (k + 1) items (λ i more. is i (omega (arith, more))))

before-later : (a : AccessId) (n : ℕ) (nodes : List Node) → a.node.number < n → IsBefore access_before a (ids (accesses_from n nodes))
before-later a n [] less = tt
before-later a n (node ∷ nodes) less =
    both-before a (numbered (node_of n) 0 (touches node)) (accesses_from (n + 1) nodes)
    (before-numbered a n 0 (touches node) (λ i more. grind (arith, less)))
    (before-later a (n + 1) nodes (omega (arith, less)))

rising-numbered : (n k : ℕ) (items : List Touch) (more : List AccessItem)
    → ((i : ℕ) → IsBefore access_before (record { node = node_of n; index = i }) (ids more)) → Rises access_before (ids more)
    → Rises access_before (ids (numbered (node_of n) k items ++ more))
rising-numbered n k [] more later rest = rest
rising-numbered n k (x ∷ items) more later rest = (
  both-before (record { node = node_of n; index = k }) (numbered (node_of n) (k + 1) items) more
      (before-numbered (record { node = node_of n; index = k }) n (k + 1) items (λ i above. grind (arith, above))) (later k),
  rising-numbered n (k + 1) items more later rest,
)

rising-accesses : (n : ℕ) (nodes : List Node) → Rises access_before (ids (accesses_from n nodes))
rising-accesses n [] = tt
rising-accesses n (node ∷ nodes) =
    rising-numbered n 0 (touches node) (accesses_from (n + 1) nodes)
    (λ i. before-later (record { node = node_of n; index = i }) (n + 1) nodes (omega arith)) (rising-accesses (n + 1) nodes)

pub accesses-rise : (t : Tree) → Rises access_before (ids (tree_accesses t))
accesses-rise t = rising-accesses 0 (tree_order t)

-- Calls.

call-later : (a : NodeId) (n : ℕ) (function : Option FnId) (more : List NodeId)
    → a.number < n → IsBefore node_before a more → IsBefore node_before a (if_call (node_of n) function ++ more)
call-later a n None more less rest = rest
call-later a n (Some function) more less rest = (grind (arith, less), rest)

calls-later : (a : NodeId) (n : ℕ) (nodes : List Node) → a.number < n → IsBefore node_before a (calls_from n nodes)
calls-later a n [] less = tt
calls-later a n (node ∷ nodes) less =
    call-later a n (callee node) (calls_from (n + 1) nodes) less (calls-later a (n + 1) nodes (omega (arith, less)))

rising-call : (n : ℕ) (function : Option FnId) (more : List NodeId)
    → IsBefore node_before (node_of n) more → Rises node_before more → Rises node_before (if_call (node_of n) function ++ more)
rising-call n None more later rest = rest
rising-call n (Some function) more later rest = (later, rest)

rising-calls : (n : ℕ) (nodes : List Node) → Rises node_before (calls_from n nodes)
rising-calls n [] = tt
rising-calls n (node ∷ nodes) =
    rising-call n (callee node) (calls_from (n + 1) nodes) (calls-later (node_of n) (n + 1) nodes (omega arith)) (rising-calls (n + 1) nodes)

pub calls-rise : (t : Tree) → Rises node_before (tree_calls t)
calls-rise t = rising-calls 0 (tree_order t)

-- one entry for each access and each call, in this order: so the lines rise
pub lined-rise : (t : Tree) (lines : LineTable) → IsLined t lines → InOrder lines
lined-rise t lines lined = record {
  accesses = subst (λ ks. Rises access_before ks) (sym lined.accesses) (accesses-rise t);
  calls = subst (λ ks. Rises node_before ks) (sym lined.calls) (calls-rise t);
}
