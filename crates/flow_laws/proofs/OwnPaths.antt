-- The functions of a program have numbers of nodes of their own, so that an edge from a node is one of its function.
use Rattle.std.proofs.Common.{◌≡◌, ◌≤◌, ℕ, zero, suc, ◌+◌, ◌⊎◌, List, [], ◌∷◌, ◌++◌, take, length, slice_get, Some, None, inl, inr, ap, sym, ◌∙◌, refl, subst, arith, append_assoc}
use Rattle.std.proofs.lemmas.Option.{none-some}
use Rattle.std.proofs.lemmas.List.{length-append}
use Rattle.std.proofs.lemmas.List.Elements.{Contains-append_left, Contains-append_right, Contains-append_cases, Contains-push_cases}
use Rattle.std.proofs.Math.Seq.{take-append_seam, take-append-add}
use Rattle.cfix_base.specs.declared.place.Place.TheVariants.{Start}
use Rattle.c_prog.specs.declared.function.Function.{Function}
use Rattle.c_prog.specs.declared.tree.Tree.{Tree}
use Rattle.c_prog.specs.Nodes.{first_node, nodes_of, functions_nodes}
use Rattle.flow_graph.specs.Flow.{Way, Edge, Next, fn_id, size_of, parts_of, first_of, along, outermost, start_way, way_edges, edges_of, function_ways, ways_from, function_edges, tree_edges}
use Rattle.flow_graph.specs.Paths.{Link, Path}
use Rattle.flow_graph.proofs.NodeCounts.{size_is_nodes}
use Rattle.walks.proofs.Walks.{nothing_in}
use Rattle.flow_graph.proofs.Within.{body_within}
use Rattle.flow_graph.proofs.Joins.{link_within}
use Rattle.flow_laws.specs.OwnPaths.{IsNodeOf, HasOwnPaths}

-- ---- links of edges one after another

left : (xs ys : List Edge) (u v : ℕ) → Link xs u v → Link (xs ++ ys) u v
left xs ys u v link = record {
  edge = link.edge;
  is_edge = Contains-append_left xs ys link.edge link.is_edge;
  source = link.source;
  target = link.target;
}

right : (xs ys : List Edge) (u v : ℕ) → Link ys u v → Link (xs ++ ys) u v
right xs ys u v link = record {
  edge = link.edge;
  is_edge = Contains-append_right xs ys link.edge link.is_edge;
  source = link.source;
  target = link.target;
}

either : (xs ys : List Edge) (u v : ℕ) → Link (xs ++ ys) u v → Link xs u v ⊎ Link ys u v
either xs ys u v link = elim (Contains-append_cases xs ys link.edge link.is_edge) [
  | inl here ↦ inl (record { edge = link.edge; is_edge = here; source = link.source; target = link.target })
  | inr there ↦ inr (record { edge = link.edge; is_edge = there; source = link.source; target = link.target })
]

nowhere : (u v : ℕ) → Link [] u v → ⊥
nowhere u v link = nothing_in link.edge link.is_edge

edges-append : (xs ys : List Way) → edges_of (xs ++ ys) ≡ edges_of xs ++ edges_of ys
edges-append [] ys = refl
edges-append (x ∷ xs) ys = ap (λ es. way_edges x ++ es) (edges-append xs ys) ∙ sym (append_assoc (way_edges x) (edges_of xs) (edges_of ys))

-- ---- the numbers of nodes

nodes-append : (xs ys : List Function) → functions_nodes (xs ++ ys) ≡ functions_nodes xs + functions_nodes ys
nodes-append [] ys = omega (arith)
nodes-append (x ∷ xs) ys = omega (arith, nodes-append xs ys)

module _ (tree : Tree) where
  -- no edge leads from the start as from a node
  start-none : (number : ℕ) (next : Next) (u v : ℕ) → Link (way_edges (start_way number next)) u v → ⊥
  start-none number next u v link = elim (Contains-push_cases [] (record { place = Start (fn_id number); source = None; target = next }) link.edge link.is_edge) [
    | inl none ↦ nothing_in link.edge none
    | inr same ↦ none-some u (ap (λ (e : Edge). e.source) same ∙ link.source)
  ]

  -- the edges of a function lead from and to its nodes
  own-nodes : (number : ℕ) (f : Function) (u v : ℕ) → Link (function_edges tree number f) u v → IsNodeOf tree number f u × IsNodeOf tree number f v
  own-nodes number f u v link =
      let first : ℕ = first_node tree number in
      elim (either (way_edges (start_way number (first_of (size_of (parts_of f.body)) first None))) (edges_of (along (parts_of f.body) first outermost)) u v link) [
        | inl start ↦ absurd (start-none number (first_of (size_of (parts_of f.body)) first None) u v start)
        | inr node ↦
            let within = link_within first (first + size_of (parts_of f.body)) (along (parts_of f.body) first outermost) u v (body_within f.body first) node in (
              record { from = within.0.0; below = omega (arith, within.0.1, size_is_nodes f.body) },
              record { from = within.1.0; below = omega (arith, within.1.1, size_is_nodes f.body) },
            )
      ]

  -- the first node of the function behind these
  first-behind : (before list : List Function) → tree.functions ≡ before ++ list → first_node tree (length before) ≡ functions_nodes before
  first-behind before list is =
      ap (λ (fs : List Function). functions_nodes (take (length before) fs)) is ∙ ap functions_nodes (take-append_seam before list)

  -- the edges of functions from this one on lead from their nodes
  above : (list before : List Function) (k u v : ℕ) → length before ≡ k → tree.functions ≡ before ++ list
      → Link (edges_of (ways_from tree k list)) u v → functions_nodes before ≤ u
  above [] before k u v at is link = absurd (nowhere u v link)
  above (g ∷ rest) before k u v at is link =
      elim (either (edges_of (function_ways tree k g)) (edges_of (ways_from tree (k + 1) rest)) u v (subst (λ es. Link es u v) (edges-append (function_ways tree k g) (ways_from tree (k + 1) rest)) link)) [
        | inl mine ↦
            let node = (own-nodes k g u v mine).0 in
            let first : first_node tree k ≡ functions_nodes before = subst (λ n. first_node tree n ≡ functions_nodes before) at (first-behind before (g ∷ rest) is) in
            omega (arith, node.from, first)
        | inr later ↦
            let more = above rest (before ++ g ∷ []) (k + 1) u v (omega (arith, at, length-append before (g ∷ []))) (is ∙ sym (append_assoc before (g ∷ []) rest)) later in
            omega (arith, more, nodes-append before (g ∷ []))
      ]

  -- an edge from a node of a function is one of the function
  found : (list before : List Function) (k n : ℕ) (f : Function) (u v : ℕ) → length before ≡ k → tree.functions ≡ before ++ list → slice_get list n ≡ Some f
      → IsNodeOf tree (k + n) f u → Link (edges_of (ways_from tree k list)) u v → Link (function_edges tree (k + n) f) u v
  found [] before k n f u v at is here node link = absurd (nowhere u v link)
  found (g ∷ rest) before k zero f u v at is here node link =
      let same : g ≡ f = cc in
      let number : k ≡ k + 0 = omega (arith) in
      let first : first_node tree k ≡ functions_nodes before = subst (λ m. first_node tree m ≡ functions_nodes before) at (first-behind before (g ∷ rest) is) in
      elim (either (edges_of (function_ways tree k g)) (edges_of (ways_from tree (k + 1) rest)) u v (subst (λ es. Link es u v) (edges-append (function_ways tree k g) (ways_from tree (k + 1) rest)) link)) [
        | inl mine ↦ subst (λ m. Link (function_edges tree m f) u v) number (subst (λ h. Link (function_edges tree k h) u v) same mine)
        | inr later ↦
            let more = above rest (before ++ g ∷ []) (k + 1) u v (omega (arith, at, length-append before (g ∷ []))) (is ∙ sym (append_assoc before (g ∷ []) rest)) later in
            let start : first_node tree (k + 0) ≡ functions_nodes before = subst (λ m. first_node tree m ≡ functions_nodes before) number first in
            absurd (omega (arith, more, nodes-append before (g ∷ []), node.below, start, ap (λ (h : Function). nodes_of h.body) same))
      ]
  found (g ∷ rest) before k (suc n) f u v at is here node link =
      let number : k + 1 + n ≡ k + suc n = omega (arith) in
      let first : first_node tree k ≡ functions_nodes before = subst (λ m. first_node tree m ≡ functions_nodes before) at (first-behind before (g ∷ rest) is) in
      elim (either (edges_of (function_ways tree k g)) (edges_of (ways_from tree (k + 1) rest)) u v (subst (λ es. Link es u v) (edges-append (function_ways tree k g) (ways_from tree (k + 1) rest)) link)) [
        | inl mine ↦
            let low = (own-nodes k g u v mine).0 in
            let front : take (length before + suc n) tree.functions ≡ before ++ (g ∷ take n rest) =
            ap (λ (fs : List Function). take (length before + suc n) fs) is ∙ take-append-add before (g ∷ rest) (suc n) in
            let high : first_node tree (length before + suc n) ≡ functions_nodes (before ++ (g ∷ take n rest)) = ap functions_nodes front in
            let moved : first_node tree (k + suc n) ≡ functions_nodes (before ++ (g ∷ take n rest)) =
            subst (λ m. first_node tree (m + suc n) ≡ functions_nodes (before ++ (g ∷ take n rest))) at high in
            absurd (omega (arith, low.below, node.from, moved, first, nodes-append before (g ∷ take n rest)))
        | inr later ↦
            subst (λ m. Link (function_edges tree m f) u v) number
            (found rest (before ++ g ∷ []) (k + 1) n f u v (omega (arith, at, length-append before (g ∷ []))) (is ∙ sym (append_assoc before (g ∷ []) rest)) here
            (subst (λ m. IsNodeOf tree m f u) (sym number) node) later)
      ]

  -- an edge of a function is one of the program
  included : (list : List Function) (k n : ℕ) (f : Function) (u v : ℕ) → slice_get list n ≡ Some f
      → Link (function_edges tree (k + n) f) u v → Link (edges_of (ways_from tree k list)) u v
  included [] k n f u v here link = absurd (none-some f here)
  included (g ∷ rest) k zero f u v here link =
      let same : f ≡ g = cc in
      let number : k + 0 ≡ k = omega (arith) in
      subst (λ es. Link es u v) (sym (edges-append (function_ways tree k g) (ways_from tree (k + 1) rest)))
      (left (edges_of (function_ways tree k g)) (edges_of (ways_from tree (k + 1) rest)) u v
      (subst (λ m. Link (function_edges tree m g) u v) number (subst (λ h. Link (function_edges tree (k + 0) h) u v) same link)))
  included (g ∷ rest) k (suc n) f u v here link =
      let number : k + suc n ≡ k + 1 + n = omega (arith) in
      subst (λ es. Link es u v) (sym (edges-append (function_ways tree k g) (ways_from tree (k + 1) rest)))
      (right (edges_of (function_ways tree k g)) (edges_of (ways_from tree (k + 1) rest)) u v
      (included rest (k + 1) n f u v here (subst (λ m. Link (function_edges tree m f) u v) number link)))

  -- ---- paths

  link-outward : (number : ℕ) (f : Function) → slice_get tree.functions number ≡ Some f → (u v : ℕ)
      → Link (function_edges tree number f) u v → Link (tree_edges tree) u v
  link-outward number f here u v link =
      included tree.functions 0 number f u v here (subst (λ m. Link (function_edges tree m f) u v) (omega (arith)) link)

  outward : (number : ℕ) (f : Function) → slice_get tree.functions number ≡ Some f → (u : ℕ) (inner : List ℕ) (v : ℕ)
      → Path (function_edges tree number f) u inner v → Path (tree_edges tree) u inner v
  outward number f here u [] v link = link-outward number f here u v link
  outward number f here u (m ∷ rest) v path = (link-outward number f here u m path.0, outward number f here m rest v path.1)

  link-inward : (number : ℕ) (f : Function) → slice_get tree.functions number ≡ Some f → (u v : ℕ)
      → IsNodeOf tree number f u → Link (tree_edges tree) u v → Link (function_edges tree number f) u v
  link-inward number f here u v node link =
      let same : 0 + number ≡ number = omega (arith) in
      subst (λ m. Link (function_edges tree m f) u v) same
      (found tree.functions [] 0 number f u v refl refl here (subst (λ m. IsNodeOf tree m f u) (sym same) node) link)

  inward : (number : ℕ) (f : Function) → slice_get tree.functions number ≡ Some f → (u : ℕ) (inner : List ℕ) (v : ℕ)
      → IsNodeOf tree number f u → Path (tree_edges tree) u inner v → Path (function_edges tree number f) u inner v
  inward number f here u [] v node link = link-inward number f here u v node link
  inward number f here u (m ∷ rest) v node path =
      let first = link-inward number f here u m node path.0 in
      (first, inward number f here m rest v (own-nodes number f u m first).1 path.1)

  stays : (number : ℕ) (f : Function) (u : ℕ) (inner : List ℕ) (v : ℕ) → Path (function_edges tree number f) u inner v → IsNodeOf tree number f v
  stays number f u [] v link = (own-nodes number f u v link).1
  stays number f u (m ∷ rest) v path = stays number f m rest v path.1

pub own_paths : (tree : Tree) (number : ℕ) (f : Function) → slice_get tree.functions number ≡ Some f → HasOwnPaths tree number f
own_paths tree number f here = record {
  outward = outward tree number f here;
  inward = inward tree number f here;
  stays = stays tree number f;
}
