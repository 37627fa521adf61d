-- Control stays in its function, and a function reaches an access exactly where its first node may come to it.
use Rattle.std.proofs.Common.{◌≡◌, ◌≢◌, ⊎_elim, inl, inr, ℕ, zero, suc, ◌+◌, Bool, true, false, List, [], ◌∷◌, ◌++◌, slice_get, Option, Some, None, if◌then◌else◌, refl, ap, sym, ◌∙◌, subst, append_assoc, arith}
use Rattle.std.specs.List.{Contains}
use Rattle.std.proofs.lemmas.List.Elements.{Contains-append_cases}
use Rattle.std.proofs.lemmas.Bool.Decides.{eqb_tells}
use Rattle.std.proofs.Math.Dec.{eqb}
use Rattle.cfix_base.specs.declared.place.Place.{Place}
use Rattle.cfix_base.specs.declared.place.Place.TheVariants.{Start, After, True, False}
use Rattle.c_prog.specs.declared.function.Function.{Function}
use Rattle.c_prog.specs.declared.tree.Tree.{Tree}
use Rattle.c_prog.specs.Nodes.{first_node}
use Rattle.flow_graph.specs.Flow as flows
use Rattle.flow_graph.specs.Flow.{Way, Next, fn_id, parts_of, size_of, along, outermost, first_of, body_ways, function_ways, ways_from, way_edges, edge_unless, edges_of, tree_edges, tree_ways, same_place, next_at, next}
use Rattle.flow_graph.specs.Paths.{Link, Path, Comes, entry, entry_of}
use Rattle.flow_graph.specs.Within.{AreWithin}
use Rattle.flow_graph.proofs.Joins.{link_within}
use Rattle.flow_graph.proofs.NodeCounts.{size_is_nodes}
use Rattle.walks.proofs.Walks.{nothing_in}
use Rattle.flow_graph.proofs.Within.{body_within}
use Rattle.placed_trees.specs.Coming.{IsReached, Starts, ReachesBy, Reaches, Does, MayCome}
use Rattle.layout_laws.specs.Layout.{Layout, Live, source}
use Rattle.step_tables.specs.TreeCode.{next_or_exit, next_of}
use Rattle.layout_laws.specs.TreeLayout.{layout_of}
use Rattle.placed_trees.specs.TreeOps.{edge_at}
use Rattle.placed_trees.proofs.Edges.{live_edge, same_self, place_edge}
use Rattle.layout_laws.proofs.Sited.{IsBehind, Sited, along_sited, list_site, first_within, met, range_function}

-- edges one after another
edges_append : (xs ys : List Way) → edges_of (xs ++ ys) ≡ edges_of xs ++ edges_of ys
edges_append [] ys = refl
edges_append (x ∷ xs) ys = ap (λ r. way_edges x ++ r) (edges_append xs ys) ∙ sym (append_assoc (way_edges x) (edges_of xs) (edges_of ys))

at_contains : (p : Place) (edges : List flows.Edge) (e : flows.Edge) → edge_at p edges ≡ Some e → Contains edges e
at_contains p [] e is = cc
at_contains p (x ∷ rest) e is = head (same_place x.place p) (at_contains p rest e) is
  where
    head : (b : Bool) → (edge_at p rest ≡ Some e → Contains rest e) → (if b then Some x else edge_at p rest) ≡ Some e → Contains (x ∷ rest) e
    head true later is = let same : x ≡ e = cc in (0, omega arith, same)
    head false later is = let h = later is in let l = h.1 in (suc h.0, omega arith, h.2)

module _ (tree : Tree) where
  abbrev y : Layout
  y = layout_of tree

  -- an edge stays in its function
  body_are : (k : ℕ) (f : Function) → AreWithin (first_node tree k) (first_node tree k + size_of (parts_of f.body)) (function_ways tree k f)
  body_are k f = (tt, first_within (size_of (parts_of f.body)) (first_node tree k), body_within f.body (first_node tree k))

  link_from : (k : ℕ) (fs : List Function) → ((i : ℕ) (f : Function) → slice_get fs i ≡ Some f → slice_get tree.functions (k + i) ≡ Some f)
      → (u v : ℕ) → Link (edges_of (ways_from tree k fs)) u v → y.function u ≡ y.function v
  link_from k [] at u v link = absurd (nothing_in link.edge link.is_edge)
  link_from k (f ∷ fs) at u v link =
      elim (Contains-append_cases (edges_of (function_ways tree k f)) (edges_of (ways_from tree (k + 1) fs)) link.edge
      (subst (λ es. Contains es link.edge) (edges_append (function_ways tree k f) (ways_from tree (k + 1) fs)) link.is_edge)) [
        | inl here ↦
            let low = first_node tree k in
            let zeroth : k + 0 ≡ k = omega arith in
            let is : slice_get tree.functions k ≡ Some f = ap (slice_get tree.functions) (sym zeroth) ∙ at 0 f refl in
            let both = link_within low (low + size_of (parts_of f.body)) (function_ways tree k f) u v (body_are k f)
            (record { edge = link.edge; is_edge = here; source = link.source; target = link.target }) in
            let n = size_is_nodes f.body in
            let u0 = both.0.0 in
            let u1 = both.0.1 in
            let v0 = both.1.0 in
            let v1 = both.1.1 in
            range_function tree.functions k f u is (omega arith) (omega arith) ∙ sym (range_function tree.functions k f v is (omega arith) (omega arith))
        | inr later ↦
            link_from (k + 1) fs (λ i g is. let step : k + 1 + i ≡ k + suc i = omega arith in ap (slice_get tree.functions) step ∙ at (suc i) g is) u v
            (record { edge = link.edge; is_edge = later; source = link.source; target = link.target })
      ]

  pub link_function : (u v : ℕ) → Link (tree_edges tree) u v → y.function u ≡ y.function v
  link_function u v link = link_from 0 tree.functions (λ i f is. let same : 0 + i ≡ i = omega arith in ap (slice_get tree.functions) same ∙ is) u v link

  path_function : (u v : ℕ) (inner : List ℕ) → Path (tree_edges tree) u inner v → y.function u ≡ y.function v
  path_function u v [] link = link_function u v link
  path_function u v (m ∷ rest) path = link_function u m path.0 ∙ path_function m v rest path.1

  pub comes_function : (u v : ℕ) → Comes (tree_edges tree) u v → y.function u ≡ y.function v
  comes_function u v (inl e) = ap y.function (sym e)
  comes_function u v (inr more) = path_function u v more.0 more.1

  -- a live place is a link
  pub live_link : (p : Place) (u v : ℕ) → Live y p → source p ≡ Some u → next tree p ≡ Some (Some v) → Link (tree_edges tree) u v
  live_link p u v live from into = record {
    edge = place_edge p (Some v);
    is_edge = at_contains p (tree_edges tree) (place_edge p (Some v)) (live_edge tree p (Some v) live into);
    source = from;
    target = refl;
  }

  pub comes_before : (u v m : ℕ) → Link (tree_edges tree) u v → Comes (tree_edges tree) v m → Comes (tree_edges tree) u m
  comes_before u v m link (inl e) = inr ([], subst (Link (tree_edges tree) u) (sym e) link)
  comes_before u v m link (inr more) = inr (v ∷ more.0, (link, more.1))

  -- what control meets first in a function
  skipped : (k : ℕ) (xs ys : List Way) → Sited xs → next_at (Start (fn_id k)) (xs ++ ys) ≡ next_at (Start (fn_id k)) ys
  skipped k [] ys h = refl
  skipped k (x ∷ xs) ys h = skip_one x.place h.0 ∙ skipped k xs ys h.1
    where
      skip_one : (p : Place) → IsBehind p x.source
          → (if same_place p (Start (fn_id k)) then Some x.target else next_at (Start (fn_id k)) (xs ++ ys)) ≡ next_at (Start (fn_id k)) (xs ++ ys)
      skip_one (Start f) h = absurd h
      skip_one (After n) h = refl
      skip_one (True n) h = refl
      skip_one (False n) h = refl

  first_from : (k : ℕ) (fs : List Function) (i : ℕ) (f : Function) → slice_get fs i ≡ Some f
      → next_at (Start (fn_id (k + i))) (ways_from tree k fs) ≡ Some (first_of (size_of (parts_of f.body)) (first_node tree (k + i)) None)
  first_from k [] i f is = cc
  first_from k (g ∷ fs) zero f is =
      let same : k + 0 ≡ k = omega arith in
      let it : g ≡ f = cc in
      ap (λ j. next_at (Start (fn_id j)) (ways_from tree k (g ∷ fs))) same
      ∙ ap (λ b. if b then Some (first_of (size_of (parts_of g.body)) (first_node tree k) None)
      else next_at (Start (fn_id k)) (along (parts_of g.body) (first_node tree k) outermost ++ ways_from tree (k + 1) fs)) (same_self (Start (fn_id k)))
      ∙ (λ j. Some (first_of (size_of (parts_of (it j).body)) (first_node tree (sym same j)) None))
  first_from k (g ∷ fs) (suc i) f is =
      let p = Start (fn_id (k + suc i)) in
      let rest = along (parts_of g.body) (first_node tree k) outermost ++ ways_from tree (k + 1) fs in
      let other : eqb k (k + suc i) ≡ false =
      ⊎_elim (λ (p : (eqb k (k + suc i) ≡ true) × (k ≡ k + suc i)). let e = p.1 in absurd (omega arith)) (λ (p : (eqb k (k + suc i) ≡ false) × (k ≢ k + suc i)). p.0) (eqb_tells k (k + suc i)) in
      let more : k + suc i ≡ k + 1 + i = omega arith in
      ap (λ b. if b then Some (first_of (size_of (parts_of g.body)) (first_node tree k) None) else next_at p rest) other
      ∙ skipped (k + suc i) (along (parts_of g.body) (first_node tree k) outermost) (ways_from tree (k + 1) fs)
      (along_sited (parts_of g.body) (list_site g.body) (first_node tree k) outermost)
      ∙ ap (λ j. next_at (Start (fn_id j)) (ways_from tree (k + 1) fs)) more
      ∙ first_from (k + 1) fs i f is
      ∙ ap (λ j. Some (first_of (size_of (parts_of f.body)) (first_node tree j) None)) (sym more)

  goes_some : (o : Option Next) (n : ℕ) → next_or_exit o ≡ Some n → o ≡ Some (Some n)
  goes_some None n e = cc
  goes_some (Some None) n e = cc
  goes_some (Some (Some m)) n e = ap Some e

  pub next_some : (p : Place) (v : ℕ) → next_of tree p ≡ Some v → next tree p ≡ Some (Some v)
  next_some p v e = goes_some (next tree p) v e

  pub first_entry : (g : ℕ) → next_of tree (Start (fn_id g)) ≡ entry tree g
  first_entry g = by (slice_get tree.functions g) refl
    where
      gone : (o : Option ℕ) → next_of tree (Start (fn_id g)) ≡ o → slice_get tree.functions g ≡ None → o ≡ None
      gone None e none = refl
      gone (Some v) e none =
          let h = met tree (Start (fn_id g)) v (next_some (Start (fn_id g)) v e) in
          let same : g ≡ h.number = h.place in
          let clash : None ≡ Some h.function = sym none ∙ ap (slice_get tree.functions) same ∙ h.is in
          cc

      by : (o : Option Function) → slice_get tree.functions g ≡ o → next_of tree (Start (fn_id g)) ≡ entry_of tree g o
      by None e = gone (next_of tree (Start (fn_id g))) refl e
      by (Some f) e =
          let same : 0 + g ≡ g = omega arith in
          ap next_or_exit (ap (λ j. next_at (Start (fn_id j)) (tree_ways tree)) (sym same) ∙ first_from 0 tree.functions g f e
          ∙ ap (λ j. Some (first_of (size_of (parts_of f.body)) (first_node tree j) None)) same)

  module _ (a : ℕ) where
    -- the first node of a function may come, exactly where the function reaches
    pub may_reaches : (g v : ℕ) → entry tree g ≡ Some v → y.function v ≡ g → MayCome tree a v → Reaches tree a g
    may_reaches g v first of may = by may.2
      where
        here : IsReached tree g may.0
        here = (sym (comes_function v may.0 may.1) ∙ of, record { first = v; is_first = first; comes = may.1 })

        by : Does tree a may.0 → Reaches tree a g
        by (inl e) = ([], subst (IsReached tree g) e here)
        by (inr more) = (more.0 ∷ more.2.0, ((may.0, here, more.1), more.2.1))

    pub reaches_may : (g : ℕ) → Reaches tree a g → (v : ℕ) × (entry tree g ≡ Some v) × MayCome tree a v
    reaches_may g reach = by reach.0 reach.1
      where
        by : (through : List ℕ) → ReachesBy tree a g through → (v : ℕ) × (entry tree g ≡ Some v) × MayCome tree a v
        by [] h = let r = h.1 in (r.first, r.is_first, (a, r.comes, inl refl))
        by (f ∷ rest) h =
            let n = h.0.0 in
            let r = h.0.1.1 in
            (r.first, r.is_first, (n, r.comes, inr (f, h.0.2, (rest, h.1))))

    pub may_self : MayCome tree a a
    may_self = (a, inl refl, inl refl)

    pub may_before : (u v : ℕ) → Link (tree_edges tree) u v → MayCome tree a v → MayCome tree a u
    may_before u v link may = (may.0, comes_before u v may.0 link may.1, may.2)

    pub may_starts : (n g : ℕ) → Starts tree n g → Reaches tree a g → MayCome tree a n
    may_starts n g starts reach = (n, inl refl, inr (g, starts, reach))
