-- The edges of a table, as links from each node to others.
use Rattle.std.proofs.Common.{◌≡◌, ◌≤◌, ℕ, zero, suc, ◌+◌, ◌-◌, ◌<◌, ◌⊎◌, Bool, true, false, List, [], ◌∷◌, ◌++◌, map, length, slice_get, Option, Some, None, if◌then◌else◌, inl, inr, ap, sym, ◌∙◌, refl, subst, arith}
use Rattle.std.specs.List.{Contains}
use Rattle.std.proofs.lemmas.Option.{none-some}
use Rattle.std.proofs.lemmas.Bool.Decides.{leb_tells}
use Rattle.std.proofs.lemmas.List.{length-map}
use Rattle.std.proofs.lemmas.List.Elements.{Contains-append_left, Contains-append_right, Contains-append_cases, Contains-push, Contains-push_cases}
use Rattle.cfix_base.specs.declared.place.Place.{Place}
use Rattle.cfix_base.specs.declared.place.Place.TheVariants.{Start, After, True, False}
use Rattle.flow_graph.specs.declared.table.Out.{Out}
use Rattle.flow_graph.specs.declared.table.Out.TheVariants as out
use Rattle.flow_graph.specs.declared.table.Table.{Table}
use Rattle.flow_graph.specs.Flow.{Way, Edge, Next, node, fn_id, start_way, after_way, true_way, false_way, way_edges, edges_of}
use Rattle.flow_graph.specs.Table.{out_ways, ways_of, table_ways, table_end}
use Rattle.flow_graph.specs.Within.{IsWithin, AreWithin, IsFitting}
use Rattle.flow_graph.specs.Paths.{Link, Path, Leads, IsReach}
use Rattle.walks.specs.Walks.{Steps, IsWalk, list_or}
use Rattle.flow_graph.specs.Links.{met, out_targets, onward}
use Rattle.walks.proofs.Walks.{nothing_in}

the_item : {X : Type 0} (x y : X) → Contains (x ∷ []) y → x ≡ y
the_item x y here = elim (Contains-push_cases [] x y here) [
  | inl none ↦ absurd (nothing_in y none)
  | inr same ↦ same
]

-- links of edges one after another
link_left : (xs ys : List Edge) (u v : ℕ) → Link xs u v → Link (xs ++ ys) u v
link_left xs ys u v link = record {
  edge = link.edge;
  is_edge = Contains-append_left xs ys link.edge link.is_edge;
  source = link.source;
  target = link.target;
}

link_right : (xs ys : List Edge) (u v : ℕ) → Link ys u v → Link (xs ++ ys) u v
link_right xs ys u v link = record {
  edge = link.edge;
  is_edge = Contains-append_right xs ys link.edge link.is_edge;
  source = link.source;
  target = link.target;
}

link_cases : (xs ys : List Edge) (u v : ℕ) → Link (xs ++ ys) u v → Link xs u v ⊎ Link ys u v
link_cases xs ys u v link = elim (Contains-append_cases xs ys link.edge link.is_edge) [
  | inl first ↦ inl (record { edge = link.edge; is_edge = first; source = link.source; target = link.target })
  | inr second ↦ inr (record { edge = link.edge; is_edge = second; source = link.source; target = link.target })
]

no_link : (u v : ℕ) → Link [] u v → ⊥
no_link u v link = nothing_in link.edge link.is_edge

some_same : (m n : ℕ) → Some m ≡ Some n → m ≡ n
some_same m n e = cc e

-- the edge of one place
way_to : (place : Place) (n : ℕ) (next : Next) (dead : Bool) (u v : ℕ)
    → Link (way_edges (record { place = place; source = Some n; target = next; is_dead = dead })) u v → (n ≡ u) × Contains (met dead next) v
way_to place n next true u v link = absurd (no_link u v link)
way_to place n None false u v link =
    let edge : Edge = record { place = place; source = Some n; target = None } in
    let none : None ≡ Some v = ap (λ e. e.target) (the_item edge link.edge link.is_edge) ∙ link.target in
    absurd (none-some v none)
way_to place n (Some m) false u v link =
    let edge : Edge = record { place = place; source = Some n; target = Some m } in
    let same : edge ≡ link.edge = the_item edge link.edge link.is_edge in
    let to : m ≡ v = some_same m v (ap (λ e. e.target) same ∙ link.target) in
    (some_same n u (ap (λ e. e.source) same ∙ link.source), subst (Contains (m ∷ [])) to (Contains-push [] m))

way_from : (place : Place) (n : ℕ) (next : Next) (dead : Bool) (v : ℕ)
    → Contains (met dead next) v → Link (way_edges (record { place = place; source = Some n; target = next; is_dead = dead })) n v
way_from place n next true v here = absurd (nothing_in v here)
way_from place n None false v here = absurd (nothing_in v here)
way_from place n (Some m) false v here = record {
  edge = record { place = place; source = Some n; target = Some m };
  is_edge = Contains-push [] (record { place = place; source = Some n; target = Some m });
  source = refl;
  target = ap Some (the_item m v here);
}

-- the edges of one node
out_to : (n : ℕ) (o : Out) (rest : List Way) (u v : ℕ) → Link (edges_of (out_ways n o ++ rest)) u v
    → ((n ≡ u) × Contains (out_targets o) v) ⊎ Link (edges_of rest) u v
out_to n (out.After next) rest u v link = elim (link_cases _ (edges_of rest) u v link) [
  | inl mine ↦ inl (way_to (After (node n)) n next false u v mine)
  | inr later ↦ inr later
]
out_to n (out.Branch on_true on_false) rest u v link =
    let second = met on_false.is_dead on_false.next in
    let first = met on_true.is_dead on_true.next in
    elim (link_cases _ _ u v link) [
      | inl mine ↦
          let to = way_to (True (node n)) n on_true.next on_true.is_dead u v mine in
          inl (to.0, Contains-append_left first second v to.1)
      | inr others ↦ elim (link_cases _ (edges_of rest) u v others) [
        | inl mine ↦
            let to = way_to (False (node n)) n on_false.next on_false.is_dead u v mine in
            inl (to.0, Contains-append_right first second v to.1)
        | inr later ↦ inr later
      ]
    ]

out_from : (n : ℕ) (o : Out) (rest : List Way) (v : ℕ) → Contains (out_targets o) v → Link (edges_of (out_ways n o ++ rest)) n v
out_from n (out.After next) rest v here = link_left _ (edges_of rest) n v (way_from (After (node n)) n next false v here)
out_from n (out.Branch on_true on_false) rest v here =
    elim (Contains-append_cases (met on_true.is_dead on_true.next) (met on_false.is_dead on_false.next) v here) [
      | inl first ↦ link_left _ _ n v (way_from (True (node n)) n on_true.next on_true.is_dead v first)
      | inr second ↦ link_right _ _ n v (link_left _ (edges_of rest) n v (way_from (False (node n)) n on_false.next on_false.is_dead v second))
    ]

out_rest : (n : ℕ) (o : Out) (rest : List Way) (u v : ℕ) → Link (edges_of rest) u v → Link (edges_of (out_ways n o ++ rest)) u v
out_rest n (out.After next) rest u v link = link_right (edges_of (after_way n next)) (edges_of rest) u v link
out_rest n (out.Branch on_true on_false) rest u v link =
    link_right (way_edges (true_way n on_true.next on_true.is_dead)) (way_edges (false_way n on_false.next on_false.is_dead) ++ edges_of rest) u v
    (link_right (way_edges (false_way n on_false.next on_false.is_dead)) (edges_of rest) u v link)

-- the edges of nodes whose numbers begin at n
record At (n : ℕ) (outs : List Out) (u v : ℕ) : Type 0 where
  place : ℕ
  is_place : n + place ≡ u
  link : Contains (list_or (slice_get (map out_targets outs) place)) v

nodes_to : (n : ℕ) (outs : List Out) (u v : ℕ) → Link (edges_of (ways_of n outs)) u v → At n outs u v
nodes_to n [] u v link = absurd (no_link u v link)
nodes_to n (o ∷ outs) u v link = elim (out_to n o (ways_of (n + 1) outs) u v link) [
  | inl mine ↦ record { place = 0; is_place = omega (arith, mine.0); link = mine.1 }
  | inr later ↦
      let at = nodes_to (n + 1) outs u v later in
      record { place = suc at.place; is_place = omega (arith, at.is_place); link = at.link }
]

nodes_from : (n : ℕ) (outs : List Out) (place v : ℕ) → Contains (list_or (slice_get (map out_targets outs) place)) v
    → Link (edges_of (ways_of n outs)) (n + place) v
nodes_from n [] place v here = absurd (nothing_in v here)
nodes_from n (o ∷ outs) zero v here =
    let same : n ≡ n + 0 = omega arith in
    subst (λ u. Link (edges_of (ways_of n (o ∷ outs))) u v) same (out_from n o (ways_of (n + 1) outs) v here)
nodes_from n (o ∷ outs) (suc place) v here =
    let same : n + 1 + place ≡ n + suc place = omega arith in
    out_rest n o (ways_of (n + 1) outs) (n + suc place) v
    (subst (λ u. Link (edges_of (ways_of (n + 1) outs)) u v) same (nodes_from (n + 1) outs place v here))

-- the edges of a function, whose start leads from no node
pub link_onward : (function : ℕ) (next : Next) (table : Table) (u v : ℕ)
    → Link (edges_of (start_way function next ∷ table_ways table)) u v → Contains (onward table u) v
link_onward function next table u v link = elim (link_cases (way_edges (start_way function next)) (edges_of (table_ways table)) u v link) [
  | inl start ↦
      let edge : Edge = record { place = Start (fn_id function); source = None; target = next } in
      absurd (none-some u (ap (λ e. e.source) (the_item edge start.edge start.is_edge) ∙ start.source))
  | inr node ↦
      let at = nodes_to table.first table.outs u v node in
      elim (leb_tells (suc u) table.first) [
        | inl below ↦ absurd (omega (arith, below.1, at.is_place))
        | inr past ↦
            let same : at.place ≡ u - table.first = omega (arith, at.is_place) in
            subst (λ b. Contains (if b then [] else list_or (slice_get (map out_targets table.outs) (u - table.first))) v) (sym past.0)
            (subst (λ k. Contains (list_or (slice_get (map out_targets table.outs) k)) v) same at.link)
      ]
]

pub onward_link : (function : ℕ) (next : Next) (table : Table) (u v : ℕ)
    → Contains (onward table u) v → Link (edges_of (start_way function next ∷ table_ways table)) u v
onward_link function next table u v here = elim (leb_tells (suc u) table.first) [
  | inl below ↦
      absurd (nothing_in v (subst (λ b. Contains (if b then [] else list_or (slice_get (map out_targets table.outs) (u - table.first))) v) below.0 here))
  | inr past ↦
      let same : table.first + (u - table.first) ≡ u = omega (arith, past.1) in
      link_right (way_edges (start_way function next)) (edges_of (table_ways table)) u v
      (subst (λ w. Link (edges_of (table_ways table)) w v) same
      (nodes_from table.first table.outs (u - table.first) v
      (subst (λ b. Contains (if b then [] else list_or (slice_get (map out_targets table.outs) (u - table.first))) v) past.0 here)))
]

-- the edge of one place that leads from and to nodes in a range
one_within : (low high : ℕ) (place : Place) (source : Option ℕ) (target : Next) (dead : Bool) (u v : ℕ) → IsWithin low high source → IsWithin low high target
    → Link (way_edges (record { place = place; source = source; target = target; is_dead = dead })) u v → IsWithin low high (Some u) × IsWithin low high (Some v)
one_within low high place source target true u v from to link = absurd (no_link u v link)
one_within low high place source target false u v from to link =
    let edge : Edge = record { place = place; source = source; target = target } in
    let same : edge ≡ link.edge = the_item edge link.edge link.is_edge in
    (subst (IsWithin low high) (ap (λ e. e.source) same ∙ link.source) from, subst (IsWithin low high) (ap (λ e. e.target) same ∙ link.target) to)

pub link_within : (low high : ℕ) (ways : List Way) (u v : ℕ) → AreWithin low high ways → Link (edges_of ways) u v
    → IsWithin low high (Some u) × IsWithin low high (Some v)
link_within low high [] u v within link = absurd (no_link u v link)
link_within low high (way ∷ ways) u v within link = elim (link_cases (way_edges way) (edges_of ways) u v link) [
  | inl mine ↦ one_within low high way.place way.source way.target way.is_dead u v within.0 within.1 mine
  | inr later ↦ link_within low high ways u v within.2 later
]

pub onward_within : (function : ℕ) (next : Next) (table : Table) (size u v : ℕ) → IsFitting table size → Contains (onward table u) v → v < size
onward_within function next table size u v fits here =
    elim (link_cases (way_edges (start_way function next)) (edges_of (table_ways table)) u v (onward_link function next table u v here)) [
      | inl start ↦
          let edge : Edge = record { place = Start (fn_id function); source = None; target = next } in
          absurd (none-some u (ap (λ e. e.source) (the_item edge start.edge start.is_edge) ∙ start.source))
      | inr node ↦
          let to = link_within table.first (table_end table) (table_ways table) u v fits.within node in
          omega (arith, to.1, fits.below)
    ]

-- a link leads from and to nodes of the table
pub ends_within : (function : ℕ) (next : Next) (table : Table) (size u v : ℕ) → IsFitting table size → Contains (onward table u) v
    → (table.first ≤ u) × (u < table_end table) × (table.first ≤ v) × (v < table_end table) × (u - table.first < length (map out_targets table.outs))
ends_within function next table size u v fits here =
    elim (link_cases (way_edges (start_way function next)) (edges_of (table_ways table)) u v (onward_link function next table u v here)) [
      | inl start ↦
          let edge : Edge = record { place = Start (fn_id function); source = None; target = next } in
          absurd (none-some u (ap (λ e. e.source) (the_item edge start.edge start.is_edge) ∙ start.source))
      | inr node ↦
          let ends = link_within table.first (table_end table) (table_ways table) u v fits.within node in
          (ends.0.0, ends.0.1, ends.1.0, ends.1.1, omega (arith, ends.0.0, ends.0.1, length-map table.outs out_targets))
    ]

-- chains of links are paths
module _ (function : ℕ) (first : Next) (table : Table) where
  abbrev edges : List Edge
  edges = edges_of (start_way function first ∷ table_ways table)

  pub steps_path : (u v : ℕ) (inner : List ℕ) → Steps (onward table) u inner v → Path edges u inner v
  steps_path u v [] steps = onward_link function first table u v steps
  steps_path u v (m ∷ inner) steps = (onward_link function first table u m steps.0, steps_path m v inner steps.1)

  pub path_steps : (u v : ℕ) (inner : List ℕ) → Path edges u inner v → Steps (onward table) u inner v
  path_steps u v [] path = link_onward function first table u v path
  path_steps u v (m ∷ inner) path = (link_onward function first table u m path.0, path_steps m v inner path.1)

  -- a walk from one node finds the ends of its paths
  pub reach_is : (avoiding set : List Bool) (from size : ℕ) → IsWalk (onward table) avoiding (from ∷ []) size set → IsReach edges avoiding from size set
  reach_is avoiding set from size walk = record {
    sized = walk.sized;
    ends = λ n. (
      λ here.
          let to = walk.sound n here in
          let same : from ≡ to.start = the_item from to.start to.is_start in
          subst (λ u. Leads edges avoiding u n) (sym same)
          (record { inner = to.chain.inner; path = steps_path to.start n to.chain.inner to.chain.steps; clear = to.chain.clear }),
      λ leads. walk.all n (record {
        start = from;
        is_start = Contains-push [] from;
        chain = record { inner = leads.inner; steps = path_steps from n leads.inner leads.path; clear = leads.clear };
      }),
    );
  }
