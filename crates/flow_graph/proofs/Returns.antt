-- Walks along turned links find the beginnings of paths.
use Rattle.std.proofs.Common.{◌≡◌, ℕ, zero, suc, ◌+◌, ◌-◌, ◌<◌, ◌≤◌, Bool, true, false, List, [], ◌∷◌, ◌++◌, map, length, if◌then◌else◌, inl, inr, sym, refl, subst, arith}
use Rattle.std.specs.List.{Contains}
use Rattle.std.proofs.lemmas.Bool.{cases_eq}
use Rattle.std.proofs.lemmas.Bool.Decides.{leb_tells}
use Rattle.std.proofs.lemmas.List.{length-map}
use Rattle.std.proofs.lemmas.List.Elements.{Contains-append_left, Contains-append_cases, Contains-push, Contains-push_cases}
use Rattle.plan_types.specs.Sets.{is_in, IsIn}
use Rattle.flow_graph.specs.declared.table.Table.{Table}
use Rattle.flow_graph.specs.Flow.{Edge, Next, start_way, edges_of}
use Rattle.flow_graph.specs.Table.{table_ways, table_end}
use Rattle.flow_graph.specs.Within.{IsFitting}
use Rattle.flow_graph.specs.Paths.{IsBack}
use Rattle.walks.specs.Walks.{Clear, Steps, IsWalk, targets_in}
use Rattle.flow_graph.specs.Links.{out_targets, onward, listed, Turned, one_if, members}
use Rattle.walks.proofs.Walks.{nothing_in, clear_append, steps_on}
use Rattle.flow_graph.proofs.Joins.{ends_within, steps_path, path_steps}

-- the numbers of a set in a range
in_one : (b : Bool) (n v : ℕ) → Contains (one_if b n) v → (b ≡ true) × (n ≡ v)
in_one true n v here = elim (Contains-push_cases [] n v here) [
  | inl none ↦ absurd (nothing_in v none)
  | inr same ↦ (refl, same)
]
in_one false n v here = absurd (nothing_in v here)

members_only : (set : List Bool) (low count v : ℕ) → Contains (members set low count) v → IsIn set v
members_only set low zero v here = absurd (nothing_in v here)
members_only set low (suc count) v here = elim (Contains-append_cases (members set low count) (one_if (is_in set (low + count)) (low + count)) v here) [
  | inl before ↦ members_only set low count v before
  | inr last ↦ let found = in_one (is_in set (low + count)) (low + count) v last in subst (IsIn set) found.1 found.0
]

members_has : (set : List Bool) (low count v : ℕ) → low ≤ v → v < low + count → IsIn set v → Contains (members set low count) v
members_has set low zero v above below here = absurd (omega (arith, above, below))
members_has set low (suc count) v above below here = elim (cases_eq v (low + count)) [
  | inl same ↦
      subst (Contains (members set low count ++ one_if (is_in set (low + count)) (low + count))) (sym same)
      (subst (λ b. Contains (members set low count ++ one_if b (low + count)) (low + count)) (sym (subst (IsIn set) same here))
      (Contains-push (members set low count) (low + count)))
  | inr differs ↦
      Contains-append_left (members set low count) (one_if (is_in set (low + count)) (low + count)) v
      (members_has set low count v above (omega (arith, below, differs)) here)
]

-- nodes in the other order
abbrev turn : List ℕ → List ℕ
turn [] = []
turn (m ∷ rest) = turn rest ++ m ∷ []

turn_clear : (avoiding : List Bool) (inner : List ℕ) → Clear avoiding inner → Clear avoiding (turn inner)
turn_clear avoiding [] clear = tt
turn_clear avoiding (m ∷ inner) clear = clear_append avoiding (turn inner) m (turn_clear avoiding inner clear.1) clear.0

turn_steps : (next prev : ℕ → List ℕ) → ((u v : ℕ) → Contains (next u) v → Contains (prev v) u)
    → (u v : ℕ) (inner : List ℕ) → Steps next u inner v → Steps prev v (turn inner) u
turn_steps next prev back u v [] steps = back u v steps
turn_steps next prev back u v (m ∷ inner) steps =
    steps_on prev v m u (turn inner) (turn_steps next prev back m v inner steps.1) (back u m steps.0)

-- the lists of a table lead to nodes of the table
pub listed_within : (function : ℕ) (next : Next) (table : Table) (size place v : ℕ) → IsFitting table size → Contains (listed (map out_targets table.outs) place) v
    → (table.first ≤ v) × (v < table.first + length (map out_targets table.outs))
listed_within function next table size place v fits here =
    elim (leb_tells (suc (table.first + place)) table.first) [
      | inl below ↦ absurd (omega (arith, below.1))
      | inr past ↦
          let same : place ≡ table.first + place - table.first = omega arith in
          let link : Contains (onward table (table.first + place)) v =
          subst (λ b. Contains (if b then [] else listed (map out_targets table.outs) (table.first + place - table.first)) v) (sym past.0)
          (subst (λ k. Contains (listed (map out_targets table.outs) k) v) same here) in
          let range = ends_within function next table size (table.first + place) v fits link in
          (range.2, omega (arith, range.3, length-map table.outs out_targets))
    ]

module _ (function : ℕ) (first : Next) (table : Table) (size : ℕ) (turned : List (List ℕ)) (fits : IsFitting table size)
    (is_turned : Turned table.first (length (map out_targets table.outs)) (map out_targets table.outs) turned) where
  abbrev pub backward : ℕ → List ℕ
  backward = targets_in turned table.first

  abbrev lists : List (List ℕ)
  lists = map out_targets table.outs

  edge_of : (v u : ℕ) → Contains (backward v) u → Contains (onward table u) v
  edge_of v u here = elim (leb_tells (suc v) table.first) [
    | inl below ↦ absurd (nothing_in u (subst (λ b. Contains (if b then [] else listed turned (v - table.first)) u) below.0 here))
    | inr past ↦
        let known = is_turned.only (v - table.first) u (subst (λ b. Contains (if b then [] else listed turned (v - table.first)) u) past.0 here) in
        let same : table.first + (v - table.first) ≡ v = omega (arith, past.1) in
        elim (leb_tells (suc u) table.first) [
          | inl below ↦ absurd (omega (arith, below.1, known.0))
          | inr above ↦
              subst (λ b. Contains (if b then [] else listed lists (u - table.first)) v) (sym above.0)
              (subst (Contains (listed lists (u - table.first))) same known.2)
        ]
  ]

  of_edge : (u v : ℕ) → Contains (onward table u) v → Contains (backward v) u
  of_edge u v here =
      let range = ends_within function first table size u v fits here in
      let start : table.first + (u - table.first) ≡ u = omega (arith, range.0) in
      elim (leb_tells (suc u) table.first) [
        | inl below ↦ absurd (omega (arith, below.1, range.0))
        | inr above ↦
            elim (leb_tells (suc v) table.first) [
              | inl below ↦ absurd (omega (arith, below.1, range.2))
              | inr past ↦
                  let link = subst (λ b. Contains (if b then [] else listed lists (u - table.first)) v) above.0 here in
                  subst (λ b. Contains (if b then [] else listed turned (v - table.first)) u) (sym past.0)
                  (subst (Contains (listed turned (v - table.first))) start (is_turned.has (u - table.first) v range.4 link))
            ]
      ]

  steps_end : (u v : ℕ) (inner : List ℕ) → Steps (onward table) u inner v → (table.first ≤ v) × (v < table_end table)
  steps_end u v [] steps = let range = ends_within function first table size u v fits steps in (range.2, range.3)
  steps_end u v (m ∷ inner) steps = steps_end m v inner steps.1

  pub backward_below : (v u : ℕ) → Contains (backward v) u → u < size
  backward_below v u here =
      let range = ends_within function first table size u v fits (edge_of v u here) in
      omega (arith, range.1, fits.below)

  abbrev edges : List Edge
  edges = edges_of (start_way function first ∷ table_ways table)

  pub back_is : (avoiding to set : List Bool) → IsWalk backward avoiding (members to table.first (length table.outs)) size set → IsBack edges avoiding to size set
  back_is avoiding to set walk = record {
    sized = walk.sized;
    begins = λ n. (
      λ here.
          let from = walk.sound n here in
          record {
            end = from.start;
            is_end = members_only to table.first (length table.outs) from.start from.is_start;
            leads = record {
              inner = turn from.chain.inner;
              path = steps_path function first table n from.start (turn from.chain.inner)
                  (turn_steps backward (onward table) edge_of from.start n from.chain.inner from.chain.steps);
              clear = turn_clear avoiding from.chain.inner from.chain.clear;
            };
          },
      λ leads.
          let end = steps_end n leads.end leads.leads.inner (path_steps function first table n leads.end leads.leads.inner leads.leads.path) in
          walk.all n (record {
            start = leads.end;
            is_start = members_has to table.first (length table.outs) leads.end end.0 end.1 leads.is_end;
            chain = record {
              inner = turn leads.leads.inner;
              steps = turn_steps (onward table) backward of_edge n leads.end leads.leads.inner
                  (path_steps function first table n leads.end leads.leads.inner leads.leads.path);
              clear = turn_clear avoiding leads.leads.inner leads.leads.clear;
            };
          }),
    );
  }
