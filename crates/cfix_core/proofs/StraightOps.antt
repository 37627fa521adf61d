-- The patched program of a straight main.
use Rattle.std.proofs.Common.{◌≡◌, ◌≢◌, ℕ, zero, suc, ◌+◌, ◌-◌, ◌<◌, ◌≤◌, Bool, true, false, not, ◌&&◌, ◌||◌, eqb, List, [], ◌∷◌, ◌++◌, map, length, Some, None, inl, inr, ap, sym, ◌∙◌, refl, arith}
use Rattle.std.specs.List.{range_with_len}
use Rattle.std.proofs.lemmas.Bool.{cases_lt}
use Rattle.std.proofs.lemmas.Bool.Decides.{eqb_tells}
use Rattle.std.proofs.lemmas.List.FromFn.{length-map-range_with_len, get_or-map-range_with_len}
use Rattle.std.proofs.lemmas.List.{get_or_past}
use Rattle.cfix_base.specs.declared.op.Op.{Op}
use Rattle.cfix_base.specs.declared.op.Op.TheVariants.{Leave, Enter}
use Rattle.cfix_base.specs.declared.place.Place.{Place}
use Rattle.cfix_base.specs.declared.place.Place.TheVariants.{Start, After}
use Rattle.c_prog.specs.declared.act.Act.{Act}
use Rattle.c_prog.specs.declared.global.Global as global_module
use Rattle.c_prog.specs.declared.stmt.Stmt.{Stmt}
use Rattle.c_prog.specs.declared.stmt.Stmt.TheVariants as stmt
use Rattle.c_prog.specs.declared.tree.Tree.{Tree}
use Rattle.flow_graph.specs.Flow.{Part, Edge, parts_of, size_of, first_of, node, fn_id, body_ways, edges_of}
use Rattle.plan_types.specs.Sets.{is_in}
use Rattle.first_form.specs.Straight.{with_ops, main_with, bare, crossing, in_region, guarded}
use Rattle.cfix_core.specs.Operations.{Plan, within, one_if, edge_ops, lock}
use Rattle.cfix_core.specs.Patched.{placed, build_all, place_ops, ops_of_edge, with_plan}
use Rattle.cfix_core.proofs.StraightFlow.{placed-Simple, plain_parts, straight_parts, straight_size, straight_edge, straight_found}

-- the nodes of a region among n nodes
abbrev pub region_nodes : ℕ → ℕ → ℕ → List Bool
region_nodes here there n = map (in_region here there) (range_with_len 0 n)

pub region_length : (here there n : ℕ) → length (region_nodes here there n) ≡ n
region_length here there n = length-map-range_with_len (in_region here there) 0 n

no_match : (a b : ℕ) → a ≢ b → eqb a b ≡ false
no_match a b differ = elim (eqb_tells a b) [ inl w ↦ absurd (differ w.1) | inr w ↦ w.0 ]

outside_region : (here there n : ℕ) → here < n → there < n → in_region here there n ≡ false
outside_region here there n less_here less_there =
    let e = no_match n here (λ same. absurd (omega (arith, same, less_here))) in
    let f = no_match n there (λ same. absurd (omega (arith, same, less_there))) in
    ap (λ b. b || eqb n there) e ∙ f

-- a node is in the set exactly where it is in the region
pub region_has : (here there n k : ℕ) → here < n → there < n → is_in (region_nodes here there n) k ≡ in_region here there k
region_has here there n k less_here less_there = elim (cases_lt k n) [
  | inl below ↦ get_or-map-range_with_len (in_region here there) 0 n k k false below (omega arith)
  | inr past ↦
      get_or_past (region_nodes here there n) k false (omega (arith, past, region_length here there n))
      ∙ sym (outside_region here there k (omega (arith, past, less_here)) (omega (arith, past, less_there)))
]

-- one class of these two nodes, for which no function is covered; there are no orders
abbrev pub straight_plan : ℕ → ℕ → ℕ → Plan
straight_plan here there n = record {
  classes = record { class = record { nodes = region_nodes here there n; reports = 0 ∷ [] }; covered = false ∷ [] } ∷ [];
  orders = [];
  roots = true ∷ [];
}

ops_table : (u v : Bool)
    → (one_if (u && (not v && true)) (Leave (lock 0)) ++ [])
    ++ ([] ++ ([] ++ ([] ++ ((one_if (v && (not u && true)) (Enter (lock 0)) ++ []) ++ []))))
    ≡ crossing u v
ops_table true true = refl
ops_table true false = refl
ops_table false true = refl
ops_table false false = refl

straight_ops : (tree : Tree) (here there n : ℕ) (edge : Edge)
    → edge_ops tree (straight_plan here there n) 0 edge
    ≡ crossing (within (region_nodes here there n) edge.source) (within (region_nodes here there n) edge.target)
straight_ops tree here there n edge =
    ops_table (within (region_nodes here there n) edge.source) (within (region_nodes here there n) edge.target)

-- what follows node k is in the region exactly where node k + 1 is
next_in : (here there n k left : ℕ) → here < n → there < n → k + 1 + left ≡ n
    → within (region_nodes here there n) (first_of left (k + 1) None) ≡ in_region here there (k + 1)
next_in here there n k zero less_here less_there is =
    sym (outside_region here there (k + 1) (omega (arith, less_here, is)) (omega (arith, less_there, is)))
next_in here there n k (suc left) less_here less_there is = region_has here there n (k + 1) less_here less_there

with_ops_same : (f g : ℕ → List Op) (k : ℕ) (acts : List Act)
    → ((n : ℕ) → k ≤ n → n < k + length acts → f n ≡ g n) → with_ops f k acts ≡ with_ops g k acts
with_ops_same f g k [] same = refl
with_ops_same f g k (a ∷ acts) same =
    ap (λ ops. stmt.Simple a ops ∷ with_ops f (k + 1) acts) (same k (omega arith) (omega arith))
    ∙ ap (λ rest. stmt.Simple a (g k) ∷ rest)
    (with_ops_same f g (k + 1) acts (λ n low high. same n (omega (arith, low)) (omega (arith, high))))

built : (ops : Place → List Op) (after : ℕ → List Op) (k : ℕ) (acts : List Act)
    → build_all (map placed (with_ops after k acts)) ops k ≡ with_ops (λ n. ops (After (node n))) k acts
built ops after k [] = refl
built ops after k (a ∷ acts) =
    ap (λ x. build_all (x ∷ map placed (with_ops after (k + 1) acts)) ops k) (placed-Simple a (after k))
    ∙ ap (λ rest. stmt.Simple a (ops (After (node k))) ∷ rest) (built ops after (k + 1) acts)

abbrev edges_of_main : List Part → List Edge
edges_of_main parts = edges_of (body_ways 0 0 parts)

-- the operations behind node k of n nodes
ops_behind : (tree : Tree) (here there n k : ℕ) → here < n → there < n → k < n
    → place_ops tree (straight_plan here there n) 0 (edges_of_main (plain_parts n)) (After (node k))
    ≡ crossing (in_region here there k) (in_region here there (k + 1))
ops_behind tree here there n k less_here less_there less =
    ap (ops_of_edge tree (straight_plan here there n) 0) (straight_found n 0 k (omega arith) (omega (arith, less)))
    ∙ straight_ops tree here there n (straight_edge k (0 + n - (k + 1)))
    ∙ ap (λ b. crossing b (within (region_nodes here there n) (first_of (0 + n - (k + 1)) (k + 1) None)))
    (region_has here there n k less_here less_there)
    ∙ ap (crossing (in_region here there k))
    (next_in here there n k (0 + n - (k + 1)) less_here less_there (omega (arith, less)))

first_in : (here there n m : ℕ) → here < n → there < n → m ≡ n
    → within (region_nodes here there n) (first_of m 0 None) ≡ in_region here there 0
first_in here there n zero less_here less_there is = absurd (omega (arith, less_here, is))
first_in here there n (suc m) less_here less_there is = region_has here there n 0 less_here less_there

-- the operations at the start of main
ops_at_start : (tree : Tree) (here there n : ℕ) → here < n → there < n
    → place_ops tree (straight_plan here there n) 0 (edges_of_main (plain_parts n)) (Start (fn_id 0))
    ≡ crossing false (in_region here there 0)
ops_at_start tree here there n less_here less_there =
    straight_ops tree here there n
    (record { place = Start (fn_id 0); source = None; target = first_of (size_of (plain_parts n)) 0 None })
    ∙ ap (crossing false) (first_in here there n (size_of (plain_parts n)) less_here less_there (straight_size n))

module _ (globals : List global_module.Global) (acts : List Act) (here there : ℕ) where
  abbrev tree : Tree
  tree = bare globals acts

  abbrev plan : Plan
  plan = straight_plan here there (length acts)

  abbrev ops_by : List Part → Place → List Op
  ops_by parts = place_ops tree plan 0 (edges_of_main parts)

  abbrev with_main : List Op → List Stmt → Tree
  with_main start body = record { globals = globals; functions = main_with start body ∷ []; starts = [] }

  abbrev after_region : ℕ → List Op
  after_region n = crossing (in_region here there n) (in_region here there (n + 1))

  with_parts : (parts : List Part) → parts ≡ plain_parts (length acts) → here < length acts → there < length acts
      → with_main (ops_by parts (Start (fn_id 0))) (build_all (map placed (with_ops (λ n. []) 0 acts)) (ops_by parts) 0)
      ≡ with_main (crossing false (in_region here there 0)) (with_ops after_region 0 acts)
  with_parts parts e less_here less_there =
      rw e (ap (with_main (ops_by (plain_parts (length acts)) (Start (fn_id 0))))
      (built (ops_by (plain_parts (length acts))) (λ n. []) 0 acts
      ∙ with_ops_same (λ n. ops_by (plain_parts (length acts)) (After (node n))) after_region 0 acts
      (λ n low high. ops_behind tree here there (length acts) n less_here less_there (omega (arith, high))))
      ∙ ap (λ start. with_main start (with_ops after_region 0 acts)) (ops_at_start tree here there (length acts) less_here less_there))

  -- the program with the operations of the plan
  pub straight_patched : here < length acts → there < length acts
      → with_plan tree plan ≡ guarded globals acts (Some (record { here = here; there = there }))
  straight_patched less_here less_there =
      with_parts (parts_of (with_ops (λ n. []) 0 acts)) (straight_parts (λ n. []) 0 acts) less_here less_there
