-- Control flow of a function, as its table holds it and as the program gives it.
use Rattle.std.proofs.Common.{◌≡◌, ◌≢◌, ℕ, zero, suc, ◌+◌, ◌<◌, ◌≤◌, List, [], ◌∷◌, ◌++◌, map, length, take, get_or, slice_get, Option, Some, None, if◌then◌else◌, inl, inr, ap, sym, ◌∙◌, refl, subst, arith}
use Rattle.std.specs.List.{range_with_len}
use Rattle.std.proofs.lemmas.Option.{slice_get_read}
use Rattle.std.proofs.lemmas.Bool.Decides.{eqb_tells}
use Rattle.cfix_base.specs.declared.number.FnId.{FnId}
use Rattle.cfix_base.specs.declared.number.NodeId.{NodeId}
use Rattle.cfix_base.specs.declared.place.Place.{Place}
use Rattle.cfix_base.specs.declared.place.Place.TheVariants.{Start, After, True, False}
use Rattle.c_prog.specs.declared.function.Function.{Function}
use Rattle.c_prog.specs.declared.tree.Tree.{Tree}
use Rattle.c_prog.specs.Nodes.{function_nodes, functions_nodes, first_node, tree_nodes}
use Rattle.flow_graph.specs.declared.table.Out.{Out}
use Rattle.flow_graph.specs.declared.table.Table.{Table}
use Rattle.flow_graph.specs.Flow.{Way, Graph, next_at, first_of, start_way, body_ways, parts_of, ways_if, graph_of}
use Rattle.flow_graph.specs.Table.{ways_of, table_ways, table_end, out_at, after_next, true_next, false_next, graph_in}
use Rattle.flow_graph.specs.Within.{AreWithin, IsFitting}
use Rattle.flow_graph.proofs.Tables.{after_found, true_found, false_found, start_absent}

module _ (g : Graph) (function size : ℕ) (table : Table) (place : Place) (view : graph_in function table size ≡ g) where
  pub after_in : (n : NodeId) → place ≡ After n → next_at place g.ways ≡ after_next (out_at table n.number)
  after_in n is =
      ap (λ p. next_at p g.ways) is ∙ ap (λ h. next_at (After n) h.ways) (sym view) ∙ after_found table n.number

  pub true_in : (n : NodeId) → place ≡ True n → next_at place g.ways ≡ true_next (out_at table n.number)
  true_in n is =
      ap (λ p. next_at p g.ways) is ∙ ap (λ h. next_at (True n) h.ways) (sym view) ∙ true_found table n.number

  pub false_in : (n : NodeId) → place ≡ False n → next_at place g.ways ≡ false_next (out_at table n.number)
  false_in n is =
      ap (λ p. next_at p g.ways) is ∙ ap (λ h. next_at (False n) h.ways) (sym view) ∙ false_found table n.number

  pub start_in : (f : FnId) → place ≡ Start f → f.number ≢ function → next_at place g.ways ≡ None
  start_in f is other =
      ap (λ p. next_at p g.ways) is ∙ ap (λ h. next_at (Start f) h.ways) (sym view)
      ∙ elim (eqb_tells function f.number) [
        | inl same ↦ absurd (other (sym same.1))
        | inr differ ↦
            ap (λ b. if b then Some (first_of (length table.outs) table.first None) else next_at (Start f) (table_ways table)) differ.0
            ∙ start_absent f.number table.first table.outs
      ]

-- the table that was built for a function holds its places
pub graph_built : (number first size count : ℕ) (table : Table) (old : List Out) (ways : List Way)
    → old ≡ [] → table.first ≡ first → table_end table ≡ first + count → table_ways table ≡ ways_of first old ++ ways
    → graph_in number table size ≡ record { function = number; ways = start_way number (first_of count first None) ∷ ways; size = size }
graph_built number first size count table old ways empty begins ends holds =
    let counts : length table.outs ≡ count = omega (arith, begins, ends) in
    let held : table_ways table ≡ ways = holds ∙ ap (λ outs. ways_of first outs ++ ways) empty in
    ap (λ n. record { function = number; ways = start_way number (first_of n table.first None) ∷ table_ways table; size = size }) counts
    ∙ ap (λ n. record { function = number; ways = start_way number (first_of count n None) ∷ table_ways table; size = size }) begins
    ∙ ap (λ w. record { function = number; ways = start_way number (first_of count first None) ∷ w; size = size }) held

abbrev nodes_if : Option Function → ℕ
nodes_if None = 0
nodes_if (Some h) = function_nodes h

-- and its nodes are nodes of the program
pub graph_fits : (first size count : ℕ) (table : Table) (old : List Out) (ways : List Way)
    → old ≡ [] → table.first ≡ first → table_end table ≡ first + count → table_ways table ≡ ways_of first old ++ ways
    → AreWithin first (first + count) ways → first + count ≤ size → IsFitting table size
graph_fits first size count table old ways empty begins ends holds within below =
    let held : table_ways table ≡ ways = holds ∙ ap (λ outs. ways_of first outs ++ ways) empty in
    record {
      within = subst (λ w. AreWithin table.first (table_end table) w) (sym held)
          (subst (λ high. AreWithin table.first high ways) (sym ends) (subst (λ low. AreWithin low (first + count) ways) (sym begins) within));
      below = omega (arith, ends, below);
    }

-- the nodes before a function, and its own, are nodes of the program
pub nodes_before : (fs : List Function) (n : ℕ) (f : Function) → slice_get fs n ≡ Some f
    → functions_nodes (take n fs) + function_nodes f ≤ functions_nodes fs
nodes_before [] n f is = absurd (cc is)
nodes_before (g ∷ fs) zero f is =
    let same : function_nodes g ≡ function_nodes f = ap (λ o. nodes_if o) is in
    omega (arith, same)
nodes_before (g ∷ fs) (suc n) f is = omega (arith, nodes_before fs n f is)

pub nodes_taken : (fs : List Function) (n : ℕ) → functions_nodes (take n fs) ≤ functions_nodes fs
nodes_taken [] zero = omega arith
nodes_taken [] (suc n) = omega arith
nodes_taken (g ∷ fs) zero = omega arith
nodes_taken (g ∷ fs) (suc n) = omega (arith, nodes_taken fs n)

pub function_got : (fs : List Function) (n : ℕ) (f : Function) → n < length fs → f ≡ get_or fs n f → slice_get fs n ≡ Some f
function_got fs n f within is = slice_get_read fs (length fs) n f refl within is

-- what is computed for a function of a program is its control flow
pub graph_is : (tree : Tree) (number first size : ℕ) (f : Function) (fs : List Function)
    → fs ≡ tree.functions → slice_get fs number ≡ Some f → first ≡ functions_nodes (take number fs) → size ≡ tree_nodes tree
    → record { function = number; ways = body_ways number first (parts_of f.body); size = size } ≡ graph_of tree number
graph_is tree number first size f fs all is begins sized =
    let got : slice_get tree.functions number ≡ Some f = ap (λ l. slice_get l number) (sym all) ∙ is in
    let start : first ≡ first_node tree number = begins ∙ ap (λ l. functions_nodes (take number l)) all in
    ap (λ n. record { function = number; ways = body_ways number n (parts_of f.body); size = size }) start
    ∙ ap (λ n. record { function = number; ways = ways_if tree number (Some f); size = n }) sized
    ∙ ap (λ o. record { function = number; ways = ways_if tree number o; size = tree_nodes tree }) (sym got)

pub nodes_more : (fs : List Function) (n : ℕ) (f : Function) → slice_get fs n ≡ Some f
    → functions_nodes (take (suc n) fs) ≡ functions_nodes (take n fs) + function_nodes f
nodes_more [] n f is = absurd (cc is)
nodes_more (g ∷ fs) zero f is = let same : function_nodes g ≡ function_nodes f = ap (λ o. nodes_if o) is in omega (arith, same)
nodes_more (g ∷ fs) (suc n) f is = omega (arith, nodes_more fs n f is)

graphs_more : {X : Type 0} (of : ℕ → X) (a n : ℕ) → map of (range_with_len a (suc n)) ≡ map of (range_with_len a n) ++ of (a + n) ∷ []
graphs_more of a zero = let same : a ≡ a + 0 = omega arith in ap (λ m. of m ∷ []) same
graphs_more of a (suc n) =
    let same : a + 1 + n ≡ a + suc n = omega arith in
    ap (λ l. of a ∷ l) (graphs_more of (a + 1) n) ∙ ap (λ m. of a ∷ (map of (range_with_len (a + 1) n) ++ of m ∷ [])) same

-- one more flow behind those of the functions before it
pub flows_more : {X : Type 0} (of : ℕ → X) (n : ℕ) → map of (range_with_len 0 (n + 1)) ≡ map of (range_with_len 0 n) ++ of n ∷ []
flows_more of n =
    let more : n + 1 ≡ suc n = omega arith in
    let same : 0 + n ≡ n = omega arith in
    ap (λ m. map of (range_with_len 0 m)) more ∙ graphs_more of 0 n ∙ ap (λ m. map of (range_with_len 0 n) ++ of m ∷ []) same
