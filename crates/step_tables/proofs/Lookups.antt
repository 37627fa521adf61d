-- What the rows of the tables tell of the program.
use Rattle.std.proofs.Common.{◌≡◌, ◌≢◌, ℕ, zero, suc, ◌+◌, ◌<◌, ◌≤◌, Bool, true, false, List, [], ◌∷◌, ◌++◌, map, take, length, get_or, slice_get, Option, Some, None, IsSome, IfSome, MatchOption, Bor, option_map, ◌||◌, if◌then◌else◌, inl, inr, refl, ap, sym, ◌∙◌, subst, arith}
use Rattle.std.specs.List.{range_with_len}
use Rattle.std.proofs.lemmas.Bool.Decides.{eqb_tells}
use Rattle.std.proofs.lemmas.List.{length-map}
use Rattle.std.proofs.lemmas.List.FromFn.{length-range_with_len}
use Rattle.std.proofs.lemmas.Option.{none-some, slice_get_past, slice_get_read, slice_get_within, slice_get-map}
use Rattle.cfix_base.specs.declared.place.Place.{Place}
use Rattle.cfix_base.specs.declared.place.Place.TheVariants.{Start}
use Rattle.c_prog.specs.declared.function.Function.{Function}
use Rattle.c_prog.specs.declared.tree.Tree.{Tree}
use Rattle.c_prog.specs.Accesses.{touches}
use Rattle.c_prog.specs.Nodes.{functions_nodes, function_nodes, first_node}
use Rattle.c_prog.specs.Order.{Node, node_at, function_order, tree_order}
use Rattle.c_prog.proofs.NodeLaws.{functions_order-length}
use Rattle.flow_graph.specs.Flow.{Way, Next, Graph, fn_id, parts_of, size_of, first_of, along, outermost, start_way, body_ways, ways_if, graph_of, graphs_of, next_at, next}
use Rattle.step_state.specs.Parts.{Part}
use Rattle.step_state.specs.Items.{tree_parts, part_items, part_operands}
use Rattle.step_tables.specs.declared.row.Row.{Row}
use Rattle.step_tables.specs.Adds.{variables}
use Rattle.step_tables.specs.Kept.{Kept, kept, kept_tree}
use Rattle.step_tables.specs.Rows.{is_cond, IsBehind, IsAbsent, IsRow}
use Rattle.step_tables.proofs.Places.{places, places_from, node_places, body-placed}
use Rattle.step_tables.proofs.Finding.{among, next-none, next-some, next-skip, among-has, among-lacks}
use Rattle.step_tables.proofs.Numbering.{Matches, matches, ways_by, ways-by, next-above, body-among, Stands, stands}

matched : (n : ℕ) (k : Kept) (part : Option Part) (node : Option Node) → Matches n (Some k) part node
    → (node ≡ Some k.node) × (part_items n part ≡ k.items) × (part_operands n part ≡ k.operands) × (variables (touches k.node) ≡ k.variables)
matched n k None None m = absurd m
matched n k None (Some node) m = absurd m
matched n k (Some part) None m = absurd m
matched n k (Some part) (Some node) m =
    (ap Some (sym m.0), sym m.1, sym m.2, ap (λ x. variables (touches x)) m.0 ∙ sym m.3)

unmatched : (n : ℕ) (part : Option Part) (node : Option Node) → Matches n None part node → (node ≡ None) × (part ≡ None)
unmatched n None None m = (refl, refl)
unmatched n None (Some node) m = absurd m
unmatched n (Some part) None m = absurd m
unmatched n (Some part) (Some node) m = absurd m

tree-matches : (tree : Tree) (n : ℕ) → Matches n (slice_get (kept_tree tree) n) (slice_get (tree_parts tree) n) (node_at tree n)
tree-matches tree n =
    let same : 0 + n ≡ n = omega arith in
    subst (λ m. Matches m (slice_get (kept_tree tree) n) (slice_get (tree_parts tree) n) (node_at tree n)) same (matches 0 0 tree.functions n)

-- the places of the tree
tree-next : (tree : Tree) (place : Place) → next tree place ≡ next_at place (ways_by 0 0 tree.functions)
tree-next tree place = ap (next_at place) (ways-by tree 0 tree.functions refl)

function-ways : (tree : Tree) (of : ℕ) (f : Function) → slice_get tree.functions of ≡ Some f
    → (graph_of tree of).ways ≡ body_ways of (first_node tree of) (parts_of f.body)
function-ways tree of f got = ap (ways_if tree of) got

row-of-kept : (tree : Tree) (n : ℕ) (row : Row) → slice_get (kept_tree tree) n ≡ Some (kept row) → IsRow tree n row
row-of-kept tree n row is =
    let all = matched n (kept row) (slice_get (tree_parts tree) n) (node_at tree n)
    (subst (λ o. Matches n o (slice_get (tree_parts tree) n) (node_at tree n)) is (tree-matches tree n)) in
    let at : Stands 0 0 tree.functions n (kept row) = stands 0 0 tree.functions n (kept row) is in
    let zero_n : 0 + n ≡ n = omega arith in
    let of : row.of.number ≡ 0 + at.before = at.number in
    let first : 0 + functions_nodes (take at.before tree.functions) ≡ first_node tree at.before = omega arith in
    let before : 0 + at.before ≡ at.before = omega arith in
    let number : row.of.number ≡ at.before = of ∙ before in
    let got : slice_get tree.functions row.of.number ≡ Some at.function = ap (slice_get tree.functions) number ∙ at.got in
    let ways : (graph_of tree row.of.number).ways ≡ body_ways at.before (first_node tree at.before) (parts_of at.function.body) =
    ap (λ m. (graph_of tree m).ways) number ∙ function-ways tree at.before at.function at.got in
    let start : first_node tree at.before + at.local ≡ n = omega (arith, at.start) in
    let leads : (place : Place) (b : Bool) → IsBehind place n b → next tree place ≡ next_at place (graph_of tree row.of.number).ways =
    λ place b behind.
    tree-next tree place ∙ at.leads place b (subst (λ m. IsBehind place m b) (sym zero_n) behind)
    ∙ ap (λ m. next_at place (body_ways m (0 + functions_nodes (take at.before tree.functions)) (parts_of at.function.body))) before
    ∙ ap (λ m. next_at place (body_ways at.before m (parts_of at.function.body))) first
    ∙ ap (next_at place) (sym ways) in
    record {
      node = all.0;
      items = all.1;
      operands = all.2;
      variables = all.3;
      function = slice_get_within tree.functions row.of.number at.function got;
      leads = leads;
      has = λ place b behind kind.
          subst (λ ws. IsSome (next_at place ws)) (sym ways)
          (next-some place (body_ways at.before (first_node tree at.before) (parts_of at.function.body))
          (body-among place n at.before (first_node tree at.before) b at.function behind
          ∙ among-has place (first_node tree at.before) at.local n b _ (kept row).node behind start at.inside kind));
      lacks = λ place b behind other.
          leads place b behind ∙ ap (next_at place) ways
          ∙ next-none place (body_ways at.before (first_node tree at.before) (parts_of at.function.body))
          (body-among place n at.before (first_node tree at.before) b at.function behind
          ∙ among-lacks place (first_node tree at.before) at.local n b _ (kept row).node behind start at.inside other);
    }

pub row_found : (tree : Tree) (table : List Row) (n : ℕ) (row : Row) → map kept table ≡ kept_tree tree → slice_get table n ≡ Some row → IsRow tree n row
row_found tree table n row holds got =
    row-of-kept tree n row
    (ap (λ ks. slice_get ks n) (sym holds) ∙ slice_get-map kept table n ∙ ap (option_map kept) got)

pub past-length : {A : Type 0} (xs : List A) (n : ℕ) → slice_get xs n ≡ None → length xs ≤ n
past-length [] n none = omega arith
past-length (x ∷ xs) zero none = absurd (none-some x (sym none))
past-length (x ∷ xs) (suc n) none = omega (arith, past-length xs n none)

pub row_missing : (tree : Tree) (table : List Row) (n : ℕ) → map kept table ≡ kept_tree tree → slice_get table n ≡ None → IsAbsent tree n
row_missing tree table n holds none =
    let nothing : slice_get (kept_tree tree) n ≡ None = ap (λ ks. slice_get ks n) (sym holds) ∙ slice_get-map kept table n ∙ ap (option_map kept) none in
    let both = unmatched n (slice_get (tree_parts tree) n) (node_at tree n)
    (subst (λ o. Matches n o (slice_get (tree_parts tree) n) (node_at tree n)) nothing (tree-matches tree n)) in
    let past : functions_nodes tree.functions ≤ n = omega (arith, past-length (tree_order tree) n both.0, functions_order-length tree.functions) in
    record {
      node = both.0;
      items = ap (part_items n) both.1;
      operands = ap (part_operands n) both.1;
      leads = λ place b behind.
          tree-next tree place ∙ next-none place (ways_by 0 0 tree.functions) (next-above place n 0 0 b tree.functions behind (omega (arith, past)));
    }

-- The starts of functions.
start-node : (f n : ℕ) (c : Bool) (rest : List Node) → among (Start (fn_id f)) (places_from (n + 1) rest) ≡ false
    → among (Start (fn_id f)) (node_places n c ++ places_from (n + 1) rest) ≡ false
start-node f n false rest none = none
start-node f n true rest none = none

within-list : {A : Type 0} (xs : List A) (n : ℕ) → n < length xs → (x : A) × (slice_get xs n ≡ Some x)
within-list [] n is = absurd (omega (arith, is))
within-list (x ∷ xs) zero is = (x, refl)
within-list (x ∷ xs) (suc n) is = within-list xs n (omega (arith, is))

start-among : (f n : ℕ) (nodes : List Node) → among (Start (fn_id f)) (places_from n nodes) ≡ false
start-among f n [] = refl
start-among f n (x ∷ rest) = start-node f n (is_cond x) rest (start-among f (n + 1) rest)

start-elsewhere : (f a n : ℕ) (g : Function) → a ≢ f → among (Start (fn_id f)) (places (body_ways a n (parts_of g.body))) ≡ false
start-elsewhere f a n g other = elim (eqb_tells a f) [
  | inl same ↦ absurd (other same.1)
  | inr differ ↦
      ap (λ ps. among (Start (fn_id f)) (Start (fn_id a) ∷ ps)) (body-placed g.body n outermost)
      ∙ ap (λ b. b || among (Start (fn_id f)) (places_from n (function_order g))) differ.0 ∙ start-among f n (function_order g)
]

start-here : (a : ℕ) (target : Next) (ways : List Way) → next_at (Start (fn_id a)) (start_way a target ∷ ways) ≡ Some target
start-here a target ways = elim (eqb_tells a a) [
  | inl same ↦ ap (λ b. if b then Some target else next_at (Start (fn_id a)) ways) same.0
  | inr differ ↦ absurd (differ.1 refl)
]

start-first : (a n : ℕ) (g : Function) (rest : List Way)
    → next_at (Start (fn_id a)) (body_ways a n (parts_of g.body) ++ rest) ≡ Some (first_of (size_of (parts_of g.body)) n None)
start-first a n g rest =
    start-here a (first_of (size_of (parts_of g.body)) n None) (along (parts_of g.body) n outermost ++ rest)

start-leads : (a n : ℕ) (fs : List Function) (j : ℕ) (f : Function) → slice_get fs j ≡ Some f
    → next_at (Start (fn_id (a + j))) (ways_by a n fs) ≡ Some (first_of (size_of (parts_of f.body)) (n + functions_nodes (take j fs)) None)
start-leads a n [] j f got = absurd (none-some f got)
start-leads a n (g ∷ fs) zero f got =
    let none : a + 0 ≡ a = omega arith in
    let begin : n ≡ n + 0 = omega arith in
    let same : g ≡ f = cc got in
    ap (λ m. next_at (Start (fn_id m)) (ways_by a n (g ∷ fs))) none
    ∙ start-first a n g (ways_by (a + 1) (n + function_nodes g) fs)
    ∙ ap (λ h. Some (first_of (size_of (parts_of h.body)) n None)) same
    ∙ ap (λ m. Some (first_of (size_of (parts_of f.body)) m None)) begin
start-leads a n (g ∷ fs) (suc j) f got =
    let count : a + suc j ≡ a + 1 + j = omega arith in
    let begin : n + function_nodes g + functions_nodes (take j fs) ≡ n + (function_nodes g + functions_nodes (take j fs)) = omega arith in
    next-skip (Start (fn_id (a + suc j))) (body_ways a n (parts_of g.body)) (ways_by (a + 1) (n + function_nodes g) fs)
    (start-elsewhere (a + suc j) a n g (λ same. omega (arith, same)))
    ∙ ap (λ m. next_at (Start (fn_id m)) (ways_by (a + 1) (n + function_nodes g) fs)) count
    ∙ start-leads (a + 1) (n + function_nodes g) fs j f got
    ∙ ap (λ m. Some (first_of (size_of (parts_of f.body)) m None)) begin

start-none : (a n : ℕ) (fs : List Function) (m : ℕ) → a + length fs ≤ m → next_at (Start (fn_id m)) (ways_by a n fs) ≡ None
start-none a n [] m past = refl
start-none a n (g ∷ fs) m past =
    next-skip (Start (fn_id m)) (body_ways a n (parts_of g.body)) (ways_by (a + 1) (n + function_nodes g) fs)
    (start-elsewhere m a n g (λ same. omega (arith, same, past)))
    ∙ start-none (a + 1) (n + function_nodes g) fs m (omega (arith, past))

-- what control meets first in a function is told by the places of that function
pub start_found : (tree : Tree) (number : ℕ) → number < length tree.functions
    → next tree (Start (fn_id number)) ≡ next_at (Start (fn_id number)) (graph_of tree number).ways
start_found tree number within =
    let some = within-list tree.functions number within in
    let zero_n : number ≡ 0 + number = omega arith in
    let begin : 0 + functions_nodes (take number tree.functions) ≡ first_node tree number = omega arith in
    tree-next tree (Start (fn_id number))
    ∙ ap (λ m. next_at (Start (fn_id m)) (ways_by 0 0 tree.functions)) zero_n
    ∙ start-leads 0 0 tree.functions number some.0 some.1
    ∙ ap (λ m. Some (first_of (size_of (parts_of some.0.body)) m None)) begin
    ∙ sym (start-here number (first_of (size_of (parts_of some.0.body)) (first_node tree number) None) (along (parts_of some.0.body) (first_node tree number) outermost))
    ∙ ap (next_at (Start (fn_id number))) (sym (function-ways tree number some.0 some.1))

pub start_missing : (tree : Tree) (number : ℕ) → length tree.functions ≤ number → next tree (Start (fn_id number)) ≡ None
start_missing tree number past = tree-next tree (Start (fn_id number)) ∙ start-none 0 0 tree.functions number (omega (arith, past))

-- the flow of the function with this number
range-at : (a n i : ℕ) → i < n → slice_get (range_with_len a n) i ≡ Some (a + i)
range-at a zero i within = absurd (omega (arith, within))
range-at a (suc n) zero within = let same : a ≡ a + 0 = omega arith in ap Some same
range-at a (suc n) (suc i) within =
    let same : a + 1 + i ≡ a + suc i = omega arith in
    range-at (a + 1) n i (omega (arith, within)) ∙ ap Some same

pub flow_found : (tree : Tree) (graphs : List Graph) (number : ℕ) (graph : Graph) → graphs ≡ graphs_of tree → number < length tree.functions
    → slice_get graphs number ≡ Some graph → graph ≡ graph_of tree number
flow_found tree graphs number graph all within got =
    let zero_n : 0 + number ≡ number = omega arith in
    let is : Some graph ≡ Some (graph_of tree number) =
    sym got ∙ ap (λ gs. slice_get gs number) all
    ∙ slice_get-map (graph_of tree) (range_with_len 0 (length tree.functions)) number
    ∙ ap (option_map (graph_of tree)) (range-at 0 (length tree.functions) number within ∙ ap Some zero_n) in
    cc is

pub flow_count : (tree : Tree) (graphs : List Graph) → graphs ≡ graphs_of tree → length graphs ≡ length tree.functions
flow_count tree graphs all =
    ap length all ∙ length-map (range_with_len 0 (length tree.functions)) (graph_of tree) ∙ length-range_with_len 0 (length tree.functions)

-- what is looked up among the rows
pub row_is : (tree : Tree) (table : List Row) (n : ℕ) (r : Option (Bor Row)) (Q : Bor Row → Type 0) → map kept table ≡ kept_tree tree
    → MatchOption r (length table ≤ n) (λ x. (n < length table) × Q x) → IfSome r (λ x. x.now ≡ get_or table n x.now)
    → MatchOption r (IsAbsent tree n) (λ row. IsRow tree n row.now)
row_is tree table n None Q holds bounds reads = row_missing tree table n holds (slice_get_past table n bounds)
row_is tree table n (Some row) Q holds bounds reads =
    row_found tree table n row.now holds (slice_get_read table (length table) n row.now refl bounds.0 reads)
