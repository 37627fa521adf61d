-- Of a body that does not fall through, control leaves its function behind a `return` alone.
use Rattle.std.proofs.Common.{◌≡◌, ℕ, zero, suc, ◌+◌, ◌<◌, Bool, true, false, ◌&&◌, List, [], ◌∷◌, ◌++◌, map, take, length, slice_get, Option, Some, None, inl, inr, ap, sym, ◌∙◌, refl, subst, arith, true≢false}
use Rattle.std.proofs.lemmas.Bool.{and_parts}
use Rattle.std.proofs.lemmas.Option.{none-some}
use Rattle.std.proofs.lemmas.List.Elements.{Contains-append_cases, Contains-push_cases}
use Rattle.std.specs.List.{Contains, list_all}
use Rattle.c_prog.specs.declared.function.Function.{Function}
use Rattle.c_prog.specs.declared.stmt.Jump.{Jump}
use Rattle.c_prog.specs.declared.stmt.Jump.TheVariants.{Break, Continue, Return, ReturnNull, ReturnValue}
use Rattle.c_prog.specs.declared.stmt.Step.{Step}
use Rattle.c_prog.specs.declared.stmt.Stmt.{Stmt}
use Rattle.c_prog.specs.declared.stmt.Stmt.TheOpen.{Stmt-F}
use Rattle.c_prog.specs.declared.stmt.Stmt.TheViews.{roll-Stmt}
use Rattle.c_prog.specs.declared.stmt.Stmt.TheFolds.{fold-roll-Stmt, ind-Stmt, map-Stmt}
use Rattle.c_prog.specs.declared.tree.Tree.{Tree}
use Rattle.c_prog.specs.Nodes.{step_nodes, first_node, function_nodes, functions_nodes}
use Rattle.c_prog.specs.Order.{Node, cond, step_order, order, order_of, order_level, function_order, functions_order, tree_order}
use Rattle.c_prog.specs.Valid.{IsValid}
use Rattle.c_prog.specs.Valid.Scope.{Scope, entered, passed}
use Rattle.c_prog.specs.Valid.Kinds.{File, file_of}
use Rattle.c_prog.specs.Valid.Expressions.{is_valid_expr}
use Rattle.c_prog.specs.Valid.Falls.{Fall, fall_of, fall_level, falls_through}
use Rattle.c_prog.specs.Valid.Functions.{are_declared_names, is_valid_count, is_valid_body, is_valid_end, is_valid_function, body_around, body_scope}
use Rattle.c_prog.specs.Valid.Statements as v
use Rattle.c_prog.specs.Valid.Statements.{is_valid_jump, is_valid_step, all_valid, looped, stmt_rules, part_of, after, counts}
use Rattle.c_prog.proofs.NodeLaws.{order-length, order_of-length}
use Rattle.flow_graph.specs.declared.around.Around.{Around}
use Rattle.flow_graph.specs.Flow.{Part, Way, Edge, Next, flow, flow_level, size_of, parts_of, along, first_of, outermost, jump_target, edge_unless, way_edges, edges_of, start_way, fn_id, function_edges, in_loop}
use Rattle.flow_graph.specs.Paths.{Link, Path, Comes, entry_of}
use Rattle.flow_graph.proofs.NodeCounts.{stmt_size, size_is_nodes}
use Rattle.cfix_base.specs.declared.place.Place.TheVariants.{Start}
use Rattle.walks.proofs.Walks.{nothing_in}
use Rattle.flow_laws.specs.Returns.{IsLeftByReturns}
use Rattle.flow_laws.proofs.Kept.{returns_at, at-left, at-right, Told, told-left, told-right, Out, Goes, AllGo, Kept, Fits, alone, jump-out, list_part, list_fall, list-kept, behind, if-kept, loop-kept}

-- ---- statements

jump-fits : (file : File) (around : v.Around) (scope : Scope) (j : Jump) → is_valid_jump file around scope j ≡ true → Fits around.in_loop j
jump-fits file around scope Break h = h
jump-fits file around scope Continue h = h
jump-fits file around scope Return h = tt
jump-fits file around scope ReturnNull h = tt
jump-fits file around scope (ReturnValue value) h = tt

step-count : (s : Option Step) → length (step_order s) ≡ step_nodes s
step-count None = refl
step-count (Some s) = refl

module _ (file : File) (nodes : List Node) where
  abbrev Good : Part → Fall → List Node → v.Part → Type 0
  Good part fall order rules = (around : v.Around) (scope : Scope) → rules.is_valid around scope ≡ true → (start : ℕ) (outside : Around)
      → Told nodes order start → Kept nodes part fall around.in_loop start outside

  abbrev Claim : Stmt → Type 0
  Claim s = Good (flow s) (fall_of s) (order s) (part_of file s)

  -- a child with its proof
  abbrev E : Type 0
  E = (s : Stmt) × Claim s

  abbrev stmts : List E → List Stmt
  stmts es = map (λ e. e.0) es

  list-sized : (list : List Stmt) → length (order_of list) ≡ size_of (parts_of list)
  list-sized list = order_of-length list ∙ sym (size_is_nodes list)

  all-kept : (es : List E) (around : v.Around) (scope : Scope) → all_valid (v.parts_of file (stmts es)) around scope ≡ true → (start : ℕ) (outside : Around)
      → Told nodes (order_of (stmts es)) start → Kept nodes (list_part (parts_of (stmts es))) (list_fall (map fall_of (stmts es))) around.in_loop start outside
  all-kept [] around scope valid start outside told = record {
    live = λ u. false;
    first = λ more. absurd (omega (arith, more));
    empty = λ none. refl;
    within = λ u met. absurd (true≢false (sym met));
    ways = tt;
  }
  all-kept (e ∷ es) around scope valid start outside told =
      let rules = part_of file e.0 in
      let parts = and_parts (rules.is_valid around scope) (all_valid (v.parts_of file (stmts es)) around (after rules scope)) valid in
      let size : length (order e.0) ≡ (flow e.0).size = order-length e.0 ∙ sym (stmt_size e.0) in
      list-kept nodes (flow e.0) (parts_of (stmts es)) (fall_of e.0) (map fall_of (stmts es)) around.in_loop start outside
      (e.1 around scope parts.0 start (behind nodes (flow e.0) (parts_of (stmts es)) (fall_of e.0) (map fall_of (stmts es)) around.in_loop start outside)
      (told-left nodes (order e.0) (order_of (stmts es)) start told))
      (all-kept es around (after rules scope) parts.1 (start + (flow e.0).size) outside
      (told-right nodes (order e.0) (order_of (stmts es)) start ((flow e.0).size) size told))

  rolled : (y : Stmt-F Stmt)
      → Good (flow_level (map-Stmt Stmt Part flow y)) (fall_level (map-Stmt Stmt Fall fall_of y)) (order_level (map-Stmt Stmt (List Node) order y)) (stmt_rules file (map-Stmt Stmt v.Part (part_of file) y))
      → Claim (roll-Stmt y)
  rolled y good =
      subst (λ p. Good p (fall_of (roll-Stmt y)) (order (roll-Stmt y)) (part_of file (roll-Stmt y))) (sym (fold-roll-Stmt Part flow_level y))
      (subst (λ f. Good (flow_level (map-Stmt Stmt Part flow y)) f (order (roll-Stmt y)) (part_of file (roll-Stmt y))) (sym (fold-roll-Stmt Fall fall_level y))
      (subst (λ o. Good (flow_level (map-Stmt Stmt Part flow y)) (fall_level (map-Stmt Stmt Fall fall_of y)) o (part_of file (roll-Stmt y))) (sym (fold-roll-Stmt (List Node) order_level y))
      (subst (λ r. Good (flow_level (map-Stmt Stmt Part flow y)) (fall_level (map-Stmt Stmt Fall fall_of y)) (order_level (map-Stmt Stmt (List Node) order y)) r) (sym (fold-roll-Stmt v.Part (stmt_rules file) y))
      good)))

  level : (y : Stmt-F E) → Claim (roll-Stmt (map-Stmt E Stmt (λ e. e.0) y))
  level (Stmt-F.Simple a ops) =
      rolled (Stmt-F.Simple a ops)
      (λ around scope valid start outside told. alone nodes around.in_loop start outside (record { falls = true; breaks = false }) (λ around. around.follow) (Out.falls refl refl))
  level (Stmt-F.Jump j ops) =
      rolled (Stmt-F.Jump j ops)
      (λ around scope valid start outside told.
      alone nodes around.in_loop start outside (fall_level (Stmt-F.Jump j ops)) (jump_target j)
      (jump-out nodes around.in_loop start outside j ops (jump-fits file around scope j valid) told))
  level (Stmt-F.If c x y) =
      rolled (Stmt-F.If c (stmts x) (stmts y))
      (λ around scope valid start outside told.
      let on_true = v.parts_of file (stmts x) in
      let on_false = v.parts_of file (stmts y) in
      let tests = and_parts (is_valid_expr file scope c.test && all_valid on_true around (entered scope)) (all_valid on_false around (entered (passed (counts on_true) scope))) valid in
      let first = and_parts (is_valid_expr file scope c.test) (all_valid on_true around (entered scope)) tests.0 in
      let sides = told-right nodes (cond c ∷ []) (order_of (stmts x) ++ order_of (stmts y)) start 1 refl told in
      if-kept nodes c (parts_of (stmts x)) (parts_of (stmts y)) (map fall_of (stmts x)) (map fall_of (stmts y)) around.in_loop start outside
      (all-kept x around (entered scope) first.1 (start + 1) outside (told-left nodes (order_of (stmts x)) (order_of (stmts y)) (start + 1) sides))
      (all-kept y around (entered (passed (counts on_true) scope)) tests.1 (start + 1 + size_of (parts_of (stmts x))) outside
      (told-right nodes (order_of (stmts x)) (order_of (stmts y)) (start + 1) (size_of (parts_of (stmts x))) (list-sized (stmts x)) sides)))
  level (Stmt-F.Loop c s x) =
      rolled (Stmt-F.Loop c s (stmts x))
      (λ around scope valid start outside told.
      let tests = and_parts (is_valid_expr file scope c.test && is_valid_step file scope s) (all_valid (v.parts_of file (stmts x)) (looped around) (entered scope)) valid in
      let behind_test = told-right nodes (cond c ∷ []) (step_order s ++ order_of (stmts x)) start 1 refl told in
      loop-kept nodes c s (parts_of (stmts x)) (map fall_of (stmts x)) around.in_loop start outside
      (all-kept x (looped around) (entered scope) tests.1 (start + 1 + step_nodes s) (in_loop (start + step_nodes s) outside)
      (told-right nodes (step_order s) (order_of (stmts x)) (start + 1) (step_nodes s) (step-count s) behind_test)))
  level (Stmt-F.Block x) =
      rolled (Stmt-F.Block (stmts x)) (λ around scope valid start outside told. all-kept x around (entered scope) valid start outside told)

  claim : (s : Stmt) → Claim s
  claim = ind-Stmt Claim (λ x y is. subst (λ z. Claim (roll-Stmt z)) is (level y))

  with-claims : (list : List Stmt) → (es : List E) × (stmts es ≡ list)
  with-claims [] = ([], refl)
  with-claims (s ∷ list) = let rest = with-claims list in ((s, claim s) ∷ rest.0, ap (λ more. s ∷ more) rest.1)

  body-kept : (list : List Stmt) (around : v.Around) (scope : Scope) → all_valid (v.parts_of file list) around scope ≡ true → (start : ℕ) (outside : Around)
      → Told nodes (order_of list) start → Kept nodes (list_part (parts_of list)) (list_fall (map fall_of list)) around.in_loop start outside
  body-kept list =
      let known = with-claims list in
      subst (λ list. (around : v.Around) (scope : Scope) → all_valid (v.parts_of file list) around scope ≡ true → (start : ℕ) (outside : Around)
      → Told nodes (order_of list) start → Kept nodes (list_part (parts_of list)) (list_fall (map fall_of list)) around.in_loop start outside) known.1 (all-kept known.0)

-- ---- edges

module _ (nodes : List Node) (live : ℕ → Bool) (fall : Fall) (loop : Bool) (around : Around) (low high : ℕ) where
  of-way : (way : Way) (dead : Bool) → way.is_dead ≡ dead → Goes nodes live fall loop around low high way → (u : ℕ) (edge : Edge)
      → Contains (edge_unless dead (record { place = way.place; source = way.source; target = way.target })) edge → edge.source ≡ Some u → live u ≡ true
      → Out nodes live fall loop around u edge.target
  of-way way true dead goes u edge here from met = absurd (nothing_in edge here)
  of-way way false dead goes u edge here from met =
      let own : Edge = record { place = way.place; source = way.source; target = way.target } in
      elim (Contains-push_cases [] own edge here) [
        | inl none ↦ absurd (nothing_in edge none)
        | inr same ↦
            let source : Some goes.from ≡ Some u = sym goes.source ∙ ap (λ (e : Edge). e.source) same ∙ from in
            let start : goes.from ≡ u = cc source in
            let target : way.target ≡ edge.target = ap (λ (e : Edge). e.target) same in
            let out : Out nodes live fall loop around goes.from way.target = goes.to dead (ap live start ∙ met) in
            subst (λ next. Out nodes live fall loop around u next) target (subst (λ n. Out nodes live fall loop around n way.target) start out)
      ]

  of-ways : (ways : List Way) → AllGo nodes live fall loop around low high ways → (u : ℕ) (edge : Edge)
      → Contains (edges_of ways) edge → edge.source ≡ Some u → live u ≡ true → Out nodes live fall loop around u edge.target
  of-ways [] go u edge here from met = absurd (nothing_in edge here)
  of-ways (way ∷ ways) go u edge here from met = elim (Contains-append_cases (way_edges way) (edges_of ways) edge here) [
    | inl mine ↦ of-way way way.is_dead refl go.0 u edge mine from met
    | inr later ↦ of-ways ways go.1 u edge later from met
  ]

-- no edge leads from the start as from a node
not-start : (number : ℕ) (next : Next) (u : ℕ) (edge : Edge) → Contains (way_edges (start_way number next)) edge → edge.source ≡ Some u → ⊥
not-start number next u edge here from = elim (Contains-push_cases [] (record { place = Start (fn_id number); source = None; target = next }) edge here) [
  | inl none ↦ nothing_in edge none
  | inr same ↦ none-some u (ap (λ (e : Edge). e.source) same ∙ from)
]

-- ---- a function

all-at : {A : Type 0} (test : A → Bool) (list : List A) (n : ℕ) (x : A) → list_all test list ≡ true → slice_get list n ≡ Some x → test x ≡ true
all-at test [] n x all here = absurd (none-some x here)
all-at test (y ∷ list) zero x all here =
    let same : y ≡ x = cc here in
    subst (λ z. test z ≡ true) same (and_parts (test y) (list_all test list) all).0
all-at test (y ∷ list) (suc n) x all here = all-at test list n x (and_parts (test y) (list_all test list) all).1 here

-- the nodes of a function among those of its program
told-function : (list : List Function) (n : ℕ) (f : Function) → slice_get list n ≡ Some f → (k : ℕ) → returns_at (function_order f) k ≡ true
    → returns_at (functions_order list) (functions_nodes (take n list) + k) ≡ true
told-function [] n f here k there = absurd (none-some f here)
told-function (g ∷ list) zero f here k there =
    let same : g ≡ f = cc here in
    let number : k ≡ 0 + k = omega arith in
    subst (λ m. returns_at (functions_order (g ∷ list)) m ≡ true) number
    (at-left (function_order g) (functions_order list) k (subst (λ h. returns_at (function_order h) k ≡ true) (sym same) there))
told-function (g ∷ list) (suc n) f here k there =
    let more = at-right (function_order g) (functions_order list) (functions_nodes (take n list) + k) (told-function list n f here k there) in
    let number : length (function_order g) + (functions_nodes (take n list) + k) ≡ function_nodes g + functions_nodes (take n list) + k = omega (arith, order_of-length g.body) in
    subst (λ m. returns_at (functions_order (g ∷ list)) m ≡ true) number more

some-first : (n start : ℕ) (follow : Next) → (n ≡ 0 → ⊥) → first_of n start follow ≡ Some start
some-first zero start follow more = absurd (more refl)
some-first (suc n) start follow more = refl

module _ (tree : Tree) (number : ℕ) (f : Function) (valid : IsValid tree) (here : slice_get tree.functions number ≡ Some f) (ends : falls_through f.body ≡ false) where
  abbrev start : ℕ
  start = first_node tree number

  valid-body : is_valid_body (file_of tree) f ≡ true
  valid-body =
      let whole = all-at (is_valid_function (file_of tree)) tree.functions number f valid.functions here in
      let most = (and_parts (are_declared_names f.params && is_valid_count f.kind (length f.params) && is_valid_body (file_of tree) f) (is_valid_end f) whole).0 in
      (and_parts (are_declared_names f.params && is_valid_count f.kind (length f.params)) (is_valid_body (file_of tree) f) most).1

  kept : Kept (tree_order tree) (list_part (parts_of f.body)) (list_fall (map fall_of f.body)) false start outermost
  kept = body-kept (file_of tree) (tree_order tree) f.body (body_around f) (body_scope f) valid-body start outermost (told-function tree.functions number f here)

  abbrev edges : List Edge
  edges = function_edges tree number f

  goes : (u : ℕ) (edge : Edge) → Contains edges edge → edge.source ≡ Some u → kept.live u ≡ true
      → Out (tree_order tree) kept.live (list_fall (map fall_of f.body)) false outermost u edge.target
  goes u edge on from met =
      elim (Contains-append_cases (way_edges (start_way number (first_of (size_of (parts_of f.body)) start None))) (edges_of (along (parts_of f.body) start outermost)) edge on) [
        | inl first ↦ absurd (not-start number (first_of (size_of (parts_of f.body)) start None) u edge first from)
        | inr later ↦ of-ways (tree_order tree) kept.live (list_fall (map fall_of f.body)) false outermost start (start + size_of (parts_of f.body)) (along (parts_of f.body) start outermost) kept.ways u edge later from met
      ]

  onward : (u v : ℕ) (next : Next) → next ≡ Some v → Out (tree_order tree) kept.live (list_fall (map fall_of f.body)) false outermost u next → kept.live v ≡ true
  onward u v next to (Out.inner w is met) = let same : w ≡ v = cc (sym is ∙ to) in subst (λ n. kept.live n ≡ true) same met
  onward u v next to (Out.falls end is) = absurd (true≢false (sym end ∙ ends))
  onward u v next to (Out.breaks jumps looped is) = absurd (true≢false (sym looped))
  onward u v next to (Out.continues looped is) = absurd (true≢false (sym looped))
  onward u v next to (Out.returns back is) = absurd (none-some v (sym is ∙ to))

  outward : (u : ℕ) (next : Next) → next ≡ None → Out (tree_order tree) kept.live (list_fall (map fall_of f.body)) false outermost u next → returns_at (tree_order tree) u ≡ true
  outward u next to (Out.inner w is met) = absurd (none-some w (sym to ∙ is))
  outward u next to (Out.falls end is) = absurd (true≢false (sym end ∙ ends))
  outward u next to (Out.breaks jumps looped is) = absurd (true≢false (sym looped))
  outward u next to (Out.continues looped is) = absurd (true≢false (sym looped))
  outward u next to (Out.returns back is) = back

  along-link : (u v : ℕ) → Link edges u v → kept.live u ≡ true → kept.live v ≡ true
  along-link u v link met = onward u v link.edge.target link.target (goes u link.edge link.is_edge link.source met)

  along-path : (u : ℕ) (inner : List ℕ) (v : ℕ) → Path edges u inner v → kept.live u ≡ true → kept.live v ≡ true
  along-path u [] v path met = along-link u v path met
  along-path u (m ∷ inner) v path met = along-path m inner v path.1 (along-link u m path.0 met)

  has-node : size_of (parts_of f.body) ≡ 0 → ⊥
  has-node none = true≢false (sym (kept.empty none) ∙ ends)

  first-met : kept.live start ≡ true
  first-met = kept.first (more (size_of (parts_of f.body)) has-node)
    where
      more : (n : ℕ) → (n ≡ 0 → ⊥) → 0 < n
      more zero some = absurd (some refl)
      more (suc n) some = omega arith

  comes-met : (u : ℕ) → Comes edges start u → kept.live u ≡ true
  comes-met u comes = elim comes [
    | inl same ↦ subst (λ n. kept.live n ≡ true) (sym same) first-met
    | inr path ↦ along-path start path.0 u path.1 first-met
  ]

  all-left : IsLeftByReturns tree number f
  all-left = record {
    first = start;
    enters = ap (entry_of tree number) here ∙ some-first (size_of (parts_of f.body)) start None has-node;
    leaves = λ u edge comes on from to. outward u edge.target to (goes u edge on from (comes-met u comes));
  }

pub left_by_returns : (tree : Tree) (number : ℕ) (f : Function) → IsValid tree → slice_get tree.functions number ≡ Some f → falls_through f.body ≡ false
    → IsLeftByReturns tree number f
left_by_returns tree number f valid here ends = all-left tree number f valid here ends
