-- The edges of a program are its live places.
use Rattle.std.proofs.Common.{◌≡◌, ◌≢◌, ◌⊎◌, ⊎_elim, inl, inr, ℕ, zero, suc, ◌+◌, ℤ, pos, negsuc, Bool, true, false, List, [], ◌∷◌, ◌++◌, length, slice_get, Option, Some, None, if◌then◌else◌, refl, ap, sym, ◌∙◌, subst, arith}
use Rattle.std.proofs.lemmas.Bool.Decides.{eqb_tells}
use Rattle.std.proofs.lemmas.Bool.{eqb-true}
use Rattle.std.proofs.Math.Dec.{eqb}
use Rattle.cfix_base.specs.declared.place.Place.{Place}
use Rattle.cfix_base.specs.declared.place.Place.TheVariants.{Start, After, True, False}
use Rattle.c_prog.specs.declared.function.Function.{Function}
use Rattle.c_prog.specs.declared.tree.Tree.{Tree}
use Rattle.c_prog.specs.Nodes.{function_nodes, first_node}
use Rattle.c_prog.specs.Order.{Node, act, cond, step, jump, function_order, functions_order, node_at}
use Rattle.c_prog.proofs.NodeLaws.{order_of-length}
use Rattle.flow_graph.specs.Flow as flows
use Rattle.flow_graph.specs.Flow.{Way, Next, fn_id, way_edges, edge_unless, edges_of, tree_ways, tree_edges, same_place, next_at, next, is_zero, is_other}
use Rattle.layout_laws.specs.Layout.{Layout, MayBe, Live, source}
use Rattle.layout_laws.specs.TreeLayout.{is_condition, cond_if, constant_if, layout_of}
use Rattle.placed_trees.specs.TreeOps.{edge_at}
use Rattle.placed_trees.proofs.Bares.{Bare, bare, bares, node_bares, bares_from, bares_by, tree_bares}

-- the way of a place is dead exactly where the layout says so
abbrev pub DeadIs : Layout → Place → Bool → Type 0
DeadIs y (Start f) d = d ≡ false
DeadIs y (After n) d = (y.is_cond n.number ≡ false) × (d ≡ false)
DeadIs y (True n) d = (y.is_cond n.number ≡ true) × (d ≡ is_zero (y.constant n.number))
DeadIs y (False n) d = (y.is_cond n.number ≡ true) × (d ≡ is_other (y.constant n.number))

abbrev pub Fair : Layout → Bare → Type 0
Fair y b = (b.source ≡ source b.place) × DeadIs y b.place b.is_dead

abbrev pub AllFair : Layout → List Bare → Type 0
AllFair y [] = Unit {0}
AllFair y (b ∷ bs) = Fair y b × AllFair y bs

not_zero : (o : Option ℤ) → MayBe false o → is_zero o ≡ false
not_zero None h = refl
not_zero (Some (pos zero)) h = h
not_zero (Some (pos (suc n))) h = refl
not_zero (Some (negsuc n)) h = refl

not_other : (o : Option ℤ) → MayBe true o → is_other o ≡ false
not_other None h = refl
not_other (Some (pos zero)) h = refl
not_other (Some (pos (suc n))) h = sym h
not_other (Some (negsuc n)) h = sym h

may_not : (o : Option ℤ) → (MayBe false o → ⊥) → is_zero o ≡ true
may_not None h = absurd (h tt)
may_not (Some (pos zero)) h = refl
may_not (Some (pos (suc n))) h = absurd (h refl)
may_not (Some (negsuc n)) h = absurd (h refl)

may_only : (o : Option ℤ) → (MayBe true o → ⊥) → is_other o ≡ true
may_only None h = absurd (h tt)
may_only (Some (pos zero)) h = absurd (h refl)
may_only (Some (pos (suc n))) h = refl
may_only (Some (negsuc n)) h = refl

pub live_dead : (y : Layout) (q : Place) (d : Bool) → Live y q → DeadIs y q d → d ≡ false
live_dead y (Start f) d live h = h
live_dead y (After n) d live h = h.1
live_dead y (True n) d live h = h.1 ∙ not_zero (y.constant n.number) live.1
live_dead y (False n) d live h = h.1 ∙ not_other (y.constant n.number) live.1

pub unlive_dead : (y : Layout) (q : Place) (d : Bool) → (Live y q → ⊥) → DeadIs y q d → d ≡ true
unlive_dead y (Start f) d none h = absurd (none tt)
unlive_dead y (After n) d none h = absurd (none h.0)
unlive_dead y (True n) d none h = h.1 ∙ may_not (y.constant n.number) (λ may. none (h.0, may))
unlive_dead y (False n) d none h = h.1 ∙ may_only (y.constant n.number) (λ may. none (h.0, may))

-- equal places
number_is : (a b : ℕ) → a ≡ b → (eqb a b ≡ true)
number_is a b e = ⊎_elim (λ (p : (eqb a b ≡ true) × (a ≡ b)). p.0) (λ (p : (eqb a b ≡ false) × (a ≢ b)). absurd (p.1 e)) (eqb_tells a b)

pub same_is : (q p : Place) → same_place q p ≡ true → q ≡ p
same_is (Start f) (Start g) e = λ i. Start (record { number = eqb-true f.number g.number e i })
same_is (After n) (After m) e = λ i. After (record { number = eqb-true n.number m.number e i })
same_is (True n) (True m) e = λ i. True (record { number = eqb-true n.number m.number e i })
same_is (False n) (False m) e = λ i. False (record { number = eqb-true n.number m.number e i })
same_is (Start f) (After m) e = cc
same_is (Start f) (True m) e = cc
same_is (Start f) (False m) e = cc
same_is (After n) (Start g) e = cc
same_is (After n) (True m) e = cc
same_is (After n) (False m) e = cc
same_is (True n) (Start g) e = cc
same_is (True n) (After m) e = cc
same_is (True n) (False m) e = cc
same_is (False n) (Start g) e = cc
same_is (False n) (After m) e = cc
same_is (False n) (True m) e = cc

pub same_self : (p : Place) → same_place p p ≡ true
same_self (Start f) = number_is f.number f.number refl
same_self (After n) = number_is n.number n.number refl
same_self (True n) = number_is n.number n.number refl
same_self (False n) = number_is n.number n.number refl

abbrev pub place_edge : Place → Next → flows.Edge
place_edge p t = record { place = p; source = source p; target = t }

abbrev way_edge : Way → flows.Edge
way_edge way = record { place = way.place; source = way.source; target = way.target }

-- an edge of another place, if it is there, is passed over
passed_over : (p : Place) (way : Way) (edges : List flows.Edge) → same_place way.place p ≡ false → edge_at p (way_edges way ++ edges) ≡ edge_at p edges
passed_over p way edges other = over way.is_dead
  where
    over : (d : Bool) → edge_at p (edge_unless d (way_edge way) ++ edges) ≡ edge_at p edges
    over true = refl
    over false = ap (λ b. if b then Some (way_edge way) else edge_at p edges) other

module _ (y : Layout) (p : Place) where
  found_here : (way : Way) (rest : List flows.Edge) → Fair y (bare way) → Live y p → same_place way.place p ≡ true
      → edge_at p (way_edges way ++ rest) ≡ Some (place_edge p way.target)
  found_here way rest fair live same =
      let is = same_is way.place p same in
      let dead : way.is_dead ≡ false = live_dead y p way.is_dead live (subst (λ q. DeadIs y q way.is_dead) is fair.1) in
      let from : way.source ≡ source p = fair.0 ∙ ap source is in
      ap (λ d. edge_at p (edge_unless d (way_edge way) ++ rest)) dead
      ∙ ap (λ b. if b then Some (way_edge way) else edge_at p rest) same
      ∙ (λ i. Some (record { place = is i; source = from i; target = way.target }))

  -- the edge of a live place
  pub edge_found : (ways : List Way) → AllFair y (bares ways) → Live y p → (t : Next) → next_at p ways ≡ Some t → edge_at p (edges_of ways) ≡ Some (place_edge p t)
  edge_found [] fair live t e = cc
  edge_found (way ∷ rest) fair live t e = head (same_place way.place p) refl (edge_found rest fair.1 live t) e
    where
      head : (b : Bool) → same_place way.place p ≡ b → (next_at p rest ≡ Some t → edge_at p (edges_of rest) ≡ Some (place_edge p t))
          → (if b then Some way.target else next_at p rest) ≡ Some t → edge_at p (way_edges way ++ edges_of rest) ≡ Some (place_edge p t)
      head true same later e = found_here way (edges_of rest) fair.0 live same ∙ ap (λ o. place_if o) e
        where
          place_if : Option Next → Option flows.Edge
          place_if None = None
          place_if (Some u) = Some (place_edge p u)
      head false same later e = passed_over p way (edges_of rest) same ∙ later e

  -- a dead place has none
  pub edge_dead : (ways : List Way) → AllFair y (bares ways) → (Live y p → ⊥) → edge_at p (edges_of ways) ≡ None
  edge_dead [] fair none = refl
  edge_dead (way ∷ rest) fair none = head (same_place way.place p) refl (edge_dead rest fair.1 none)
    where
      head : (b : Bool) → same_place way.place p ≡ b → edge_at p (edges_of rest) ≡ None → edge_at p (way_edges way ++ edges_of rest) ≡ None
      head true same later =
          let is = same_is way.place p same in
          let dead : way.is_dead ≡ true = unlive_dead y p way.is_dead none (subst (λ q. DeadIs y q way.is_dead) is fair.0.1) in
          ap (λ d. edge_at p (edge_unless d (way_edge way) ++ edges_of rest)) dead ∙ later
      head false same later = passed_over p way (edges_of rest) same ∙ later

-- a list has a way of this place
abbrev pub Has : Place → List Bare → Type 0
Has p [] = ⊥
Has p (b ∷ bs) = (b.place ≡ p) ⊎ Has p bs

pub has_next : (p : Place) (ways : List Way) → Has p (bares ways) → (t : Next) × (next_at p ways ≡ Some t)
has_next p [] h = absurd h
has_next p (way ∷ rest) h = head (same_place way.place p) refl (has_next p rest) h
  where
    head : (b : Bool) → same_place way.place p ≡ b → (Has p (bares rest) → (t : Next) × (next_at p rest ≡ Some t)) → (way.place ≡ p) ⊎ Has p (bares rest)
        → (t : Next) × ((if b then Some way.target else next_at p rest) ≡ Some t)
    head true same later h = (way.target, refl)
    head false same later (inl is) = absurd (apart (sym same ∙ ap (λ q. same_place q p) is ∙ same_self p))
      where
        apart : false ≡ true → ⊥
        apart e = cc
    head false same later (inr more) = later more

-- the place is one of this node
abbrev pub PlaceOf : Place → ℕ → Node → Type 0
PlaceOf (Start f) n w = ⊥
PlaceOf (After k) n w = (k.number ≡ n) × (is_condition w ≡ false)
PlaceOf (True k) n w = (k.number ≡ n) × (is_condition w ≡ true)
PlaceOf (False k) n w = (k.number ≡ n) × (is_condition w ≡ true)

node_has : (p : Place) (n : ℕ) (w : Node) → PlaceOf p n w → Has p (node_bares n w)
node_has (Start f) n w h = absurd h
node_has (After k) n (act a after) h = inl (λ i. After (record { number = sym h.0 i }))
node_has (After k) n (cond c) h = cc
node_has (After k) n (step s) h = inl (λ i. After (record { number = sym h.0 i }))
node_has (After k) n (jump j after) h = inl (λ i. After (record { number = sym h.0 i }))
node_has (True k) n (act a after) h = cc
node_has (True k) n (cond c) h = inl (λ i. True (record { number = sym h.0 i }))
node_has (True k) n (step s) h = cc
node_has (True k) n (jump j after) h = cc
node_has (False k) n (act a after) h = cc
node_has (False k) n (cond c) h = inr (inl (λ i. False (record { number = sym h.0 i })))
node_has (False k) n (step s) h = cc
node_has (False k) n (jump j after) h = cc

has_left : (p : Place) (a b : List Bare) → Has p a → Has p (a ++ b)
has_left p [] b h = absurd h
has_left p (x ∷ a) b (inl is) = inl is
has_left p (x ∷ a) b (inr more) = inr (has_left p a b more)

has_right : (p : Place) (a b : List Bare) → Has p b → Has p (a ++ b)
has_right p [] b h = h
has_right p (x ∷ a) b h = inr (has_right p a b h)

from_has : (p : Place) (n i : ℕ) (ws : List Node) (w : Node) → slice_get ws i ≡ Some w → PlaceOf p (n + i) w → Has p (bares_from n ws)
from_has p n i [] w at h = cc
from_has p n zero (v ∷ ws) w at h =
    let same : n + 0 ≡ n = omega arith in
    let is : w ≡ v = cc in
    has_left p (node_bares n v) (bares_from (n + 1) ws) (node_has p n v (subst (λ u. PlaceOf p n u) is (subst (λ k. PlaceOf p k w) same h)))
from_has p n (suc i) (v ∷ ws) w at h =
    let same : n + suc i ≡ n + 1 + i = omega arith in
    has_right p (node_bares n v) (bares_from (n + 1) ws) (from_has p (n + 1) i ws w at (subst (λ k. PlaceOf p k w) same h))

-- an item of two lists is one of the first, or one of the second
split : {A : Type 0} (xs ys : List A) (i : ℕ) (w : A) → slice_get (xs ++ ys) i ≡ Some w
    → (slice_get xs i ≡ Some w) ⊎ ((j : ℕ) × (i ≡ length xs + j) × (slice_get ys j ≡ Some w))
split [] ys i w at = inr (i, omega arith, at)
split (x ∷ xs) ys zero w at = inl at
split (x ∷ xs) ys (suc i) w at = elim (split xs ys i w at) [
  | inl first ↦ inl first
  | inr second ↦ let e = second.1 in inr (second.0, omega arith, second.2)
]

in_first : {A : Type 0} (xs ys : List A) (i : ℕ) (w : A) → slice_get xs i ≡ Some w → slice_get (xs ++ ys) i ≡ Some w
in_first [] ys i w at = cc
in_first (x ∷ xs) ys zero w at = at
in_first (x ∷ xs) ys (suc i) w at = in_first xs ys i w at

in_second : {A : Type 0} (xs ys : List A) (i : ℕ) → slice_get (xs ++ ys) (length xs + i) ≡ slice_get ys i
in_second [] ys i = let same : 0 + i ≡ i = omega arith in ap (slice_get ys) same
in_second (x ∷ xs) ys i =
    let same : suc (length xs) + i ≡ suc (length xs + i) = omega arith in
    ap (slice_get (x ∷ (xs ++ ys))) same ∙ in_second xs ys i

by_has : (p : Place) (a n i : ℕ) (fs : List Function) (w : Node) → slice_get (functions_order fs) i ≡ Some w → PlaceOf p (n + i) w → Has p (bares_by a n fs)
by_has p a n i [] w at h = cc
by_has p a n i (f ∷ fs) w at h = inr (elim (split (function_order f) (functions_order fs) i w at) [
  | inl first ↦ has_left p (bares_from n (function_order f)) (bares_by (a + 1) (n + function_nodes f) fs) (from_has p n i (function_order f) w first h)
  | inr second ↦
      let l = order_of-length f.body in
      let e = second.1 in
      let same : n + i ≡ n + function_nodes f + second.0 = omega arith in
      has_right p (bares_from n (function_order f)) (bares_by (a + 1) (n + function_nodes f) fs)
      (by_has p (a + 1) (n + function_nodes f) second.0 fs w second.2 (subst (λ k. PlaceOf p k w) same h))
])

start_has : (a n i : ℕ) (fs : List Function) (f : Function) → slice_get fs i ≡ Some f → Has (Start (fn_id (a + i))) (bares_by a n fs)
start_has a n i [] f at = cc
start_has a n zero (g ∷ fs) f at = let same : a ≡ a + 0 = omega arith in inl (ap (λ k. Start (fn_id k)) same)
start_has a n (suc i) (g ∷ fs) f at =
    let same : a + 1 + i ≡ a + suc i = omega arith in
    inr (has_right _ (bares_from n (function_order g)) (bares_by (a + 1) (n + function_nodes g) fs)
    (subst (λ k. Has (Start (fn_id k)) (bares_by (a + 1) (n + function_nodes g) fs)) same (start_has (a + 1) (n + function_nodes g) i fs f at)))

module _ (tree : Tree) where
  abbrev y : Layout
  y = layout_of tree

  fair_append : (a b : List Bare) → AllFair y a → AllFair y b → AllFair y (a ++ b)
  fair_append [] b h k = k
  fair_append (x ∷ a) b h k = (h.0, fair_append a b h.1 k)

  node_fair : (n : ℕ) (w : Node) → node_at tree n ≡ Some w → AllFair y (node_bares n w)
  node_fair n (act a after) e = ((refl, (ap cond_if e, refl)), tt)
  node_fair n (cond c) e = ((refl, (ap cond_if e, ap (λ o. is_zero (constant_if o)) (sym e))), ((refl, (ap cond_if e, ap (λ o. is_other (constant_if o)) (sym e))), tt))
  node_fair n (step s) e = ((refl, (ap cond_if e, refl)), tt)
  node_fair n (jump j after) e = ((refl, (ap cond_if e, refl)), tt)

  abbrev AreAt : ℕ → List Node → Type 0
  AreAt n ws = (i : ℕ) (w : Node) → slice_get ws i ≡ Some w → node_at tree (n + i) ≡ Some w

  from_fair : (n : ℕ) (ws : List Node) → AreAt n ws → AllFair y (bares_from n ws)
  from_fair n [] at = tt
  from_fair n (w ∷ ws) at =
      let same : n + 0 ≡ n = omega arith in
      fair_append (node_bares n w) (bares_from (n + 1) ws) (node_fair n w (ap (node_at tree) (sym same) ∙ at 0 w refl))
      (from_fair (n + 1) ws (λ i v is. let more : n + 1 + i ≡ n + suc i = omega arith in ap (node_at tree) more ∙ at (suc i) v is))

  by_fair : (a n : ℕ) (fs : List Function) → AreAt n (functions_order fs) → AllFair y (bares_by a n fs)
  by_fair a n [] at = tt
  by_fair a n (f ∷ fs) at =
      let l = order_of-length f.body in (
        (refl, refl),
        fair_append (bares_from n (function_order f)) (bares_by (a + 1) (n + function_nodes f) fs)
            (from_fair n (function_order f) (λ i w is. at i w (in_first (function_order f) (functions_order fs) i w is)))
            (by_fair (a + 1) (n + function_nodes f) fs (λ i w is.
            let more : n + function_nodes f + i ≡ n + (length (function_order f) + i) = omega arith in
            ap (node_at tree) more ∙ at (length (function_order f) + i) w (in_second (function_order f) (functions_order fs) i ∙ is))),
      )

  pub all_fair : AllFair y (bares (tree_ways tree))
  all_fair = subst (AllFair y) (sym (tree_bares tree 0 tree.functions refl))
      (by_fair 0 (first_node tree 0) tree.functions (λ i w is. let same : 0 + i ≡ i = omega arith in ap (node_at tree) same ∙ is))

  -- each node has its places, and each function its start
  pub node_next : (p : Place) (n : ℕ) (w : Node) → node_at tree n ≡ Some w → PlaceOf p n w → (t : Next) × (next tree p ≡ Some t)
  node_next p n w at of =
      let same : n ≡ 0 + n = omega arith in
      has_next p (tree_ways tree) (subst (Has p) (sym (tree_bares tree 0 tree.functions refl)) (by_has p 0 0 n tree.functions w at (subst (λ k. PlaceOf p k w) same of)))

  pub start_next : (k : ℕ) (f : Function) → slice_get tree.functions k ≡ Some f → (t : Next) × (next tree (Start (fn_id k)) ≡ Some t)
  start_next k f at =
      let same : 0 + k ≡ k = omega arith in
      has_next (Start (fn_id k)) (tree_ways tree)
      (subst (Has (Start (fn_id k))) (sym (tree_bares tree 0 tree.functions refl))
      (subst (λ j. Has (Start (fn_id j)) (bares_by 0 0 tree.functions)) same (start_has 0 0 k tree.functions f at)))

  -- a live place is an edge, and a dead one is none
  pub live_edge : (p : Place) (t : Next) → Live y p → next tree p ≡ Some t → edge_at p (tree_edges tree) ≡ Some (place_edge p t)
  live_edge p t live e = edge_found y p (tree_ways tree) all_fair live t e

  pub dead_edge : (p : Place) → (Live y p → ⊥) → edge_at p (tree_edges tree) ≡ None
  dead_edge p none = edge_dead y p (tree_ways tree) all_fair none
