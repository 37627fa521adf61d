-- The new operations of the edges enter and leave each new lock as its class says.
use Rattle.std.proofs.Common.{◌≡◌, ℕ, zero, suc, ◌+◌, ◌-◌, ◌<◌, Bool, true, false, not, ◌&&◌, List, [], ◌∷◌, ◌++◌, Option, Some, None, slice_get, refl, sym, ap, ◌∙◌, arith}
use Rattle.cfix_base.specs.declared.op.Op.{Op}
use Rattle.cfix_base.specs.declared.op.Op.TheVariants.{Leave, First, Done, Wait, Enter, Add}
use Rattle.cfix_base.specs.declared.place.Place.{Place}
use Rattle.cfix_base.specs.declared.place.Place.TheVariants.{Start, After, True, False}
use Rattle.step_state.specs.Code.{Code}
use Rattle.cfix_base.specs.declared.mark.Marks.{Marks}
use Rattle.layout_laws.specs.Layout.{Layout, source, place_function, IsLaidOut}
use Rattle.lock_laws.specs.Guard.{bit, in_set, enters, leaves, Carries}
use Rattle.lock_laws.specs.Coverage.{kept_in}
use Rattle.placed_trees.specs.Placement.{ClassPlan, Plan, Edge, within, one_if, each_from, lock, order, leaves_class, enters_class, passes_first, finishes, awaits, adds_order, new_ops, IsPlaced}
use Rattle.lock_laws.proofs.Counts.{enters_append, own_bit, other_bit}
use Rattle.lock_laws.proofs.OldLocks.{leaves_append, old_enters, old_leaves}

-- operations of other kinds
module _ (k : ℕ) {X : Type 0} (test : X → Bool) where
  no_enter : (op : ℕ → Op) → ((j : ℕ) (rest : List Op) → enters k (op j ∷ rest) ≡ enters k rest) → (i : ℕ) (xs : List X) → enters k (each_from test op i xs) ≡ 0
  no_enter op other i [] = refl
  no_enter op other i (x ∷ xs) = more (test x) (no_enter op other (i + 1) xs)
    where
      more : (b : Bool) → enters k (each_from test op (i + 1) xs) ≡ 0 → enters k (one_if b (op i) ++ each_from test op (i + 1) xs) ≡ 0
      more true h = other i (each_from test op (i + 1) xs) ∙ h
      more false h = h

  no_leave : (op : ℕ → Op) → ((j : ℕ) (rest : List Op) → leaves k (op j ∷ rest) ≡ leaves k rest) → (i : ℕ) (xs : List X) → leaves k (each_from test op i xs) ≡ 0
  no_leave op other i [] = refl
  no_leave op other i (x ∷ xs) = more (test x) (no_leave op other (i + 1) xs)
    where
      more : (b : Bool) → leaves k (each_from test op (i + 1) xs) ≡ 0 → leaves k (one_if b (op i) ++ each_from test op (i + 1) xs) ≡ 0
      more true h = other i (each_from test op (i + 1) xs) ∙ h
      more false h = h

  -- those of this kind whose numbers are all greater
  past_enters : (i : ℕ) (xs : List X) → k < i → enters k (each_from test (λ n. Enter (lock n)) i xs) ≡ 0
  past_enters i [] above = refl
  past_enters i (x ∷ xs) above = more (test x) (past_enters (i + 1) xs (omega arith))
    where
      more : (b : Bool) → enters k (each_from test (λ n. Enter (lock n)) (i + 1) xs) ≡ 0 → enters k (one_if b (Enter (lock i)) ++ each_from test (λ n. Enter (lock n)) (i + 1) xs) ≡ 0
      more true h = omega (arith, h, other_bit (λ n. false) k i (λ e. omega arith))
      more false h = h

  past_leaves : (i : ℕ) (xs : List X) → k < i → leaves k (each_from test (λ n. Leave (lock n)) i xs) ≡ 0
  past_leaves i [] above = refl
  past_leaves i (x ∷ xs) above = more (test x) (past_leaves (i + 1) xs (omega arith))
    where
      more : (b : Bool) → leaves k (each_from test (λ n. Leave (lock n)) (i + 1) xs) ≡ 0 → leaves k (one_if b (Leave (lock i)) ++ each_from test (λ n. Leave (lock n)) (i + 1) xs) ≡ 0
      more true h = omega (arith, h, other_bit (λ n. false) k i (λ e. omega arith))
      more false h = h

  -- the one with this number
  own_enters : (i n : ℕ) (xs : List X) (x : X) → i + n ≡ k → slice_get xs n ≡ Some x → enters k (each_from test (λ n. Enter (lock n)) i xs) ≡ bit (test x)
  own_enters i n [] x at is = cc
  own_enters i zero (w ∷ xs) x at is = more (test w) (past_enters (i + 1) xs (omega arith)) ∙ ap (λ z. bit (test z)) cc
    where
      more : (b : Bool) → enters k (each_from test (λ n. Enter (lock n)) (i + 1) xs) ≡ 0 → enters k (one_if b (Enter (lock i)) ++ each_from test (λ n. Enter (lock n)) (i + 1) xs) ≡ bit b
      more true h = omega (arith, h, own_bit (λ n. false) k i (omega arith))
      more false h = h
  own_enters i (suc n) (w ∷ xs) x at is = more (test w) (own_enters (i + 1) n xs x (omega arith) is)
    where
      more : (b : Bool) → enters k (each_from test (λ n. Enter (lock n)) (i + 1) xs) ≡ bit (test x) → enters k (one_if b (Enter (lock i)) ++ each_from test (λ n. Enter (lock n)) (i + 1) xs) ≡ bit (test x)
      more true h = omega (arith, h, other_bit (λ n. false) k i (λ e. omega arith))
      more false h = h

  own_leaves : (i n : ℕ) (xs : List X) (x : X) → i + n ≡ k → slice_get xs n ≡ Some x → leaves k (each_from test (λ n. Leave (lock n)) i xs) ≡ bit (test x)
  own_leaves i n [] x at is = cc
  own_leaves i zero (w ∷ xs) x at is = more (test w) (past_leaves (i + 1) xs (omega arith)) ∙ ap (λ z. bit (test z)) cc
    where
      more : (b : Bool) → leaves k (each_from test (λ n. Leave (lock n)) (i + 1) xs) ≡ 0 → leaves k (one_if b (Leave (lock i)) ++ each_from test (λ n. Leave (lock n)) (i + 1) xs) ≡ bit b
      more true h = omega (arith, h, own_bit (λ n. false) k i (omega arith))
      more false h = h
  own_leaves i (suc n) (w ∷ xs) x at is = more (test w) (own_leaves (i + 1) n xs x (omega arith) is)
    where
      more : (b : Bool) → leaves k (each_from test (λ n. Leave (lock n)) (i + 1) xs) ≡ bit (test x) → leaves k (one_if b (Leave (lock i)) ++ each_from test (λ n. Leave (lock n)) (i + 1) xs) ≡ bit (test x)
      more true h = omega (arith, h, other_bit (λ n. false) k i (λ e. omega arith))
      more false h = h

module _ (y : Layout) (m : Marks) (plan : Plan) (n : ℕ) (class : ClassPlan) (is : slice_get plan.classes n ≡ Some class) where
  abbrev K : ℕ
  K = m.lock + n

  abbrev kept : ℕ → Bool
  kept = kept_in y class.nodes class.covered

  all_enters : (f : ℕ) (e : Edge) → enters K (new_ops y m plan f e) ≡ bit (enters_class f e class)
  all_enters f e =
      let a = each_from (leaves_class f e) (λ k. Leave (lock k)) m.lock plan.classes in
      let b = each_from (passes_first e) (λ j. First (order j)) m.order plan.orders in
      let d = each_from (finishes (plan.roots f) e) (λ j. Done (order j)) m.order plan.orders in
      let w = each_from (awaits e) (λ j. Wait (order j)) m.order plan.orders in
      let x = each_from (enters_class f e) (λ k. Enter (lock k)) m.lock plan.classes in
      let z = each_from (adds_order y e) (λ j. Add (order j)) m.order plan.orders in
      omega (
        arith,
        enters_append kept K a (b ++ (d ++ (w ++ (x ++ z)))),
        enters_append kept K b (d ++ (w ++ (x ++ z))),
        enters_append kept K d (w ++ (x ++ z)),
        enters_append kept K w (x ++ z),
        enters_append kept K x z,
        no_enter K (leaves_class f e) (λ k. Leave (lock k)) (λ j r. refl) m.lock plan.classes,
        no_enter K (passes_first e) (λ j. First (order j)) (λ j r. refl) m.order plan.orders,
        no_enter K (finishes (plan.roots f) e) (λ j. Done (order j)) (λ j r. refl) m.order plan.orders,
        no_enter K (awaits e) (λ j. Wait (order j)) (λ j r. refl) m.order plan.orders,
        no_enter K (adds_order y e) (λ j. Add (order j)) (λ j r. refl) m.order plan.orders,
        own_enters K (enters_class f e) m.lock n plan.classes class refl is,
      )

  all_leaves : (f : ℕ) (e : Edge) → leaves K (new_ops y m plan f e) ≡ bit (leaves_class f e class)
  all_leaves f e =
      let a = each_from (leaves_class f e) (λ k. Leave (lock k)) m.lock plan.classes in
      let b = each_from (passes_first e) (λ j. First (order j)) m.order plan.orders in
      let d = each_from (finishes (plan.roots f) e) (λ j. Done (order j)) m.order plan.orders in
      let w = each_from (awaits e) (λ j. Wait (order j)) m.order plan.orders in
      let x = each_from (enters_class f e) (λ k. Enter (lock k)) m.lock plan.classes in
      let z = each_from (adds_order y e) (λ j. Add (order j)) m.order plan.orders in
      omega (
        arith,
        leaves_append m kept K (omega arith) a (b ++ (d ++ (w ++ (x ++ z)))),
        leaves_append m kept K (omega arith) b (d ++ (w ++ (x ++ z))),
        leaves_append m kept K (omega arith) d (w ++ (x ++ z)),
        leaves_append m kept K (omega arith) w (x ++ z),
        leaves_append m kept K (omega arith) x z,
        own_leaves K (leaves_class f e) m.lock n plan.classes class refl is,
        no_leave K (passes_first e) (λ j. First (order j)) (λ j r. refl) m.order plan.orders,
        no_leave K (finishes (plan.roots f) e) (λ j. Done (order j)) (λ j r. refl) m.order plan.orders,
        no_leave K (awaits e) (λ j. Wait (order j)) (λ j r. refl) m.order plan.orders,
        no_leave K (enters_class f e) (λ k. Enter (lock k)) (λ j r. refl) m.lock plan.classes,
        no_leave K (adds_order y e) (λ j. Add (order j)) (λ j r. refl) m.order plan.orders,
      )

  -- within one function, the edge's test is a difference of memberships
  diff : (a b o : Bool) → bit (a && (not b && not o)) ≡ bit (a && not o) - bit (b && not o)
  diff true true true = refl
  diff true true false = refl
  diff true false true = refl
  diff true false false = refl
  diff false true true = refl
  diff false true false = refl
  diff false false true = refl
  diff false false false = refl

  -- membership in the kept set, of a node of function f
  kept_within : (f : ℕ) (o : Option ℕ) → ((v : ℕ) → o ≡ Some v → y.function v ≡ f) → in_set kept o ≡ bit (within class.nodes o && not (class.covered f))
  kept_within f None in_f = refl
  kept_within f (Some v) in_f = ap (λ g. bit (class.nodes v && not (class.covered g))) (in_f v refl)

  source_function : (place : Place) (v : ℕ) → source place ≡ Some v → y.function v ≡ place_function y place
  source_function (Start f) v e = cc
  source_function (After u) v e = ap y.function cc
  source_function (True u) v e = ap y.function cc
  source_function (False u) v e = ap y.function cc

  pub carries : (p q : Code) → IsLaidOut q y → IsPlaced p q y m plan → Carries q y kept K
  carries p q laid placed = record {
    entered = λ place live.
        let f = place_function y place in
        let e : Edge = record { from = source place; into = p.next place } in
        let ins : in_set kept (q.next place) ≡ bit (within class.nodes (p.next place) && not (class.covered f)) =
        kept_within f (q.next place) (λ v w. laid.along place v live w) ∙ ap (λ o. bit (within class.nodes o && not (class.covered f))) (placed.next place) in
        let outs = kept_within f (source place) (source_function place) in
        let mine : enters K (p.ops place) ≡ 0 = ap (enters K) (sym (placed.old place)) ∙ old_enters m kept K (omega arith) (p.ops place) in
        let all = ap (enters K) (placed.ops place live) ∙ enters_append kept K (p.ops place) (new_ops y m plan f e) in
        let new = all_enters f e in
        let d = diff (within class.nodes (p.next place)) (within class.nodes (source place)) (class.covered f) in
        omega arith;
    left = λ place live.
        let f = place_function y place in
        let e : Edge = record { from = source place; into = p.next place } in
        let ins : in_set kept (q.next place) ≡ bit (within class.nodes (p.next place) && not (class.covered f)) =
        kept_within f (q.next place) (λ v w. laid.along place v live w) ∙ ap (λ o. bit (within class.nodes o && not (class.covered f))) (placed.next place) in
        let outs = kept_within f (source place) (source_function place) in
        let mine : leaves K (p.ops place) ≡ 0 = ap (leaves K) (sym (placed.old place)) ∙ old_leaves m kept K (omega arith) (p.ops place) in
        let all = ap (leaves K) (placed.ops place live) ∙ leaves_append m kept K (omega arith) (p.ops place) (new_ops y m plan f e) in
        let new = all_leaves f e in
        let d = diff (within class.nodes (source place)) (within class.nodes (p.next place)) (class.covered f) in
        omega arith;
  }
