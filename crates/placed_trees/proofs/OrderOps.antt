-- The new operations of an edge have, of each order, those that its tests say.
use Rattle.std.proofs.Common.{◌≡◌, ◌≢◌, ℕ, zero, suc, ◌+◌, ◌<◌, ◌≤◌, Bool, true, false, ◌==◌, List, [], ◌∷◌, ◌++◌, Some, slice_get, refl, sym, ap, ◌∙◌, arith}
use Rattle.cfix_base.specs.declared.op.Op.{Op}
use Rattle.cfix_base.specs.declared.op.Op.TheVariants.{Leave, First, Done, Wait, Enter, Add}
use Rattle.cfix_base.specs.declared.mark.Marks.{Marks}
use Rattle.c_prog.specs.Marks.{is_new, old_of, keep_old}
use Rattle.lock_laws.specs.Guard.{bit}
use Rattle.layout_laws.specs.Layout.{Layout}
use Rattle.placed_trees.specs.Placement.{OrderPlan, Plan, Edge, one_if, each_from, lock, order, leaves_class, enters_class, passes_first, finishes, awaits, adds_order, new_ops}
use Rattle.order_laws.specs.Tokens.{adds, dones, waits, firsts}
use Rattle.lock_laws.proofs.Counts.{own_bit, other_bit}
use Rattle.erase_laws.proofs.Plain.{is_below}

-- a count of operations by what each counts for
module _ (count : List Op → ℕ) (weight : Op → ℕ) (none : count [] ≡ 0) (more : (o : Op) (ops : List Op) → count (o ∷ ops) ≡ weight o + count ops) where
  pub count_append : (a b : List Op) → count (a ++ b) ≡ count a + count b
  count_append [] b = omega (arith, none)
  count_append (o ∷ a) b = omega (arith, count_append a b, more o a, more o (a ++ b))

  module _ (op : ℕ → Op) where
    zero_more : (b : Bool) (i : ℕ) (rest : List Op) → weight (op i) ≡ 0 → count (one_if b (op i) ++ rest) ≡ count rest
    zero_more true i rest e = omega (arith, e, more (op i) rest)
    zero_more false i rest e = refl

    own_more : (b : Bool) (i : ℕ) (rest : List Op) → weight (op i) ≡ 1 → count (one_if b (op i) ++ rest) ≡ bit b + count rest
    own_more true i rest e = omega (arith, e, more (op i) rest)
    own_more false i rest e = omega arith

    module _ {X : Type 0} (test : X → Bool) where
      pub each_zero : ((i : ℕ) → weight (op i) ≡ 0) → (i : ℕ) (xs : List X) → count (each_from test op i xs) ≡ 0
      each_zero other i [] = none
      each_zero other i (x ∷ xs) = zero_more (test x) i (each_from test op (i + 1) xs) (other i) ∙ each_zero other (i + 1) xs

      module _ (k : ℕ) (own : weight (op k) ≡ 1) (others : (i : ℕ) → i ≢ k → weight (op i) ≡ 0) where
        each_past : (i : ℕ) (xs : List X) → k < i → count (each_from test op i xs) ≡ 0
        each_past i [] above = none
        each_past i (x ∷ xs) above =
            zero_more (test x) i (each_from test op (i + 1) xs) (others i (λ e. omega arith)) ∙ each_past (i + 1) xs (omega arith)

        pub each_own : (i n : ℕ) (xs : List X) (x : X) → i + n ≡ k → slice_get xs n ≡ Some x → count (each_from test op i xs) ≡ bit (test x)
        each_own i n [] x at is = cc
        each_own i zero (v ∷ xs) x at is =
            let same : i ≡ k = omega arith in
            let late = each_past (i + 1) xs (omega arith) in
            let first = own_more (test v) i (each_from test op (i + 1) xs) (ap (λ j. weight (op j)) same ∙ own) in
            let it : v ≡ x = cc in
            let told : bit (test v) ≡ bit (test x) = ap (λ z. bit (test z)) it in
            omega arith
        each_own i (suc n) (v ∷ xs) x at is =
            zero_more (test v) i (each_from test op (i + 1) xs) (others i (λ e. omega arith)) ∙ each_own (i + 1) n xs x (omega arith) is

  -- what is not new counts for nothing
  pub count_old : (m : Marks) → ((o : Op) → is_new m o ≡ false → weight o ≡ 0) → (ops : List Op) → count (old_of (is_new m) ops) ≡ 0
  count_old m old [] = none
  count_old m old (o ∷ ops) = on (is_new m o) refl (count_old m old ops)
    where
      on : (b : Bool) → is_new m o ≡ b → count (old_of (is_new m) ops) ≡ 0 → count (keep_old b o (old_of (is_new m) ops)) ≡ 0
      on true e h = h
      on false e h = omega (arith, h, old o e, more o (old_of (is_new m) ops))

  module _ (y : Layout) (m : Marks) (plan : Plan) (f : ℕ) (e : Edge) where
    abbrev a : List Op
    a = each_from (leaves_class f e) (λ k. Leave (lock k)) m.lock plan.classes

    abbrev b : List Op
    b = each_from (passes_first e) (λ j. First (order j)) m.order plan.orders

    abbrev d : List Op
    d = each_from (finishes (plan.roots f) e) (λ j. Done (order j)) m.order plan.orders

    abbrev w : List Op
    w = each_from (awaits e) (λ j. Wait (order j)) m.order plan.orders

    abbrev x : List Op
    x = each_from (enters_class f e) (λ k. Enter (lock k)) m.lock plan.classes

    abbrev z : List Op
    z = each_from (adds_order y e) (λ j. Add (order j)) m.order plan.orders

    pub count_new : count (new_ops y m plan f e) ≡ count a + (count b + (count d + (count w + (count x + count z))))
    count_new = omega (
      arith,
      count_append a (b ++ (d ++ (w ++ (x ++ z)))),
      count_append b (d ++ (w ++ (x ++ z))),
      count_append d (w ++ (x ++ z)),
      count_append w (x ++ z),
      count_append x z,
    )

abbrev add_weight : ℕ → Op → ℕ
add_weight j (Leave i) = 0
add_weight j (First i) = 0
add_weight j (Done i) = 0
add_weight j (Wait i) = 0
add_weight j (Enter i) = 0
add_weight j (Add i) = bit (i.number == j)

add_more : (j : ℕ) (o : Op) (ops : List Op) → adds j (o ∷ ops) ≡ add_weight j o + adds j ops
add_more j (Leave i) ops = omega arith
add_more j (First i) ops = omega arith
add_more j (Done i) ops = omega arith
add_more j (Wait i) ops = omega arith
add_more j (Enter i) ops = omega arith
add_more j (Add i) ops = refl

add_old : (m : Marks) (j : ℕ) → m.order ≤ j → (o : Op) → is_new m o ≡ false → add_weight j o ≡ 0
add_old m j new (Leave i) e = refl
add_old m j new (First i) e = refl
add_old m j new (Done i) e = refl
add_old m j new (Wait i) e = refl
add_old m j new (Enter i) e = refl
add_old m j new (Add i) e = other_bit (λ n. false) j i.number (λ s. let b = is_below m.order i.number e in absurd (omega arith))

abbrev done_weight : ℕ → Op → ℕ
done_weight j (Leave i) = 0
done_weight j (First i) = 0
done_weight j (Done i) = bit (i.number == j)
done_weight j (Wait i) = 0
done_weight j (Enter i) = 0
done_weight j (Add i) = 0

done_more : (j : ℕ) (o : Op) (ops : List Op) → dones j (o ∷ ops) ≡ done_weight j o + dones j ops
done_more j (Leave i) ops = omega arith
done_more j (First i) ops = omega arith
done_more j (Done i) ops = refl
done_more j (Wait i) ops = omega arith
done_more j (Enter i) ops = omega arith
done_more j (Add i) ops = omega arith

done_old : (m : Marks) (j : ℕ) → m.order ≤ j → (o : Op) → is_new m o ≡ false → done_weight j o ≡ 0
done_old m j new (Leave i) e = refl
done_old m j new (First i) e = refl
done_old m j new (Done i) e = other_bit (λ n. false) j i.number (λ s. let b = is_below m.order i.number e in absurd (omega arith))
done_old m j new (Wait i) e = refl
done_old m j new (Enter i) e = refl
done_old m j new (Add i) e = refl

abbrev wait_weight : ℕ → Op → ℕ
wait_weight j (Leave i) = 0
wait_weight j (First i) = 0
wait_weight j (Done i) = 0
wait_weight j (Wait i) = bit (i.number == j)
wait_weight j (Enter i) = 0
wait_weight j (Add i) = 0

wait_more : (j : ℕ) (o : Op) (ops : List Op) → waits j (o ∷ ops) ≡ wait_weight j o + waits j ops
wait_more j (Leave i) ops = omega arith
wait_more j (First i) ops = omega arith
wait_more j (Done i) ops = omega arith
wait_more j (Wait i) ops = refl
wait_more j (Enter i) ops = omega arith
wait_more j (Add i) ops = omega arith

wait_old : (m : Marks) (j : ℕ) → m.order ≤ j → (o : Op) → is_new m o ≡ false → wait_weight j o ≡ 0
wait_old m j new (Leave i) e = refl
wait_old m j new (First i) e = refl
wait_old m j new (Done i) e = refl
wait_old m j new (Wait i) e = other_bit (λ n. false) j i.number (λ s. let b = is_below m.order i.number e in absurd (omega arith))
wait_old m j new (Enter i) e = refl
wait_old m j new (Add i) e = refl

abbrev first_weight : ℕ → Op → ℕ
first_weight j (Leave i) = 0
first_weight j (First i) = bit (i.number == j)
first_weight j (Done i) = 0
first_weight j (Wait i) = 0
first_weight j (Enter i) = 0
first_weight j (Add i) = 0

first_more : (j : ℕ) (o : Op) (ops : List Op) → firsts j (o ∷ ops) ≡ first_weight j o + firsts j ops
first_more j (Leave i) ops = omega arith
first_more j (First i) ops = refl
first_more j (Done i) ops = omega arith
first_more j (Wait i) ops = omega arith
first_more j (Enter i) ops = omega arith
first_more j (Add i) ops = omega arith

first_old : (m : Marks) (j : ℕ) → m.order ≤ j → (o : Op) → is_new m o ≡ false → first_weight j o ≡ 0
first_old m j new (Leave i) e = refl
first_old m j new (First i) e = other_bit (λ n. false) j i.number (λ s. let b = is_below m.order i.number e in absurd (omega arith))
first_old m j new (Done i) e = refl
first_old m j new (Wait i) e = refl
first_old m j new (Enter i) e = refl
first_old m j new (Add i) e = refl

module _ (y : Layout) (m : Marks) (plan : Plan) (n : ℕ) (o : OrderPlan) (is : slice_get plan.orders n ≡ Some o) where
  abbrev pub J : ℕ
  J = m.order + n

  pub new_adds : (f : ℕ) (e : Edge) → adds J (new_ops y m plan f e) ≡ bit (adds_order y e o)
  new_adds f e = omega (
    arith,
    count_new (adds J) (add_weight J) refl (add_more J) y m plan f e,
    each_zero (adds J) (add_weight J) refl (add_more J) (λ k. Leave (lock k)) (leaves_class f e) (λ i. refl) m.lock plan.classes,
    each_zero (adds J) (add_weight J) refl (add_more J) (λ j. First (order j)) (passes_first e) (λ i. refl) m.order plan.orders,
    each_zero (adds J) (add_weight J) refl (add_more J) (λ j. Done (order j)) (finishes (plan.roots f) e) (λ i. refl) m.order plan.orders,
    each_zero (adds J) (add_weight J) refl (add_more J) (λ j. Wait (order j)) (awaits e) (λ i. refl) m.order plan.orders,
    each_zero (adds J) (add_weight J) refl (add_more J) (λ k. Enter (lock k)) (enters_class f e) (λ i. refl) m.lock plan.classes,
    each_own (adds J) (add_weight J) refl (add_more J) (λ j. Add (order j)) (adds_order y e) J (own_bit (λ i. false) J J refl) (λ i ne. other_bit (λ k. false) J i ne) m.order n plan.orders o refl is,
  )

  pub both_adds : (f : ℕ) (e : Edge) (old : List Op) → old_of (is_new m) old ≡ old → adds J (old ++ new_ops y m plan f e) ≡ bit (adds_order y e o)
  both_adds f e old same =
      let none : adds J old ≡ 0 = ap (adds J) (sym same) ∙ count_old (adds J) (add_weight J) refl (add_more J) m (add_old m J (omega arith)) old in
      let all = count_append (adds J) (add_weight J) refl (add_more J) old (new_ops y m plan f e) in
      let new = new_adds f e in
      omega arith

  pub new_dones : (f : ℕ) (e : Edge) → dones J (new_ops y m plan f e) ≡ bit (finishes (plan.roots f) e o)
  new_dones f e = omega (
    arith,
    count_new (dones J) (done_weight J) refl (done_more J) y m plan f e,
    each_zero (dones J) (done_weight J) refl (done_more J) (λ k. Leave (lock k)) (leaves_class f e) (λ i. refl) m.lock plan.classes,
    each_zero (dones J) (done_weight J) refl (done_more J) (λ j. First (order j)) (passes_first e) (λ i. refl) m.order plan.orders,
    each_own (dones J) (done_weight J) refl (done_more J) (λ j. Done (order j)) (finishes (plan.roots f) e) J (own_bit (λ i. false) J J refl) (λ i ne. other_bit (λ k. false) J i ne) m.order n plan.orders o refl is,
    each_zero (dones J) (done_weight J) refl (done_more J) (λ j. Wait (order j)) (awaits e) (λ i. refl) m.order plan.orders,
    each_zero (dones J) (done_weight J) refl (done_more J) (λ k. Enter (lock k)) (enters_class f e) (λ i. refl) m.lock plan.classes,
    each_zero (dones J) (done_weight J) refl (done_more J) (λ j. Add (order j)) (adds_order y e) (λ i. refl) m.order plan.orders,
  )

  pub both_dones : (f : ℕ) (e : Edge) (old : List Op) → old_of (is_new m) old ≡ old → dones J (old ++ new_ops y m plan f e) ≡ bit (finishes (plan.roots f) e o)
  both_dones f e old same =
      let none : dones J old ≡ 0 = ap (dones J) (sym same) ∙ count_old (dones J) (done_weight J) refl (done_more J) m (done_old m J (omega arith)) old in
      let all = count_append (dones J) (done_weight J) refl (done_more J) old (new_ops y m plan f e) in
      let new = new_dones f e in
      omega arith

  pub new_waits : (f : ℕ) (e : Edge) → waits J (new_ops y m plan f e) ≡ bit (awaits e o)
  new_waits f e = omega (
    arith,
    count_new (waits J) (wait_weight J) refl (wait_more J) y m plan f e,
    each_zero (waits J) (wait_weight J) refl (wait_more J) (λ k. Leave (lock k)) (leaves_class f e) (λ i. refl) m.lock plan.classes,
    each_zero (waits J) (wait_weight J) refl (wait_more J) (λ j. First (order j)) (passes_first e) (λ i. refl) m.order plan.orders,
    each_zero (waits J) (wait_weight J) refl (wait_more J) (λ j. Done (order j)) (finishes (plan.roots f) e) (λ i. refl) m.order plan.orders,
    each_own (waits J) (wait_weight J) refl (wait_more J) (λ j. Wait (order j)) (awaits e) J (own_bit (λ i. false) J J refl) (λ i ne. other_bit (λ k. false) J i ne) m.order n plan.orders o refl is,
    each_zero (waits J) (wait_weight J) refl (wait_more J) (λ k. Enter (lock k)) (enters_class f e) (λ i. refl) m.lock plan.classes,
    each_zero (waits J) (wait_weight J) refl (wait_more J) (λ j. Add (order j)) (adds_order y e) (λ i. refl) m.order plan.orders,
  )

  pub both_waits : (f : ℕ) (e : Edge) (old : List Op) → old_of (is_new m) old ≡ old → waits J (old ++ new_ops y m plan f e) ≡ bit (awaits e o)
  both_waits f e old same =
      let none : waits J old ≡ 0 = ap (waits J) (sym same) ∙ count_old (waits J) (wait_weight J) refl (wait_more J) m (wait_old m J (omega arith)) old in
      let all = count_append (waits J) (wait_weight J) refl (wait_more J) old (new_ops y m plan f e) in
      let new = new_waits f e in
      omega arith

  pub new_firsts : (f : ℕ) (e : Edge) → firsts J (new_ops y m plan f e) ≡ bit (passes_first e o)
  new_firsts f e = omega (
    arith,
    count_new (firsts J) (first_weight J) refl (first_more J) y m plan f e,
    each_zero (firsts J) (first_weight J) refl (first_more J) (λ k. Leave (lock k)) (leaves_class f e) (λ i. refl) m.lock plan.classes,
    each_own (firsts J) (first_weight J) refl (first_more J) (λ j. First (order j)) (passes_first e) J (own_bit (λ i. false) J J refl) (λ i ne. other_bit (λ k. false) J i ne) m.order n plan.orders o refl is,
    each_zero (firsts J) (first_weight J) refl (first_more J) (λ j. Done (order j)) (finishes (plan.roots f) e) (λ i. refl) m.order plan.orders,
    each_zero (firsts J) (first_weight J) refl (first_more J) (λ j. Wait (order j)) (awaits e) (λ i. refl) m.order plan.orders,
    each_zero (firsts J) (first_weight J) refl (first_more J) (λ k. Enter (lock k)) (enters_class f e) (λ i. refl) m.lock plan.classes,
    each_zero (firsts J) (first_weight J) refl (first_more J) (λ j. Add (order j)) (adds_order y e) (λ i. refl) m.order plan.orders,
  )

  pub both_firsts : (f : ℕ) (e : Edge) (old : List Op) → old_of (is_new m) old ≡ old → firsts J (old ++ new_ops y m plan f e) ≡ bit (passes_first e o)
  both_firsts f e old same =
      let none : firsts J old ≡ 0 = ap (firsts J) (sym same) ∙ count_old (firsts J) (first_weight J) refl (first_more J) m (first_old m J (omega arith)) old in
      let all = count_append (firsts J) (first_weight J) refl (first_more J) old (new_ops y m plan f e) in
      let new = new_firsts f e in
      omega arith
