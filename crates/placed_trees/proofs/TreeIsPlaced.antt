-- In the program that the placement makes, each live place has the operations of the program and then those of its edge.
use Rattle.std.proofs.Common.{◌≡◌, ℕ, zero, suc, ◌+◌, ◌≤◌, Bool, true, false, not, ◌&&◌, List, [], ◌∷◌, ◌++◌, map, length, slice_get, Option, Some, None, refl, ap, sym, ◌∙◌, arith}
use Rattle.std.specs.Prelude.{option_map}
use Rattle.cfix_base.specs.declared.number.NodeId.{NodeId}
use Rattle.cfix_base.specs.declared.op.Op.{Op}
use Rattle.cfix_base.specs.declared.op.Op.TheVariants.{Leave, First, Done, Wait, Enter, Add}
use Rattle.cfix_base.specs.declared.place.Place.{Place}
use Rattle.cfix_base.specs.declared.place.Place.TheVariants.{Start, After, True, False}
use Rattle.c_prog.specs.declared.function.Function.{Function}
use Rattle.c_prog.specs.declared.tree.Tree.{Tree}
use Rattle.c_prog.specs.Nodes.{tree_nodes}
use Rattle.c_prog.specs.Order.{Node, act, cond, step, jump, tree_order, node_at}
use Rattle.c_prog.specs.Places.{ops, start_ops, after_ops, true_ops, false_ops}
use Rattle.c_prog.proofs.NodeLaws.{tree_order-length}
use Rattle.flow_graph.specs.Flow.{Next, fn_id, next}
use Rattle.flow_graph.proofs.Graphs.{nodes_before}
use Rattle.step_state.specs.Items.{some_ops}
use Rattle.cfix_base.specs.declared.mark.Marks.{Marks}
use Rattle.c_prog.specs.Marks.{is_new, old_of, keep_old}
use Rattle.placed_trees.specs.AddOps.{placed, sizes, functions_with}
use Rattle.layout_laws.specs.Layout.{Layout, Live, source, place_function}
use Rattle.placed_trees.specs.NodesWith.{node_with}
use Rattle.placed_trees.specs.Placement.{ClassPlan, OrderPlan, Plan, Edge, one_if, each_from, lock, order, leaves_class, enters_class, passes_first, finishes, awaits, adds_order, new_ops, IsPlaced}
use Rattle.c_prog.specs.Marks.{old_ops}
use Rattle.c_prog.specs.Strip.{strip_tree}
use Rattle.step_tables.specs.TreeCode.{next_or_exit, next_of, tree_code}
use Rattle.layout_laws.specs.TreeLayout.{cond_if, layout_of}
use Rattle.placed_trees.specs.TreeOps.{edge_ops, tree_ops, tree_starts, placed_tree, NoClass, NoOrder, HasNodes}
use Rattle.placed_trees.proofs.Edges.{live_edge, node_next, start_next}
use Rattle.layout_laws.proofs.Sited.{met}
use Rattle.placed_trees.proofs.TreePlaced.{added_node}
use Rattle.erase_laws.proofs.TreeStrip.{ops_strip, next_strip}

-- without what is new once, and twice
pub old_twice : {A : Type 0} (new : A → Bool) (xs : List A) → old_of new (old_of new xs) ≡ old_of new xs
old_twice new [] = refl
old_twice new (x ∷ xs) = more (new x) refl (old_twice new xs)
  where
    more : (b : Bool) → new x ≡ b → old_of new (old_of new xs) ≡ old_of new xs → old_of new (keep_old b x (old_of new xs)) ≡ keep_old b x (old_of new xs)
    more true e h = h
    more false e h = ap (λ b. keep_old b x (old_of new (old_of new xs))) e ∙ ap (λ r. x ∷ r) h

-- tests that hold of nothing
abbrev AllFalse : {X : Type 0} → (X → Bool) → List X → Type 0
AllFalse test [] = Unit {0}
AllFalse test (x ∷ xs) = (test x ≡ false) × AllFalse test xs

each_none : {X : Type 0} (test : X → Bool) (op : ℕ → Op) (k : ℕ) (xs : List X) → AllFalse test xs → each_from test op k xs ≡ []
each_none test op k [] h = refl
each_none test op k (x ∷ xs) h = ap (λ b. one_if b (op k) ++ each_from test op (k + 1) xs) h.0 ∙ each_none test op (k + 1) xs h.1

never : {X : Type 0} (test : X → Bool) (xs : List X) → ((x : X) → test x ≡ false) → AllFalse test xs
never test [] h = tt
never test (x ∷ xs) h = (h x, never test xs h)

and_false : (b : Bool) → b && false ≡ false
and_false true = refl
and_false false = refl

past : {A : Type 0} (xs : List A) (n : ℕ) → slice_get xs n ≡ None → length xs ≤ n
past [] n e = omega arith
past (x ∷ xs) zero e = cc
past (x ∷ xs) (suc n) e = let h = past xs n e in omega arith

goes_some : (o : Option Next) (n : ℕ) → next_or_exit o ≡ Some n → o ≡ Some (Some n)
goes_some None n e = cc
goes_some (Some None) n e = cc
goes_some (Some (Some m)) n e = ap Some e

module _ (tree : Tree) (m : Marks) (plan : Plan) (has : HasNodes tree plan) where
  abbrev y : Layout
  y = layout_of tree

  abbrev q : Tree
  q = placed_tree tree m plan

  abbrev O : Place → List Op
  O = tree_ops tree m plan

  abbrev new_at : Place → Option ℕ → List Op
  new_at place into = new_ops y m plan (place_function y place) (record { from = source place; into = into })

  -- a place that is there
  there : (p : Place) → Live y p → (t : Next) → next tree p ≡ Some t → O p ≡ new_at p (next_of tree p)
  there p live t e = ap (edge_ops y m plan p) (live_edge tree p t live e) ∙ ap (new_at p) (sym (ap next_or_exit e))

  -- an edge from nowhere, or from what is no node, to the exit has nothing
  quiet_start : (f : ℕ) → new_ops y m plan f (record { from = None; into = None }) ≡ []
  quiet_start f =
      let e : Edge = record { from = None; into = None } in
      let l = each_none (leaves_class f e) (λ k. Leave (lock k)) m.lock plan.classes (never (leaves_class f e) plan.classes (λ c. refl)) in
      let b = each_none (passes_first e) (λ j. First (order j)) m.order plan.orders (never (passes_first e) plan.orders (λ o. and_false o.is_first)) in
      let d = each_none (finishes (plan.roots f) e) (λ j. Done (order j)) m.order plan.orders (never (finishes (plan.roots f) e) plan.orders (λ o. and_false (plan.roots f))) in
      let w = each_none (awaits e) (λ j. Wait (order j)) m.order plan.orders (never (awaits e) plan.orders (λ o. refl)) in
      let x = each_none (enters_class f e) (λ k. Enter (lock k)) m.lock plan.classes (never (enters_class f e) plan.classes (λ c. refl)) in
      let z = each_none (adds_order y e) (λ j. Add (order j)) m.order plan.orders (never (adds_order y e) plan.orders (λ o. refl)) in
      λ i. l i ++ (b i ++ (d i ++ (w i ++ (x i ++ z i))))

  no_leaves : (f n : ℕ) (cs : List ClassPlan) → NoClass n cs → AllFalse (leaves_class f (record { from = Some n; into = None })) cs
  no_leaves f n [] h = tt
  no_leaves f n (c ∷ cs) h = (ap (λ b. b && not (c.covered f)) h.0, no_leaves f n cs h.1)

  no_firsts : (n : ℕ) (os : List OrderPlan) → NoOrder n os → AllFalse (passes_first (record { from = Some n; into = None })) os
  no_firsts n [] h = tt
  no_firsts n (o ∷ os) h = (ap (λ b. o.is_first && b) h.0 ∙ and_false o.is_first, no_firsts n os h.2)

  no_dones : (root : Bool) (n : ℕ) (os : List OrderPlan) → NoOrder n os → AllFalse (finishes root (record { from = Some n; into = None })) os
  no_dones root n [] h = tt
  no_dones root n (o ∷ os) h = (ap (λ b. root && (b && true)) h.1 ∙ and_false root, no_dones root n os h.2)

  quiet_node : (f n : ℕ) → tree_nodes tree ≤ n → new_ops y m plan f (record { from = Some n; into = None }) ≡ []
  quiet_node f n above =
      let e : Edge = record { from = Some n; into = None } in
      let l = each_none (leaves_class f e) (λ k. Leave (lock k)) m.lock plan.classes (no_leaves f n plan.classes (has.classes n above)) in
      let b = each_none (passes_first e) (λ j. First (order j)) m.order plan.orders (no_firsts n plan.orders (has.orders n above)) in
      let d = each_none (finishes (plan.roots f) e) (λ j. Done (order j)) m.order plan.orders (no_dones (plan.roots f) n plan.orders (has.orders n above)) in
      let w = each_none (awaits e) (λ j. Wait (order j)) m.order plan.orders (never (awaits e) plan.orders (λ o. refl)) in
      let x = each_none (enters_class f e) (λ k. Enter (lock k)) m.lock plan.classes (never (enters_class f e) plan.classes (λ c. refl)) in
      let z = each_none (adds_order y e) (λ j. Add (order j)) m.order plan.orders (never (adds_order y e) plan.orders (λ o. refl)) in
      λ i. l i ++ (b i ++ (d i ++ (w i ++ (x i ++ z i))))

  absent_node : (n : NodeId) → node_at tree n.number ≡ None → new_at (After n) (next_of tree (After n)) ≡ []
  absent_node n none = into (next_of tree (After n)) refl
    where
      above : tree_nodes tree ≤ n.number
      above = let l = tree_order-length tree in let h = past (tree_order tree) n.number none in omega arith

      into : (o : Option ℕ) → next_of tree (After n) ≡ o → new_at (After n) o ≡ []
      into None e = quiet_node (y.function n.number) n.number above
      into (Some v) e =
          let h = met tree (After n) v (goes_some (next tree (After n)) v e) in
          let all = nodes_before tree.functions h.number h.function h.is in
          let within = h.place.1 in
          let over = above in
          absurd (omega arith)

  absent_start : (f : ℕ) → slice_get tree.functions f ≡ None → new_at (Start (fn_id f)) (next_of tree (Start (fn_id f))) ≡ []
  absent_start f none = into (next_of tree (Start (fn_id f))) refl
    where
      into : (o : Option ℕ) → next_of tree (Start (fn_id f)) ≡ o → new_at (Start (fn_id f)) o ≡ []
      into None e = quiet_start f
      into (Some v) e =
          let h = met tree (Start (fn_id f)) v (goes_some (next tree (Start (fn_id f))) v e) in
          let same : f ≡ h.number = h.place in
          let clash : None ≡ Some h.function = sym none ∙ ap (slice_get tree.functions) same ∙ h.is in
          cc

  -- the start of a function
  abbrev start_with : ℕ → Option Function → List Op
  start_with k None = []
  start_with k (Some f) = f.start ++ O (Start (fn_id k))

  start_built : (fs : List Function) (k n i : ℕ) → some_ops (start_ops (slice_get (functions_with O k n fs) i)) ≡ start_with (k + i) (slice_get fs i)
  start_built [] k n i = refl
  start_built (f ∷ fs) k n zero = let same : k ≡ k + 0 = omega arith in ap (λ j. f.start ++ O (Start (fn_id j))) same
  start_built (f ∷ fs) k n (suc i) =
      let same : k + 1 + i ≡ k + suc i = omega arith in
      start_built fs (k + 1) (n + sizes (map placed f.body)) i ∙ ap (λ j. start_with j (slice_get fs i)) same

  start_added : (f : ℕ) (o : Option Function) → slice_get tree.functions f ≡ o → start_with f o ≡ some_ops (start_ops o) ++ new_at (Start (fn_id f)) (next_of tree (Start (fn_id f)))
  start_added f None e = sym (absent_start f e)
  start_added f (Some g) e = let t = start_next tree f g e in ap (λ r. g.start ++ r) (there (Start (fn_id f)) tt t.0 t.1)

  after_added : (n : NodeId) (o : Option Node) → node_at tree n.number ≡ o → cond_if o ≡ false
      → some_ops (after_ops (option_map (node_with O n.number) o)) ≡ some_ops (after_ops o) ++ new_at (After n) (next_of tree (After n))
  after_added n None e live = sym (absent_node n e)
  after_added n (Some (act a after)) e live =
      let t = node_next tree (After n) n.number (act a after) e (refl, refl) in ap (λ r. after ++ r) (there (After n) (ap cond_if e) t.0 t.1)
  after_added n (Some (cond c)) e live = cc
  after_added n (Some (step s)) e live =
      let t = node_next tree (After n) n.number (step s) e (refl, refl) in ap (λ r. s.after ++ r) (there (After n) (ap cond_if e) t.0 t.1)
  after_added n (Some (jump j after)) e live =
      let t = node_next tree (After n) n.number (jump j after) e (refl, refl) in ap (λ r. after ++ r) (there (After n) (ap cond_if e) t.0 t.1)

  true_added : (n : NodeId) (o : Option Node) → node_at tree n.number ≡ o → cond_if o ≡ true → Live y (True n)
      → some_ops (true_ops (option_map (node_with O n.number) o)) ≡ some_ops (true_ops o) ++ new_at (True n) (next_of tree (True n))
  true_added n None e is live = cc
  true_added n (Some (act a after)) e is live = cc
  true_added n (Some (cond c)) e is live =
      let t = node_next tree (True n) n.number (cond c) e (refl, refl) in ap (λ r. c.on_true ++ r) (there (True n) live t.0 t.1)
  true_added n (Some (step s)) e is live = cc
  true_added n (Some (jump j after)) e is live = cc

  false_added : (n : NodeId) (o : Option Node) → node_at tree n.number ≡ o → cond_if o ≡ true → Live y (False n)
      → some_ops (false_ops (option_map (node_with O n.number) o)) ≡ some_ops (false_ops o) ++ new_at (False n) (next_of tree (False n))
  false_added n None e is live = cc
  false_added n (Some (act a after)) e is live = cc
  false_added n (Some (cond c)) e is live =
      let t = node_next tree (False n) n.number (cond c) e (refl, refl) in ap (λ r. c.on_false ++ r) (there (False n) live t.0 t.1)
  false_added n (Some (step s)) e is live = cc
  false_added n (Some (jump j after)) e is live = cc

  pub ops_added : (p : Place) → Live y p → some_ops (ops q p) ≡ some_ops (ops tree p) ++ new_at p (next_of tree p)
  ops_added (Start f) live =
      let same : 0 + f.number ≡ f.number = omega arith in
      start_built tree.functions 0 0 f.number ∙ ap (λ k. start_with k (slice_get tree.functions f.number)) same
      ∙ start_added f.number (slice_get tree.functions f.number) refl
  ops_added (After n) live =
      ap (λ o. some_ops (after_ops o)) (added_node O tree (tree_starts tree m plan) n.number) ∙ after_added n (node_at tree n.number) refl live
  ops_added (True n) live =
      ap (λ o. some_ops (true_ops o)) (added_node O tree (tree_starts tree m plan) n.number) ∙ true_added n (node_at tree n.number) refl live.0 live
  ops_added (False n) live =
      ap (λ o. some_ops (false_ops o)) (added_node O tree (tree_starts tree m plan) n.number) ∙ false_added n (node_at tree n.number) refl live.0 live

  -- the program that the placement makes is placed, if the program is what it is without the new operations
  pub is_placed : strip_tree m q ≡ tree → IsPlaced (tree_code tree) (tree_code q) y m plan
  unfolding tree_code
  is_placed is = record {
    next = λ place. sym (next_strip m q place) ∙ ap (λ t. next_of t place) is;
    old = λ place.
        let own : some_ops (ops tree place) ≡ old_ops m (some_ops (ops q place)) = ap (λ t. some_ops (ops t place)) (sym is) ∙ ops_strip m q place in
        ap (old_of (is_new m)) own ∙ old_twice (is_new m) (some_ops (ops q place)) ∙ sym own;
    ops = ops_added;
  }
