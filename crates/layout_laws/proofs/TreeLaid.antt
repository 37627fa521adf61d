-- What a machine reads of a program has the program's layout.
use Rattle.std.proofs.Common.{◌≡◌, ℕ, zero, suc, ◌+◌, ◌<◌, ℤ, Bool, true, false, ◌==◌, ◌||◌, List, [], ◌∷◌, ◌++◌, slice_get, Option, Some, None, refl, sym, ap, ◌∙◌, subst, arith}
use Rattle.std.specs.Prelude.{slice_index_or}
use Rattle.std.proofs.lemmas.Bool.Decides.{eqb_tells}
use Rattle.std.proofs.Math.Dec.{eqb}
use Rattle.std.proofs.Common.{⊎_elim, ◌≢◌}
use Rattle.cfix_base.specs.declared.place.Place.{Place}
use Rattle.cfix_base.specs.declared.place.Place.TheVariants.{Start, After, True, False}
use Rattle.c_prog.specs.declared.expr.Expr.{Expr}
use Rattle.c_prog.specs.declared.expr.Expr.TheVariants as expr
use Rattle.c_prog.specs.declared.expr.Expr.TheViews.{roll-Expr}
use Rattle.c_prog.specs.declared.expr.Expr.TheOpen.{Expr-F}
use Rattle.c_prog.specs.declared.expr.Expr.TheFolds.{ind-Expr, fold-roll-Expr}
use Rattle.c_prog.specs.declared.expr.Target.{Target}
use Rattle.c_prog.specs.declared.function.Function.{Function}
use Rattle.c_prog.specs.declared.tree.Tree.{Tree}
use Rattle.c_prog.specs.Calls.{created}
use Rattle.c_prog.specs.Nodes.{function_nodes, first_node, tree_nodes}
use Rattle.c_prog.specs.Order.{Node, act, cond, step, jump, functions_order, tree_order, node_at}
use Rattle.c_prog.proofs.NodeLaws.{node_at-within}
use Rattle.flow_graph.specs.Flow.{Next, next, constant, constant_level, constant_target}
use Rattle.flow_graph.proofs.Graphs.{nodes_before}
use Rattle.step_state.specs.declared.item.Item.TheVariants as item
use Rattle.step_state.specs.declared.item.Move.TheVariants as move
use Rattle.step_state.specs.declared.item.Reduction.TheVariants as reduction
use Rattle.step_state.specs.Code.{node}
use Rattle.step_state.specs.Parts.{Part, one, expr_part}
use Rattle.step_state.specs.Items.{node_part, tree_parts, part_items, part_operands, items_of, at_node, main_of}
use Rattle.step_state.proofs.PartEquations.{part-Number}
use Rattle.layout_laws.specs.Layout.{Layout, place_function, InPart, InVisit, IsLaidOut}
use Rattle.step_tables.specs.TreeCode.{next_or_exit, next_of, tree_code}
use Rattle.layout_laws.specs.TreeLayout.{number_if, cond_if, node_constant, constant_if, callee_if, created_if, is_number, some_creates, layout_of}
use Rattle.layout_laws.proofs.PartLaws.{node_visits, node_operands, one_of}
use Rattle.layout_laws.proofs.Sited.{PlaceIn, Met, met, range_function}
use Rattle.layout_laws.proofs.TreeParts.{IsPartOf, Pair, pair_at, tree_parts_of}

-- the node after a place is one that control meets
goes_some : (o : Option Next) (n : ℕ) → next_or_exit o ≡ Some n → o ≡ Some (Some n)
goes_some None n e = cc
goes_some (Some None) n e = cc
goes_some (Some (Some m)) n e = ap Some e

-- an expression that is a number
abbrev E : Type 0
E = Expr

abbrev IsNumber : Expr → Type 0
IsNumber e = (v : ℤ) → constant e ≡ Some v → expr_part e ≡ one (item.Reduce (reduction.Push v))

none_some : (v : ℤ) {A : Type 0} → None ≡ Some v → A
none_some v e = cc

number_level : (z : Expr-F Expr Target) → IsNumber (roll-Expr z)
number_level (Expr-F.Number n) v e =
    let told : Some n ≡ Some v = sym (fold-roll-Expr (Option ℤ) (Option ℤ) constant_level constant_target (Expr-F.Number n)) ∙ e in
    let same : n ≡ v = cc in
    ap expr_part (expr.rolls-Number n) ∙ (part-Number n ∙ ap (λ x. one (item.Reduce (reduction.Push x))) same)
number_level (Expr-F.Read t) v e = none_some v (sym (fold-roll-Expr (Option ℤ) (Option ℤ) constant_level constant_target (Expr-F.Read t)) ∙ e)
number_level (Expr-F.Cast x) v e = none_some v (sym (fold-roll-Expr (Option ℤ) (Option ℤ) constant_level constant_target (Expr-F.Cast x)) ∙ e)
number_level (Expr-F.Neg x) v e = none_some v (sym (fold-roll-Expr (Option ℤ) (Option ℤ) constant_level constant_target (Expr-F.Neg x)) ∙ e)
number_level (Expr-F.Not x) v e = none_some v (sym (fold-roll-Expr (Option ℤ) (Option ℤ) constant_level constant_target (Expr-F.Not x)) ∙ e)
number_level (Expr-F.Binary o l r) v e = none_some v (sym (fold-roll-Expr (Option ℤ) (Option ℤ) constant_level constant_target (Expr-F.Binary o l r)) ∙ e)

is_number_part : (e : Expr) → IsNumber e
is_number_part = ind-Expr IsNumber (λ t. Unit {0}) (λ x z is. subst (λ w. IsNumber (roll-Expr w)) is (number_level _)) (λ x z is. tt)

-- a creation makes a root
creates_root : (ws : List Node) (n g : ℕ) → created_if (slice_get ws n) ≡ Some g → some_creates ws g ≡ true
creates_root [] n g e = cc
creates_root (w ∷ ws) zero g e = ap (λ b. b || some_creates ws g) (is_g (number_if (created w)) e)
  where
    is_g : (o : Option ℕ) → o ≡ Some g → is_number o g ≡ true
    is_g None e = cc
    is_g (Some h) e = ⊎_elim (λ (p : (eqb h g ≡ true) × (h ≡ g)). p.0) (λ (p : (eqb h g ≡ false) × (h ≢ g)). absurd (p.1 cc)) (eqb_tells h g)
creates_root (w ∷ ws) (suc n) g e = ap (λ b. is_number (number_if (created w)) g || b) (creates_root ws n g e) ∙ or_true (is_number (number_if (created w)) g)
  where
    or_true : (b : Bool) → b || true ≡ true
    or_true true = refl
    or_true false = refl

module _ (tree : Tree) where
  abbrev y : Layout
  y = layout_of tree

  abbrev pairs : (n : ℕ) → Pair (slice_get (tree_parts tree) n) (node_at tree n)
  pairs n = pair_at (tree_parts tree) (functions_order tree.functions) n (tree_parts_of tree.functions)

  part_visits : (p : Part) (w : Node) (n : ℕ) → node_at tree n ≡ Some w → IsPartOf p w → InVisit y n (p.items (at_node n))
  part_visits p w n is of =
      subst (λ q. InVisit y n (q.items (at_node n))) (sym of.1) (node_visits y n of.0 w (ap callee_if is) (ap created_if is) (ap cond_if is))

  some_visits : (o : Option Part) (w : Node) (n : ℕ) → node_at tree n ≡ Some w → Pair o (Some w) → InVisit y n (part_items n o)
  some_visits None w n is h = absurd h
  some_visits (Some p) w n is h = part_visits p w n is h

  node_visited : (n : ℕ) → n < tree_nodes tree → InVisit y n (items_of tree n)
  node_visited n within =
      let there = node_at-within tree n within in
      some_visits (slice_get (tree_parts tree) n) there.0 n there.1 (subst (Pair (slice_get (tree_parts tree) n)) there.1 (pairs n))

  met_node : (place : Place) (n : ℕ) → next_of tree place ≡ Some n → Met tree place n
  met_node place n e = met tree place n (goes_some (next tree place) n e)

  met_within : (place : Place) (n : ℕ) → Met tree place n → n < tree_nodes tree
  met_within place n h = let all = nodes_before tree.functions h.number h.function h.is in let high = h.high in omega arith

  place_at : (place : Place) (k : ℕ) (f : Function) → slice_get tree.functions k ≡ Some f → PlaceIn k (first_node tree k) (first_node tree k + function_nodes f) place
      → place_function y place ≡ k
  place_at (Start g) k f is h = h
  place_at (After n) k f is h = range_function tree.functions k f n.number is h.0 h.1
  place_at (True n) k f is h = range_function tree.functions k f n.number is h.0 h.1
  place_at (False n) k f is h = range_function tree.functions k f n.number is h.0 h.1

  operands_in : (o : Option Part) (v : Option Node) (n i : ℕ) → node_at tree n ≡ v → Pair o v → InPart y n (slice_index_or (part_operands n o) i [])
  operands_in None v n i is h = tt
  operands_in (Some p) None n i is h = absurd h
  operands_in (Some p) (Some w) n i is h =
      subst (λ q. InPart y n (slice_index_or (q.operands (at_node n)) i [])) (sym h.1)
      (one_of y n ((node_part h.0 w).operands (at_node n)) i (node_operands y n h.0 w (ap callee_if is) (ap created_if is)))

  -- conditions that are numbers
  fixed_part : (p : Part) (w : Node) (n : ℕ) (v : ℤ) → node_constant w ≡ Some v → IsPartOf p w
      → p.items (at_node n) ≡ item.Reduce (reduction.Push v) ∷ item.Go (move.Branch (node n)) ∷ []
  fixed_part p (act a after) n v e of = cc
  fixed_part p (step s) n v e of = cc
  fixed_part p (jump j after) n v e of = cc
  fixed_part p (cond c) n v e of =
      ap (λ q. q.items (at_node n)) of.1 ∙ ap (λ q. q.items (at_node n) ++ item.Go (move.Branch (node n)) ∷ []) (is_number_part c.test v e)

  fixed_items : (o : Option Part) (w : Option Node) (n : ℕ) (v : ℤ) → constant_if w ≡ Some v → Pair o w
      → part_items n o ≡ item.Reduce (reduction.Push v) ∷ item.Go (move.Branch (node n)) ∷ []
  fixed_items o None n v e h = cc
  fixed_items None (Some w) n v e h = absurd h
  fixed_items (Some p) (Some w) n v e h = fixed_part p w n v e h

  no_call : (w : Option Node) (v : ℤ) → constant_if w ≡ Some v → callee_if w ≡ None
  no_call None v e = refl
  no_call (Some (act a after)) v e = cc
  no_call (Some (step s)) v e = cc
  no_call (Some (jump j after)) v e = cc
  no_call (Some (cond c)) v e = refl

  own_main : (n : ℕ) (b : Bool) → (n == n) || b ≡ true
  own_main n b = ap (λ x. x || b) (⊎_elim (λ (p : (eqb n n ≡ true) × (n ≡ n)). p.0) (λ (p : (eqb n n ≡ false) × (n ≢ n)). absurd (p.1 refl)) (eqb_tells n n))

  or_right : (a b : Bool) → b ≡ true → a || b ≡ true
  or_right true b e = refl
  or_right false b e = e

  pub laid_out : IsLaidOut (tree_code tree) y
  unfolding tree_code
  laid_out = record {
    visits = λ place n live e. node_visited n (met_within place n (met_node place n e));
    along = λ place n live e.
        let h = met_node place n e in
        range_function tree.functions h.number h.function n h.is h.low h.high ∙ sym (place_at place h.number h.function h.is h.place);
    operands = λ r. operands_in (slice_get (tree_parts tree) r.node.number) (node_at tree r.node.number) r.node.number r.number refl (pairs r.node.number);
    fixed = λ n v e. fixed_items (slice_get (tree_parts tree) n) (node_at tree n) n v e (pairs n);
    no_call = λ n v e. no_call (node_at tree n) v e;
    created = λ n g e. or_right (g == main_of tree.functions) (some_creates (tree_order tree) g) (creates_root (tree_order tree) n g e);
    main = own_main (main_of tree.functions) (some_creates (tree_order tree) (main_of tree.functions));
  }
