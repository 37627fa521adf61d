-- The program that the placement makes gives its signals: the tokens of an order are added, taken and waited for where the
-- order's plan says.
use Rattle.std.proofs.Common.{◌≡◌, ◌≢◌, ⊎_elim, inl, inr, ℕ, ◌+◌, ◌-◌, ◌<◌, Bool, true, false, not, ◌&&◌, slice_get, Option, Some, None, refl, sym, ap, ◌∙◌, subst, arith}
use Rattle.std.proofs.lemmas.Bool.Decides.{eqb_tells}
use Rattle.std.proofs.Math.Dec.{eqb}
use Rattle.cfix_base.specs.declared.place.Place.{Place}
use Rattle.cfix_base.specs.declared.place.Place.TheVariants.{Start, After, True, False}
use Rattle.c_prog.specs.declared.tree.Tree.{Tree}
use Rattle.flow_graph.specs.Flow.{fn_id}
use Rattle.flow_graph.specs.Paths.{entry}
use Rattle.step_state.specs.Code.{Code}
use Rattle.cfix_base.specs.declared.mark.Marks.{Marks}
use Rattle.placed_trees.specs.Coming.{IsOrder, RootsUncalled}
use Rattle.lock_laws.specs.Coverage.{kept_in}
use Rattle.lock_laws.specs.Guard.{bit, in_set, Carries}
use Rattle.layout_laws.specs.Layout.{Layout, Live, source, place_function, IsLaidOut}
use Rattle.placed_trees.specs.Placement.{ClassPlan, OrderPlan, Plan, Edge, within, is_node, from_or, created_at, IsPlaced}
use Rattle.c_prog.specs.Strip.{strip_tree}
use Rattle.order_laws.specs.Tokens.{adds, dones, waits, firsts, first_of, owes, before_set, created_comes, creates, Signals, CreatesOnce}
use Rattle.step_tables.specs.TreeCode.{next_of, tree_code}
use Rattle.layout_laws.specs.TreeLayout.{layout_of}
use Rattle.placed_trees.specs.TreeOps.{placed_tree, HasNodes}
use Rattle.placed_trees.proofs.Creating.{creates_once}
use Rattle.placed_trees.proofs.Comings.{first_entry, next_some, live_link, may_reaches, reaches_may, may_self, may_before, may_starts}
use Rattle.placed_trees.proofs.OrderOps.{both_adds, both_dones, both_waits, both_firsts}
use Rattle.placed_trees.proofs.Placement.{carries}
use Rattle.erase_laws.proofs.SameLayout.{layout_strip}
use Rattle.placed_trees.proofs.TreeIsPlaced.{is_placed}
use Rattle.layout_laws.proofs.TreeLaid.{laid_out}

-- tests of an edge as differences
none_of : (r s : Bool) → bit (r && (s && not s)) ≡ 0
none_of true true = refl
none_of true false = refl
none_of false s = refl

to_exit : (r s : Bool) → bit (r && (s && true)) ≡ bit (r && s) - 0
to_exit true true = refl
to_exit true false = refl
to_exit false s = refl

to_node : (r s t : Bool) → bit (r && (s && not t)) ≡ bit (r && s) - bit (r && t)
to_node true true true = refl
to_node true true false = refl
to_node true false true = refl
to_node true false false = refl
to_node false s t = refl

node_is : (b : Bool) (s : Option ℕ) (a : ℕ) → 0 < bit (b && is_node s a) → s ≡ Some a
node_is false s a h = absurd (omega (arith, h))
node_is true None a h = absurd (omega (arith, h))
node_is true (Some u) a h = ⊎_elim
    (λ (p : (eqb u a ≡ true) × (u ≡ a)). ap Some p.1)
    (λ (p : (eqb u a ≡ false) × (u ≢ a)). let none : bit (eqb u a) ≡ 0 = ap bit p.0 in absurd (omega arith)) (eqb_tells u a)

own_node : (b : ℕ) → bit (is_node (Some b) b) ≡ 1
own_node b = ⊎_elim (λ (p : (eqb b b ≡ true) × (b ≡ b)). ap bit p.0) (λ (p : (eqb b b ≡ false) × (b ≢ b)). absurd (p.1 refl)) (eqb_tells b b)

module _ (tree : Tree) (m : Marks) (plan : Plan) (has : HasNodes tree plan) (is : strip_tree m (placed_tree tree m plan) ≡ tree) where
  abbrev y : Layout
  y = layout_of tree

  abbrev p : Code
  p = tree_code tree

  abbrev c : Code
  c = tree_code (placed_tree tree m plan)

  pub placed : IsPlaced p c y m plan
  placed = is_placed tree m plan has is

  pub same_layout : layout_of (placed_tree tree m plan) ≡ y
  same_layout = sym (layout_strip m (placed_tree tree m plan)) ∙ ap layout_of is

  -- the placed program has the program's layout
  pub laid : IsLaidOut c y
  laid = subst (λ z. IsLaidOut c z) same_layout (laid_out (placed_tree tree m plan))

  pub once : (comes : ℕ → Bool) → CreatesOnce c y comes
  once comes = subst (λ z. CreatesOnce c z comes) same_layout (creates_once (placed_tree tree m plan) comes)

  -- and carries each class's lock
  pub tree_carries : (n : ℕ) (class : ClassPlan) → slice_get plan.classes n ≡ Some class → Carries c y (kept_in y class.nodes class.covered) (m.lock + n)
  tree_carries n class at = carries y m plan n class at p c laid placed

  old_next : (place : Place) → p.next place ≡ next_of tree place
  unfolding tree_code
  old_next place = refl

  pub next_is : (place : Place) → c.next place ≡ next_of tree place
  next_is place = placed.next place ∙ old_next place

  first_is : (g : ℕ) → first_of c g ≡ entry tree g
  first_is g = next_is (Start (fn_id g)) ∙ first_entry tree g

  in_function : (g v : ℕ) → first_of c g ≡ Some v → y.function v ≡ g
  in_function g v e = laid.along (Start (fn_id g)) v tt e

  module _ (n : ℕ) (o : OrderPlan) (at : slice_get plan.orders n ≡ Some o) (coming : IsOrder tree o)
      (roots : (f : ℕ) → plan.roots f ≡ y.is_root f) (uncalled : RootsUncalled y) where
    abbrev J : ℕ
    J = m.order + n

    abbrev root : ℕ → Bool
    root u = y.is_root (y.function u)

    abbrev edge_of : Place → Edge
    edge_of place = record { from = source place; into = p.next place }

    reach_bit : (g : ℕ) → bit (o.reaches g) ≡ in_set o.may (first_of c g)
    reach_bit g = decide (o.reaches g) refl ∙ ap (in_set o.may) (sym (first_is g))
      where
        none : (w : Option ℕ) → entry tree g ≡ w → o.reaches g ≡ false → 0 ≡ in_set o.may w
        none None e not_reached = refl
        none (Some v) e not_reached = by (o.may v) refl
          where
            by : (b : Bool) → o.may v ≡ b → 0 ≡ bit b
            by false f = refl
            by true f =
                let reached = coming.all_reach g (may_reaches tree o.a g v e (in_function g v (first_is g ∙ e)) (coming.may v f)) in
                let clash : true ≡ false = sym reached ∙ not_reached in
                cc

        decide : (b : Bool) → o.reaches g ≡ b → bit b ≡ in_set o.may (entry tree g)
        decide true e =
            let r = reaches_may tree o.a g (coming.reaches g e) in
            sym (ap (in_set o.may) r.1 ∙ ap bit (coming.all_may r.0 r.2))
        decide false e = none (entry tree g) refl e

    created_bit : (into : Option ℕ) → bit (within o.reaches (created_at y into)) ≡ creates c y o.may into
    created_bit None = refl
    created_bit (Some v) = by (y.created v)
      where
        by : (x : Option ℕ) → bit (within o.reaches x) ≡ created_comes c o.may x
        by None = refl
        by (Some g) = reach_bit g

    node_done : (u : ℕ) (into : Option ℕ) → ((v : ℕ) → into ≡ Some v → y.function v ≡ y.function u)
        → bit (plan.roots (y.function u) && (o.may u && not (within o.may into))) ≡ bit (owes o.may root u) - in_set (owes o.may root) into
    node_done u None along =
        ap (λ r. bit (r && (o.may u && true))) (roots (y.function u)) ∙ to_exit (y.is_root (y.function u)) (o.may u)
    node_done u (Some v) along =
        ap (λ r. bit (r && (o.may u && not (o.may v)))) (roots (y.function u))
        ∙ to_node (y.is_root (y.function u)) (o.may u) (o.may v)
        ∙ ap (λ f. bit (owes o.may root u) - bit (y.is_root f && o.may v)) (sym (along v refl))

    along_of : (place : Place) → Live y place → (v : ℕ) → p.next place ≡ Some v → y.function v ≡ place_function y place
    along_of place live v e = laid.along place v live (placed.next place ∙ e)

    done_bits : (place : Place) → Live y place
        → bit (plan.roots (place_function y place) && (within o.may (from_or (source place) (p.next place)) && not (within o.may (p.next place))))
        ≡ before_set c (owes o.may root) place - in_set (owes o.may root) (p.next place)
    done_bits (Start f) live =
        let none = none_of (plan.roots f.number) (within o.may (p.next (Start f))) in
        let same : in_set (owes o.may root) (first_of c f.number) ≡ in_set (owes o.may root) (p.next (Start f)) = ap (in_set (owes o.may root)) (placed.next (Start f)) in
        omega arith
    done_bits (After u) live = node_done u.number (p.next (After u)) (along_of (After u) live)
    done_bits (True u) live = node_done u.number (p.next (True u)) (along_of (True u) live)
    done_bits (False u) live = node_done u.number (p.next (False u)) (along_of (False u) live)

    not_root : (g : ℕ) → (y.is_root g ≡ true → ⊥) → (b : Bool) → y.is_root g ≡ b → b ≡ false
    not_root g none true e = absurd (none e)
    not_root g none false e = refl

    pub signals : Signals c y J o.a o.b o.may root
    signals = record {
      comes_a = coming.all_may o.a (may_self tree o.a);
      comes_on = λ place u v live from into may.
          coming.all_may u (may_before tree o.a u v (live_link tree place u v live from (next_some tree place v (sym (next_is place) ∙ into))) (coming.may v may));
      comes_call = λ u g v call first may.
          coming.all_may u (may_starts tree o.a u g (inl call) (may_reaches tree o.a g v (sym (first_is g) ∙ first) (in_function g v first) (coming.may v may)));
      comes_create = λ u g v create first may.
          coming.all_may u (may_starts tree o.a u g (inr create) (may_reaches tree o.a g v (sym (first_is g) ∙ first) (in_function g v first) (coming.may v may)));
      roots = λ u. refl;
      never_called = λ u g call. not_root g (uncalled u g call) (y.is_root g) refl;
      added = λ place live.
          ap (adds J) (placed.ops place live)
          ∙ both_adds y m plan n o at (place_function y place) (edge_of place) (p.ops place) (placed.old place)
          ∙ created_bit (p.next place) ∙ ap (creates c y o.may) (sym (placed.next place));
      done = λ place live.
          ap (dones J) (placed.ops place live)
          ∙ both_dones y m plan n o at (place_function y place) (edge_of place) (p.ops place) (placed.old place)
          ∙ done_bits place live ∙ ap (λ x. before_set c (owes o.may root) place - in_set (owes o.may root) x) (sym (placed.next place));
      waited = λ place live into.
          let all = ap (waits J) (placed.ops place live)
          ∙ both_waits y m plan n o at (place_function y place) (edge_of place) (p.ops place) (placed.old place)
          ∙ ap (λ x. bit (is_node x o.b)) (sym (placed.next place) ∙ into) ∙ own_node o.b in
          omega arith;
      first = λ place live some.
          let all = ap (firsts J) (placed.ops place live)
          ∙ both_firsts y m plan n o at (place_function y place) (edge_of place) (p.ops place) (placed.old place) in
          node_is o.is_first (source place) o.a (subst (λ x. 0 < x) all some);
    }
