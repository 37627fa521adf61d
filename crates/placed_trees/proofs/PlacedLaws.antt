-- What the laws of locks and orders need of a program with placed operations, said over that program's own layout.
use Rattle.std.proofs.Common.{◌≡◌, ℕ, ◌+◌, ◌<◌, false, Some, slice_get, sym, ap, ◌∙◌, subst}
use Rattle.std.specs.Prelude.{◌&&◌}
use Rattle.cfix_base.specs.declared.mark.Marks.{Marks}
use Rattle.cfix_base.specs.declared.place.Place.{Place}
use Rattle.c_prog.specs.Marks.{tree_marks}
use Rattle.c_prog.specs.Strip.{strip_tree}
use Rattle.c_prog.specs.Valid.{IsValid}
use Rattle.c_prog.specs.declared.tree.Tree.{Tree}
use Rattle.step_tables.specs.TreeCode.{tree_code}
use Rattle.layout_laws.specs.Layout.{Live, source}
use Rattle.layout_laws.specs.TreeLayout.{layout_of}
use Rattle.lock_laws.specs.Coverage.{kept_in}
use Rattle.lock_laws.specs.Guard.{Carries, bit}
use Rattle.order_laws.specs.OrderRuns.{NoFirst, Starts}
use Rattle.order_laws.specs.Tokens.{Signals, firsts}
use Rattle.placed_trees.specs.Coming.{IsOrder}
use Rattle.placed_trees.specs.Placement.{ClassPlan, OrderPlan, Plan, is_node}
use Rattle.placed_trees.specs.TreeOps.{HasNodes, placed_tree}
use Rattle.placed_trees.proofs.OrderOps.{both_firsts}
use Rattle.placed_trees.proofs.Starting.{tokens_begin}
use Rattle.placed_trees.proofs.StripIs.{strip_is}
use Rattle.placed_trees.proofs.TreeSignals.{placed, same_layout, signals, tree_carries}
use Rattle.placed_trees.proofs.Uncalled.{roots_uncalled}

module _ (tree : Tree) (m : Marks) (plan : Plan) (marks : m ≡ tree_marks tree) (has : HasNodes tree plan) where
  abbrev q : Tree
  q = placed_tree tree m plan

  is : strip_tree m q ≡ tree
  is = strip_is tree m plan marks

  same : layout_of tree ≡ layout_of q
  same = sym (same_layout tree m plan has is)

  -- each class's lock
  pub lock_placed : (n : ℕ) (class : ClassPlan) → slice_get plan.classes n ≡ Some class
      → Carries (tree_code q) (layout_of q) (kept_in (layout_of q) class.nodes class.covered) (m.lock + n)
  lock_placed n class at =
      subst (λ z. Carries (tree_code q) z (kept_in z class.nodes class.covered) (m.lock + n)) same (tree_carries tree m plan has is n class at)

  module _ (n : ℕ) (o : OrderPlan) (at : slice_get plan.orders n ≡ Some o) where
    -- each order's operations
    pub order_placed : IsValid tree → IsOrder tree o → ((f : ℕ) → plan.roots f ≡ (layout_of tree).is_root f)
        → Signals (tree_code q) (layout_of q) (m.order + n) o.a o.b o.may (λ u. (layout_of q).is_root ((layout_of q).function u))
    order_placed valid coming roots =
        subst (λ z. Signals (tree_code q) z (m.order + n) o.a o.b o.may (λ u. z.is_root (z.function u))) same
        (signals tree m plan has is n o at coming roots (roots_uncalled tree valid))

    -- an all-before sets no flag
    pub order_sets_none : o.is_first ≡ false → NoFirst (tree_code q) (layout_of q) (m.order + n)
    order_sets_none all = subst (λ z. NoFirst (tree_code q) z (m.order + n)) same (record { none = none })
      where
        none : (place : Place) → Live (layout_of tree) place → firsts (m.order + n) ((tree_code q).ops place) ≡ 0
        none place live =
            let it = placed tree m plan has is in
            ap (firsts (m.order + n)) (it.ops place live)
            ∙ both_firsts (layout_of tree) m plan n o at _ _ ((tree_code tree).ops place) (it.old place)
            ∙ ap (λ b. bit (b && is_node (source place) o.a)) all

    -- the tokens with which a run begins
    pub order_begins : m.order + n < (tree_code q).orders → Starts (tree_code q) (m.order + n) o.may
    order_begins room = record { known = room; token = tokens_begin tree m plan has is n o at room }
