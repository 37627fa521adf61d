-- Programs, as machines read them, keep what steps without new operations need.
use Rattle.std.proofs.Common.{◌≡◌, ℕ, ◌≤◌, false, List, [], ◌∷◌, slice_get, Option, Some, None, refl, sym, ap, ◌∙◌, subst}
use Rattle.std.specs.Prelude.{slice_index_or}
use Rattle.c_prog.specs.declared.tree.Tree.{Tree}
use Rattle.c_prog.specs.Calls.{callee, created}
use Rattle.c_prog.specs.Order.{Node, functions_order, node_at}
use Rattle.step_state.specs.declared.item.Item.{Item}
use Rattle.step_state.specs.declared.item.Item.TheVariants as item
use Rattle.step_state.specs.declared.item.Move.TheVariants as move
use Rattle.step_state.specs.Parts.{Part}
use Rattle.step_state.specs.Items.{node_part, tree_parts, part_items, part_operands, at_node}
use Rattle.cfix_base.specs.declared.mark.Marks.{Marks}
use Rattle.c_prog.specs.Marks.{tree_marks}
use Rattle.step_state.specs.Erase.{strip_work}
use Rattle.layout_laws.specs.Layout.{Layout, InPart, InVisit}
use Rattle.erase_laws.specs.Marked.{IsMarked}
use Rattle.step_tables.specs.TreeCode.{tree_code}
use Rattle.layout_laws.specs.TreeLayout.{number_if, is_condition}
use Rattle.layout_laws.proofs.TreeParts.{IsPartOf, Pair, pair_at, tree_parts_of}
use Rattle.layout_laws.proofs.PartLaws.{node_visits, node_operands, one_of}

-- a layout in which each node is like this one
abbrev like : Node → Layout
like w = record {
  function = λ n. 0;
  is_cond = λ n. is_condition w;
  constant = λ n. None;
  callee = λ n. number_if (callee w);
  created = λ n. number_if (created w);
  is_root = λ n. false;
}

module _ (m : Marks) (y : Layout) (n : ℕ) where
  part_plain : (work : List Item) → InPart y n work → strip_work m work ≡ work
  part_plain [] h = refl
  part_plain (item.Op o ∷ work) h = absurd h
  part_plain (item.Reduce r ∷ work) h = ap (λ w. item.Reduce r ∷ w) (part_plain work h.1)
  part_plain (item.Act a ∷ work) h = ap (λ w. item.Act a ∷ w) (part_plain work h.1)
  part_plain (item.Go g ∷ work) h = absurd h

  visit_items : (work : List Item) → InVisit y n work → strip_work m work ≡ work
  visit_items [] h = refl
  visit_items (item.Op o ∷ work) h = absurd h
  visit_items (item.Reduce r ∷ work) h = ap (λ w. item.Reduce r ∷ w) (visit_items work h.1)
  visit_items (item.Act a ∷ work) h = ap (λ w. item.Act a ∷ w) (visit_items work h.1)
  visit_items (item.Go (move.Node k) ∷ work) h = absurd h
  visit_items (item.Go (move.Branch k) ∷ work) h = ap (λ w. item.Go (move.Branch k) ∷ w) (ap (strip_work m) h.2 ∙ sym h.2)
  visit_items (item.Go (move.Edge k) ∷ work) h = ap (λ w. item.Go (move.Edge k) ∷ w) (ap (strip_work m) h.2 ∙ sym h.2)
  visit_items (item.Go move.Exit ∷ work) h = absurd h

module _ (m : Marks) where
  abbrev Plain : List Item → Type 0
  Plain work = strip_work m work ≡ work

  visit_plain : (p : Part) (w : Node) (n : ℕ) → IsPartOf p w → Plain (p.items (at_node n))
  visit_plain p w n of = subst (λ q. Plain (q.items (at_node n))) (sym of.1) (whole w)
    where
      whole : (w : Node) → Plain ((node_part of.0 w).items (at_node n))
      whole w = visit_items m (like w) n _ (node_visits (like w) n of.0 w refl refl refl)

  operand_plain : (p : Part) (w : Node) (n i : ℕ) → IsPartOf p w → Plain (slice_index_or (p.operands (at_node n)) i [])
  operand_plain p w n i of =
      subst (λ q. Plain (slice_index_or (q.operands (at_node n)) i [])) (sym of.1)
      (part_plain m (like w) n _ (one_of (like w) n ((node_part of.0 w).operands (at_node n)) i (node_operands (like w) n of.0 w refl refl)))

  operands_plain : (o : Option Part) (v : Option Node) (n i : ℕ) → Pair o v → Plain (slice_index_or (part_operands n o) i [])
  operands_plain None v n i h = refl
  operands_plain (Some p) None n i h = absurd h
  operands_plain (Some p) (Some w) n i h = operand_plain p w n i h

  items_plain : (o : Option Part) (v : Option Node) (n : ℕ) → Pair o v → Plain (part_items n o)
  items_plain None v n h = refl
  items_plain (Some p) None n h = absurd h
  items_plain (Some p) (Some w) n h = visit_plain p w n h

  pub marked : (tree : Tree) → m.lock ≤ (tree_marks tree).lock → m.order ≤ (tree_marks tree).order → IsMarked m (tree_code tree)
  unfolding tree_code
  marked tree locks orders =
      let all = tree_parts_of tree.functions in
      record {
        locks = locks;
        orders = orders;
        items = λ n. items_plain (slice_get (tree_parts tree) n) (node_at tree n) n (pair_at (tree_parts tree) (functions_order tree.functions) n all);
        operand = λ r. operands_plain (slice_get (tree_parts tree) r.node.number) (node_at tree r.node.number) r.node.number r.number
            (pair_at (tree_parts tree) (functions_order tree.functions) r.node.number all);
      }
