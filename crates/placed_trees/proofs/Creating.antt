-- A visit of a node makes the creation that the node makes, once, and right operands create nothing.
use Rattle.std.proofs.Common.{◌≡◌, ℕ, ◌+◌, Bool, true, false, List, [], ◌∷◌, ◌++◌, slice_get, Option, Some, None, refl, ap, ◌∙◌, append_assoc, arith}
use Rattle.std.specs.Prelude.{slice_index_or}
use Rattle.c_prog.specs.declared.act.Act.{Act}
use Rattle.c_prog.specs.declared.act.Act.TheVariants as form
use Rattle.c_prog.specs.declared.tree.Tree.{Tree}
use Rattle.c_prog.specs.Calls.{act_callee, act_created, callee, created}
use Rattle.c_prog.specs.Order.{Node, act, cond, step, jump, functions_order, node_at}
use Rattle.step_state.specs.declared.item.Item.{Item}
use Rattle.step_state.specs.declared.item.Item.TheVariants as item
use Rattle.step_state.specs.declared.item.Action.{Action}
use Rattle.step_state.specs.declared.item.Action.TheVariants as action
use Rattle.step_state.specs.declared.item.Move.TheVariants as move
use Rattle.step_state.specs.Code.{Code, node}
use Rattle.step_state.specs.Parts.{Part, past, one, expr_part, target_index}
use Rattle.step_state.specs.Items.{act_part, handle_site, node_part, tree_parts, part_items, part_operands, at_node, code_of}
use Rattle.layout_laws.specs.Layout.{Layout, ActionOf, InPart, InVisit}
use Rattle.order_laws.specs.Tokens.{created_comes, to_create, CreatesOnce}
use Rattle.step_tables.specs.TreeCode.{next_of, tree_code}
use Rattle.layout_laws.specs.TreeLayout.{number_if, is_condition, created_if, layout_of}
use Rattle.layout_laws.proofs.PartLaws.{AllIn, all_append, in_index, in_expr, in_act, node_visits, node_operands, one_of}
use Rattle.layout_laws.proofs.TreeParts.{Pair, pair_at, tree_parts_of}

-- a layout in which each node calls this function, and creates nothing
abbrev mute : Option ℕ → Bool → Layout
mute calls is = record {
  function = λ n. 0;
  is_cond = λ n. is;
  constant = λ n. None;
  callee = λ n. calls;
  created = λ n. None;
  is_root = λ n. false;
}

module _ (c : Code) (comes : ℕ → Bool) where
  module _ (calls : Option ℕ) (is : Bool) (n : ℕ) where
    act_quiet : (a : Action) (work : List Item) → ActionOf (mute calls is) n a → to_create c comes (item.Act a ∷ work) ≡ to_create c comes work
    act_quiet (action.Create target g) work h = cc
    act_quiet a work h = refl

    part_quiet : (work : List Item) → InPart (mute calls is) n work → (rest : List Item) → to_create c comes (work ++ rest) ≡ to_create c comes rest
    part_quiet [] h rest = refl
    part_quiet (item.Op o ∷ work) h rest = absurd h
    part_quiet (item.Reduce r ∷ work) h rest = part_quiet work h.1 rest
    part_quiet (item.Act a ∷ work) h rest = act_quiet a (work ++ rest) h.0 ∙ part_quiet work h.1 rest
    part_quiet (item.Go g ∷ work) h rest = absurd h

    visit_quiet : (work : List Item) → InVisit (mute calls is) n work → to_create c comes work ≡ 0
    visit_quiet [] h = absurd h
    visit_quiet (item.Op o ∷ work) h = absurd h
    visit_quiet (item.Reduce r ∷ work) h = visit_quiet work h.1
    visit_quiet (item.Act a ∷ work) h = act_quiet a work h.0 ∙ visit_quiet work h.1
    visit_quiet (item.Go g ∷ work) h = refl

  abbrev ends : ℕ → List Item
  ends n = item.Go (move.Edge (node n)) ∷ []

  -- simple statements and steps
  act_creates : (x n : ℕ) (a : Act) → to_create c comes ((act_part x a).items (at_node n) ++ ends n) ≡ created_comes c comes (number_if (act_created a))
  act_creates x n (form.Create t of arg) =
      let made : Part = one (item.Act (action.Create (handle_site t) of)) in
      let at = at_node n in
      let one_at = past (target_index t.index) at in
      let ti = (target_index t.index).items at in
      let ai = (expr_part arg).items one_at in
      let last = item.Act (action.Create (handle_site t) of) ∷ [] in
      let zero_more : in_set_of of.number + 0 ≡ in_set_of of.number = omega arith in
      ap (to_create c comes) (append_assoc ti (ai ++ last) (ends n))
      ∙ part_quiet None false n ti ((in_index (mute None false) n t.index).items at refl) ((ai ++ last) ++ ends n)
      ∙ ap (to_create c comes) (append_assoc ai last (ends n))
      ∙ part_quiet None false n ai ((in_expr (mute None false) n arg).items one_at refl) (last ++ ends n)
      ∙ zero_more
    where
      in_set_of : ℕ → ℕ
      in_set_of g = created_comes c comes (Some g)
  act_creates x n a =
      part_quiet (number_if (act_callee a)) false n ((act_part x a).items (at_node n)) ((in_act (mute (number_if (act_callee a)) false) n x a refl refl).items (at_node n) refl) (ends n)

  act_operands : (x n : ℕ) (a : Act) → AllIn (mute (number_if (act_callee a)) false) n ((act_part x a).operands (at_node n))
  act_operands x n (form.Create t of arg) =
      let at = at_node n in
      let one_at = past (target_index t.index) at in
      all_append (mute None false) n ((target_index t.index).operands at) ((expr_part arg).operands one_at ++ []) ((in_index (mute None false) n t.index).operands at refl)
      (all_append (mute None false) n ((expr_part arg).operands one_at) [] ((in_expr (mute None false) n arg).operands one_at refl) tt)
  act_operands x n a = (in_act (mute (number_if (act_callee a)) false) n x a refl refl).operands (at_node n) refl

  -- nodes
  node_creates : (x n : ℕ) (w : Node) → to_create c comes ((node_part x w).items (at_node n)) ≡ created_comes c comes (number_if (created w))
  node_creates x n (act a after) = act_creates x n a
  node_creates x n (step s) = act_creates x n s.act
  node_creates x n (cond k) = visit_quiet None true n _ (node_visits (mute None true) n x (cond k) refl refl refl)
  node_creates x n (jump j after) =
      visit_quiet (number_if (callee (jump j after))) false n _ (node_visits (mute (number_if (callee (jump j after))) false) n x (jump j after) refl refl refl)

  nodes_operands : (x n : ℕ) (w : Node) → AllIn (mute (number_if (callee w)) (is_condition w)) n ((node_part x w).operands (at_node n))
  nodes_operands x n (act a after) = all_append (mute (number_if (act_callee a)) false) n ((act_part x a).operands (at_node n)) [] (act_operands x n a) tt
  nodes_operands x n (step s) = all_append (mute (number_if (act_callee s.act)) false) n ((act_part x s.act).operands (at_node n)) [] (act_operands x n s.act) tt
  nodes_operands x n (cond k) = node_operands (mute None true) n x (cond k) refl refl
  nodes_operands x n (jump j after) = node_operands (mute (number_if (callee (jump j after))) false) n x (jump j after) refl refl

  items_create : (o : Option Part) (v : Option Node) (n : ℕ) → Pair o v → to_create c comes (part_items n o) ≡ created_comes c comes (created_if v)
  items_create None None n h = refl
  items_create None (Some w) n h = absurd h
  items_create (Some p) None n h = absurd h
  items_create (Some p) (Some w) n h = ap (λ q. to_create c comes (q.items (at_node n))) h.1 ∙ node_creates h.0 n w

  operands_quiet : (o : Option Part) (v : Option Node) (n i : ℕ) → Pair o v → (rest : List Item)
      → to_create c comes (slice_index_or (part_operands n o) i [] ++ rest) ≡ to_create c comes rest
  operands_quiet None v n i h rest = refl
  operands_quiet (Some p) None n i h rest = absurd h
  operands_quiet (Some p) (Some w) n i h rest =
      let y = mute (number_if (callee w)) (is_condition w) in
      ap (λ q. to_create c comes (slice_index_or (q.operands (at_node n)) i [] ++ rest)) h.1
      ∙ part_quiet (number_if (callee w)) (is_condition w) n (slice_index_or ((node_part h.0 w).operands (at_node n)) i [])
      (one_of y n ((node_part h.0 w).operands (at_node n)) i (nodes_operands h.0 n w)) rest

abbrev pairs : (tree : Tree) (n : ℕ) → Pair (slice_get (tree_parts tree) n) (node_at tree n)
pairs tree n = pair_at (tree_parts tree) (functions_order tree.functions) n (tree_parts_of tree.functions)

-- every program creates once
pub creates_once : (tree : Tree) (comes : ℕ → Bool) → CreatesOnce (tree_code tree) (layout_of tree) comes
unfolding tree_code
creates_once tree comes = record {
  items = λ place n live e. items_create (code_of tree (next_of tree)) comes (slice_get (tree_parts tree) n) (node_at tree n) n (pairs tree n);
  operands = λ r rest. operands_quiet (code_of tree (next_of tree)) comes (slice_get (tree_parts tree) r.node.number) (node_at tree r.node.number) r.node.number r.number
      (pairs tree r.node.number) rest;
}
