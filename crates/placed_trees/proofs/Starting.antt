-- An order begins with a token exactly where the first node of main may come to its first access.
use Rattle.std.proofs.Common.{◌≡◌, ◌≢◌, ⊎_elim, ℕ, zero, suc, ◌+◌, ◌<◌, ◌≤◌, Bool, true, false, ◌==◌, ◌||◌, List, [], ◌∷◌, ◌++◌, length, set, get_or, slice_get, Option, Some, None, refl, sym, ap, ◌∙◌, arith}
use Rattle.std.proofs.lemmas.Bool.Decides.{eqb_tells}
use Rattle.std.proofs.lemmas.Grind.{get_or-set_at}
use Rattle.std.proofs.lemmas.List.{length-set, get_or-set_other, length-replicate, get_or-replicate}
use Rattle.std.proofs.Math.Dec.{eqb}
use Rattle.cfix_base.specs.declared.number.OrderId.{OrderId}
use Rattle.cfix_base.specs.declared.place.Place.TheVariants.{Start}
use Rattle.c_prog.specs.declared.tree.Tree.{Tree}
use Rattle.flow_graph.specs.Flow.{fn_id}
use Rattle.step_state.specs.Code.{Code}
use Rattle.step_state.specs.Items.{main_of}
use Rattle.cfix_base.specs.declared.mark.Marks.{Marks}
use Rattle.c_prog.specs.Marks.{is_new_start, old_of, keep_old}
use Rattle.step_state.specs.Start.{initial_tokens}
use Rattle.lock_laws.specs.Guard.{bit, in_set}
use Rattle.placed_trees.specs.Placement.{OrderPlan, Plan, within}
use Rattle.c_prog.specs.Strip.{strip_tree}
use Rattle.order_laws.specs.Tokens.{first_of}
use Rattle.step_tables.specs.TreeCode.{next_of, tree_code}
use Rattle.placed_trees.specs.TreeOps.{start_if, starts_from, tree_starts, placed_tree, HasNodes}
use Rattle.erase_laws.proofs.Plain.{is_below}
use Rattle.placed_trees.proofs.TreeIsPlaced.{old_twice}
use Rattle.placed_trees.proofs.TreeSignals.{next_is}
use Rattle.erase_laws.proofs.TreeStrip.{main_strip}

-- the order is one of these
abbrev has_start : ℕ → List OrderId → Bool
has_start k [] = false
has_start k (j ∷ js) = (j.number == k) || has_start k js

tokens_sized : (n : ℕ) (starts : List OrderId) → length (initial_tokens n starts) ≡ n
tokens_sized n [] = length-replicate n 0
tokens_sized n (j ∷ starts) = length-set (initial_tokens n starts) j.number 1 ∙ tokens_sized n starts

tokens_at : (n k : ℕ) (starts : List OrderId) → k < n → get_or (initial_tokens n starts) k 0 ≡ bit (has_start k starts)
tokens_at n k [] within = get_or-replicate n k 0 0 within
tokens_at n k (j ∷ starts) within = ⊎_elim
    (λ (p : (eqb j.number k ≡ true) × (j.number ≡ k)).
    let s = tokens_sized n starts in
    let same = p.1 in
    get_or-set_at (initial_tokens n starts) j.number k 1 0 (sym p.1) (omega arith) ∙ sym (ap (λ b. bit (b || has_start k starts)) p.0))
    (λ (p : (eqb j.number k ≡ false) × (j.number ≢ k)).
    get_or-set_other (initial_tokens n starts) j.number k 1 0 (λ e. p.1 (sym e)) ∙ tokens_at n k starts within
    ∙ sym (ap (λ b. bit (b || has_start k starts)) p.0))
    (eqb_tells j.number k)

has_append : (k : ℕ) (a b : List OrderId) → has_start k (a ++ b) ≡ has_start k a || has_start k b
has_append k [] b = refl
has_append k (j ∷ a) b = ap (λ r. (j.number == k) || r) (has_append k a b) ∙ joined (j.number == k)
  where
    joined : (x : Bool) → x || (has_start k a || has_start k b) ≡ (x || has_start k a) || has_start k b
    joined true = refl
    joined false = refl

other : (j k : ℕ) → (j ≡ k → ⊥) → eqb j k ≡ false
other j k ne = ⊎_elim (λ (p : (eqb j k ≡ true) × (j ≡ k)). absurd (ne p.1)) (λ (p : (eqb j k ≡ false) × (j ≢ k)). p.0) (eqb_tells j k)

own : (j k : ℕ) → j ≡ k → eqb j k ≡ true
own j k e = ⊎_elim (λ (p : (eqb j k ≡ true) × (j ≡ k)). p.0) (λ (p : (eqb j k ≡ false) × (j ≢ k)). absurd (p.1 e)) (eqb_tells j k)

none_old : (m : Marks) (k : ℕ) → m.order ≤ k → (xs : List OrderId) → has_start k (old_of (is_new_start m) xs) ≡ false
none_old m k new [] = refl
none_old m k new (x ∷ xs) = more (is_new_start m x) refl (none_old m k new xs)
  where
    more : (b : Bool) → is_new_start m x ≡ b → has_start k (old_of (is_new_start m) xs) ≡ false → has_start k (keep_old b x (old_of (is_new_start m) xs)) ≡ false
    more true e h = h
    more false e h =
        ap (λ b. b || has_start k (old_of (is_new_start m) xs)) (other x.number k (λ s. let b = is_below m.order x.number e in absurd (omega arith))) ∙ h

module _ (first : Option ℕ) (j : ℕ) where
  past_from : (k : ℕ) (os : List OrderPlan) → j < k → has_start j (starts_from first k os) ≡ false
  past_from k [] above = refl
  past_from k (o ∷ os) above = more (within o.may first) (past_from (k + 1) os (omega arith))
    where
      more : (b : Bool) → has_start j (starts_from first (k + 1) os) ≡ false → has_start j (start_if b k ++ starts_from first (k + 1) os) ≡ false
      more true h = ap (λ b. b || has_start j (starts_from first (k + 1) os)) (other k j (λ e. absurd (omega arith))) ∙ h
      more false h = h

  own_from : (k n : ℕ) (os : List OrderPlan) (o : OrderPlan) → k + n ≡ j → slice_get os n ≡ Some o → has_start j (starts_from first k os) ≡ within o.may first
  own_from k n [] o at is = cc
  own_from k zero (v ∷ os) o at is =
      let it : v ≡ o = cc in
      more (within v.may first) (past_from (k + 1) os (omega arith)) ∙ ap (λ w. within w.may first) it
    where
      more : (b : Bool) → has_start j (starts_from first (k + 1) os) ≡ false → has_start j (start_if b k ++ starts_from first (k + 1) os) ≡ b
      more true h = ap (λ b. b || has_start j (starts_from first (k + 1) os)) (own k j (omega arith))
      more false h = h
  own_from k (suc n) (v ∷ os) o at is = more (within v.may first) (own_from (k + 1) n os o (omega arith) is)
    where
      more : (b : Bool) → has_start j (starts_from first (k + 1) os) ≡ within o.may first → has_start j (start_if b k ++ starts_from first (k + 1) os) ≡ within o.may first
      more true h = ap (λ b. b || has_start j (starts_from first (k + 1) os)) (other k j (λ e. absurd (omega arith))) ∙ h
      more false h = h

module _ (tree : Tree) (m : Marks) (plan : Plan) (has : HasNodes tree plan) (is : strip_tree m (placed_tree tree m plan) ≡ tree) where
  abbrev c : Code
  c = tree_code (placed_tree tree m plan)

  starts_are : c.starts ≡ tree.starts ++ tree_starts tree m plan
  unfolding tree_code
  starts_are = refl

  main_is : c.main ≡ main_of tree.functions
  unfolding tree_code
  main_is = sym (main_strip m (placed_tree tree m plan).functions) ∙ ap (λ t. main_of t.functions) is

  old_starts : old_of (is_new_start m) tree.starts ≡ tree.starts
  old_starts =
      let own : tree.starts ≡ old_of (is_new_start m) (placed_tree tree m plan).starts = ap (λ t. t.starts) (sym is) in
      ap (old_of (is_new_start m)) own ∙ old_twice (is_new_start m) (placed_tree tree m plan).starts ∙ sym own

  in_within : (set : ℕ → Bool) (o : Option ℕ) → bit (within set o) ≡ in_set set o
  in_within set None = refl
  in_within set (Some n) = refl

  pub tokens_begin : (n : ℕ) (o : OrderPlan) → slice_get plan.orders n ≡ Some o → m.order + n < c.orders
      → get_or (initial_tokens c.orders c.starts) (m.order + n) 0 ≡ in_set o.may (first_of c c.main)
  tokens_begin n o at room =
      let j = m.order + n in
      let first = next_of tree (Start (fn_id (main_of tree.functions))) in
      let none : has_start j tree.starts ≡ false = ap (has_start j) (sym old_starts) ∙ none_old m j (omega arith) tree.starts in
      tokens_at c.orders j c.starts room
      ∙ ap bit (ap (has_start j) starts_are ∙ has_append j tree.starts (tree_starts tree m plan)
      ∙ ap (λ b. b || has_start j (tree_starts tree m plan)) none ∙ own_from first j m.order n plan.orders o refl at)
      ∙ in_within o.may first
      ∙ ap (in_set o.may) (sym (next_is tree m plan has is (Start (fn_id (main_of tree.functions)))) ∙ ap (first_of c) (sym main_is))
