-- Between the entries of a lifted run a frame that holds a new lock is, in the source, at a node of the class.
use Rattle.std.proofs.Common.{◌≡◌, inl, inr, ℕ, ◌+◌, ◌≤◌, Bool, true, false, List, [], ◌∷◌, ◌++◌, map, Option, Some, None, refl, sym, ap, ◌∙◌, subst, arith}
use Rattle.cfix_base.specs.declared.number.NodeId.{NodeId}
use Rattle.cfix_base.specs.declared.op.Op.{Op}
use Rattle.cfix_base.specs.declared.place.Place.{Place}
use Rattle.cfix_base.specs.declared.place.Place.TheVariants.{Start, After, True, False}
use Rattle.step_state.specs.declared.item.Item.{Item}
use Rattle.step_state.specs.declared.item.Item.TheVariants as item
use Rattle.step_state.specs.Code.{Code, go_to}
use Rattle.cfix_base.specs.declared.mark.Marks.{Marks}
use Rattle.c_prog.specs.Marks.{is_new, keep_old, old_of}
use Rattle.step_state.specs.Erase.{strip_work}
use Rattle.layout_laws.specs.Layout.{Layout, Live, source}
use Rattle.lock_laws.specs.Guard.{bit, in_set, enters, leaves, Carries, need, need_of}
use Rattle.step_state.specs.Spots.{left_spot, edge_spot, spot}
use Rattle.lift_laws.specs.Lift.{in_spot, Placed, Settled}
use Rattle.lock_laws.proofs.Counts.{need_ops, enters_append}
use Rattle.lock_laws.proofs.OldLocks.{leaves_append, old_enters, old_leaves}

module _ (m : Marks) (kept : ℕ → Bool) (k : ℕ) (new : m.lock ≤ k) where
  need_goes : (o : Option ℕ) → need kept k (go_to o ∷ []) ≡ in_set kept o
  need_goes None = refl
  need_goes (Some n) = refl

  set_below : (K : ℕ → Bool) (o : Option ℕ) → ((n : ℕ) → kept n ≡ true → K n ≡ true) → in_set kept o ≤ in_set K o
  set_below K None h = omega arith
  set_below K (Some n) h = by_bit (kept n) (h n)
    where
      by_bit : (b : Bool) → (b ≡ true → K n ≡ true) → bit b ≤ bit (K n)
      by_bit true h = let e : bit (K n) ≡ 1 = ap bit (h refl) in omega arith
      by_bit false h = omega arith

  in_left : (K : ℕ → Bool) (place : Place) → in_spot K (left_spot place) ≡ in_set K (source place)
  in_left K (Start f) = refl
  in_left K (After n) = refl
  in_left K (True n) = refl
  in_left K (False n) = refl

  module _ (q : Code) (y : Layout) (carries : Carries q y kept k) (posts pres : Place → List Op) (placed : Placed m q posts pres)
      (sorted : (place : Place) → leaves k (pres place) ≡ 0) where
    -- while operations of the source are still to be made, the frame holds what the node before the place holds
    unmade_need : (last : Place) → Live y last → (mine : List Op) → enters k mine ≡ 0 → leaves k mine ≡ 0
        → need kept k (map item.Op (mine ++ (posts last ++ pres last)) ++ go_to (q.next last) ∷ []) ≡ in_set kept (source last)
    unmade_need last live mine e l =
        let next = q.next last in
        let all = posts last ++ pres last in
        let old = old_of (is_new m) (q.ops last) in
        let i = carries.entered last live in
        let o = carries.left last live in
        let ie : enters k (q.ops last) ≡ enters k old + enters k all = ap (enters k) (placed.ops last) ∙ enters_append kept k old all in
        let oe : leaves k (q.ops last) ≡ leaves k old + leaves k all = ap (leaves k) (placed.ops last) ∙ leaves_append m kept k new old all in
        let z = old_enters m kept k new (q.ops last) in
        let w = old_leaves m kept k new (q.ops last) in
        let me = enters_append kept k mine all in
        let ml = leaves_append m kept k new mine all in
        let g = need_goes next in
        let a = need_ops kept k (mine ++ all) (go_to next ∷ []) (omega arith) in
        omega arith

    -- once they were made, and those that leave, it holds no more than the node that comes next does
    made_need : (last : Place) → Live y last → need kept k (map item.Op (pres last) ++ go_to (q.next last) ∷ []) ≤ in_set kept (q.next last)
    made_need last live =
        let next = q.next last in
        let old = old_of (is_new m) (q.ops last) in
        let all = posts last ++ pres last in
        let i = carries.entered last live in
        let ie : enters k (q.ops last) ≡ enters k old + enters k all = ap (enters k) (placed.ops last) ∙ enters_append kept k old all in
        let z = old_enters m kept k new (q.ops last) in
        let pe = enters_append kept k (posts last) (pres last) in
        let s = sorted last in
        let g = need_goes next in
        let a = need_ops kept k (pres last) (go_to next ∷ []) (omega arith) in
        omega arith

    new_pres : (ops : List Op) (next : Option ℕ) → old_of (is_new m) ops ≡ [] → strip_work m (map item.Op ops ++ go_to next ∷ []) ≡ go_to next ∷ []
    new_pres [] None e = refl
    new_pres [] (Some n) e = refl
    new_pres (o ∷ ops) next e = more (is_new m o) (λ f. new_pres ops next f) e
      where
        more : (is : Bool) → (old_of (is_new m) ops ≡ [] → strip_work m (map item.Op ops ++ go_to next ∷ []) ≡ go_to next ∷ []) → keep_old is o (old_of (is_new m) ops) ≡ [] → keep_old is (item.Op o) (strip_work m (map item.Op ops ++ go_to next ∷ [])) ≡ go_to next ∷ []
        more true go e = go e
        more false go e = cc

    next_spot : (K : ℕ → Bool) (last : Place) (next : Option ℕ) → in_spot K (edge_spot last (go_to next ∷ [])) ≡ in_set K next
    next_spot K last None = refl
    next_spot K last (Some n) = refl

    first_old : (K : ℕ → Bool) (last : Place) (o : Op) (work : List Item) → is_new m o ≡ false
        → in_spot K (edge_spot last (strip_work m (item.Op o ∷ work))) ≡ in_set K (source last)
    first_old K last o work old = ap (λ b. in_spot K (edge_spot last (keep_old b (item.Op o) (strip_work m work)))) old ∙ in_left K last

    -- a settled frame that holds a new lock is at a node of the class
    pub needs_settled : (K : ℕ → Bool) → ((n : ℕ) → kept n ≡ true → K n ≡ true) → ((place : Place) → old_of (is_new m) (pres place) ≡ [])
        → (visit : Option NodeId) (last : Place) (work : List Item) → Live y last → Settled m q posts pres visit last work
        → need_of kept k visit work ≤ in_spot K (spot visit last (strip_work m work))
    needs_settled K inside all_new (Some n) last work live settled = set_below K (Some n.number) inside
    needs_settled K inside all_new None last work live (inl h) =
        let mine = h.1 ∷ h.0 in
        let same : old_of (is_new m) mine ≡ mine = ap (λ b. keep_old b h.1 (old_of (is_new m) h.0)) h.3 ∙ ap (λ l. h.1 ∷ l) h.4 in
        let e : enters k mine ≡ 0 = ap (enters k) (sym same) ∙ old_enters m kept k new mine in
        let l : leaves k mine ≡ 0 = ap (leaves k) (sym same) ∙ old_leaves m kept k new mine in
        let rest = map item.Op (h.0 ++ (posts last ++ pres last)) ++ go_to (q.next last) ∷ [] in
        let n : need kept k work ≡ in_set kept (source last) = ap (need kept k) h.2 ∙ unmade_need last live mine e l in
        let s : in_spot K (edge_spot last (strip_work m work)) ≡ in_set K (source last) =
        ap (λ w. in_spot K (edge_spot last (strip_work m w))) h.2 ∙ first_old K last h.1 rest h.3 in
        let b = set_below K (source last) inside in
        omega arith
    needs_settled K inside all_new None last work live (inr is) =
        let n : need kept k work ≤ in_set kept (q.next last) = subst (λ w. need kept k w ≤ in_set kept (q.next last)) (sym is) (made_need last live) in
        let s : in_spot K (edge_spot last (strip_work m work)) ≡ in_set K (q.next last) =
        ap (λ w. in_spot K (edge_spot last (strip_work m w))) is
        ∙ (ap (λ w. in_spot K (edge_spot last w)) (new_pres (pres last) (q.next last) (all_new last)) ∙ next_spot K last (q.next last)) in
        let b = set_below K (q.next last) inside in
        omega arith
