-- Until a frame has passed a wait of the order, no frame is at the node that waits, nor comes to it without a wait.
use Rattle.std.proofs.Common.{◌≡◌, ◌≢◌, ⊎_elim, ℕ, ◌+◌, ◌<◌, ℤ, Bool, true, false, List, [], ◌∷◌, ◌++◌, map, Option, Some, None, refl, sym, ap, ◌∙◌, subst, arith}
use Rattle.std.specs.Prelude.{◌==◌}
use Rattle.std.proofs.lemmas.Bool.Decides.{eqb_tells}
use Rattle.std.proofs.Math.Dec.{eqb}
use Rattle.cfix_base.specs.declared.number.NodeId.{NodeId}
use Rattle.cfix_base.specs.declared.number.FnId.{FnId}
use Rattle.cfix_base.specs.declared.number.OrderId.{OrderId}
use Rattle.cfix_base.specs.declared.op.Op.{Op}
use Rattle.cfix_base.specs.declared.op.Op.TheVariants.{Leave, First, Done, Wait, Enter, Add}
use Rattle.cfix_base.specs.declared.place.Place.{Place}
use Rattle.cfix_base.specs.declared.place.Place.TheVariants.{Start, After}
use Rattle.step_state.specs.declared.event.Event.{Event}
use Rattle.step_state.specs.declared.item.Item.{Item}
use Rattle.step_state.specs.declared.item.Item.TheVariants as item
use Rattle.step_state.specs.declared.item.Move.TheVariants as move
use Rattle.step_state.specs.declared.frame.Frame.{Frame}
use Rattle.step_state.specs.Code.{Code, arrive, go_to, fn_id}
use Rattle.step_state.specs.Changes.{with_work}
use Rattle.step_state.specs.Step.{branch_place}
use Rattle.step_state.specs.Values.{is_zero, last_value}
use Rattle.layout_laws.specs.Layout.{Layout, Live, Stands, IsLaidOut}
use Rattle.lock_laws.specs.Guard.{bit}
use Rattle.order_laws.specs.Tokens.{waits, Signals}
use Rattle.frame_laws.proofs.Frames.{Keeps, op_of}
use Rattle.layout_laws.proofs.Shape.{Shaped, GoesOn, between_goes, keeps_shape, next_is}
use Rattle.frame_laws.proofs.Reduced.{reduced_follows}

module _ (c : Code) (y : Layout) (laid : IsLaidOut c y) (j a b : ℕ) (comes root : ℕ → Bool) (sig : Signals c y j a b comes root) where
  -- the waits that stand before what comes next
  abbrev pub pending_waits : List Item → ℕ
  pending_waits [] = 0
  pending_waits (item.Op (Wait i) ∷ work) = bit (i.number == j) + pending_waits work
  pending_waits (item.Op o ∷ work) = pending_waits work
  pending_waits (item.Reduce r ∷ work) = 0
  pending_waits (item.Act x ∷ work) = 0
  pending_waits (item.Go g ∷ work) = 0

  -- the frame does not visit b, and comes to b only past a wait
  abbrev pub Before : Option NodeId → Place → List Item → Type 0
  Before (Some n) last work = n.number ≡ b → ⊥
  Before None last work = c.next last ≡ Some b → 0 < pending_waits work

  pub record NotPast (m t : ℕ) (f : Frame) (below : List Frame) : Type 0 where
    pub shape : Shaped c y laid m t f below
    pub before : Before f.visit f.last f.work

  -- the step is of no wait of the order
  abbrev pub NotThis : ℕ → List Frame → Event → Type 0
  NotThis t fs ev = (i : OrderId) → op_of ev ≡ Some (Wait i) → i.number ≡ j → ⊥

  other_bit : (i : ℕ) → i ≢ j → bit (i == j) ≡ 0
  other_bit i ne = ⊎_elim (λ (q : (eqb i j ≡ true) × (i ≡ j)). absurd (ne q.1)) (λ (q : (eqb i j ≡ false) × (i ≢ j)). ap bit q.0) (eqb_tells i j)

  go_waits : (next : Option ℕ) → pending_waits (go_to next ∷ []) ≡ 0
  go_waits None = refl
  go_waits (Some n) = refl

  waits_ops : (ops : List Op) (next : Option ℕ) → pending_waits (map item.Op ops ++ go_to next ∷ []) ≡ waits j ops
  waits_ops [] next = go_waits next
  waits_ops (Wait i ∷ ops) next = ap (λ x. bit (i.number == j) + x) (waits_ops ops next)
  waits_ops (Enter i ∷ ops) next = waits_ops ops next
  waits_ops (Leave i ∷ ops) next = waits_ops ops next
  waits_ops (First i ∷ ops) next = waits_ops ops next
  waits_ops (Done i ∷ ops) next = waits_ops ops next
  waits_ops (Add i ∷ ops) next = waits_ops ops next

  before_place : (place : Place) → Live y place → c.next place ≡ Some b → 0 < pending_waits (arrive c place)
  before_place place live e = subst (λ x. 0 < x) (sym (waits_ops (c.ops place) (c.next place))) (sig.waited place live e)

  before_op : (visit : Option NodeId) (last : Place) (o : Op) (rest : List Item) → ((i : OrderId) → Some o ≡ Some (Wait i) → i.number ≡ j → ⊥)
      → Before visit last (item.Op o ∷ rest) → Before visit last rest
  before_op (Some n) last o rest good h = h
  before_op None last (Wait i) rest good h = λ e. let x = h e in let z = other_bit i.number (good i refl) in omega arith
  before_op None last (Enter i) rest good h = h
  before_op None last (Leave i) rest good h = h
  before_op None last (First i) rest good h = h
  before_op None last (Done i) rest good h = h
  before_op None last (Add i) rest good h = h

  -- an item of a visit
  before_item : (of : FnId) (visit : Option NodeId) (last : Place) (vs : List ℤ) (i : Item) (rest work : List Item) → (GoesOn i → ⊥) → Stands c y of visit last vs (i ∷ rest)
      → Before visit last (i ∷ rest) → Before visit last work
  before_item of None last vs i rest work never h was = absurd (never (between_goes c y of last (i ∷ rest) h))
  before_item of (Some n) last vs i rest work never h was = was

  before_begun : (of : FnId) (visit : Option NodeId) (last : Place) (vs : List ℤ) (n : NodeId) (rest : List Item) → Stands c y of visit last vs (item.Go (move.Node n) ∷ rest)
      → Before visit last (item.Go (move.Node n) ∷ rest) → n.number ≡ b → ⊥
  before_begun of None last vs n rest h was same = let x = was (next_is c last n rest h.left (c.next last) h.rest ∙ ap Some same) in omega arith
  before_begun of (Some k) last vs n rest h was same = h.does

  at_before : (m t : ℕ) (f : Frame) (below : List Frame) (work : List Item) → f.work ≡ work → NotPast m t f below → Before f.visit f.last work
  at_before m t f below work at h = subst (Before f.visit f.last) at h.before

  at_stands : (m t : ℕ) (f : Frame) (below : List Frame) (work : List Item) → f.work ≡ work → NotPast m t f below → Stands c y f.of f.visit f.last f.values work
  at_stands m t f below work at h = subst (Stands c y f.of f.visit f.last f.values) at h.shape.stands

  pub keeps_not_past : Keeps c NotPast NotThis
  keeps_not_past =
      let k = keeps_shape c y laid in
      record {
        later = λ m t f below h. record { shape = k.later m t f below h.shape; before = h.before };
        op = λ m t f below o rest ev at is good h. record {
          shape = k.op m t f below o rest ev at is tt h.shape;
          before = before_op f.visit f.last o rest (λ i e. good i (is ∙ e)) (at_before m t f below _ at h);
        };
        reduced = λ m t f g below r rest at is good h.
            let same = reduced_follows c (with_work f rest) g r is in
            record {
              shape = k.reduced m t f g below r rest at is tt h.shape;
              before = subst (λ v. Before v g.last g.work) (sym same.visit) (subst (λ l. Before f.visit l g.work) (sym same.last)
                  (before_item f.of f.visit f.last f.values (item.Reduce r) rest g.work (λ z. z) (at_stands m t f below _ at h) (at_before m t f below _ at h)));
            };
        acted = λ m t f below x rest vs hs ev at says good h. record {
          shape = k.acted m t f below x rest vs hs ev at says tt h.shape;
          before = before_item f.of f.visit f.last f.values (item.Act x) rest rest (λ z. z) (at_stands m t f below _ at h) (at_before m t f below _ at h);
        };
        begun = λ m t f below n rest at good h. record {
          shape = k.begun m t f below n rest at tt h.shape;
          before = before_begun f.of f.visit f.last f.values n rest (at_stands m t f below _ at h) (at_before m t f below _ at h);
        };
        branched = λ m t f below n rest at good h.
            let next = k.branched m t f below n rest at tt h.shape in
            record { shape = next; before = before_place (branch_place n (is_zero (last_value f.values))) next.stands.live };
        edged = λ m t f below n rest at good h.
            let next = k.edged m t f below n rest at tt h.shape in
            record { shape = next; before = before_place (After n) next.stands.live };
        returned = λ m t f g below rest v at good h below_h. record {
          shape = k.returned m t f g below rest v at tt h.shape below_h.shape;
          before = below_h.before;
        };
        called = λ m t f below g rest args vs at good h. record {
          shape = k.called m t f below g rest args vs at tt h.shape;
          before = before_place (Start (fn_id g.number)) tt;
        };
        created = λ m t u f below target g rest args at good h. record {
          shape = k.created m t u f below target g rest args at tt h.shape;
          before = before_place (Start (fn_id g.number)) tt;
        };
      }

  -- a thread that begins at a start
  pub before_start : (f : ℕ) → Before None (Start (fn_id f)) (arrive c (Start (fn_id f)))
  before_start f = before_place (Start (fn_id f)) tt
