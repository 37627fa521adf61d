-- First-before: while no event of the certain access was made, no frame has ended a visit of its node, and the flag is not set.
use Rattle.std.proofs.Common.{◌≡◌, ◌⊎◌, inl, inr, ℕ, ℤ, Bool, true, false, List, ◌∷◌, ◌++◌, Option, Some, None, refl, sym, ap, ◌∙◌, subst}
use Rattle.cfix_base.specs.declared.access.AccessId.{AccessId}
use Rattle.cfix_base.specs.declared.number.NodeId.{NodeId}
use Rattle.cfix_base.specs.declared.number.FnId.{FnId}
use Rattle.cfix_base.specs.declared.op.Op.{Op}
use Rattle.cfix_base.specs.declared.place.Place.{Place}
use Rattle.cfix_base.specs.declared.place.Place.TheVariants.{After}
use Rattle.step_state.specs.declared.event.Event.{Event}
use Rattle.step_state.specs.declared.event.Event.TheVariants as event
use Rattle.step_state.specs.declared.item.Item.{Item}
use Rattle.step_state.specs.declared.item.Item.TheVariants as item
use Rattle.step_state.specs.declared.item.Action.{Action}
use Rattle.step_state.specs.declared.item.Action.TheVariants as action
use Rattle.step_state.specs.declared.item.Move.{Move}
use Rattle.step_state.specs.declared.item.Move.TheVariants as move
use Rattle.step_state.specs.declared.item.Reduction.{Reduction}
use Rattle.step_state.specs.declared.item.Reduction.TheVariants as reduction
use Rattle.step_state.specs.declared.item.Operand.{Operand}
use Rattle.step_state.specs.declared.frame.Frame.{Frame}
use Rattle.step_state.specs.Code.{Code}
use Rattle.step_state.specs.Changes.{with_work}
use Rattle.step_state.specs.Step.{branch_place}
use Rattle.step_state.specs.Values.{is_zero, last_value}
use Rattle.layout_laws.specs.Layout.{Layout, source, Stands, IsLaidOut}
use Rattle.frame_laws.specs.Operands.{operand_in}
use Rattle.order_laws.specs.Tokens.{HasAccess, Unpassed}
use Rattle.access_laws.specs.Access.{IsAccess}
use Rattle.frame_laws.proofs.Frames.{Keeps, Says, SaysRead, SaysWrite}
use Rattle.layout_laws.proofs.Shape.{Shaped, between_goes, keeps_shape}
use Rattle.frame_laws.proofs.Reduced.{FollowsIn, reduced_follows}

read_is : (id site : AccessId) (ev : Event) → SaysRead site ev → site ≡ id → IsAccess id ev
read_is id site (event.Read x i v) says e = says ∙ e
read_is id site _ says e = absurd says

write_is : (id site : AccessId) (ev : Event) → SaysWrite site ev → site ≡ id → IsAccess id ev
write_is id site (event.Write x i v) says e = says ∙ e
write_is id site _ says e = absurd says

-- an action that is not the access leaves it to come
acted_has : (id : AccessId) (a : Action) (rest : List Item) (ev : Event) → Says a ev → (IsAccess id ev → ⊥) → HasAccess id (item.Act a ∷ rest) → HasAccess id rest
acted_has id (action.Get site) rest ev says other (inl e) = absurd (other (read_is id site.access ev says e))
acted_has id (action.Get site) rest ev says other (inr h) = h
acted_has id (action.GetKeep site) rest ev says other (inl e) = absurd (other (read_is id site.access ev says e))
acted_has id (action.GetKeep site) rest ev says other (inr h) = h
acted_has id (action.Put site) rest ev says other (inl e) = absurd (other (write_is id site.access ev says e))
acted_has id (action.Put site) rest ev says other (inr h) = h
acted_has id action.Take rest ev says other h = h
acted_has id (action.Lock v) rest ev says other h = h
acted_has id (action.Unlock v) rest ev says other h = h
acted_has id (action.Create t g) rest ev says other h = h
acted_has id (action.Join t) rest ev says other h = h
acted_has id (action.Print n k) rest ev says other h = h
acted_has id (action.Call g) rest ev says other h = h
acted_has id (action.Sleep v w) rest ev says other h = h
acted_has id (action.Wake v w) rest ev says other h = h
acted_has id (action.Signal v) rest ev says other h = h
acted_has id (action.Broadcast v) rest ev says other h = h

-- the item ends a visit of this node
abbrev pub EndsAt : NodeId → Move → Type 0
EndsAt n (move.Branch k) = k ≡ n
EndsAt n (move.Edge k) = k ≡ n
EndsAt n (move.Node k) = ⊥
EndsAt n move.Exit = ⊥

module _ (c : Code) (y : Layout) (laid : IsLaidOut c y) (id : AccessId)
    (certain : HasAccess id (c.items id.node.number)) (plain : (r : Operand) (rest : List Item) → HasAccess id rest → HasAccess id (c.operand r ++ rest)) where
  -- the step is no event of the access
  abbrev pub Other : ℕ → List Frame → Event → Type 0
  Other t fs ev = IsAccess id ev → ⊥

  pub record Waits (m t : ℕ) (f : Frame) (below : List Frame) : Type 0 where
    pub shape : Shaped c y laid m t f below
    pub unpassed : Unpassed id f.visit f.last f.work

  op_unpassed : (visit : Option NodeId) (last : Place) (o : Op) (rest : List Item) → Unpassed id visit last (item.Op o ∷ rest) → Unpassed id visit last rest
  op_unpassed None last o rest h = h
  op_unpassed (Some n) last o rest h = h

  acted_unpassed : (visit : Option NodeId) (last : Place) (a : Action) (rest : List Item) (ev : Event) → Says a ev → (IsAccess id ev → ⊥)
      → Unpassed id visit last (item.Act a ∷ rest) → Unpassed id visit last rest
  acted_unpassed None last a rest ev says other h = h
  acted_unpassed (Some n) last a rest ev says other h = λ e. acted_has id a rest ev says other (h e)

  reduced_unpassed : (f g : Frame) (r : Reduction) (rest : List Item) (visit : Option NodeId) → FollowsIn c (with_work f rest) g (operand_in r)
      → Unpassed id visit f.last (item.Reduce r ∷ rest) → Unpassed id visit f.last g.work
  reduced_unpassed f g r rest None same h = h
  reduced_unpassed f g r rest (Some n) same h = λ e. pick same.work (h e)
    where
      pick : (g.work ≡ rest) ⊎ ((o : Operand) × (operand_in r ≡ Some o) × (g.work ≡ c.operand o ++ item.Reduce reduction.Bool ∷ rest)) → HasAccess id rest → HasAccess id g.work
      pick (inl e) h = subst (HasAccess id) (sym e) h
      pick (inr p) h = subst (HasAccess id) (sym p.2) (plain p.0 (item.Reduce reduction.Bool ∷ rest) h)

  -- a visit that ends is of another node
  ended_unpassed : (visit : Option NodeId) (last : Place) (n : NodeId) (g : Move) (rest : List Item) (of : FnId) (vs : List ℤ) (place : Place) → EndsAt n g
      → source place ≡ Some n.number → Stands c y of visit last vs (item.Go g ∷ rest) → Unpassed id visit last (item.Go g ∷ rest) → source place ≡ Some id.node.number → ⊥
  ended_unpassed None last n (move.Branch k) rest of vs place ends s h u e = between_goes c y of last (item.Go (move.Branch k) ∷ rest) h
  ended_unpassed None last n (move.Edge k) rest of vs place ends s h u e = between_goes c y of last (item.Go (move.Edge k) ∷ rest) h
  ended_unpassed None last n (move.Node k) rest of vs place ends s h u e = ends
  ended_unpassed None last n move.Exit rest of vs place ends s h u e = ends
  ended_unpassed (Some v) last n (move.Branch k) rest of vs place ends s h u e =
      let same : n.number ≡ id.node.number = cc in u (sym h.does.0 ∙ (ap (λ x. x.number) ends ∙ same))
  ended_unpassed (Some v) last n (move.Edge k) rest of vs place ends s h u e =
      let same : n.number ≡ id.node.number = cc in u (sym h.does.0 ∙ (ap (λ x. x.number) ends ∙ same))
  ended_unpassed (Some v) last n (move.Node k) rest of vs place ends s h u e = ends
  ended_unpassed (Some v) last n move.Exit rest of vs place ends s h u e = ends

  branch_source : (n : NodeId) (nought : Bool) → source (branch_place n nought) ≡ Some n.number
  branch_source n true = refl
  branch_source n false = refl

  no_source : (m : ℕ) → None ≡ Some m → ⊥
  no_source m e = cc

  at_work : (m t : ℕ) (f : Frame) (below : List Frame) (work : List Item) → f.work ≡ work → Waits m t f below → Unpassed id f.visit f.last work
  at_work m t f below work at h = subst (Unpassed id f.visit f.last) at h.unpassed

  at_stands : (m t : ℕ) (f : Frame) (below : List Frame) (work : List Item) → f.work ≡ work → Waits m t f below → Stands c y f.of f.visit f.last f.values work
  at_stands m t f below work at h = subst (Stands c y f.of f.visit f.last f.values) at h.shape.stands

  pub keeps_waits : Keeps c Waits Other
  keeps_waits =
      let k = keeps_shape c y laid in
      record {
        later = λ m t f below h. record { shape = k.later m t f below h.shape; unpassed = h.unpassed };
        op = λ m t f below o rest ev at is good h.
            record { shape = k.op m t f below o rest ev at is tt h.shape; unpassed = op_unpassed f.visit f.last o rest (at_work m t f below _ at h) };
        reduced = λ m t f g below r rest at is good h.
            let same = reduced_follows c (with_work f rest) g r is in
            record {
              shape = k.reduced m t f g below r rest at is tt h.shape;
              unpassed = subst (λ v. Unpassed id v g.last g.work) (sym same.visit) (subst (λ l. Unpassed id f.visit l g.work) (sym same.last)
                  (reduced_unpassed f g r rest f.visit same (at_work m t f below _ at h)));
            };
        acted = λ m t f below a rest vs hs ev at says good h.
            record { shape = k.acted m t f below a rest vs hs ev at says tt h.shape; unpassed = acted_unpassed f.visit f.last a rest ev says good (at_work m t f below _ at h) };
        begun = λ m t f below n rest at good h.
            record { shape = k.begun m t f below n rest at tt h.shape; unpassed = λ e. subst (λ x. HasAccess id (c.items x)) (sym e) certain };
        branched = λ m t f below n rest at good h.
            let way = is_zero (last_value f.values) in
            record {
              shape = k.branched m t f below n rest at tt h.shape;
              unpassed = ended_unpassed f.visit f.last n (move.Branch n) rest f.of f.values (branch_place n way) refl (branch_source n way) (at_stands m t f below _ at h) (at_work m t f below _ at h);
            };
        edged = λ m t f below n rest at good h.
            record {
              shape = k.edged m t f below n rest at tt h.shape;
              unpassed = ended_unpassed f.visit f.last n (move.Edge n) rest f.of f.values (After n) refl refl (at_stands m t f below _ at h) (at_work m t f below _ at h);
            };
        returned = λ m t f g below rest v at good h below_h.
            record { shape = k.returned m t f g below rest v at tt h.shape below_h.shape; unpassed = below_h.unpassed };
        called = λ m t f below g rest args vs at good h.
            record { shape = k.called m t f below g rest args vs at tt h.shape; unpassed = λ e. no_source id.node.number e };
        created = λ m t u f below target g rest args at good h.
            record { shape = k.created m t u f below target g rest args at tt h.shape; unpassed = λ e. no_source id.node.number e };
      }
