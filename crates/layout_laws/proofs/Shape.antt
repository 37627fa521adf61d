-- Where frames stand, kept by every step.
use Rattle.std.proofs.Common.{◌≡◌, ◌⊎◌, inl, inr, ℕ, ℤ, Bool, true, false, List, [], ◌∷◌, ◌++◌, map, Option, Some, None, refl, sym, ap, ◌∙◌, subst, append_assoc}
use Rattle.cfix_base.specs.declared.number.NodeId.{NodeId}
use Rattle.cfix_base.specs.declared.number.FnId.{FnId}
use Rattle.cfix_base.specs.declared.op.Op.{Op}
use Rattle.cfix_base.specs.declared.place.Place.{Place}
use Rattle.cfix_base.specs.declared.place.Place.TheVariants.{Start, After}
use Rattle.step_state.specs.declared.event.Event.{Event}
use Rattle.step_state.specs.declared.item.Item.{Item}
use Rattle.step_state.specs.declared.item.Item.TheVariants as item
use Rattle.step_state.specs.declared.item.Action.{Action}
use Rattle.step_state.specs.declared.item.Action.TheVariants as action
use Rattle.step_state.specs.declared.item.Reduction.{Reduction}
use Rattle.step_state.specs.declared.item.Reduction.TheVariants as reduction
use Rattle.step_state.specs.declared.item.Move.TheVariants as move
use Rattle.step_state.specs.declared.item.Operand.{Operand}
use Rattle.step_state.specs.declared.frame.Frame.{Frame}
use Rattle.step_state.specs.Code.{Code, arrive, go_to, node}
use Rattle.step_state.specs.Changes.{with_work, with_values}
use Rattle.step_state.specs.Reduce.{reduce, frame}
use Rattle.step_state.specs.Step.{branch_place}
use Rattle.step_state.specs.Values.{is_zero, last_value}
use Rattle.layout_laws.specs.Layout.{Layout, MayBe, Live, place_function, Between, OperandOf, InPart, InVisit, Fixed, Visiting, Stands, Calls, Under, IsLaidOut}
use Rattle.frame_laws.specs.Operands.{operand_in}
use Rattle.frame_laws.proofs.Frames.{Keeps}
use Rattle.frame_laws.proofs.Reduced.{FollowsIn, reduced_follows}

-- the first item of the work between two visits is an operation, the next node or the exit
abbrev pub GoesOn : Item → Type 0
GoesOn (item.Op o) = Unit {0}
GoesOn (item.Reduce r) = ⊥
GoesOn (item.Act a) = ⊥
GoesOn (item.Go (move.Node n)) = Unit {0}
GoesOn (item.Go (move.Branch n)) = ⊥
GoesOn (item.Go (move.Edge n)) = ⊥
GoesOn (item.Go move.Exit) = Unit {0}

abbrev pub HeadGoesOn : List Item → Type 0
HeadGoesOn [] = ⊥
HeadGoesOn (i ∷ work) = GoesOn i

go_goes : (next : Option ℕ) → HeadGoesOn (go_to next ∷ [])
go_goes None = tt
go_goes (Some n) = tt

left_goes : (left : List Op) (next : Option ℕ) → HeadGoesOn (map item.Op left ++ go_to next ∷ [])
left_goes [] next = go_goes next
left_goes (o ∷ left) next = tt

pub between_goes : (c : Code) (y : Layout) (of : FnId) (last : Place) (work : List Item) → Between c y of last work → HeadGoesOn work
between_goes c y of last work b = subst HeadGoesOn (sym b.rest) (left_goes b.left (c.next last))

pub in_append : (y : Layout) (n : ℕ) (a b : List Item) → InPart y n a → InVisit y n b → InVisit y n (a ++ b)
in_append y n [] b h k = k
in_append y n (item.Op o ∷ a) b h k = absurd h
in_append y n (item.Reduce r ∷ a) b h k = (h.0, in_append y n a b h.1 k)
in_append y n (item.Act r ∷ a) b h k = (h.0, in_append y n a b h.1 k)
in_append y n (item.Go g ∷ a) b h k = absurd h

-- the next node, where no operation is left
pub next_is : (c : Code) (last : Place) (n : NodeId) (rest : List Item) (left : List Op) (next : Option ℕ)
    → item.Go (move.Node n) ∷ rest ≡ map item.Op left ++ go_to next ∷ [] → next ≡ Some n.number
next_is c last n rest [] None is = cc
next_is c last n rest [] (Some k) is = cc
next_is c last n rest (o ∷ left) next is = cc

-- one operation fewer is left
fewer : (c : Code) (y : Layout) (of : FnId) (last : Place) (o : Op) (rest : List Item) (b : Between c y of last (item.Op o ∷ rest)) (left : List Op) → b.left ≡ left
    → Between c y of last rest
fewer c y of last o rest b [] is = no (c.next last) (b.rest ∙ ap (λ l. map item.Op l ++ go_to (c.next last) ∷ []) is)
  where
    no : (next : Option ℕ) → item.Op o ∷ rest ≡ go_to next ∷ [] → Between c y of last rest
    no None e = cc
    no (Some n) e = cc
fewer c y of last o rest b (p ∷ left) is =
    let e : item.Op o ∷ rest ≡ map item.Op (p ∷ left) ++ go_to (c.next last) ∷ [] = b.rest ∙ ap (λ l. map item.Op l ++ go_to (c.next last) ∷ []) is in
    record {
      live = b.live;
      function = b.function;
      passed = b.passed ++ p ∷ [];
      left = left;
      ops = append_assoc b.passed (p ∷ []) left ∙ (ap (λ l. b.passed ++ l) (sym is) ∙ b.ops);
      rest = cc;
    }

pub arrived : (c : Code) (y : Layout) (of : FnId) (place : Place) → Live y place → place_function y place ≡ of.number → Between c y of place (arrive c place)
arrived c y of place live function = record { live = live; function = function; passed = []; left = c.ops place; ops = refl; rest = refl }

abbrev ActionIs : Action → FnId → Type 0
ActionIs (action.Create target of) g = of ≡ g
ActionIs _ g = ⊥

module _ (c : Code) (y : Layout) (laid : IsLaidOut c y) where
  pub record Shaped (m t : ℕ) (f : Frame) (below : List Frame) : Type 0 where
    pub stands : Stands c y f.of f.visit f.last f.values f.work
    pub under : Under y f.of.number below

  abbrev pub Any : ℕ → List Frame → Event → Type 0
  Any t fs ev = Unit {0}

  abbrev At : Frame → List Item → Type 0
  At f work = Stands c y f.of f.visit f.last f.values work

  at_work : (m t : ℕ) (f : Frame) (below : List Frame) (work : List Item) → f.work ≡ work → Shaped m t f below → At f work
  at_work m t f below work at h = subst (At f) at h.stands

  op_stands : (of : FnId) (visit : Option NodeId) (last : Place) (vs : List ℤ) (o : Op) (rest : List Item)
      → Stands c y of visit last vs (item.Op o ∷ rest) → Stands c y of visit last vs rest
  op_stands of None last vs o rest h = fewer c y of last o rest h h.left refl
  op_stands of (Some n) last vs o rest h = absurd h.does

  -- a condition that is a number
  fixed_reduced : (constant : Option ℤ) (n : ℕ) (f g : Frame) (r : Reduction) (rest : List Item) → reduce c (with_work f rest) r ≡ frame g
      → Fixed constant n f.values (item.Reduce r ∷ rest) → Fixed constant n g.values g.work
  fixed_reduced None n f g r rest is h = tt
  fixed_reduced (Some v) n f g r rest is (inl e) =
      let re : r ≡ reduction.Push v = cc in
      let we : rest ≡ item.Go (move.Branch (node n)) ∷ [] = cc in
      let done : frame (with_values (with_work f rest) (v ∷ f.values)) ≡ frame g = subst (λ x. reduce c (with_work f rest) x ≡ frame g) re is in
      let ge : with_values (with_work f rest) (v ∷ f.values) ≡ g = cc in
      inr (sym (ap (λ x. x.work) ge) ∙ we, sym (ap (λ x. last_value x.values) ge))
  fixed_reduced (Some v) n f g r rest is (inr e) = absurd (differ e.0)
    where
      differ : item.Reduce r ∷ rest ≡ item.Go (move.Branch (node n)) ∷ [] → ⊥
      differ d = cc

  fixed_acted : (constant : Option ℤ) (n : ℕ) (vs ws : List ℤ) (a : Action) (rest : List Item) → Fixed constant n vs (item.Act a ∷ rest) → Fixed constant n ws rest
  fixed_acted None n vs ws a rest h = tt
  fixed_acted (Some v) n vs ws a rest (inl e) = cc
  fixed_acted (Some v) n vs ws a rest (inr e) = absurd (differ e.0)
    where
      differ : item.Act a ∷ rest ≡ item.Go (move.Branch (node n)) ∷ [] → ⊥
      differ d = cc

  reduced_does : (n : ℕ) (f g : Frame) (r : Reduction) (rest : List Item) → FollowsIn c (with_work f rest) g (operand_in r) → InVisit y n (item.Reduce r ∷ rest) → InVisit y n g.work
  reduced_does n f g r rest same does = pick same.work
    where
      pick : (g.work ≡ rest) ⊎ ((o : Operand) × (operand_in r ≡ Some o) × (g.work ≡ c.operand o ++ item.Reduce reduction.Bool ∷ rest)) → InVisit y n g.work
      pick (inl e) = subst (InVisit y n) (sym e) does.1
      pick (inr p) =
          let here : p.0.node.number ≡ n = subst (OperandOf n) p.1 does.0 in
          subst (InVisit y n) (sym p.2)
          (in_append y n (c.operand p.0) (item.Reduce reduction.Bool ∷ rest) (subst (λ k. InPart y k (c.operand p.0)) here (laid.operands p.0)) (tt, does.1))

  reduced_stands : (f g : Frame) (r : Reduction) (rest : List Item) (visit : Option NodeId) → reduce c (with_work f rest) r ≡ frame g
      → FollowsIn c (with_work f rest) g (operand_in r)
      → Stands c y f.of visit f.last f.values (item.Reduce r ∷ rest) → Stands c y f.of visit f.last g.values g.work
  reduced_stands f g r rest None is same h = absurd (between_goes c y f.of f.last (item.Reduce r ∷ rest) h)
  reduced_stands f g r rest (Some n) is same h = record {
    function = h.function;
    does = reduced_does n.number f g r rest same h.does;
    fixed = fixed_reduced (y.constant n.number) n.number f g r rest is h.fixed;
  }

  acted_stands : (of : FnId) (visit : Option NodeId) (last : Place) (vs ws : List ℤ) (a : Action) (rest : List Item)
      → Stands c y of visit last vs (item.Act a ∷ rest) → Stands c y of visit last ws rest
  acted_stands of None last vs ws a rest h = absurd (between_goes c y of last (item.Act a ∷ rest) h)
  acted_stands of (Some n) last vs ws a rest h = record {
    function = h.function;
    does = h.does.1;
    fixed = fixed_acted (y.constant n.number) n.number vs ws a rest h.fixed;
  }

  fixed_items : (n : ℕ) (constant : Option ℤ) → y.constant n ≡ constant → Fixed constant n [] (c.items n)
  fixed_items n None is = tt
  fixed_items n (Some v) is = inl (laid.fixed n v is)

  begun_stands : (of : FnId) (visit : Option NodeId) (last : Place) (vs : List ℤ) (n : NodeId) (rest : List Item)
      → Stands c y of visit last vs (item.Go (move.Node n) ∷ rest) → Visiting y of n.number [] (c.items n.number)
  begun_stands of None last vs n rest h =
      let next : c.next last ≡ Some n.number = next_is c last n rest h.left (c.next last) h.rest in
      record {
        function = laid.along last n.number h.live next ∙ h.function;
        does = laid.visits last n.number h.live next;
        fixed = fixed_items n.number (y.constant n.number) refl;
      }
  begun_stands of (Some k) last vs n rest h = absurd h.does

  -- which way a condition goes
  may_be : (constant : Option ℤ) (n : ℕ) (vs : List ℤ) (b : NodeId) (rest : List Item) → Fixed constant n vs (item.Go (move.Branch b) ∷ rest) → MayBe (is_zero (last_value vs)) constant
  may_be None n vs b rest h = tt
  may_be (Some v) n vs b rest (inl e) = cc
  may_be (Some v) n vs b rest (inr e) = ap is_zero (sym e.1)

  live_branch : (n : NodeId) (nought : Bool) → y.is_cond n.number ≡ true → MayBe nought (y.constant n.number) → Live y (branch_place n nought)
  live_branch n true cond may = (cond, may)
  live_branch n false cond may = (cond, may)

  branch_function : (n : NodeId) (nought : Bool) → place_function y (branch_place n nought) ≡ y.function n.number
  branch_function n true = refl
  branch_function n false = refl

  branched_stands : (of : FnId) (visit : Option NodeId) (last : Place) (vs : List ℤ) (n : NodeId) (rest : List Item)
      → Stands c y of visit last vs (item.Go (move.Branch n) ∷ rest)
      → Between c y of (branch_place n (is_zero (last_value vs))) (arrive c (branch_place n (is_zero (last_value vs))))
  branched_stands of None last vs n rest h = absurd (between_goes c y of last (item.Go (move.Branch n) ∷ rest) h)
  branched_stands of (Some k) last vs n rest h =
      let same : k.number ≡ n.number = sym h.does.0 in
      let way : Bool = is_zero (last_value vs) in
      arrived c y of (branch_place n way)
      (live_branch n way (subst (λ x. y.is_cond x ≡ true) same h.does.1)
      (subst (λ x. MayBe way (y.constant x)) same (may_be (y.constant k.number) k.number vs n rest h.fixed)))
      (branch_function n way ∙ (ap y.function (sym same) ∙ h.function))

  edged_stands : (of : FnId) (visit : Option NodeId) (last : Place) (vs : List ℤ) (n : NodeId) (rest : List Item)
      → Stands c y of visit last vs (item.Go (move.Edge n) ∷ rest) → Between c y of (After n) (arrive c (After n))
  edged_stands of None last vs n rest h = absurd (between_goes c y of last (item.Go (move.Edge n) ∷ rest) h)
  edged_stands of (Some k) last vs n rest h =
      let same : k.number ≡ n.number = sym h.does.0 in
      arrived c y of (After n) (subst (λ x. y.is_cond x ≡ false) same h.does.1) (ap y.function (sym same) ∙ h.function)

  -- a call or a creation that stands first
  calls_first : (of : FnId) (visit : Option NodeId) (last : Place) (vs : List ℤ) (g : FnId) (rest : List Item)
      → Stands c y of visit last vs (item.Act (action.Call g) ∷ rest) → Calls y g.number visit
  calls_first of None last vs g rest h = absurd (between_goes c y of last (item.Act (action.Call g) ∷ rest) h)
  calls_first of (Some n) last vs g rest h = h.does.0

  root_created : (f : Frame) (visit : Option NodeId) (g : FnId) (rest : List Item) (h : List Item) → (i : Action) → ActionIs i g
      → Stands c y f.of visit f.last f.values (item.Act i ∷ rest) → y.is_root g.number ≡ true
  root_created f None g rest w i is h = absurd (between_goes c y f.of f.last (item.Act i ∷ rest) h)
  root_created f (Some n) g rest w (action.Create target of) is h = laid.created n.number g.number (h.does.0 ∙ ap Some (ap (λ x. x.number) is))
  root_created f (Some n) g rest w _ is h = absurd is

  -- a frame that was called returns to a visit of no constant condition
  returned_stands : (of : FnId) (visit : Option NodeId) (last : Place) (vs ws : List ℤ) (work : List Item) (f : ℕ) → Calls y f visit
      → Stands c y of visit last vs work → Stands c y of visit last ws work
  returned_stands of None last vs ws work f calls h = absurd calls
  returned_stands of (Some n) last vs ws work f calls h = record {
    function = h.function;
    does = h.does;
    fixed = loose (y.constant n.number) refl;
  }
    where
      loose : (constant : Option ℤ) → y.constant n.number ≡ constant → Fixed constant n.number ws work
      loose None is = tt
      loose (Some v) is = absurd (differ (sym (laid.no_call n.number v is) ∙ calls))
        where
          differ : None ≡ Some f → ⊥
          differ d = cc

  pub keeps_shape : Keeps c Shaped Any
  keeps_shape = record {
    later = λ m t f below h. record { stands = h.stands; under = h.under };
    op = λ m t f below o rest ev at is good h.
        record { stands = op_stands f.of f.visit f.last f.values o rest (at_work m t f below _ at h); under = h.under };
    reduced = λ m t f g below r rest at is good h.
        let same = reduced_follows c (with_work f rest) g r is in
        let moved : Stands c y f.of f.visit f.last g.values g.work = reduced_stands f g r rest f.visit is same (at_work m t f below _ at h) in
        record {
          stands = subst (λ v. Stands c y g.of v g.last g.values g.work) (sym same.visit)
              (subst (λ l. Stands c y g.of f.visit l g.values g.work) (sym same.last)
              (subst (λ o. Stands c y o f.visit f.last g.values g.work) (sym same.of) moved));
          under = subst (λ o. Under y o.number below) (sym same.of) h.under;
        };
    acted = λ m t f below a rest vs hs ev at says good h.
        record { stands = acted_stands f.of f.visit f.last f.values vs a rest (at_work m t f below _ at h); under = h.under };
    begun = λ m t f below n rest at good h.
        record { stands = begun_stands f.of f.visit f.last f.values n rest (at_work m t f below _ at h); under = h.under };
    branched = λ m t f below n rest at good h.
        record { stands = branched_stands f.of f.visit f.last f.values n rest (at_work m t f below _ at h); under = h.under };
    edged = λ m t f below n rest at good h.
        record { stands = edged_stands f.of f.visit f.last f.values n rest (at_work m t f below _ at h); under = h.under };
    returned = λ m t f g below rest v at good h below_h.
        record { stands = returned_stands g.of g.visit g.last g.values (v ∷ g.values) g.work f.of.number h.under below_h.stands; under = below_h.under };
    called = λ m t f below g rest args vs at good h.
        record {
          stands = arrived c y g (Start g) tt refl;
          under = calls_first f.of f.visit f.last f.values g rest (at_work m t f below _ at h);
        };
    created = λ m t u f below target g rest args at good h.
        record {
          stands = arrived c y g (Start g) tt refl;
          under = root_created f f.visit g rest [] (action.Create target g) refl (at_work m t f below _ at h);
        };
  }
