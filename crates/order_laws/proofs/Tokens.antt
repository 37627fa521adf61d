-- The tokens of an order are what all frames owe, and no tokens stay no tokens.
use Rattle.std.proofs.Common.{◌≡◌, ℕ, ◌+◌, ◌≤◌, ℤ, Bool, true, false, ◌&&◌, List, [], ◌∷◌, ◌++◌, map, Option, Some, None, refl, sym, ap, ◌∙◌, subst, arith}
use Rattle.cfix_base.specs.declared.number.NodeId.{NodeId}
use Rattle.cfix_base.specs.declared.number.FnId.{FnId}
use Rattle.cfix_base.specs.declared.op.Op.{Op}
use Rattle.cfix_base.specs.declared.op.Op.TheVariants.{Leave, First, Done, Wait, Enter, Add}
use Rattle.cfix_base.specs.declared.place.Place.{Place}
use Rattle.cfix_base.specs.declared.place.Place.TheVariants.{Start, After, True, False}
use Rattle.step_state.specs.declared.event.Event.{Event}
use Rattle.step_state.specs.declared.item.Item.{Item}
use Rattle.step_state.specs.declared.item.Item.TheVariants as item
use Rattle.step_state.specs.declared.item.Action.TheVariants as action
use Rattle.step_state.specs.declared.item.Move.{Move}
use Rattle.step_state.specs.declared.item.Move.TheVariants as move
use Rattle.step_state.specs.declared.frame.Frame.{Frame}
use Rattle.step_state.specs.Code.{Code, arrive, go_to, fn_id}
use Rattle.step_state.specs.Changes.{with_work}
use Rattle.step_state.specs.Step.{branch_place}
use Rattle.step_state.specs.Values.{is_zero, last_value}
use Rattle.layout_laws.specs.Layout.{Layout, Live, source, place_function, Stands, IsLaidOut}
use Rattle.lock_laws.specs.Guard.{bit, in_set}
use Rattle.order_laws.specs.Tokens.{adds, dones, first_of, owes, before_set, created_comes, creates, Signals, due_work}
use Rattle.frame_laws.proofs.Frames.{Keeps}
use Rattle.layout_laws.proofs.Shape.{Shaped, between_goes, keeps_shape, next_is}
use Rattle.frame_laws.proofs.Reduced.{reduced_follows}

-- the item ends a visit of this node
abbrev pub EndsAt : NodeId → Move → Type 0
EndsAt n (move.Branch k) = k ≡ n
EndsAt n (move.Edge k) = k ≡ n
EndsAt n (move.Node k) = ⊥
EndsAt n move.Exit = ⊥

module _ (c : Code) (y : Layout) (laid : IsLaidOut c y) (j a b : ℕ) (comes root : ℕ → Bool) (sig : Signals c y j a b comes root) where
  abbrev owe : ℕ → Bool
  owe n = owes comes root n

  -- the node that a frame visits, or the one that comes next
  abbrev pub front : Option NodeId → Place → Option ℕ
  front None last = c.next last
  front (Some n) last = Some n.number

  -- where a frame may come to a, the frame below may
  abbrev pub Link : Option ℕ → List Frame → Type 0
  Link o [] = Unit {0}
  Link o (g ∷ below) = in_set comes o ≤ in_set comes (front g.visit g.last)

  pub record Chained (m t : ℕ) (f : Frame) (below : List Frame) : Type 0 where
    pub shape : Shaped c y laid m t f below
    pub link : Link (front f.visit f.last) below

  pub bit_le : (x z : Bool) → (x ≡ true → z ≡ true) → bit x ≤ bit z
  bit_le false z h = omega arith
  bit_le true z h = let e : bit z ≡ 1 = ap bit (h refl) in omega arith

  comes_next : (place : Place) (u : ℕ) (o : Option ℕ) → Live y place → source place ≡ Some u → c.next place ≡ o → in_set comes o ≤ bit (comes u)
  comes_next place u None live s e = omega arith
  comes_next place u (Some v) live s e = bit_le (comes v) (comes u) (sig.comes_on place u v live s e)

  link_less : (o p : Option ℕ) (below : List Frame) → in_set comes o ≤ in_set comes p → Link p below → Link o below
  link_less o p [] le h = tt
  link_less o p (g ∷ below) le h = omega (arith, le, h)

  begun_link : (of : FnId) (visit : Option NodeId) (last : Place) (vs : List ℤ) (n : NodeId) (rest : List Item) (below : List Frame)
      → Stands c y of visit last vs (item.Go (move.Node n) ∷ rest) → Link (front visit last) below → Link (Some n.number) below
  begun_link of None last vs n rest below h link = subst (λ o. Link o below) (next_is c last n rest h.left (c.next last) h.rest) link
  begun_link of (Some k) last vs n rest below h link = absurd h.does

  branch_source : (n : NodeId) (nought : Bool) → source (branch_place n nought) ≡ Some n.number
  branch_source n true = refl
  branch_source n false = refl

  passed_link : (of : FnId) (visit : Option NodeId) (last : Place) (vs : List ℤ) (n : NodeId) (i : Move) (place : Place) (rest : List Item) (below : List Frame)
      → EndsAt n i → source place ≡ Some n.number → Live y place
      → Stands c y of visit last vs (item.Go i ∷ rest) → Link (front visit last) below → Link (c.next place) below
  passed_link of None last vs n (move.Branch k) place rest below ends s live h link = absurd (between_goes c y of last (item.Go (move.Branch k) ∷ rest) h)
  passed_link of None last vs n (move.Edge k) place rest below ends s live h link = absurd (between_goes c y of last (item.Go (move.Edge k) ∷ rest) h)
  passed_link of None last vs n (move.Node k) place rest below ends s live h link = absurd ends
  passed_link of None last vs n move.Exit place rest below ends s live h link = absurd ends
  passed_link of (Some v) last vs n (move.Branch k) place rest below ends s live h link =
      let same : n.number ≡ v.number = sym (ap (λ x. x.number) ends) ∙ h.does.0 in
      link_less (c.next place) (Some v.number) below (subst (λ x. in_set comes (c.next place) ≤ bit (comes x)) same (comes_next place n.number (c.next place) live s refl)) link
  passed_link of (Some v) last vs n (move.Edge k) place rest below ends s live h link =
      let same : n.number ≡ v.number = sym (ap (λ x. x.number) ends) ∙ h.does.0 in
      link_less (c.next place) (Some v.number) below (subst (λ x. in_set comes (c.next place) ≤ bit (comes x)) same (comes_next place n.number (c.next place) live s refl)) link
  passed_link of (Some v) last vs n (move.Node k) place rest below ends s live h link = absurd ends
  passed_link of (Some v) last vs n move.Exit place rest below ends s live h link = absurd ends

  called_link : (of : FnId) (visit : Option NodeId) (last : Place) (vs : List ℤ) (g : FnId) (rest : List Item)
      → Stands c y of visit last vs (item.Act (action.Call g) ∷ rest) → in_set comes (c.next (Start (fn_id g.number))) ≤ in_set comes (front visit last)
  called_link of None last vs g rest h = absurd (between_goes c y of last (item.Act (action.Call g) ∷ rest) h)
  called_link of (Some n) last vs g rest h = first (first_of c g.number) refl
    where
      first : (o : Option ℕ) → first_of c g.number ≡ o → in_set comes o ≤ bit (comes n.number)
      first None e = omega arith
      first (Some v) e = bit_le (comes v) (comes n.number) (sig.comes_call n.number g.number v h.does.0 e)

  at_work : (m t : ℕ) (f : Frame) (below : List Frame) (work : List Item) → f.work ≡ work → Chained m t f below → Stands c y f.of f.visit f.last f.values work
  at_work m t f below work at h = subst (Stands c y f.of f.visit f.last f.values) at h.shape.stands

  abbrev pub All : ℕ → List Frame → Event → Type 0
  All t fs ev = Unit {0}

  pub keeps_chained : Keeps c Chained All
  keeps_chained =
      let k = keeps_shape c y laid in
      record {
        later = λ m t f below h. record { shape = k.later m t f below h.shape; link = h.link };
        op = λ m t f below o rest ev at is good h. record { shape = k.op m t f below o rest ev at is good h.shape; link = h.link };
        reduced = λ m t f g below r rest at is good h.
            let same = reduced_follows c (with_work f rest) g r is in
            record {
              shape = k.reduced m t f g below r rest at is good h.shape;
              link = subst (λ v. Link (front v g.last) below) (sym same.visit) (subst (λ l. Link (front f.visit l) below) (sym same.last) h.link);
            };
        acted = λ m t f below a rest vs hs ev at says good h. record { shape = k.acted m t f below a rest vs hs ev at says good h.shape; link = h.link };
        begun = λ m t f below n rest at good h. record {
          shape = k.begun m t f below n rest at good h.shape;
          link = begun_link f.of f.visit f.last f.values n rest below (at_work m t f below _ at h) h.link;
        };
        branched = λ m t f below n rest at good h.
            let next = k.branched m t f below n rest at good h.shape in
            record {
              shape = next;
              link = passed_link f.of f.visit f.last f.values n (move.Branch n) (branch_place n (is_zero (last_value f.values))) rest below refl
                  (branch_source n (is_zero (last_value f.values))) next.stands.live (at_work m t f below _ at h) h.link;
            };
        edged = λ m t f below n rest at good h.
            let next = k.edged m t f below n rest at good h.shape in
            record {
              shape = next;
              link = passed_link f.of f.visit f.last f.values n (move.Edge n) (After n) rest below refl refl next.stands.live (at_work m t f below _ at h) h.link;
            };
        returned = λ m t f g below rest v at good h below_h. record {
          shape = k.returned m t f g below rest v at good h.shape below_h.shape;
          link = below_h.link;
        };
        called = λ m t f below g rest args vs at good h. record {
          shape = k.called m t f below g rest args vs at good h.shape;
          link = called_link f.of f.visit f.last f.values g rest (at_work m t f below _ at h);
        };
        created = λ m t u f below target g rest args at good h. record { shape = k.created m t u f below target g rest args at good h.shape; link = tt };
      }

  -- what operations before work owe
  pub due_ops : (ops : List Op) (work : List Item) → adds j ops ≤ due_work c y j comes root work
      → due_work c y j comes root (map item.Op ops ++ work) + adds j ops ≡ dones j ops + due_work c y j comes root work
  due_ops [] work le = omega arith
  due_ops (Enter i ∷ ops) work le = omega (arith, due_ops ops work le)
  due_ops (Leave i ∷ ops) work le = omega (arith, due_ops ops work le)
  due_ops (First i ∷ ops) work le = omega (arith, due_ops ops work le)
  due_ops (Wait i ∷ ops) work le = omega (arith, due_ops ops work le)
  due_ops (Add i ∷ ops) work le = omega (arith, due_ops ops work (omega arith))
  due_ops (Done i ∷ ops) work le = omega (arith, due_ops ops work le)

  pub adds_append : (x z : List Op) → adds j (x ++ z) ≡ adds j x + adds j z
  adds_append [] z = omega arith
  adds_append (Add i ∷ x) z = omega (arith, adds_append x z)
  adds_append (Enter i ∷ x) z = adds_append x z
  adds_append (Leave i ∷ x) z = adds_append x z
  adds_append (First i ∷ x) z = adds_append x z
  adds_append (Done i ∷ x) z = adds_append x z
  adds_append (Wait i ∷ x) z = adds_append x z

  pub due_goes : (o : Option ℕ) → due_work c y j comes root (go_to o ∷ []) ≡ in_set owe o + creates c y comes o
  due_goes None = refl
  due_goes (Some n) = refl

  and_left : (x z : Bool) → (x && z) ≡ true → x ≡ true
  and_left true z e = refl
  and_left false z e = cc

  and_right : (x z : Bool) → (x && z) ≡ true → z ≡ true
  and_right true z e = e
  and_right false z e = cc

  and_both : (x z : Bool) → x ≡ true → z ≡ true → (x && z) ≡ true
  and_both true z e f = f
  and_both false z e f = cc

  -- an edge stays in its function, so in a root
  pub root_on : (place : Place) (u v : ℕ) → Live y place → source place ≡ Some u → c.next place ≡ Some v → root v ≡ root u
  root_on place u v live s e = sig.roots v ∙ (ap y.is_root (laid.along place v live e ∙ place_source place s) ∙ sym (sig.roots u))
    where
      place_source : (place : Place) → source place ≡ Some u → place_function y place ≡ y.function u
      place_source (Start f) s = cc
      place_source (After n) s = ap y.function cc
      place_source (True n) s = ap y.function cc
      place_source (False n) s = ap y.function cc

  pub owe_next : (place : Place) (u : ℕ) (o : Option ℕ) → Live y place → source place ≡ Some u → c.next place ≡ o → in_set owe o ≤ bit (owe u)
  owe_next place u None live s e = omega arith
  owe_next place u (Some v) live s e = bit_le (owe v) (owe u) (λ h.
      and_both (root u) (comes u) (sym (root_on place u v live s e) ∙ and_left (root v) (comes v) h) (sig.comes_on place u v live s e (and_right (root v) (comes v) h)))

  pub owe_before : (place : Place) → Live y place → in_set owe (c.next place) ≤ before_set c owe place
  owe_before (Start f) live = omega arith
  owe_before (After n) live = owe_next (After n) n.number (c.next (After n)) live refl refl
  owe_before (True n) live = owe_next (True n) n.number (c.next (True n)) live refl refl
  owe_before (False n) live = owe_next (False n) n.number (c.next (False n)) live refl refl

  -- the work after a place owes what stands before it
  pub due_arrive : (place : Place) → Live y place → due_work c y j comes root (arrive c place) ≡ before_set c owe place
  due_arrive place live =
      let next = c.next place in
      let i = sig.added place live in
      let l = sig.done place live in
      let e = due_goes next in
      let le = owe_before place live in
      let x = due_ops (c.ops place) (go_to next ∷ []) (omega arith) in
      omega arith

  pub created_le : (n : ℕ) (o : Option ℕ) → y.created n ≡ o → created_comes c comes o ≤ bit (comes n)
  created_le n None e = omega arith
  created_le n (Some g) e = first (first_of c g) refl
    where
      first : (o : Option ℕ) → first_of c g ≡ o → in_set comes o ≤ bit (comes n)
      first None w = omega arith
      first (Some v) w = bit_le (comes v) (comes n) (sig.comes_create n g v e w)

  pub creates_le : (o : Option ℕ) → creates c y comes o ≤ in_set comes o
  creates_le None = omega arith
  creates_le (Some n) = created_le n (y.created n) refl
