-- A frame between its visits of two nodes is ahead of the one and has a way back from the other, so its thread holds the lock.
use Rattle.std.proofs.Common.{◌≡◌, ◌≢◌, ◌⊎◌, ⊎_elim, inl, inr, ℕ, zero, suc, ◌+◌, ◌<◌, ◌≤◌, ℤ, Bool, true, false, not, ◌&&◌, List, [], ◌∷◌, ◌++◌, map, set, slice_get, Option, Some, None, refl, sym, ap, ◌∙◌, subst, arith}
use Rattle.std.proofs.lemmas.Bool.Decides.{eqb_tells}
use Rattle.std.proofs.Math.Dec.{eqb}
use Rattle.cfix_base.specs.declared.entry.Entry.{Entry}
use Rattle.cfix_base.specs.declared.number.NodeId.{NodeId}
use Rattle.cfix_base.specs.declared.number.FnId.{FnId}
use Rattle.cfix_base.specs.declared.op.Op.{Op}
use Rattle.cfix_base.specs.declared.op.Op.TheVariants.{Leave, First, Done, Wait, Enter, Add}
use Rattle.cfix_base.specs.declared.place.Place.{Place}
use Rattle.cfix_base.specs.declared.place.Place.TheVariants.{Start, After, True, False}
use Rattle.step_state.specs.declared.event.Event.{Event}
use Rattle.step_state.specs.declared.event.Event.TheVariants as event
use Rattle.step_state.specs.declared.item.Item.{Item}
use Rattle.step_state.specs.declared.item.Item.TheVariants as item
use Rattle.step_state.specs.declared.item.Move.TheVariants as move
use Rattle.step_state.specs.declared.frame.Frame.{Frame}
use Rattle.step_state.specs.declared.thread.Thread.{Thread}
use Rattle.step_state.specs.declared.state.Configuration.{Configuration}
use Rattle.step_state.specs.Code.{Code, arrive, go_to, node}
use Rattle.step_state.specs.Changes.{with_frames, with_work}
use Rattle.step_state.specs.Run.{Seen}
use Rattle.step_state.specs.Step.{branch_place}
use Rattle.step_state.specs.Values.{is_zero, last_value}
use Rattle.lock_laws.specs.Coverage.{Covers, kept_in}
use Rattle.lock_laws.specs.Guard.{bit, in_set, enters, leaves, Carries, need, need_of, needs}
use Rattle.layout_laws.specs.Layout.{Layout, Live, place_function, source, Between, InVisit, Stands, IsLaidOut}
use Rattle.atom_laws.specs.NextVisit.{Forward, Backward, Contains, Quiet}
use Rattle.frame_laws.specs.Trail.{Every}
use Rattle.frame_laws.specs.Trail.{Trail}
use Rattle.lock_laws.proofs.Counts.{need_ops, enters_append}
use Rattle.lock_laws.proofs.Coverage.{covered_holds}
use Rattle.frame_laws.proofs.Frames.{AllFrames, AllOf, Framed, GoodStep, Keeps, framed_step}
use Rattle.frame_laws.proofs.Reduced.{reduced_follows}
use Rattle.atom_laws.proofs.Serials.{above, Falling, AnyStep, Falls, Begun}
use Rattle.layout_laws.proofs.Shape.{Shaped, Any, GoesOn, between_goes, keeps_shape}
use Rattle.frame_laws.proofs.Trails.{trail_keeps}

pub bool_or : (b : Bool) → (b ≡ true) ⊎ (b ≡ false)
bool_or true = inl refl
bool_or false = inr refl

pub get_set : (ths : List Thread) (t : ℕ) (th new : Thread) → slice_get ths t ≡ Some th → slice_get (set ths t new) t ≡ Some new
get_set [] t th new is = cc
get_set (x ∷ ths) zero th new is = refl
get_set (x ∷ ths) (suc t) th new is = get_set ths t th new is

pub same_thread : (o : Option Thread) (a b : Thread) → o ≡ Some a → o ≡ Some b → a ≡ b
same_thread o a b x z = cc

-- the number of the node that work between two visits begins next
abbrev pub comes : List Item → Option ℕ
comes [] = None
comes (item.Op o ∷ work) = comes work
comes (item.Reduce r ∷ work) = None
comes (item.Act a ∷ work) = None
comes (item.Go (move.Node n) ∷ work) = Some n.number
comes (item.Go (move.Branch n) ∷ work) = None
comes (item.Go (move.Edge n) ∷ work) = None
comes (item.Go move.Exit ∷ work) = None

comes_left : (left : List Op) (next : Option ℕ) → comes (map item.Op left ++ go_to next ∷ []) ≡ next
comes_left [] None = refl
comes_left [] (Some n) = refl
comes_left (o ∷ left) next = comes_left left next

pub comes_on : (c : Code) (y : Layout) (of : FnId) (last : Place) (work : List Item) → Between c y of last work → comes work ≡ c.next last
comes_on c y of last work b = ap comes b.rest ∙ comes_left b.left (c.next last)

leaves_append : (k : ℕ) (a b : List Op) → leaves k (a ++ b) ≡ leaves k a + leaves k b
leaves_append k [] b = omega arith
leaves_append k (Leave j ∷ a) b = omega (arith, leaves_append k a b)
leaves_append k (Enter j ∷ a) b = leaves_append k a b
leaves_append k (First j ∷ a) b = leaves_append k a b
leaves_append k (Done j ∷ a) b = leaves_append k a b
leaves_append k (Wait j ∷ a) b = leaves_append k a b
leaves_append k (Add j ∷ a) b = leaves_append k a b

need_next : (kept : ℕ → Bool) (k : ℕ) (o : Option ℕ) → need kept k (go_to o ∷ []) ≡ in_set kept o
need_next kept k None = refl
need_next kept k (Some n) = refl

-- on an edge with both ends in the set the frame holds
pub between_need : (kept : ℕ → Bool) (k : ℕ) (c : Code) (y : Layout) → Carries c y kept k → (of : FnId) (last : Place) (work : List Item) → Between c y of last work
    → in_set kept (source last) ≡ 1 → in_set kept (c.next last) ≡ 1 → need kept k work ≡ 1
between_need kept k c y carries of last work b from into =
    let i = carries.entered last b.live in
    let l = carries.left last b.live in
    let ei : enters k (c.ops last) ≡ enters k b.passed + enters k b.left = ap (enters k) (sym b.ops) ∙ enters_append kept k b.passed b.left in
    let el : leaves k (c.ops last) ≡ leaves k b.passed + leaves k b.left = ap (leaves k) (sym b.ops) ∙ leaves_append k b.passed b.left in
    let g = need_next kept k (c.next last) in
    let a = need_ops kept k b.left (go_to (c.next last) ∷ []) (omega arith) in
    let r : need kept k work ≡ need kept k (map item.Op b.left ++ go_to (c.next last) ∷ []) = ap (need kept k) b.rest in
    omega arith

module _ (c : Code) (y : Layout) (laid : IsLaidOut c y) where
  abbrev pub Shapes : Configuration → Type 0
  Shapes s = Framed c (Shaped c y laid) (Any c y laid) s

  abbrev pub AllShaped : ℕ → ℕ → List Frame → Type 0
  AllShaped m t fs = AllFrames c (Shaped c y laid) (Any c y laid) m t fs

  module _ (tt0 serial0 np nc : ℕ) where
    abbrev BeginIs : (ℕ → Type 0) → Event → Type 0
    BeginIs B (event.Begin n) = B n.number
    BeginIs B _ = Unit {0}

    abbrev pub OnlyGood : (ℕ → Type 0) → ℕ → List Frame → Event → Type 0
    OnlyGood B t [] ev = Unit {0}
    OnlyGood B t (f ∷ fs) ev = t ≡ tt0 → f.serial ≡ serial0 → BeginIs B ev

    -- a fact of the frame with this number, of this thread, alone, beside its shape
    pub record Only (Q : Option NodeId → Place → List Item → Type 0) (m t : ℕ) (f : Frame) (below : List Frame) : Type 0 where
      pub shape : Shaped c y laid m t f below
      pub low : serial0 < m
      pub mine : t ≡ tt0 → f.serial ≡ serial0 → Q f.visit f.last f.work

    -- what is to be shown of such a fact
    pub record Kind (Q : Option NodeId → Place → List Item → Type 0) (B : ℕ → Type 0) : Type 0 where
      pub in_visit : (n : NodeId) (last : Place) (work work2 : List Item) → Q (Some n) last work → Q (Some n) last work2
      pub on_edge : (last : Place) (o : Op) (rest : List Item) → Q None last (item.Op o ∷ rest) → Q None last rest
      pub begins : (of : FnId) (last : Place) (n : NodeId) (rest : List Item) → B n.number → Between c y of last (item.Go (move.Node n) ∷ rest)
          → Q None last (item.Go (move.Node n) ∷ rest) → Q (Some n) last (c.items n.number)
      pub passes : (n : NodeId) (last place : Place) (work : List Item) → Live y place → source place ≡ Some n.number → Q (Some n) last work → Q None place (arrive c place)

    module _ (Q : Option NodeId → Place → List Item → Type 0) (B : ℕ → Type 0) (kind : Kind Q B) where
      keep_op : (visit : Option NodeId) (last : Place) (o : Op) (rest : List Item) → Q visit last (item.Op o ∷ rest) → Q visit last rest
      keep_op None last o rest h = kind.on_edge last o rest h
      keep_op (Some n) last o rest h = kind.in_visit n last (item.Op o ∷ rest) rest h

      keep_item : (of : FnId) (visit : Option NodeId) (last : Place) (vs : List ℤ) (i : Item) (rest work : List Item) → (GoesOn i → ⊥)
          → Stands c y of visit last vs (i ∷ rest) → Q visit last (i ∷ rest) → Q visit last work
      keep_item of None last vs i rest work never stands h = absurd (never (between_goes c y of last (i ∷ rest) stands))
      keep_item of (Some n) last vs i rest work never stands h = kind.in_visit n last (i ∷ rest) work h

      keep_begin : (of : FnId) (visit : Option NodeId) (last : Place) (vs : List ℤ) (n : NodeId) (rest : List Item) → B n.number
          → Stands c y of visit last vs (item.Go (move.Node n) ∷ rest) → Q visit last (item.Go (move.Node n) ∷ rest) → Q (Some n) last (c.items n.number)
      keep_begin of None last vs n rest good stands h = kind.begins of last n rest good stands h
      keep_begin of (Some m) last vs n rest good stands h = absurd stands.does

      source_branch : (n : NodeId) (nought : Bool) → source (branch_place n nought) ≡ Some n.number
      source_branch n true = refl
      source_branch n false = refl

      keep_branch : (of : FnId) (visit : Option NodeId) (last : Place) (vs : List ℤ) (n : NodeId) (rest : List Item) (nought : Bool) → Live y (branch_place n nought)
          → Stands c y of visit last vs (item.Go (move.Branch n) ∷ rest) → Q visit last (item.Go (move.Branch n) ∷ rest)
          → Q None (branch_place n nought) (arrive c (branch_place n nought))
      keep_branch of None last vs n rest nought live stands h = absurd (between_goes c y of last (item.Go (move.Branch n) ∷ rest) stands)
      keep_branch of (Some v) last vs n rest nought live stands h =
          kind.passes v last (branch_place n nought) (item.Go (move.Branch n) ∷ rest) live (source_branch n nought ∙ ap Some stands.does.0) h

      keep_edge : (of : FnId) (visit : Option NodeId) (last : Place) (vs : List ℤ) (n : NodeId) (rest : List Item) → Live y (After n)
          → Stands c y of visit last vs (item.Go (move.Edge n) ∷ rest) → Q visit last (item.Go (move.Edge n) ∷ rest) → Q None (After n) (arrive c (After n))
      keep_edge of None last vs n rest live stands h = absurd (between_goes c y of last (item.Go (move.Edge n) ∷ rest) stands)
      keep_edge of (Some v) last vs n rest live stands h = kind.passes v last (After n) (item.Go (move.Edge n) ∷ rest) live (ap Some stands.does.0) h

      stands_at : (m t : ℕ) (f : Frame) (below : List Frame) (work : List Item) → f.work ≡ work → Only Q m t f below → Stands c y f.of f.visit f.last f.values work
      stands_at m t f below work at h = subst (Stands c y f.of f.visit f.last f.values) at h.shape.stands

      mine_at : (m t : ℕ) (f : Frame) (below : List Frame) (work : List Item) → f.work ≡ work → Only Q m t f below → t ≡ tt0 → f.serial ≡ serial0 → Q f.visit f.last work
      mine_at m t f below work at h a b = subst (Q f.visit f.last) at (h.mine a b)

      other : (m t : ℕ) (f : Frame) (below : List Frame) (n : ℕ) → Only Q m t f below → n ≡ m → n ≡ serial0 → ⊥
      other m t f below n h e d = omega (arith, h.low)

      pub keeps_only : Keeps c (Only Q) (OnlyGood B)
      keeps_only = record {
        later = λ m t f below h. record { shape = (keeps_shape c y laid).later m t f below h.shape; low = omega (arith, h.low); mine = h.mine };
        op = λ m t f below o rest ev at is good h. record {
          shape = (keeps_shape c y laid).op m t f below o rest ev at is tt h.shape;
          low = h.low;
          mine = λ a b. keep_op f.visit f.last o rest (mine_at m t f below (item.Op o ∷ rest) at h a b);
        };
        reduced = λ m t f g below r rest at is good h.
            let same = reduced_follows c (with_work f rest) g r is in
            record {
              shape = (keeps_shape c y laid).reduced m t f g below r rest at is tt h.shape;
              low = h.low;
              mine = λ a b.
                  let moved : Q f.visit f.last g.work = keep_item f.of f.visit f.last f.values (item.Reduce r) rest g.work (λ x. x)
                  (stands_at m t f below (item.Reduce r ∷ rest) at h) (mine_at m t f below (item.Reduce r ∷ rest) at h a (sym same.serial ∙ b)) in
                  subst (λ v. Q v g.last g.work) (sym same.visit) (subst (λ l. Q f.visit l g.work) (sym same.last) moved);
            };
        acted = λ m t f below a rest vs hs ev at says good h. record {
          shape = (keeps_shape c y laid).acted m t f below a rest vs hs ev at says tt h.shape;
          low = h.low;
          mine = λ x b. keep_item f.of f.visit f.last f.values (item.Act a) rest rest (λ z. z)
              (stands_at m t f below (item.Act a ∷ rest) at h) (mine_at m t f below (item.Act a ∷ rest) at h x b);
        };
        begun = λ m t f below n rest at good h. record {
          shape = (keeps_shape c y laid).begun m t f below n rest at tt h.shape;
          low = h.low;
          mine = λ a b. keep_begin f.of f.visit f.last f.values n rest (good a b)
              (stands_at m t f below (item.Go (move.Node n) ∷ rest) at h) (mine_at m t f below (item.Go (move.Node n) ∷ rest) at h a b);
        };
        branched = λ m t f below n rest at good h.
            let new = (keeps_shape c y laid).branched m t f below n rest at tt h.shape in
            record {
              shape = new;
              low = h.low;
              mine = λ a b. keep_branch f.of f.visit f.last f.values n rest (is_zero (last_value f.values)) new.stands.live
                  (stands_at m t f below (item.Go (move.Branch n) ∷ rest) at h) (mine_at m t f below (item.Go (move.Branch n) ∷ rest) at h a b);
            };
        edged = λ m t f below n rest at good h.
            let new = (keeps_shape c y laid).edged m t f below n rest at tt h.shape in
            record {
              shape = new;
              low = h.low;
              mine = λ a b. keep_edge f.of f.visit f.last f.values n rest new.stands.live
                  (stands_at m t f below (item.Go (move.Edge n) ∷ rest) at h) (mine_at m t f below (item.Go (move.Edge n) ∷ rest) at h a b);
            };
        returned = λ m t f g below rest v at good h below_h. record {
          shape = (keeps_shape c y laid).returned m t f g below rest v at tt h.shape below_h.shape;
          low = h.low;
          mine = below_h.mine;
        };
        called = λ m t f below g rest args vs at good h. record {
          shape = (keeps_shape c y laid).called m t f below g rest args vs at tt h.shape;
          low = omega (arith, h.low);
          mine = λ a b. absurd (other m t f below m h refl b);
        };
        created = λ m t u f below target g rest args at good h. record {
          shape = (keeps_shape c y laid).created m t u f below target g rest args at tt h.shape;
          low = omega (arith, h.low);
          mine = λ a b. absurd (other m t f below m h refl b);
        };
      }

    module _ (Q : Option NodeId → Place → List Item → Type 0) (B : ℕ → Type 0) where
      -- frames of other threads
      pub only_others : (m t : ℕ) (fs : List Frame) → AllShaped m t fs → serial0 < m → t ≢ tt0 → AllFrames c (Only Q) (OnlyGood B) m t fs
      only_others m t [] shapes low ne = tt
      only_others m t (f ∷ fs) shapes low ne = (record { shape = shapes.0; low = low; mine = λ a b. absurd (ne a) }, only_others m t fs shapes.1 low ne)

      -- frames below a frame with this number have other numbers
      pub only_below : (m t bound : ℕ) (fs : List Frame) → bound ≤ serial0 → above bound fs → AllFrames c Falling AnyStep m t fs → AllShaped m t fs → serial0 < m
          → AllFrames c (Only Q) (OnlyGood B) m t fs
      only_below m t bound [] le up falls shapes low = tt
      only_below m t bound (f ∷ fs) le up falls shapes low = (
        record { shape = shapes.0; low = low; mine = λ a b. absurd (omega (arith, up, le, b)) },
        only_below m t f.serial fs (omega (arith, up, le)) falls.0.1 falls.1 shapes.1 low,
      )

    module _ (fwd : ℕ → Type 0) (forward : Forward c y np nc fwd) where
      pub record Inner (v : ℕ) : Type 0 where
        pub not_np : v ≢ np
        pub not_nc : v ≢ nc
        pub ahead : fwd v

      abbrev From : Option ℕ → Type 0
      From None = ⊥
      From (Some u) = (u ≡ np) ⊎ Inner u

      -- the frame has begun a visit of np, and has come no further than nc
      abbrev pub Ahead : Option NodeId → Place → List Item → Type 0
      Ahead (Some v) last work = (v.number ≡ np) ⊎ Inner v.number
      Ahead None last work = From (source last)

      -- the node that an edge leads to from there
      from_leads : (place : Place) (o : Option ℕ) (v : ℕ) → Live y place → source place ≡ o → From o → c.next place ≡ Some v → fwd v
      from_leads place None v live e h into = absurd h
      from_leads place (Some u) v live e (inl is) into = forward.first place v (record { live = live; from = e ∙ ap Some is; into = into })
      from_leads place (Some u) v live e (inr i) into = forward.on place u v i.not_np i.not_nc i.ahead (record { live = live; from = e; into = into })

      abbrev pub GoodAhead : ℕ → Type 0
      GoodAhead n = n ≢ nc

      pub ahead_kind : Kind Ahead GoodAhead
      ahead_kind = record {
        in_visit = λ n last work work2 h. h;
        on_edge = λ last o rest h. h;
        begins = λ of last n rest good on h.
            ⊎_elim (λ (e : (eqb n.number np ≡ true) × (n.number ≡ np)). inl e.1) (λ (e : (eqb n.number np ≡ false) × (n.number ≢ np)).
            inr (record {
              not_np = e.1;
              not_nc = good;
              ahead = from_leads last (source last) n.number on.live refl h (sym (comes_on c y of last (item.Go (move.Node n) ∷ rest) on));
            })) (eqb_tells n.number np);
        passes = λ n last place work live e h. subst From (sym e) h;
      }

    module _ (back : ℕ → Type 0) (backward : Backward c y np nc back) where
      abbrev pub no_back : Option ℕ → Type 0
      no_back None = Unit {0}
      no_back (Some v) = back v → ⊥

      -- no path leads on from the frame to nc, with neither np nor nc before its end
      abbrev pub NotBack : Option NodeId → Place → List Item → Type 0
      NotBack (Some v) last work = (v.number ≢ np) × (v.number ≢ nc) × (back v.number → ⊥)
      NotBack None last work = no_back (comes work)

      abbrev pub GoodBack : ℕ → Type 0
      GoodBack n = (n ≢ np) × (n ≢ nc)

      not_back : (place : Place) (u : ℕ) (o : Option ℕ) → Live y place → source place ≡ Some u → c.next place ≡ o → u ≢ np → u ≢ nc → (back u → ⊥) → no_back o
      not_back place u None live from into a b h = tt
      not_back place u (Some v) live from into a b h = λ w. h (backward.on place u v a b (record { live = live; from = from; into = into }) w)

      pub back_kind : Kind NotBack GoodBack
      back_kind = record {
        in_visit = λ n last work work2 h. h;
        on_edge = λ last o rest h. h;
        begins = λ of last n rest good on h. (good.0, good.1, h);
        passes = λ n last place work live e h.
            subst no_back (sym (comes_left (c.ops place) (c.next place))) (not_back place n.number (c.next place) live e refl h.0 h.1 h.2);
      }

    module _ (fwd : ℕ → Type 0) (forward : Forward c y np nc fwd) (back : ℕ → Type 0) (backward : Backward c y np nc back) (set covered : ℕ → Bool) (k : ℕ)
        (contains : Contains np nc fwd back set) (covers : Covers y set covered) (carries : Carries c y (kept_in y set covered) k) where
      abbrev kept : ℕ → Bool
      kept = kept_in y set covered

      kept_bit : (v f : ℕ) → set v ≡ true → y.function v ≡ f → covered f ≡ false → bit (kept v) ≡ 1
      kept_bit v f e function shown = let h : covered (y.function v) ≡ false = ap covered function ∙ shown in λ i. bit (e i && not (h i))

      inner_set : (v : ℕ) → Inner fwd forward v → back v → set v ≡ true
      inner_set v i b = contains.has_inner v i.not_np i.not_nc i.ahead b

      -- a node that the frame comes to is in the set
      next_set : (v : ℕ) → fwd v → back v → set v ≡ true
      next_set v f b =
          ⊎_elim (λ (e : (eqb v np ≡ true) × (v ≡ np)). subst (λ x. set x ≡ true) (sym e.1) contains.has_np) (λ (e : (eqb v np ≡ false) × (v ≢ np)).
          ⊎_elim (λ (d : (eqb v nc ≡ true) × (v ≡ nc)). subst (λ x. set x ≡ true) (sym d.1) contains.has_nc) (λ (d : (eqb v nc ≡ false) × (v ≢ nc)).
          contains.has_inner v e.1 d.1 f b) (eqb_tells v nc)) (eqb_tells v np)

      from_set : (place : Place) (o : Option ℕ) (v : ℕ) → Live y place → source place ≡ o → From fwd forward o → c.next place ≡ Some v → back v
          → (u : ℕ) × (o ≡ Some u) × (set u ≡ true)
      from_set place None v live e h into b = absurd h
      from_set place (Some u) v live e (inl is) into b = (u, refl, subst (λ x. set x ≡ true) (sym is) contains.has_np)
      from_set place (Some u) v live e (inr i) into b =
          (u, refl, inner_set u i (backward.on place u v i.not_np i.not_nc (record { live = live; from = e; into = into }) b))

      source_function : (place : Place) (u : ℕ) → source place ≡ Some u → y.function u ≡ place_function y place
      source_function (Start f) u e = absurd (none_some e)
        where
          none_some : ◌≡◌ {A = Option ℕ} None (Some u) → ⊥
          none_some d = cc
      source_function (After n) u e = let q : n.number ≡ u = cc in ap y.function (sym q)
      source_function (True n) u e = let q : n.number ≡ u = cc in ap y.function (sym q)
      source_function (False n) u e = let q : n.number ≡ u = cc in ap y.function (sym q)

      -- a frame that is ahead in a function that is not covered holds the lock, or has no way back
      holds_shown : (of : FnId) (visit : Option NodeId) (last : Place) (vs : List ℤ) (work : List Item) → covered of.number ≡ false → Stands c y of visit last vs work
          → Ahead fwd forward visit last work → (need_of kept k visit work ≡ 1 → ⊥) → NotBack back backward visit last work
      holds_shown of (Some v) last vs work shown stands (inl is) deny =
          absurd (deny (kept_bit v.number of.number (subst (λ x. set x ≡ true) (sym is) contains.has_np) stands.function shown))
      holds_shown of (Some v) last vs work shown stands (inr i) deny =
          (i.not_np, i.not_nc, (λ b. deny (kept_bit v.number of.number (inner_set v.number i b) stands.function shown)))
      holds_shown of None last vs work shown stands h deny = by_next (comes work) refl
        where
          by_next : (o : Option ℕ) → comes work ≡ o → no_back back backward (comes work)
          by_next None e = subst (no_back back backward) (sym e) tt
          by_next (Some v) e = subst (no_back back backward) (sym e) (λ b.
              let into : c.next last ≡ Some v = sym (comes_on c y of last work stands) ∙ e in
              let ahead = from_leads fwd forward last (source last) v stands.live refl h into in
              let f = from_set last (source last) v stands.live refl h into b in
              let from_one : in_set kept (source last) ≡ 1 = ap (in_set kept) f.1 ∙ kept_bit f.0 of.number f.2 (source_function last f.0 f.1 ∙ stands.function) shown in
              let into_one : in_set kept (c.next last) ≡ 1 = ap (in_set kept) into ∙ kept_bit v of.number (next_set v ahead b) (laid.along last v stands.live into ∙ stands.function) shown in
              deny (between_need kept k c y carries of last work stands from_one into_one))

      -- a thread with a frame that is ahead holds the lock, or the frame has no way back
      holds : (m t : ℕ) (f : Frame) (below : List Frame) → AllShaped m t (f ∷ below) → needs kept k (f ∷ below) ≡ 0 → Ahead fwd forward f.visit f.last f.work
          → NotBack back backward f.visit f.last f.work
      holds m t f below all zero_now h =
          ⊎_elim (λ (hidden : covered f.of.number ≡ true). let d = covered_holds c y laid set covered covers k m t f below all hidden in absurd (omega arith))
          (λ (shown : covered f.of.number ≡ false).
          holds_shown f.of f.visit f.last f.values f.work shown all.0.stands h (λ e. omega arith)) (bool_or (covered f.of.number))

      abbrev AheadAll : ℕ → ℕ → List Frame → Type 0
      AheadAll m t fs = AllFrames c (Only (Ahead fwd forward)) (OnlyGood (GoodAhead fwd forward)) m t fs

      abbrev BackAll : ℕ → ℕ → List Frame → Type 0
      BackAll m t fs = AllFrames c (Only (NotBack back backward)) (OnlyGood (GoodBack back backward)) m t fs

      abbrev pub AheadOf : Configuration → Type 0
      AheadOf s = Framed c (Only (Ahead fwd forward)) (OnlyGood (GoodAhead fwd forward)) s

      abbrev pub BackOf : Configuration → Type 0
      BackOf s = Framed c (Only (NotBack back backward)) (OnlyGood (GoodBack back backward)) s

      -- where the thread does not hold it, no frame of this number has a way back
      find : (m : ℕ) (fs : List Frame) → needs kept k fs ≡ 0 → AllShaped m tt0 fs → AheadAll m tt0 fs → BackAll m tt0 fs
      find m [] zero_now all h = tt
      find m (f ∷ fs) zero_now all h = (
        record { shape = h.0.shape; low = h.0.low; mine = λ a b. holds m tt0 f fs all zero_now (h.0.mine a b) },
        find m fs (omega arith) all.1 h.1,
      )

      -- where the visit of np has just begun, the frame is ahead
      ahead_start : (s next : Configuration) (b : Begun c s tt0 np next) → b.frame.serial ≡ serial0 → Shapes next → Falls c next → AheadOf next
      ahead_start s next b mine shapes falls = record { at = λ t th e. by_thread t th e (eqb_tells t tt0) }
        where
          top : Frame
          top = record (with_work b.frame b.rest) { visit = Some (node np); values = []; work = c.items np }

          new : Thread
          new = with_frames b.thread (top ∷ b.below)

          at_new : slice_get next.threads tt0 ≡ Some new
          at_new = ap (λ ths. slice_get ths tt0) b.after ∙ get_set s.threads tt0 b.thread new b.stands

          fall : AllFrames c Falling AnyStep next.made tt0 (top ∷ b.below)
          fall = falls.at tt0 new at_new

          shape : AllShaped next.made tt0 (top ∷ b.below)
          shape = shapes.at tt0 new at_new

          low : serial0 < next.made
          low = omega (arith, fall.0.0, mine)

          here : AheadAll next.made tt0 (top ∷ b.below)
          here = (
            record { shape = shape.0; low = low; mine = λ x z. inl refl },
            only_below (Ahead fwd forward) (GoodAhead fwd forward) next.made tt0 top.serial b.below (omega (arith, mine)) fall.0.1 fall.1 shape.1 low,
          )

          by_thread : (t : ℕ) (th : Thread) → slice_get next.threads t ≡ Some th → ((eqb t tt0 ≡ true) × (t ≡ tt0)) ⊎ ((eqb t tt0 ≡ false) × (t ≢ tt0)) → AheadAll next.made t th.frames
          by_thread t th e (inl same) =
              let e2 : slice_get next.threads tt0 ≡ Some th = subst (λ i. slice_get next.threads i ≡ Some th) same.1 e in
              let q : new ≡ th = same_thread (slice_get next.threads tt0) new th at_new e2 in
              subst (λ i. AheadAll next.made i th.frames) (sym same.1) (subst (λ z. AheadAll next.made tt0 z.frames) q here)
          by_thread t th e (inr ne) = only_others (Ahead fwd forward) (GoodAhead fwd forward) next.made t th.frames (shapes.at t th e) low ne.1

      -- where the visit of nc begins, the frame has a way back
      back_end : (s next : Configuration) (b : Begun c s tt0 nc next) → b.frame.serial ≡ serial0 → BackOf s → ⊥
      back_end s next b mine back_of = by_visit b.frame.visit here.0.shape.stands (here.0.mine refl mine)
        where
          here : BackAll s.made tt0 (b.frame ∷ b.below)
          here = subst (λ fs. BackAll s.made tt0 fs) b.top (back_of.at tt0 b.thread b.stands)

          by_visit : (o : Option NodeId) → Stands c y b.frame.of o b.frame.last b.frame.values b.frame.work → NotBack back backward o b.frame.last b.frame.work → ⊥
          by_visit (Some n) stands h = subst (InVisit y n.number) b.first stands.does
          by_visit None stands h = subst (λ w. no_back back backward (comes w)) b.first h backward.end

      pub quiet_ahead : (ms : List Seen) → Every (Quiet tt0 serial0 np nc) ms → AllOf (GoodStep c (Only (Ahead fwd forward)) (OnlyGood (GoodAhead fwd forward))) ms
      quiet_ahead [] h = tt
      quiet_ahead (m ∷ ms) h = (one m.entry m.event m.before h.0, quiet_ahead ms h.1)
        where
          one : (e : Entry) (ev : Event) (fs : List Frame) → Quiet tt0 serial0 np nc (record { entry = e; before = fs; event = ev })
              → OnlyGood (GoodAhead fwd forward) e.thread fs ev
          one e ev [] q = tt
          one e (event.Begin n) (f ∷ fs) q = λ a b x. q.not_nc (record { thread = a; frame = ap Some b; event = ap (λ i. event.Begin (node i)) x })
          one e ev (f ∷ fs) q = λ a b. tt

      pub quiet_back : (ms : List Seen) → Every (Quiet tt0 serial0 np nc) ms → AllOf (GoodStep c (Only (NotBack back backward)) (OnlyGood (GoodBack back backward))) ms
      quiet_back [] h = tt
      quiet_back (m ∷ ms) h = (one m.entry m.event m.before h.0, quiet_back ms h.1)
        where
          one : (e : Entry) (ev : Event) (fs : List Frame) → Quiet tt0 serial0 np nc (record { entry = e; before = fs; event = ev })
              → OnlyGood (GoodBack back backward) e.thread fs ev
          one e ev [] q = tt
          one e (event.Begin n) (f ∷ fs) q = λ a b. (
            (λ x. q.not_np (record { thread = a; frame = ap Some b; event = ap (λ i. event.Begin (node i)) x })),
            (λ x. q.not_nc (record { thread = a; frame = ap Some b; event = ap (λ i. event.Begin (node i)) x })),
          )
          one e ev (f ∷ fs) q = λ a b. tt

      -- at a moment between, some frame of this number has a way back
      has_back : (now later next : Configuration) (ms : List Seen) → Trail c now ms later → Every (Quiet tt0 serial0 np nc) ms → (b : Begun c later tt0 nc next)
          → b.frame.serial ≡ serial0 → BackOf now → ⊥
      has_back now later next ms trail quiet b mine h =
          back_end later next b mine
          (trail_keeps c (GoodStep c (Only (NotBack back backward)) (OnlyGood (GoodBack back backward))) BackOf
          (framed_step c (Only (NotBack back backward)) (OnlyGood (GoodBack back backward)) (keeps_only (NotBack back backward) (GoodBack back backward) (back_kind back backward)))
          ms now later trail (quiet_back ms quiet) h)

      -- and that frame is ahead
      ahead_on : (s now : Configuration) (ms : List Seen) → Trail c s ms now → Every (Quiet tt0 serial0 np nc) ms → AheadOf s → AheadOf now
      ahead_on s now ms trail quiet h =
          trail_keeps c (GoodStep c (Only (Ahead fwd forward)) (OnlyGood (GoodAhead fwd forward))) AheadOf
          (framed_step c (Only (Ahead fwd forward)) (OnlyGood (GoodAhead fwd forward)) (keeps_only (Ahead fwd forward) (GoodAhead fwd forward) (ahead_kind fwd forward)))
          ms s now trail (quiet_ahead ms quiet) h

      others : (m t : ℕ) (fs : List Frame) → t ≢ tt0 → AheadAll m t fs → BackAll m t fs
      others m t [] ne h = tt
      others m t (f ∷ fs) ne h = (record { shape = h.0.shape; low = h.0.low; mine = λ a b. absurd (ne a) }, others m t fs ne h.1)

      pub record Held (s : Configuration) : Type 0 where
        pub thread : Thread
        pub stands : slice_get s.threads tt0 ≡ Some thread
        pub deep : 0 < needs kept k thread.frames

      -- the thread holds the lock at a moment between
      holds_now : (now : Configuration) → Shapes now → AheadOf now → (BackOf now → ⊥) → Held now
      holds_now now shapes ahead has = look (slice_get now.threads tt0) refl
        where
          look : (o : Option Thread) → slice_get now.threads tt0 ≡ o → Held now
          look None at = absurd (has (record {
            at = λ t z e. others now.made t z.frames
                (λ same. let e2 : slice_get now.threads tt0 ≡ Some z = subst (λ i. slice_get now.threads i ≡ Some z) same e in none_some z (sym at ∙ e2)) (ahead.at t z e);
          }))
            where
              none_some : (z : Thread) → None ≡ Some z → ⊥
              none_some z d = cc
          look (Some th) at = by_need (needs kept k th.frames) refl
            where
              pick : BackAll now.made tt0 th.frames → (t : ℕ) (z : Thread) → slice_get now.threads t ≡ Some z → ((eqb t tt0 ≡ true) × (t ≡ tt0)) ⊎ ((eqb t tt0 ≡ false) × (t ≢ tt0))
                  → BackAll now.made t z.frames
              pick x t z e (inl same) =
                  let e2 : slice_get now.threads tt0 ≡ Some z = subst (λ i. slice_get now.threads i ≡ Some z) same.1 e in
                  let q : th ≡ z = cc in
                  subst (λ i. BackAll now.made i z.frames) (sym same.1) (subst (λ w. BackAll now.made tt0 w.frames) q x)
              pick x t z e (inr ne) = others now.made t z.frames ne.1 (ahead.at t z e)

              by_need : (n : ℕ) → needs kept k th.frames ≡ n → Held now
              by_need (suc n) e = record { thread = th; stands = at; deep = omega arith }
              by_need zero e =
                  let x : BackAll now.made tt0 th.frames = find now.made th.frames e (shapes.at tt0 th at) (ahead.at tt0 th at) in
                  absurd (has (record { at = λ t z d. pick x t z d (eqb_tells t tt0) }))

      -- between the beginnings of a visit of np and of the next visit of nc the thread holds the lock
      pub holds_between : (s0 s1 now s2 s3 : Configuration) (a b : List Seen) → (first : Begun c s0 tt0 np s1) → first.frame.serial ≡ serial0 → (second : Begun c s2 tt0 nc s3)
          → second.frame.serial ≡ serial0 → Shapes s1 → Falls c s1 → Shapes now → Trail c s1 a now → Trail c now b s2 → Every (Quiet tt0 serial0 np nc) a
          → Every (Quiet tt0 serial0 np nc) b → Held now
      holds_between s0 s1 now s2 s3 a b first mine1 second mine2 shapes falls shapes_now past future qa qb =
          holds_now now shapes_now (ahead_on s1 now a past qa (ahead_start s0 s1 first mine1 shapes falls)) (has_back now s2 s3 b future qb second mine2)
