-- The flag of an order stays unset until its first, which stands behind a visit of a; and runs without timeouts have no violation of an order.
use Rattle.std.proofs.Common.{◌≡◌, ◌≢◌, ◌⊎◌, ⊎_elim, inl, inr, ℕ, ◌+◌, ◌<◌, ℤ, Bool, true, false, List, [], ◌∷◌, ◌++◌, map, get_or, Option, Some, None, refl, sym, ap, ◌∙◌, subst, arith}
use Rattle.std.specs.Prelude.{slice_get, ◌==◌}
use Rattle.std.proofs.lemmas.Bool.Decides.{eqb_tells}
use Rattle.std.proofs.Math.Dec.{eqb}
use Rattle.std.proofs.lemmas.List.{get_or-replicate}
use Rattle.c_prog.specs.declared.tree.Tree.{Tree}
use Rattle.cfix_base.specs.declared.access.AccessId.{AccessId}
use Rattle.cfix_base.specs.declared.entry.Entry.{Entry}
use Rattle.cfix_base.specs.declared.number.NodeId.{NodeId}
use Rattle.cfix_base.specs.declared.number.FnId.{FnId}
use Rattle.cfix_base.specs.declared.number.OrderId.{OrderId}
use Rattle.cfix_base.specs.declared.op.Op.{Op}
use Rattle.cfix_base.specs.declared.op.Op.TheVariants.{Leave, First, Done, Wait, Enter, Add}
use Rattle.cfix_base.specs.declared.place.Place.{Place}
use Rattle.cfix_base.specs.declared.place.Place.TheVariants.{Start}
use Rattle.step_state.specs.declared.event.Event.{Event}
use Rattle.step_state.specs.declared.event.Event.TheVariants as event
use Rattle.step_state.specs.declared.item.Item.{Item}
use Rattle.step_state.specs.declared.item.Item.TheVariants as item
use Rattle.step_state.specs.declared.frame.Frame.{Frame}
use Rattle.step_state.specs.declared.thread.Thread.{Thread}
use Rattle.step_state.specs.declared.state.Configuration.{Configuration}
use Rattle.step_state.specs.Code.{Code, go_to}
use Rattle.step_state.specs.Changes.{Made, frame_of, thread_of}
use Rattle.step_state.specs.Start.{start}
use Rattle.step_state.specs.Step.{step}
use Rattle.step_state.specs.Run.{Seen, frames_at}
use Rattle.layout_laws.specs.Layout.{Layout, Between, Stands, IsLaidOut}
use Rattle.lock_laws.specs.Guard.{bit}
use Rattle.order_laws.specs.Tokens.{firsts, Signals, CreatesOnce, Unpassed}
use Rattle.access_laws.specs.Access.{IsAccess}
use Rattle.order_laws.specs.OrderRuns.{NoneOf, NoneLate, AllBeforeViolation, FirstBeforeViolation, Starts, NoFirst, IsCertain, NoAllBefore, NoFirstBefore}
use Rattle.step_tables.specs.TreeCode.{tree_code}
use Rattle.layout_laws.specs.TreeLayout.{layout_of}
use Rattle.frame_laws.proofs.Each.{Each, each_push}
use Rattle.frame_laws.proofs.Frames.{AllOf, AllFrames, Framed, GoodStep, Kept, ThreadFrames, at_event, framed_step}
use Rattle.layout_laws.proofs.Shape.{arrived}
use Rattle.frame_laws.proofs.Change.{IsTold, step_tells}
use Rattle.order_laws.proofs.Tokens.{Chained, All}
use Rattle.order_laws.proofs.Flags.{Waits, Other, keeps_waits}
use Rattle.order_laws.proofs.Ready.{Order, NoTokens, change_flags, stays_unset, order_step, zero_step, order_start, zero_in_b, token_in_a, all_stand}
use Rattle.access_laws.specs.Access.{TopVisits}
use Rattle.access_laws.proofs.AccessVisits.{access_visits}
use Rattle.frame_laws.specs.Trail.{Trail}
use Rattle.frame_laws.proofs.Trails.{all_left, all_right, trail_keeps, trail_split, run_trail}
use Rattle.layout_laws.proofs.TreeLaid.{laid_out}

not_both : (x : Bool) → x ≡ true → x ≡ false → ⊥
not_both x t f = cc

no_some : (k : ℕ) → None ≡ Some k → ⊥
no_some k e = cc

module _ (c : Code) (y : Layout) (laid : IsLaidOut c y) (id ib : AccessId) (j : ℕ) (comes root : ℕ → Bool)
    (sig : Signals c y j id.node.number ib.node.number comes root) (once : CreatesOnce c y comes) where
  abbrev a : ℕ
  a = id.node.number

  abbrev b : ℕ
  b = ib.node.number

  abbrev Ordered : Configuration → Type 0
  Ordered s = Order c y laid j a b comes root sig once s

  abbrev Time : Seen → Type 0
  Time m = m.event ≡ event.WaitMissed (record { number = j }) → ⊥

  own_bit : (i : ℕ) → i ≡ j → bit (i == j) ≡ 1
  own_bit i e = ⊎_elim (λ (q : (eqb i j ≡ true) × (i ≡ j)). ap bit q.0) (λ (q : (eqb i j ≡ false) × (i ≢ j)). absurd (q.1 e)) (eqb_tells i j)

  firsts_append : (x z : List Op) → firsts j (x ++ z) ≡ firsts j x + firsts j z
  firsts_append [] z = omega arith
  firsts_append (First i ∷ x) z = omega (arith, firsts_append x z)
  firsts_append (Enter i ∷ x) z = firsts_append x z
  firsts_append (Leave i ∷ x) z = firsts_append x z
  firsts_append (Add i ∷ x) z = firsts_append x z
  firsts_append (Done i ∷ x) z = firsts_append x z
  firsts_append (Wait i ∷ x) z = firsts_append x z

  -- a first of the order that stands first is one of the place passed last
  pub first_stands : (of : FnId) (last : Place) (i : OrderId) (rest : List Item) → i.number ≡ j → (h : Between c y of last (item.Op (First i) ∷ rest)) (left : List Op) → h.left ≡ left
      → 0 < firsts j (c.ops last)
  first_stands of last i rest same h [] is = none (c.next last) (h.rest ∙ ap (λ l. map item.Op l ++ go_to (c.next last) ∷ []) is)
    where
      none : (next : Option ℕ) → item.Op (First i) ∷ rest ≡ go_to next ∷ [] → 0 < firsts j (c.ops last)
      none None e = cc
      none (Some n) e = cc
  first_stands of last i rest same h (q ∷ left) is =
      let e : item.Op (First i) ∷ rest ≡ map item.Op (q ∷ left) ++ go_to (c.next last) ∷ [] = h.rest ∙ ap (λ l. map item.Op l ++ go_to (c.next last) ∷ []) is in
      let qe : First i ≡ q = cc in
      let one = own_bit i.number same in
      let sum : firsts j (c.ops last) ≡ firsts j h.passed + (bit (i.number == j) + firsts j left) =
      ap (firsts j) (sym h.ops ∙ ap (λ x. h.passed ++ x) (is ∙ ap (λ x. x ∷ left) (sym qe))) ∙ firsts_append h.passed (First i ∷ left) in
      omega arith

  -- while no event of a was made, a first of the order stands nowhere first
  quiet_first : (of : FnId) (visit : Option NodeId) (last : Place) (vs : List ℤ) (i : OrderId) (rest : List Item) → Stands c y of visit last vs (item.Op (First i) ∷ rest)
      → Unpassed id visit last (item.Op (First i) ∷ rest) → i.number ≡ j → ⊥
  quiet_first of (Some n) last vs i rest h u same = h.does
  quiet_first of None last vs i rest h u same = u (sig.first last h.live (first_stands of last i rest same h h.left refl))

  -- an order without firsts has none first
  never_first : NoFirst c y j → (of : FnId) (visit : Option NodeId) (last : Place) (vs : List ℤ) (i : OrderId) (rest : List Item)
      → Stands c y of visit last vs (item.Op (First i) ∷ rest) → i.number ≡ j → ⊥
  never_first plain of (Some n) last vs i rest h same = h.does
  never_first plain of None last vs i rest h same =
      let some = first_stands of last i rest same h h.left refl in
      let none = plain.none last h.live in
      omega arith

  -- all-before: the order, and its flag is not set
  pub record Unset (s : Configuration) : Type 0 where
    pub order : Ordered s
    pub unset : get_or s.flags j false ≡ false

  unset_kept : NoFirst c y j → (s : Configuration) (e : Entry) (fs : List Frame) (made : Made) → Unset s → IsTold c s e.thread e.timeout made
      → Kept (at_event Time e fs) Ordered made → Kept (at_event Time e fs) Unset made
  unset_kept plain s e fs None h told on = tt
  unset_kept plain s e fs (Some (next, ev)) h told on = λ timely. record {
    order = on timely;
    unset = stays_unset j s next told.frame.work (change_flags c s next e.thread e.timeout told.thread told.frame told.below ev told.change) never h.unset;
  }
    where
      chain : AllFrames c (Chained c y laid j a b comes root sig) (All c y laid j a b comes root sig) s.made e.thread (told.frame ∷ told.below)
      chain = subst (AllFrames c (Chained c y laid j a b comes root sig) (All c y laid j a b comes root sig) s.made e.thread) told.top (h.order.chain.at e.thread told.thread told.stands)

      never : (i : OrderId) (rest : List Item) → told.frame.work ≡ item.Op (First i) ∷ rest → i.number ≡ j → ⊥
      never i rest at same = never_first plain told.frame.of told.frame.visit told.frame.last told.frame.values i rest
          (subst (Stands c y told.frame.of told.frame.visit told.frame.last told.frame.values) at chain.0.shape.stands) same

  pub unset_step : NoFirst c y j → (s : Configuration) (e : Entry) → Unset s → Kept (at_event Time e (frames_at (slice_get s.threads e.thread))) Unset (step c s e)
  unset_step plain s e h = unset_kept plain s e (frames_at (slice_get s.threads e.thread)) (step c s e) h (step_tells c s e) (order_step c y laid j a b comes root sig once s e h.order)

  pub start_unset : Starts c j comes → (input : List ℤ) → get_or (start c input).flags j false ≡ false
  start_unset starts input = get_or-replicate {A = Bool} c.orders j false false starts.known

  pub all_timely : (ms : List Seen) → NoneLate j ms → AllOf Time ms
  all_timely [] h = tt
  all_timely (m ∷ ms) h = (h.0, all_timely ms h.1)

  -- after a step of b without tokens there is none of a
  none_after : (ms between after : List Seen) (first second : Seen) (s last : Configuration) → Trail c s (first ∷ (between ++ second ∷ after)) last
      → AllOf Time (first ∷ (between ++ second ∷ after)) → Ordered s → get_or s.flags j false ≡ false → IsAccess ib first.event → IsAccess id second.event → ⊥
  none_after ms between after first second s last trail timely order unset is_b is_a =
      let at_b : TopVisits b (frames_at (slice_get s.threads first.entry.thread)) =
      access_visits c y s trail.next first.entry first.event ib trail.goes is_b (all_stand c y laid j a b comes root sig once s first.entry.thread order) in
      let zero = pick (zero_in_b c y laid j a b comes root sig once s first.entry.thread order at_b) in
      let m = trail_split c (first ∷ between) (second ∷ after) s last trail in
      let later = trail_keeps c Time (NoTokens c y laid j a b comes root sig once) (zero_step c y laid j a b comes root sig once) (first ∷ between) s m.now m.past
      (all_left Time (first ∷ between) (second ∷ after) timely) (record { order = order; zero = zero }) in
      let at_a : TopVisits a (frames_at (slice_get m.now.threads second.entry.thread)) =
      access_visits c y m.now m.future.next second.entry second.event id m.future.goes is_a (all_stand c y laid j a b comes root sig once m.now second.entry.thread later.order) in
      token_in_a c y laid j a b comes root sig once m.now second.entry.thread later.order at_a later.zero
    where
      pick : (get_or s.tokens j 0 ≡ 0) ⊎ (get_or s.flags j false ≡ true) → get_or s.tokens j 0 ≡ 0
      pick (inl z) = z
      pick (inr f) = absurd (not_both (get_or s.flags j false) f unset)

  pub no_all_before_in : Starts c j comes → NoFirst c y j → (input : List ℤ) (ms : List Seen) (last : Configuration) → Trail c (start c input) ms last → AllOf Time ms
      → AllBeforeViolation id ib ms → ⊥
  no_all_before_in starts plain input ms last whole_trail whole_timely v =
      let rest : List Seen = v.first ∷ (v.between ++ v.second ∷ v.after) in
      let trail : Trail c (start c input) (v.before ++ v.first ∷ (v.between ++ v.second ∷ v.after)) last = subst (λ x. Trail c (start c input) x last) v.whole whole_trail in
      let timely : AllOf Time (v.before ++ v.first ∷ (v.between ++ v.second ∷ v.after)) = subst (AllOf Time) v.whole whole_timely in
      let m = trail_split c v.before rest (start c input) last trail in
      let here = trail_keeps c Time Unset (unset_step plain) v.before (start c input) m.now m.past (all_left Time v.before rest timely)
      (record { order = order_start c y laid j a b comes root sig once starts input; unset = start_unset starts input }) in
      none_after ms v.between v.after v.first v.second m.now last m.future (all_right Time v.before rest timely) here.order here.unset v.is_b v.is_a

  -- first-before
  module _ (certain : IsCertain c id) where
    abbrev W : ℕ → ℕ → Frame → List Frame → Type 0
    W = Waits c y laid id certain.access certain.operands

    abbrev GW : ℕ → List Frame → Event → Type 0
    GW = Other c y laid id certain.access certain.operands

    -- no event of a was made: no frame has passed its node, and the flag is not set
    pub record Quiet (s : Configuration) : Type 0 where
      pub order : Ordered s
      pub waits : Framed c W GW s
      pub unset : get_or s.flags j false ≡ false

    abbrev TimeOther : Seen → Type 0
    TimeOther m = Time m × (IsAccess id m.event → ⊥)

    quiet_kept : (s : Configuration) (e : Entry) (fs : List Frame) (made : Made) → Quiet s → IsTold c s e.thread e.timeout made
        → Kept (at_event Time e fs) Ordered made → Kept (at_event (GoodStep c W GW) e fs) (Framed c W GW) made → Kept (at_event TimeOther e fs) Quiet made
    quiet_kept s e fs None h told on waits = tt
    quiet_kept s e fs (Some (next, ev)) h told on waits = λ good. record {
      order = on good.0;
      waits = waits good.1;
      unset = stays_unset j s next told.frame.work (change_flags c s next e.thread e.timeout told.thread told.frame told.below ev told.change) never h.unset;
    }
      where
        all : AllFrames c W GW s.made e.thread (told.frame ∷ told.below)
        all = subst (AllFrames c W GW s.made e.thread) told.top (h.waits.at e.thread told.thread told.stands)

        never : (i : OrderId) (rest : List Item) → told.frame.work ≡ item.Op (First i) ∷ rest → i.number ≡ j → ⊥
        never i rest at same = quiet_first told.frame.of told.frame.visit told.frame.last told.frame.values i rest
            (subst (Stands c y told.frame.of told.frame.visit told.frame.last told.frame.values) at all.0.shape.stands)
            (subst (Unpassed id told.frame.visit told.frame.last) at all.0.unpassed) same

    pub quiet_step : (s : Configuration) (e : Entry) → Quiet s → Kept (at_event TimeOther e (frames_at (slice_get s.threads e.thread))) Quiet (step c s e)
    quiet_step s e h = quiet_kept s e (frames_at (slice_get s.threads e.thread)) (step c s e) h (step_tells c s e) (order_step c y laid j a b comes root sig once s e h.order)
        (framed_step c W GW (keeps_waits c y laid id certain.access certain.operands) s e h.waits)

    pub quiet_start : Starts c j comes → (input : List ℤ) → Quiet (start c input)
    quiet_start starts input =
        let new : Thread = thread_of c (frame_of c 0 c.main []) in
        let bare : Each (ThreadFrames c W GW 1) [] = record { at = λ t th e. cc } in
        record {
          order = order_start c y laid j a b comes root sig once starts input;
          waits = each_push (ThreadFrames c W GW 1) [] new bare (
            record {
              shape = record { stands = arrived c y (frame_of c 0 c.main []).of (Start (frame_of c 0 c.main []).of) tt refl; under = laid.main };
              unpassed = λ e. no_some id.node.number e;
            },
            tt,
          );
          unset = start_unset starts input;
        }

    both : (ms : List Seen) → AllOf Time ms → NoneOf id ms → AllOf TimeOther ms
    both [] h none = tt
    both (m ∷ ms) h none = ((h.0, none.0), both ms h.1 none.1)

    -- a run without timeouts and without an event of a leaves the flag unset
    pub quiet_run : Starts c j comes → (input : List ℤ) (ms : List Seen) (last : Configuration) → Trail c (start c input) ms last → AllOf Time ms → NoneOf id ms → Quiet last
    quiet_run starts input ms last trail timely none = trail_keeps c TimeOther Quiet quiet_step ms (start c input) last trail (both ms timely none) (quiet_start starts input)

    pub no_first_before_in : Starts c j comes → (input : List ℤ) (ms : List Seen) (last : Configuration) → Trail c (start c input) ms last → AllOf Time ms
        → FirstBeforeViolation id ib ms → ⊥
    no_first_before_in starts input ms last whole_trail whole_timely v =
        let rest : List Seen = v.first ∷ (v.between ++ v.second ∷ v.after) in
        let trail : Trail c (start c input) (v.before ++ v.first ∷ (v.between ++ v.second ∷ v.after)) last = subst (λ x. Trail c (start c input) x last) v.whole whole_trail in
        let timely : AllOf Time (v.before ++ v.first ∷ (v.between ++ v.second ∷ v.after)) = subst (AllOf Time) v.whole whole_timely in
        let m = trail_split c v.before rest (start c input) last trail in
        let here = quiet_run starts input v.before m.now m.past (all_left Time v.before rest timely) v.none in
        none_after ms v.between v.after v.first v.second m.now last m.future (all_right Time v.before rest timely) here.order here.unset v.is_b v.is_a

-- in runs of programs
pub no_all_before : (tree : Tree) (a b : AccessId) (j : ℕ) (comes root : ℕ → Bool) → Signals (tree_code tree) (layout_of tree) j a.node.number b.node.number comes root
    → CreatesOnce (tree_code tree) (layout_of tree) comes → Starts (tree_code tree) j comes → NoFirst (tree_code tree) (layout_of tree) j
    → (input : List ℤ) (es : List Entry) → NoAllBefore (tree_code tree) j a b input es
no_all_before tree a b j comes root sig once starts plain input es = record {
  none = λ steps last ran timely v.
      no_all_before_in (tree_code tree) (layout_of tree) (laid_out tree) a b j comes root sig once starts plain input steps last
      (run_trail (tree_code tree) es (start (tree_code tree) input) steps last ran)
      (all_timely (tree_code tree) (layout_of tree) (laid_out tree) a b j comes root sig once steps timely) v;
}

pub no_first_before : (tree : Tree) (a b : AccessId) (j : ℕ) (comes root : ℕ → Bool) → Signals (tree_code tree) (layout_of tree) j a.node.number b.node.number comes root
    → CreatesOnce (tree_code tree) (layout_of tree) comes → Starts (tree_code tree) j comes → IsCertain (tree_code tree) a
    → (input : List ℤ) (es : List Entry) → NoFirstBefore (tree_code tree) j a b input es
no_first_before tree a b j comes root sig once starts certain input es = record {
  none = λ steps last ran timely v.
      no_first_before_in (tree_code tree) (layout_of tree) (laid_out tree) a b j comes root sig once certain starts input steps last
      (run_trail (tree_code tree) es (start (tree_code tree) input) steps last ran)
      (all_timely (tree_code tree) (layout_of tree) (laid_out tree) a b j comes root sig once steps timely) v;
}
