-- Where the flag of an order is set, a visit of a has ended, and an event of its access was made before that.
use Rattle.std.proofs.Common.{◌≡◌, ◌≢◌, ◌⊎◌, ⊎_elim, inl, inr, ℕ, ℤ, Bool, true, false, List, [], ◌∷◌, ◌++◌, get_or, Option, Some, None, refl, sym, ap, ◌∙◌, subst}
use Rattle.std.specs.Prelude.{slice_get}
use Rattle.std.proofs.lemmas.Bool.Decides.{eqb_tells}
use Rattle.std.proofs.Math.Dec.{eqb}
use Rattle.c_prog.specs.declared.tree.Tree.{Tree}
use Rattle.cfix_base.specs.declared.access.AccessId.{AccessId}
use Rattle.cfix_base.specs.declared.entry.Entry.{Entry}
use Rattle.cfix_base.specs.declared.number.NodeId.{NodeId}
use Rattle.cfix_base.specs.declared.number.FnId.{FnId}
use Rattle.cfix_base.specs.declared.number.OrderId.{OrderId}
use Rattle.cfix_base.specs.declared.op.Op.TheVariants.{First}
use Rattle.cfix_base.specs.declared.place.Place.{Place}
use Rattle.cfix_base.specs.declared.place.Place.TheVariants.{Start}
use Rattle.step_state.specs.declared.event.Event.{Event}
use Rattle.step_state.specs.declared.event.Event.TheVariants as event
use Rattle.step_state.specs.declared.item.Item.{Item}
use Rattle.step_state.specs.declared.item.Item.TheVariants as item
use Rattle.step_state.specs.declared.item.Move.TheVariants as move
use Rattle.step_state.specs.declared.frame.Frame.{Frame}
use Rattle.step_state.specs.declared.thread.Thread.{Thread}
use Rattle.step_state.specs.declared.state.Configuration.{Configuration}
use Rattle.step_state.specs.Code.{Code}
use Rattle.step_state.specs.Changes.{Made, frame_of, thread_of, with_work}
use Rattle.step_state.specs.Start.{start}
use Rattle.step_state.specs.Step.{branch_place, step}
use Rattle.step_state.specs.Values.{is_zero, last_value}
use Rattle.step_state.specs.Run.{Seen, frames_at, at_end}
use Rattle.layout_laws.specs.Layout.{Layout, source, Stands, IsLaidOut}
use Rattle.order_laws.specs.Tokens.{Signals, CreatesOnce, Unpassed}
use Rattle.access_laws.specs.Access.{IsAccess}
use Rattle.order_laws.specs.OrderRuns.{NoneOf, SomeOf, IsVisit, EndsVisit, MadeAndEnded, FlagMeans, Starts, IsCertain}
use Rattle.step_tables.specs.TreeCode.{tree_code}
use Rattle.layout_laws.specs.TreeLayout.{layout_of}
use Rattle.frame_laws.proofs.Each.{Each, each_push}
use Rattle.frame_laws.proofs.Frames.{AllOf, AllFrames, Framed, GoodStep, Keeps, Kept, ThreadFrames, at_event, framed_step}
use Rattle.layout_laws.proofs.Shape.{Shaped, arrived, between_goes, keeps_shape}
use Rattle.frame_laws.proofs.Reduced.{reduced_follows}
use Rattle.frame_laws.proofs.Change.{IsTold, step_tells}
use Rattle.order_laws.proofs.Flags.{Waits, Other}
use Rattle.order_laws.proofs.Ready.{change_flags, stays_unset}
use Rattle.order_laws.proofs.OrderLaws.{Quiet, quiet_run, first_stands, start_unset, all_timely}
use Rattle.frame_laws.specs.Trail.{Trail}
use Rattle.frame_laws.proofs.Trails.{all_left, trail_keeps, trail_split, run_trail}
use Rattle.layout_laws.proofs.TreeLaid.{laid_out}

not_set : (x : Bool) → x ≡ true → x ≡ false → ⊥
not_set x t f = cc

no_node : (k : ℕ) → None ≡ Some k → ⊥
no_node k e = cc

-- accesses can be told apart
same_access : (x z : AccessId) → (x ≡ z) ⊎ (x ≢ z)
same_access x z = ⊎_elim (λ (n : (eqb x.node.number z.node.number ≡ true) × (x.node.number ≡ z.node.number)). ⊎_elim
    (λ (i : (eqb x.index z.index ≡ true) × (x.index ≡ z.index)). inl (λ k. record { node = record { number = n.1 k }; index = i.1 k }))
    (λ (i : (eqb x.index z.index ≡ false) × (x.index ≢ z.index)). inr (λ e. i.1 (ap (λ q. q.index) e))) (eqb_tells x.index z.index))
    (λ (n : (eqb x.node.number z.node.number ≡ false) × (x.node.number ≢ z.node.number)). inr (λ e. n.1 (ap (λ q. q.node.number) e))) (eqb_tells x.node.number z.node.number)

is_access : (id : AccessId) (ev : Event) → IsAccess id ev ⊎ (IsAccess id ev → ⊥)
is_access id (event.Read site i v) = same_access site id
is_access id (event.Write site i v) = same_access site id
is_access id ev = inr (λ h. h)

some_or_none : (id : AccessId) (ms : List Seen) → SomeOf id ms ⊎ NoneOf id ms
some_or_none id [] = inr tt
some_or_none id (m ∷ ms) = pick (is_access id m.event) (some_or_none id ms)
  where
    pick : IsAccess id m.event ⊎ (IsAccess id m.event → ⊥) → SomeOf id ms ⊎ NoneOf id ms → SomeOf id (m ∷ ms) ⊎ NoneOf id (m ∷ ms)
    pick (inl h) r = inl (inl h)
    pick (inr n) (inl h) = inl (inr h)
    pick (inr n) (inr r) = inr (n, r)

-- a step that ends a visit of the node, or none
visits : (k : ℕ) (visit : Option NodeId) → IsVisit k visit ⊎ (IsVisit k visit → ⊥)
visits k None = inr (λ h. h)
visits k (Some n) = ⊎_elim (λ (q : (eqb n.number k ≡ true) × (n.number ≡ k)). inl q.1) (λ (q : (eqb n.number k ≡ false) × (n.number ≢ k)). inr q.1) (eqb_tells n.number k)

is_true : (x : Bool) → (x ≡ true) ⊎ (x ≡ true → ⊥)
is_true true = inl refl
is_true false = inr (λ e. cc)

ends_visit : (k : ℕ) (fs : List Frame) → EndsVisit k fs ⊎ (EndsVisit k fs → ⊥)
ends_visit k [] = inr (λ h. h)
ends_visit k (f ∷ below) = pick (visits k f.visit) (is_true (at_end f.work))
  where
    pick : IsVisit k f.visit ⊎ (IsVisit k f.visit → ⊥) → (at_end f.work ≡ true) ⊎ (at_end f.work ≡ true → ⊥) → EndsVisit k (f ∷ below) ⊎ (EndsVisit k (f ∷ below) → ⊥)
    pick (inl v) (inl e) = inl (v, e)
    pick (inl v) (inr e) = inr (λ h. e h.1)
    pick (inr v) e = inr (λ h. v h.0)

abbrev NotEnd : ℕ → Seen → Type 0
NotEnd k m = EndsVisit k m.before → ⊥

record Split (k : ℕ) (ms : List Seen) : Type 0 where
  pub before : List Seen
  pub ends : Seen
  pub after : List Seen
  pub whole : ms ≡ before ++ ends ∷ after
  pub ended : EndsVisit k ends.before

find_end : (k : ℕ) (ms : List Seen) → Split k ms ⊎ AllOf (NotEnd k) ms
find_end k [] = inr tt
find_end k (m ∷ ms) = pick (ends_visit k m.before) (find_end k ms)
  where
    pick : EndsVisit k m.before ⊎ NotEnd k m → Split k ms ⊎ AllOf (NotEnd k) ms → Split k (m ∷ ms) ⊎ AllOf (NotEnd k) (m ∷ ms)
    pick (inl e) r = inl (record { before = []; ends = m; after = ms; whole = refl; ended = e })
    pick (inr n) (inl s) = inl (record { before = m ∷ s.before; ends = s.ends; after = s.after; whole = ap (λ l. m ∷ l) s.whole; ended = s.ended })
    pick (inr n) (inr r) = inr (n, r)

module _ (c : Code) (y : Layout) (laid : IsLaidOut c y) (id ib : AccessId) (j : ℕ) (comes root : ℕ → Bool)
    (sig : Signals c y j id.node.number ib.node.number comes root) (once : CreatesOnce c y comes) where
  abbrev a : ℕ
  a = id.node.number

  -- no visit of a has ended
  abbrev Unended : Option NodeId → Place → Type 0
  Unended None last = source last ≡ Some a → ⊥
  Unended (Some n) last = Unit {0}

  record Still (m t : ℕ) (f : Frame) (below : List Frame) : Type 0 where
    pub shape : Shaped c y laid m t f below
    pub unended : Unended f.visit f.last

  abbrev NoEnd : ℕ → List Frame → Event → Type 0
  NoEnd t fs ev = EndsVisit a fs → ⊥

  branch_visit : (of : FnId) (visit : Option NodeId) (last : Place) (vs : List ℤ) (n : NodeId) (rest : List Item) → Stands c y of visit last vs (item.Go (move.Branch n) ∷ rest)
      → n.number ≡ a → IsVisit a visit
  branch_visit of None last vs n rest h e = between_goes c y of last (item.Go (move.Branch n) ∷ rest) h
  branch_visit of (Some v) last vs n rest h e = sym h.does.0 ∙ e

  edge_visit : (of : FnId) (visit : Option NodeId) (last : Place) (vs : List ℤ) (n : NodeId) (rest : List Item) → Stands c y of visit last vs (item.Go (move.Edge n) ∷ rest)
      → n.number ≡ a → IsVisit a visit
  edge_visit of None last vs n rest h e = between_goes c y of last (item.Go (move.Edge n) ∷ rest) h
  edge_visit of (Some v) last vs n rest h e = sym h.does.0 ∙ e

  branch_source : (n : NodeId) (nought : Bool) → source (branch_place n nought) ≡ Some n.number
  branch_source n true = refl
  branch_source n false = refl

  number_is : (n : ℕ) → Some n ≡ Some a → n ≡ a
  number_is n e = cc

  at_stands : (m t : ℕ) (f : Frame) (below : List Frame) (work : List Item) → f.work ≡ work → Still m t f below → Stands c y f.of f.visit f.last f.values work
  at_stands m t f below work at h = subst (Stands c y f.of f.visit f.last f.values) at h.shape.stands

  keeps_still : Keeps c Still NoEnd
  keeps_still =
      let k = keeps_shape c y laid in
      record {
        later = λ m t f below h. record { shape = k.later m t f below h.shape; unended = h.unended };
        op = λ m t f below o rest ev at is good h. record { shape = k.op m t f below o rest ev at is tt h.shape; unended = h.unended };
        reduced = λ m t f g below r rest at is good h.
            let same = reduced_follows c (with_work f rest) g r is in
            record {
              shape = k.reduced m t f g below r rest at is tt h.shape;
              unended = subst (λ v. Unended v g.last) (sym same.visit) (subst (λ l. Unended f.visit l) (sym same.last) h.unended);
            };
        acted = λ m t f below x rest vs hs ev at says good h. record { shape = k.acted m t f below x rest vs hs ev at says tt h.shape; unended = h.unended };
        begun = λ m t f below n rest at good h. record { shape = k.begun m t f below n rest at tt h.shape; unended = tt };
        branched = λ m t f below n rest at good h. record {
          shape = k.branched m t f below n rest at tt h.shape;
          unended = λ e.
              let same : n.number ≡ a = number_is n.number (sym (branch_source n (is_zero (last_value f.values))) ∙ e) in
              good (branch_visit f.of f.visit f.last f.values n rest (at_stands m t f below _ at h) same, ap at_end at);
        };
        edged = λ m t f below n rest at good h. record {
          shape = k.edged m t f below n rest at tt h.shape;
          unended = λ e. good (edge_visit f.of f.visit f.last f.values n rest (at_stands m t f below _ at h) (number_is n.number e), ap at_end at);
        };
        returned = λ m t f g below rest v at good h below_h. record { shape = k.returned m t f g below rest v at tt h.shape below_h.shape; unended = below_h.unended };
        called = λ m t f below g rest args vs at good h. record { shape = k.called m t f below g rest args vs at tt h.shape; unended = λ e. no_node a e };
        created = λ m t u f below target g rest args at good h. record { shape = k.created m t u f below target g rest args at tt h.shape; unended = λ e. no_node a e };
      }

  still_first : (of : FnId) (visit : Option NodeId) (last : Place) (vs : List ℤ) (i : OrderId) (rest : List Item) → Stands c y of visit last vs (item.Op (First i) ∷ rest)
      → Unended visit last → i.number ≡ j → ⊥
  still_first of (Some n) last vs i rest h u same = h.does
  still_first of None last vs i rest h u same = u (sig.first last h.live (first_stands c y laid id ib j comes root sig once of last i rest same h h.left refl))

  record Flagless (s : Configuration) : Type 0 where
    pub still : Framed c Still NoEnd s
    pub unset : get_or s.flags j false ≡ false

  flagless_kept : (s : Configuration) (e : Entry) (fs : List Frame) (made : Made) → Flagless s → IsTold c s e.thread e.timeout made
      → Kept (at_event (GoodStep c Still NoEnd) e fs) (Framed c Still NoEnd) made → Kept (at_event (NotEnd a) e fs) Flagless made
  flagless_kept s e fs None h told on = tt
  flagless_kept s e fs (Some (next, ev)) h told on = λ good. record {
    still = on good;
    unset = stays_unset j s next told.frame.work (change_flags c s next e.thread e.timeout told.thread told.frame told.below ev told.change) never h.unset;
  }
    where
      all : AllFrames c Still NoEnd s.made e.thread (told.frame ∷ told.below)
      all = subst (AllFrames c Still NoEnd s.made e.thread) told.top (h.still.at e.thread told.thread told.stands)

      never : (i : OrderId) (rest : List Item) → told.frame.work ≡ item.Op (First i) ∷ rest → i.number ≡ j → ⊥
      never i rest at same = still_first told.frame.of told.frame.visit told.frame.last told.frame.values i rest
          (subst (Stands c y told.frame.of told.frame.visit told.frame.last told.frame.values) at all.0.shape.stands) all.0.unended same

  flagless_step : (s : Configuration) (e : Entry) → Flagless s → Kept (at_event (NotEnd a) e (frames_at (slice_get s.threads e.thread))) Flagless (step c s e)
  flagless_step s e h = flagless_kept s e (frames_at (slice_get s.threads e.thread)) (step c s e) h (step_tells c s e) (framed_step c Still NoEnd keeps_still s e h.still)

  flagless_start : Starts c j comes → (input : List ℤ) → Flagless (start c input)
  flagless_start starts input =
      let new : Thread = thread_of c (frame_of c 0 c.main []) in
      let bare : Each (ThreadFrames c Still NoEnd 1) [] = record { at = λ t th e. cc } in
      record {
        still = each_push (ThreadFrames c Still NoEnd 1) [] new bare (
          record {
            shape = record { stands = arrived c y (frame_of c 0 c.main []).of (Start (frame_of c 0 c.main []).of) tt refl; under = laid.main };
            unended = λ e. no_node a e;
          },
          tt,
        );
        unset = start_unset c y laid id ib j comes root sig once starts input;
      }

  -- a visit whose access was not made does not end
  end_access : (visit : Option NodeId) (last : Place) (work : List Item) → IsVisit a visit → at_end work ≡ true → Unpassed id visit last work → ⊥
  end_access None last work v e u = v
  end_access (Some n) last (item.Go g ∷ work) v e u = u v
  end_access (Some n) last [] v e u = cc
  end_access (Some n) last (item.Op o ∷ work) v e u = cc
  end_access (Some n) last (item.Reduce r ∷ work) v e u = cc
  end_access (Some n) last (item.Act x ∷ work) v e u = cc

  pub flag_means : IsCertain c id → Starts c j comes → (input : List ℤ) (ms : List Seen) (last : Configuration) → Trail c (start c input) ms last → AllOf (λ m. m.event ≡ event.WaitMissed (record { number = j }) → ⊥) ms
      → get_or last.flags j false ≡ true → MadeAndEnded id ms
  flag_means certain starts input ms last trail timely set = pick (find_end a ms)
    where
      made : (p : Split a ms) → SomeOf id p.before ⊎ NoneOf id p.before → SomeOf id p.before
      made p (inl h) = h
      made p (inr none) =
          let whole : Trail c (start c input) (p.before ++ p.ends ∷ p.after) last = subst (λ x. Trail c (start c input) x last) p.whole trail in
          let times : AllOf (λ m. m.event ≡ event.WaitMissed (record { number = j }) → ⊥) (p.before ++ p.ends ∷ p.after) = subst (AllOf (λ m. m.event ≡ event.WaitMissed (record { number = j }) → ⊥)) p.whole timely in
          let m = trail_split c p.before (p.ends ∷ p.after) (start c input) last whole in
          let quiet = quiet_run c y laid id ib j comes root sig once certain starts input p.before m.now m.past
          (all_left (λ m. m.event ≡ event.WaitMissed (record { number = j }) → ⊥) p.before (p.ends ∷ p.after) times) none in
          absurd (by_thread m.now quiet (slice_get m.now.threads p.ends.entry.thread) refl (subst (EndsVisit a) (sym m.future.frames) p.ended))
        where
          by_frames : (s : Configuration) (t : ℕ) (fs : List Frame) → Quiet c y laid id ib j comes root sig once certain s → (th : Thread) → slice_get s.threads t ≡ Some th → th.frames ≡ fs → EndsVisit a fs → ⊥
          by_frames s t [] quiet th at top ends = ends
          by_frames s t (f ∷ below) quiet th at top ends =
              let all = subst (AllFrames c (Waits c y laid id certain.access certain.operands) (Other c y laid id certain.access certain.operands) s.made t) top (quiet.waits.at t th at) in
              end_access f.visit f.last f.work ends.0 ends.1 all.0.unpassed

          by_thread : (s : Configuration) → Quiet c y laid id ib j comes root sig once certain s → (o : Option Thread) → slice_get s.threads p.ends.entry.thread ≡ o → EndsVisit a (frames_at o) → ⊥
          by_thread s quiet None at ends = ends
          by_thread s quiet (Some th) at ends = by_frames s p.ends.entry.thread th.frames quiet th at refl ends

      pick : Split a ms ⊎ AllOf (NotEnd a) ms → MadeAndEnded id ms
      pick (inl p) = record { before = p.before; ends = p.ends; after = p.after; whole = p.whole; made = made p (some_or_none id p.before); ended = p.ended }
      pick (inr none) =
          let end = trail_keeps c (NotEnd a) Flagless flagless_step ms (start c input) last trail none (flagless_start starts input) in
          absurd (not_set (get_or last.flags j false) set end.unset)

-- in runs of programs
pub flag_tells : (tree : Tree) (a b : AccessId) (j : ℕ) (comes root : ℕ → Bool) → Signals (tree_code tree) (layout_of tree) j a.node.number b.node.number comes root
    → CreatesOnce (tree_code tree) (layout_of tree) comes → Starts (tree_code tree) j comes → IsCertain (tree_code tree) a
    → (input : List ℤ) (es : List Entry) → FlagMeans (tree_code tree) j a input es
flag_tells tree a b j comes root sig once starts certain input es = record {
  means = λ steps last ran timely set.
      flag_means (tree_code tree) (layout_of tree) (laid_out tree) a b j comes root sig once certain starts input steps last
      (run_trail (tree_code tree) es (start (tree_code tree) input) steps last ran)
      (all_timely (tree_code tree) (layout_of tree) (laid_out tree) a b j comes root sig once steps timely) set;
}
