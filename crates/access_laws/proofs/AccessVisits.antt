-- The event of an access comes while the top frame visits the access's node.
use Rattle.std.proofs.Common.{◌≡◌, ℕ, zero, suc, ℤ, Bool, true, false, ◌||◌, List, [], ◌∷◌, slice_get, Option, Some, None, refl, sym, ap, subst}
use Rattle.std.specs.Prelude.{slice_index, slice_index_or}
use Rattle.cfix_base.specs.declared.number.VarId.{VarId}
use Rattle.cfix_base.specs.declared.number.FnId.{FnId}
use Rattle.cfix_base.specs.declared.number.LockId.{LockId}
use Rattle.cfix_base.specs.declared.number.NodeId.{NodeId}
use Rattle.cfix_base.specs.declared.number.OrderId.{OrderId}
use Rattle.cfix_base.specs.declared.op.Op.{Op}
use Rattle.cfix_base.specs.declared.op.Op.TheVariants.{Leave, First, Done, Wait, Enter, Add}
use Rattle.cfix_base.specs.declared.place.Place.{Place}
use Rattle.cfix_base.specs.declared.place.Place.TheVariants.{Start}
use Rattle.cfix_base.specs.declared.access.AccessId.{AccessId}
use Rattle.cfix_base.specs.declared.entry.Entry.{Entry}
use Rattle.c_prog.specs.declared.tree.Tree.{Tree}
use Rattle.step_state.specs.declared.event.Event.{Event}
use Rattle.step_state.specs.declared.event.Event.TheVariants as event
use Rattle.step_state.specs.declared.event.Ending.{Ending}
use Rattle.step_state.specs.declared.event.Ending.TheVariants as ending
use Rattle.step_state.specs.declared.item.Item.{Item}
use Rattle.step_state.specs.declared.item.Item.TheVariants as item
use Rattle.step_state.specs.declared.item.Action.{Action}
use Rattle.step_state.specs.declared.item.Action.TheVariants as action
use Rattle.step_state.specs.declared.item.Move.{Move}
use Rattle.step_state.specs.declared.item.Move.TheVariants as move
use Rattle.step_state.specs.declared.item.GlobalSite.{GlobalSite}
use Rattle.step_state.specs.declared.item.HandleSite.{HandleSite}
use Rattle.step_state.specs.declared.frame.Frame.{Frame}
use Rattle.step_state.specs.declared.thread.Thread.{Thread}
use Rattle.step_state.specs.declared.state.Configuration.{Configuration}
use Rattle.step_state.specs.Code.{Code, fn_id, node}
use Rattle.step_state.specs.Values.{last_value, other_values, past_index, index_value}
use Rattle.step_state.specs.Changes.{Made, frame_of, thread_of, with_frames, with_values, with_work}
use Rattle.step_state.specs.Reduce.{Reduced, frame, trap, reduce, reduced}
use Rattle.step_state.specs.Act.{act, fetched, written, taken, locked, unlocked, created, joined_ended, joined_once, joined_some, joined_number, joined_at, slept, woken}
use Rattle.step_state.specs.Operate.{may_enter, no_token, enter, wait, operate}
use Rattle.step_state.specs.Run.{Seen, frames_at, run}
use Rattle.step_state.specs.Step.{leave_frame, returned, go, work_step, frames_step, thread_step, unended_step, step}
use Rattle.layout_laws.specs.Layout.{Layout, Stands, IsLaidOut}
use Rattle.frame_laws.specs.Trail.{Every}
use Rattle.frame_laws.specs.Trail.{Trail}
use Rattle.frame_laws.proofs.Frames.{AllFrames, Framed, GoodStep, ThreadFrames, framed_step}
use Rattle.layout_laws.proofs.Shape.{Shaped, Any, arrived, between_goes, keeps_shape}
use Rattle.frame_laws.proofs.Trails.{made_keeps, run_trail}
use Rattle.step_state.specs.Start.{start}
use Rattle.step_tables.specs.TreeCode.{tree_code}
use Rattle.frame_laws.proofs.Each.{Each, each_push}
use Rattle.layout_laws.specs.TreeLayout.{layout_of}
use Rattle.layout_laws.proofs.TreeLaid.{laid_out}
use Rattle.access_laws.specs.Access.{AtNode, ComesIn, IsAccess, TopVisits}

-- the event is of no access, or of one at the node that is visited
abbrev pub AccessAt : Option NodeId → Event → Type 0
AccessAt visit (event.Read id i v) = visit ≡ Some (node id.node.number)
AccessAt visit (event.Write id i v) = visit ≡ Some (node id.node.number)
AccessAt visit _ = Unit {0}

abbrev pub TopAt : List Frame → Event → Type 0
TopAt [] ev = ⊥
TopAt (f ∷ fs) ev = AccessAt f.visit ev

module _ (visit : Option NodeId) where
  abbrev At : Made → Type 0
  At None = Unit {0}
  At (Some (next, ev)) = AccessAt visit ev

  module _ (s : Configuration) (t : ℕ) (th : Thread) where
    enter_at : (k : LockId) (late may : Bool) → At (enter s t th k late may)
    enter_at k false true = tt
    enter_at k true false = tt
    enter_at k false false = tt
    enter_at k true true = tt

    wait_at : (j : OrderId) (late ready : Bool) → At (wait s t th j late ready)
    wait_at j false true = tt
    wait_at j true false = tt
    wait_at j false false = tt
    wait_at j true true = tt

    operate_at : (late : Bool) (o : Op) → At (operate s t th late o)
    operate_at late (Enter k) = enter_at k late (may_enter (slice_index_or s.locks k.number None) t)
    operate_at late (Wait j) = wait_at j late (no_token (slice_index s.tokens j.number) || slice_index_or s.flags j.number false)
    operate_at true (Leave k) = tt
    operate_at true (First j) = tt
    operate_at true (Done j) = tt
    operate_at true (Add j) = tt
    operate_at false (Leave k) = tt
    operate_at false (First j) = tt
    operate_at false (Done j) = tt
    operate_at false (Add j) = tt

    module _ (f : Frame) (below : List Frame) where
      fetched_at : (site : GlobalSite) (i : ℤ) (vs : List ℤ) (o : Option ℤ) → visit ≡ Some (node site.access.node.number) → At (fetched s t th f below site i vs o)
      fetched_at site i vs None here = tt
      fetched_at site i vs (Some v) here = here

      written_at : (site : GlobalSite) (i : ℤ) (vs : List ℤ) (v : ℤ) (o : Option ℤ) → visit ≡ Some (node site.access.node.number) → At (written s t th f below site i vs v o)
      written_at site i vs v None here = tt
      written_at site i vs v (Some old) here = here

      taken_at : (input : List ℤ) → At (taken s t th f below input)
      taken_at [] = tt
      taken_at (v ∷ left) = tt

      locked_at : (v : VarId) (o : Option ℕ) → At (locked s t th f below v o)
      locked_at v None = tt
      locked_at v (Some u) = tt

      unlocked_at : (v : VarId) (own : Bool) → At (unlocked s t th f below v own)
      unlocked_at v true = tt
      unlocked_at v false = tt

      slept_at : (v w : VarId) (own : Bool) → At (slept s t th f below v w own)
      slept_at v w true = tt
      slept_at v w false = tt

      woken_at : (v w : VarId) (asleep : Bool) (o : Option ℕ) → At (woken s t th f below v w asleep o)
      woken_at v w true o = tt
      woken_at v w false (Some u) = tt
      woken_at v w false None = tt

      ended_at : (n : ℕ) (other : Thread) (fs : List Frame) → At (joined_ended s t th f below n other fs)
      ended_at n other [] = tt
      ended_at n other (g ∷ fs) = tt

      once_at : (n : ℕ) (other : Thread) (was : Bool) → At (joined_once s t th f below n other was)
      once_at n other true = tt
      once_at n other false = ended_at n other other.frames

      some_at : (n : ℕ) (o : Option Thread) → At (joined_some s t th f below n o)
      some_at n None = tt
      some_at n (Some other) = once_at n other other.joined

      number_at : (n : ℕ) → At (joined_number s t th f below n)
      number_at zero = tt
      number_at (suc n) = some_at (suc n) (slice_get s.threads (suc n))

      joining_at : (o : Option ℕ) → At (joined_at s t th f below o)
      joining_at None = tt
      joining_at (Some n) = number_at n

    left_at : (v : ℤ) (fs : List Frame) → At (leave_frame s t th v fs)
    left_at v [] = tt
    left_at v (g ∷ fs) = tt

    reduced_at : (below : List Frame) (o : Reduced) → At (reduced s t th below o)
    reduced_at below (frame g) = tt
    reduced_at below (trap x) = tt

  created_at : (c : Code) (s : Configuration) (t : ℕ) (th : Thread) (f : Frame) (below : List Frame) (target : HandleSite) (g : FnId) (i : ℤ) (vs : List ℤ) (arg : ℤ) (o : Option ℕ)
      → At (created c s t th f below target g i vs arg o)
  created_at c s t th f below target g i vs arg None = tt
  created_at c s t th f below target g i vs arg (Some old) = tt

  go_at : (c : Code) (s : Configuration) (t : ℕ) (th : Thread) (f : Frame) (below : List Frame) (g : Move) → At (go c s t th f below g)
  go_at c s t th f below (move.Node n) = tt
  go_at c s t th f below (move.Branch n) = tt
  go_at c s t th f below (move.Edge n) = tt
  go_at c s t th f below move.Exit = left_at s t th (returned c f f.last) below

at_node : (id : AccessId) (visit : Option NodeId) (ev : Event) → IsAccess id ev → AccessAt visit ev → AtNode id.node.number visit
at_node id visit (event.Read site i v) is h = subst (AtNode id.node.number) (sym h) (ap (λ x. x.node.number) is)
at_node id visit (event.Write site i v) is h = subst (AtNode id.node.number) (sym h) (ap (λ x. x.node.number) is)
at_node id visit _ is h = absurd is

top_at_node : (id : AccessId) (fs : List Frame) (ev : Event) → IsAccess id ev → TopAt fs ev → TopVisits id.node.number fs
top_at_node id [] ev is top = absurd top
top_at_node id (f ∷ below) ev is top = at_node id f.visit ev is top

module _ (c : Code) (y : Layout) where
  -- each frame of the list stands where the layout says
  abbrev pub AllStand : List Frame → Type 0
  AllStand [] = Unit {0}
  AllStand (f ∷ below) = Stands c y f.of f.visit f.last f.values f.work × AllStand below

  -- an item of an access stands first: its node is visited
  get_here : (of : FnId) (visit : Option NodeId) (last : Place) (vs : List ℤ) (site : GlobalSite) (rest : List Item)
      → Stands c y of visit last vs (item.Act (action.Get site) ∷ rest) → visit ≡ Some (node site.access.node.number)
  get_here of None last vs site rest h = absurd (between_goes c y of last (item.Act (action.Get site) ∷ rest) h)
  get_here of (Some n) last vs site rest h = ap (λ i. Some (node i)) (sym h.does.0)

  keep_here : (of : FnId) (visit : Option NodeId) (last : Place) (vs : List ℤ) (site : GlobalSite) (rest : List Item)
      → Stands c y of visit last vs (item.Act (action.GetKeep site) ∷ rest) → visit ≡ Some (node site.access.node.number)
  keep_here of None last vs site rest h = absurd (between_goes c y of last (item.Act (action.GetKeep site) ∷ rest) h)
  keep_here of (Some n) last vs site rest h = ap (λ i. Some (node i)) (sym h.does.0)

  put_here : (of : FnId) (visit : Option NodeId) (last : Place) (vs : List ℤ) (site : GlobalSite) (rest : List Item)
      → Stands c y of visit last vs (item.Act (action.Put site) ∷ rest) → visit ≡ Some (node site.access.node.number)
  put_here of None last vs site rest h = absurd (between_goes c y of last (item.Act (action.Put site) ∷ rest) h)
  put_here of (Some n) last vs site rest h = ap (λ i. Some (node i)) (sym h.does.0)

  module _ (s : Configuration) (t : ℕ) (th : Thread) (f : Frame) (below : List Frame) where
    act_at : (a : Action) (rest : List Item) → Stands c y f.of f.visit f.last f.values (item.Act a ∷ rest) → At f.visit (act c s t th (with_work f rest) below a)
    act_at (action.Get site) rest h = fetched_at f.visit s t th (with_work f rest) below site (index_value site.indexed f.values) (past_index site.indexed f.values) _ (get_here f.of f.visit f.last f.values site rest h)
    act_at (action.GetKeep site) rest h = fetched_at f.visit s t th (with_work f rest) below site (index_value site.indexed f.values) f.values _ (keep_here f.of f.visit f.last f.values site rest h)
    act_at (action.Put site) rest h = written_at f.visit s t th (with_work f rest) below site (index_value site.indexed (other_values f.values)) (past_index site.indexed (other_values f.values)) (last_value f.values) _ (put_here f.of f.visit f.last f.values site rest h)
    act_at action.Take rest h = taken_at f.visit s t th (with_work f rest) below s.input
    act_at (action.Lock v) rest h = locked_at f.visit s t th (with_work f rest) below v _
    act_at (action.Unlock v) rest h = unlocked_at f.visit s t th (with_work f rest) below v _
    act_at (action.Create target g) rest h = created_at f.visit c s t th (with_work f rest) below target g (index_value target.indexed (other_values f.values)) (past_index target.indexed (other_values f.values)) (last_value f.values) _
    act_at (action.Join target) rest h = joining_at f.visit s t th (with_values (with_work f rest) (past_index target.indexed f.values)) below _
    act_at (action.Print n args) rest h = tt
    act_at (action.Call g) rest h = tt
    act_at (action.Sleep v w) rest h = slept_at f.visit s t th (with_work f rest) below v w _
    act_at (action.Wake v w) rest h = woken_at f.visit s t th (with_work f rest) below v w _ _
    act_at (action.Signal v) rest h = tt
    act_at (action.Broadcast v) rest h = tt

    work_at : (late : Bool) (work : List Item) → Stands c y f.of f.visit f.last f.values work → At f.visit (work_step c s t late th f below work)
    work_at late [] h = tt
    work_at late (item.Op o ∷ rest) h = operate_at f.visit s t (with_frames th (with_work f rest ∷ below)) late o
    work_at true (item.Reduce r ∷ rest) h = tt
    work_at true (item.Act a ∷ rest) h = tt
    work_at true (item.Go g ∷ rest) h = tt
    work_at false (item.Reduce r ∷ rest) h = reduced_at f.visit s t th below (reduce c (with_work f rest) r)
    work_at false (item.Act a ∷ rest) h = act_at a rest h
    work_at false (item.Go g ∷ rest) h = go_at f.visit c s t th (with_work f rest) below g

  abbrev Tops : List Frame → Made → Type 0
  Tops fs None = Unit {0}
  Tops fs (Some (next, ev)) = TopAt fs ev

  at_tops : (f : Frame) (below : List Frame) (made : Made) → At f.visit made → Tops (f ∷ below) made
  at_tops f below None h = tt
  at_tops f below (Some (next, ev)) h = h

  frames_tops : (s : Configuration) (t : ℕ) (late : Bool) (th : Thread) (fs : List Frame) → AllStand fs → Tops fs (frames_step c s t late th fs)
  frames_tops s t late th [] all = tt
  frames_tops s t late th (f ∷ below) all = at_tops f below (work_step c s t late th f below f.work) (work_at s t th f below late f.work all.0)

  thread_tops : (s : Configuration) (t : ℕ) (late : Bool) (o : Option Thread) → AllStand (frames_at o) → Tops (frames_at o) (thread_step c s t late o)
  thread_tops s t late None all = tt
  thread_tops s t late (Some th) all = frames_tops s t late th th.frames all

  unended_tops : (s : Configuration) (t : ℕ) (late : Bool) (how : Ending) → AllStand (frames_at (slice_get s.threads t))
      → Tops (frames_at (slice_get s.threads t)) (unended_step c s t late how)
  unended_tops s t late ending.Running all = thread_tops s t late (slice_get s.threads t) all
  unended_tops s t late ending.End all = tt
  unended_tops s t late (ending.Trap x) all = tt

  -- the event of a step is of no access, or of one at the node that the top frame visits
  step_top : (s next : Configuration) (e : Entry) (ev : Event) → step c s e ≡ Some (next, ev) → AllStand (frames_at (slice_get s.threads e.thread))
      → TopAt (frames_at (slice_get s.threads e.thread)) ev
  step_top s next e ev goes all = subst (Tops (frames_at (slice_get s.threads e.thread))) goes (unended_tops s e.thread e.timeout s.ending all)

  -- the step of an access is in a visit of the access's node
  pub access_visits : (s next : Configuration) (e : Entry) (ev : Event) (id : AccessId) → step c s e ≡ Some (next, ev) → IsAccess id ev
      → AllStand (frames_at (slice_get s.threads e.thread)) → TopVisits id.node.number (frames_at (slice_get s.threads e.thread))
  access_visits s next e ev id goes is all = top_at_node id (frames_at (slice_get s.threads e.thread)) ev is (step_top s next e ev goes all)

module _ (c : Code) (y : Layout) (laid : IsLaidOut c y) where
  abbrev pub AllShaped : ℕ → ℕ → List Frame → Type 0
  AllShaped m t fs = AllFrames c (Shaped c y laid) (Any c y laid) m t fs

  abbrev pub Shapes : Configuration → Type 0
  Shapes s = Framed c (Shaped c y laid) (Any c y laid) s

  shaped_stand : (m t : ℕ) (fs : List Frame) → AllShaped m t fs → AllStand c y fs
  shaped_stand m t [] all = tt
  shaped_stand m t (f ∷ below) all = (all.0.stands, shaped_stand m t below all.1)

  -- of a step of a run: how its frames stand before it, and that its access is at the node that the top frame visits
  pub record Placed (m : Seen) : Type 0 where
    pub made : ℕ
    pub shapes : AllShaped made m.entry.thread m.before
    pub top : TopAt m.before m.event

  frames_shaped : (s : Configuration) (t : ℕ) (o : Option Thread) → slice_get s.threads t ≡ o → Shapes s → AllShaped s.made t (frames_at o)
  frames_shaped s t None at shapes = tt
  frames_shaped s t (Some th) at shapes = shapes.at t th at

  placed : (s next : Configuration) (m : Seen) → step c s m.entry ≡ Some (next, m.event) → frames_at (slice_get s.threads m.entry.thread) ≡ m.before → Shapes s → Placed m
  placed s next m goes same shapes =
      let here = frames_shaped s m.entry.thread (slice_get s.threads m.entry.thread) refl shapes in
      record {
        made = s.made;
        shapes = subst (AllShaped s.made m.entry.thread) same here;
        top = subst (λ fs. TopAt fs m.event) same
            (step_top c y s next m.entry m.event goes (shaped_stand s.made m.entry.thread (frames_at (slice_get s.threads m.entry.thread)) here));
      }

  pub all_placed : (ms : List Seen) (s last : Configuration) → Trail c s ms last → Shapes s → Every Placed ms
  all_placed [] s last trail shapes = tt
  all_placed (m ∷ ms) s last trail shapes = (
    placed s trail.next m trail.goes trail.frames shapes,
    all_placed ms trail.next last trail.rest
        (made_keeps c (GoodStep c (Shaped c y laid) (Any c y laid)) Shapes (framed_step c (Shaped c y laid) (Any c y laid) (keeps_shape c y laid)) s trail.next m trail.goes trail.frames shapes tt),
  )

  -- where a run begins, its one frame stands at the start of main
  pub start_shapes : (input : List ℤ) → Shapes (start c input)
  start_shapes input =
      let bare : Each (ThreadFrames c (Shaped c y laid) (Any c y laid) 1) [] = record { at = λ t th e. cc } in
      each_push (ThreadFrames c (Shaped c y laid) (Any c y laid) 1) [] (thread_of c (frame_of c 0 c.main [])) bare
      (record { stands = arrived c y (fn_id c.main) (Start (fn_id c.main)) tt refl; under = laid.main }, tt)

  access_of : (id : AccessId) (ms : List Seen) → Every Placed ms → Every (ComesIn id) ms
  access_of id [] all = tt
  access_of id (m ∷ ms) all = ((λ is. top_at_node id m.before m.event is all.0.top), access_of id ms all.1)

  -- each event of an access comes in a visit of its node
  pub accesses_in_visits : (input : List ℤ) (es : List Entry) (ms : List Seen) (last : Configuration) → run c input es ≡ Some (ms, last)
      → (id : AccessId) → Every (ComesIn id) ms
  accesses_in_visits input es ms last ran id =
      access_of id ms (all_placed ms (start c input) last (run_trail c es (start c input) ms last ran) (start_shapes input))

-- in runs of programs
pub program_accesses : (tree : Tree) (input : List ℤ) (es : List Entry) (ms : List Seen) (last : Configuration) → run (tree_code tree) input es ≡ Some (ms, last)
    → (id : AccessId) → Every (ComesIn id) ms
program_accesses tree = accesses_in_visits (tree_code tree) (layout_of tree) (laid_out tree)
