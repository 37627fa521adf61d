-- An entry of the source, made in the patched program: what the thread's frames are after it.
use Rattle.std.proofs.Common.{◌≡◌, ◌≢◌, ◌⊎◌, ⊎_elim, inl, inr, ℕ, zero, suc, ◌+◌, ◌≤◌, ℤ, Bool, true, false, List, [], ◌∷◌, ◌++◌, map, set, get_or, Option, Some, None, refl, sym, ap, ◌∙◌, subst, arith}
use Rattle.std.specs.Prelude.{nat_le, slice_get, slice_index, slice_index_or, ◌||◌, option_map}
use Rattle.std.proofs.lemmas.Bool.Decides.{eqb_tells}
use Rattle.std.proofs.Math.Dec.{eqb}
use Rattle.std.proofs.lemmas.List.{get_or-set_other}
use Rattle.std.proofs.lemmas.Option.{slice_get-map}
use Rattle.cfix_base.specs.declared.number.LockId.{LockId}
use Rattle.cfix_base.specs.declared.number.OrderId.{OrderId}
use Rattle.cfix_base.specs.declared.number.NodeId.{NodeId}
use Rattle.cfix_base.specs.declared.op.Op.{Op}
use Rattle.cfix_base.specs.declared.op.Op.TheVariants.{Leave, First, Done, Wait, Enter, Add}
use Rattle.cfix_base.specs.declared.place.Place.{Place}
use Rattle.cfix_base.specs.declared.place.Place.TheVariants.{Start}
use Rattle.step_state.specs.declared.event.Event.{Event}
use Rattle.step_state.specs.declared.event.Ending.{Ending}
use Rattle.step_state.specs.declared.event.Ending.TheVariants as ending
use Rattle.step_state.specs.declared.item.Item.{Item}
use Rattle.step_state.specs.declared.item.Item.TheVariants as item
use Rattle.step_state.specs.declared.item.Move.{Move}
use Rattle.step_state.specs.declared.item.Move.TheVariants as move
use Rattle.step_state.specs.declared.frame.Frame.{Frame}
use Rattle.step_state.specs.declared.thread.Thread.{Thread}
use Rattle.step_state.specs.declared.state.Configuration.{Configuration}
use Rattle.step_state.specs.Code.{Code, arrive, go_to}
use Rattle.step_state.specs.Changes.{Made, with_frames, with_thread, with_work, with_values, pass, frame_of, thread_of}
use Rattle.step_state.specs.Reduce.{reduce, reduced}
use Rattle.step_state.specs.Operate.{may_enter, enter, leave, no_token, wait, operate, token_taken}
use Rattle.cfix_base.specs.declared.mark.Marks.{Marks}
use Rattle.c_prog.specs.Marks.{is_new, keep_old, old_of}
use Rattle.step_state.specs.Erase.{strip_code, strip_configuration, strip_thread, strip_frame, strip_work}
use Rattle.step_state.specs.Step.{leave_frame, returned, work_step, step}
use Rattle.erase_laws.specs.Marked.{IsMarked}
use Rattle.layout_laws.specs.Layout.{Layout, Under, Calls, InVisit}
use Rattle.lift_laws.specs.Lift.{Placed}
use Rattle.frame_laws.proofs.Change.{Change, Passes, IsTrapped, IsOperated, IsReduced, IsActed, IsJoined, IsCreated, IsCalled, IsBegun, IsPassed, IsReturned, IsExited}
use Rattle.lock_laws.proofs.Exacts.{get_set_same, get_set_other}
use Rattle.erase_laws.proofs.Plain.{is_below}
use Rattle.frame_laws.proofs.Reduced.{reduced_follows}
use Rattle.lift_laws.proofs.RunOps.{opens}
use Rattle.erase_laws.proofs.Strips.{Strips, act_strips, go_strips, operate_strips, reduced_strips, strip_reduce}

-- the work does not begin with a new operation
abbrev pub OldHead : Marks → List Item → Type 0
OldHead m [] = Unit {0}
OldHead m (item.Op o ∷ work) = is_new m o ≡ false
OldHead m (item.Reduce r ∷ work) = Unit {0}
OldHead m (item.Act a ∷ work) = Unit {0}
OldHead m (item.Go g ∷ work) = Unit {0}

pub old_twice : {A : Type 0} (new : A → Bool) (xs : List A) → old_of new (old_of new xs) ≡ old_of new xs
old_twice new [] = refl
old_twice new (x ∷ xs) = more (new x) refl (old_twice new xs)
  where
    more : (is : Bool) → new x ≡ is → old_of new (old_of new xs) ≡ old_of new xs → old_of new (keep_old is x (old_of new xs)) ≡ keep_old is x (old_of new xs)
    more true e h = h
    more false e h = ap (λ b. keep_old b x (old_of new (old_of new xs))) e ∙ ap (λ l. x ∷ l) h

module _ (m : Marks) (q : Code) (marked : IsMarked m q) where
  work_strips : (s : Configuration) (t : ℕ) (late : Bool) (th : Thread) (f : Frame) (below : List Frame) (work : List Item) → OldHead m work
      → Strips m (work_step q s t late th f below work)
      (work_step (strip_code m q) (strip_configuration m s) t late (strip_thread m th) (strip_frame m f) (map (strip_frame m) below) (strip_work m work))
  work_strips s t late th f below [] old = refl
  work_strips s t late th f below (item.Op o ∷ rest) old =
      subst (λ b. Strips m (operate s t (with_frames th (with_work f rest ∷ below)) late o)
      (work_step (strip_code m q) (strip_configuration m s) t late (strip_thread m th) (strip_frame m f) (map (strip_frame m) below) (keep_old b (item.Op o) (strip_work m rest))))
      (sym old) (operate_strips m q marked s t (with_frames th (with_work f rest ∷ below)) late o old)
  work_strips s t true th f below (item.Reduce r ∷ rest) old = refl
  work_strips s t true th f below (item.Act a ∷ rest) old = refl
  work_strips s t true th f below (item.Go g ∷ rest) old = refl
  work_strips s t false th f below (item.Reduce r ∷ rest) old =
      subst (λ x. Strips m (reduced s t th below (reduce q (with_work f rest) r)) (reduced (strip_configuration m s) t (strip_thread m th) (map (strip_frame m) below) x))
      (sym (strip_reduce m q marked (with_work f rest) r)) (reduced_strips m q marked s t th below (reduce q (with_work f rest) r))
  work_strips s t false th f below (item.Act a ∷ rest) old = act_strips m q marked s t th below (with_work f rest) a
  work_strips s t false th f below (item.Go g ∷ rest) old = go_strips m q marked s t th below (with_work f rest) g

  -- the step of a thread whose work does not begin with a new operation is the source's
  pub step_strips : (s : Configuration) (t : ℕ) (late : Bool) (th : Thread) (f : Frame) (below : List Frame) → s.ending ≡ ending.Running → slice_get s.threads t ≡ Some th
      → th.frames ≡ f ∷ below → OldHead m f.work
      → Strips m (step q s (record { thread = t; timeout = late })) (step (strip_code m q) (strip_configuration m s) (record { thread = t; timeout = late }))
  step_strips s t late th f below running at top old =
      let mine = opens q s t late th f below f.work running at top refl in
      let its = opens (strip_code m q) (strip_configuration m s) t late (strip_thread m th) (strip_frame m f) (map (strip_frame m) below) (strip_work m f.work) running
      (slice_get-map (strip_thread m) s.threads t ∙ ap (option_map (strip_thread m)) at) (ap (map (strip_frame m)) top) refl in
      subst (λ x. Strips m (step q s (record { thread = t; timeout = late })) x) (sym its)
      (subst (λ x. Strips m x (work_step (strip_code m q) (strip_configuration m s) t late (strip_thread m th) (strip_frame m f) (map (strip_frame m) below) (strip_work m f.work))) (sym mine)
      (work_strips s t late th f below f.work old))

  -- an operation of the source changes no depth of a new lock
  pub record OpMade (s : Configuration) (t : ℕ) (th : Thread) (next : Configuration) : Type 0 where
    pub new : Thread
    pub threads : next.threads ≡ set s.threads t new
    pub frames : new.frames ≡ th.frames
    pub held : (k : ℕ) → m.lock ≤ k → get_or new.held k 0 ≡ get_or th.held k 0
    pub ending : next.ending ≡ s.ending

  module _ (s : Configuration) (t : ℕ) (th : Thread) where
    abbrev MadeOp : Made → Type 0
    MadeOp None = Unit {0}
    MadeOp (Some (next, ev)) = OpMade s t th next

    other : (j k d : ℕ) → nat_le m.lock j ≡ false → m.lock ≤ k → get_or (set th.held j d) k 0 ≡ get_or th.held k 0
    other j k d old le = let b = is_below m.lock j old in get_or-set_other th.held j k d 0 (λ e. absurd (omega arith))

    plain : (next : Configuration) (new : Thread) → next.threads ≡ set s.threads t new → new.frames ≡ th.frames → new.held ≡ th.held → next.ending ≡ s.ending → OpMade s t th next
    plain next new threads frames held how = record { new = new; threads = threads; frames = frames; held = λ k le. ap (λ x. get_or x k 0) held; ending = how }

    enter_made : (j : LockId) (late may : Bool) → nat_le m.lock j.number ≡ false → MadeOp (enter s t th j late may)
    enter_made j false true old = record { new = _; threads = refl; frames = refl; held = λ k le. other j.number k (get_or th.held j.number 0 + 1) old le; ending = refl }
    enter_made j true false old = plain _ _ refl refl refl refl
    enter_made j false false old = tt
    enter_made j true true old = tt

    leave_made : (j : LockId) (h g : ℕ) → nat_le m.lock j.number ≡ false → OpMade s t th (leave s t th j h g)
    leave_made j (suc d) g old = record { new = record th { held = set th.held j.number d }; threads = refl; frames = refl; held = λ k le. other j.number k d old le; ending = refl }
    leave_made j zero (suc g) old = plain _ (record th { missed = set th.missed j.number g }) refl refl refl refl
    leave_made j zero zero old = plain _ th refl refl refl refl

    wait_made : (j : OrderId) (late ready : Bool) → MadeOp (wait s t th j late ready)
    wait_made j false true = plain _ th refl refl refl refl
    wait_made j true false = plain _ th refl refl refl refl
    wait_made j false false = tt
    wait_made j true true = tt

    token_made : (j : OrderId) (n : ℕ) → OpMade s t th (token_taken (with_thread s t th) j n)
    token_made j zero = plain _ th refl refl refl refl
    token_made j (suc n) = plain _ th refl refl refl refl

    operate_made : (late : Bool) (o : Op) → is_new m o ≡ false → MadeOp (operate s t th late o)
    operate_made late (Enter j) old = enter_made j late (may_enter (slice_index_or s.locks j.number None) t) old
    operate_made late (Wait j) old = wait_made j late (no_token (slice_index s.tokens j.number) || slice_index_or s.flags j.number false)
    operate_made true (Leave j) old = tt
    operate_made true (First j) old = tt
    operate_made true (Done j) old = tt
    operate_made true (Add j) old = tt
    operate_made false (Leave j) old = leave_made j (slice_index th.held j.number) (slice_index th.missed j.number) old
    operate_made false (First j) old = plain _ th refl refl refl refl
    operate_made false (Done j) old = token_made j (slice_index s.tokens j.number)
    operate_made false (Add j) old = plain _ th refl refl refl refl

  module _ (y : Layout) (posts pres : Place → List Op) (placed : Placed m q posts pres) where
    -- before an entry of the source: the new operations that come to the next node were made
    abbrev pub Poised : Option NodeId → Place → List Item → Type 0
    Poised (Some n) last work = Unit {0}
    Poised None last work =
        ((left : List Op) × (o : Op) × (work ≡ map item.Op (o ∷ left ++ (posts last ++ pres last)) ++ go_to (q.next last) ∷ []) × (is_new m o ≡ false) × (old_of (is_new m) left ≡ left))
        ⊎ (work ≡ go_to (q.next last) ∷ [])

    -- after it: those that leave are still to be made
    abbrev pub Fresh : Ending → Option NodeId → Place → List Item → Type 0
    Fresh how (Some n) last work = Unit {0}
    Fresh how None last work =
        (left : List Op) × (work ≡ map item.Op (left ++ (posts last ++ pres last)) ++ go_to (q.next last) ∷ []) × (old_of (is_new m) left ≡ left) × ((how ≡ ending.Running) ⊎ (posts last ≡ []))

    abbrev pub FreshTop : Ending → List Frame → Type 0
    FreshTop how [] = Unit {0}
    FreshTop how (f ∷ below) = Fresh how f.visit f.last f.work

    pub fresh_arrive : (how : Ending) (place : Place) → (how ≡ ending.Running) ⊎ (posts place ≡ []) → Fresh how None place (arrive q place)
    fresh_arrive how place h =
        (old_of (is_new m) (q.ops place), ap (λ ops. map item.Op ops ++ go_to (q.next place) ∷ []) (placed.ops place), old_twice (is_new m) (q.ops place), h)

    fresh_visit : (how : Ending) (visit : Option NodeId) (n : NodeId) (last : Place) (work : List Item) → visit ≡ Some n → Fresh how visit last work
    fresh_visit how visit n last work is = subst (λ v. Fresh how v last work) (sym is) tt

    fresh_call : (how : Ending) (fn : ℕ) (visit : Option NodeId) (last : Place) (work : List Item) → Calls y fn visit → Fresh how visit last work
    fresh_call how fn None last work h = absurd h
    fresh_call how fn (Some n) last work h = tt

    -- another thread stood there with these frames, or is new
    abbrev pub Kept : Configuration → ℕ → List Frame → Type 0
    Kept s u fs = ((before : Thread) × (slice_get s.threads u ≡ Some before) × (fs ≡ before.frames)) ⊎ ((serial g : ℕ) × (args : List ℤ) × (fs ≡ frame_of q serial g args ∷ []))

    pub record Entered (s : Configuration) (t : ℕ) (th : Thread) (next : Configuration) : Type 0 where
      pub thread : Thread
      pub stands : slice_get next.threads t ≡ Some thread
      pub fresh : FreshTop next.ending thread.frames
      pub held : (k : ℕ) → m.lock ≤ k → get_or thread.held k 0 ≡ get_or th.held k 0
      pub others : (u : ℕ) (uh : Thread) → u ≢ t → slice_get next.threads u ≡ Some uh → Kept s u uh.frames

    module _ (s : Configuration) (t : ℕ) (th : Thread) (at : slice_get s.threads t ≡ Some th) where
      pub put : (next : Configuration) (new : Thread) → next.threads ≡ set s.threads t new → FreshTop next.ending new.frames
          → ((k : ℕ) → m.lock ≤ k → get_or new.held k 0 ≡ get_or th.held k 0) → Entered s t th next
      put next new threads fresh held = record {
        thread = new;
        stands = ap (λ ths. slice_get ths t) threads ∙ get_set_same s.threads t th new at;
        fresh = fresh;
        held = held;
        others = λ u uh ne e. inl (uh, sym (get_set_other s.threads t u new ne) ∙ (sym (ap (λ ths. slice_get ths u) threads) ∙ e), refl);
      }

      abbrev pub EnteredIf : Made → Type 0
      EnteredIf None = Unit {0}
      EnteredIf (Some (next, ev)) = Entered s t th next

      -- the exit of a frame
      left : (f : Frame) (v : ℤ) (below : List Frame) → Under y f.of.number below → EnteredIf (leave_frame s t th v below)
      left f v [] under = put _ (with_frames th []) refl tt (λ k le. refl)
      left f v (g ∷ below) under = put _ (with_frames th (with_values g (v ∷ g.values) ∷ below)) refl (fresh_call s.ending f.of.number g.visit g.last g.work under) (λ k le. refl)

      -- control goes on after a place
      pub moved : (late : Bool) (f : Frame) (below : List Frame) (next : Option ℕ) → Under y f.of.number below → EnteredIf (work_step q s t late th f below (go_to next ∷ []))
      moved true f below None under = tt
      moved true f below (Some n) under = tt
      moved false f below None under = left f (returned q (with_work f []) f.last) below under
      moved false f below (Some n) under = put _ _ refl tt (λ k le. refl)

      -- an operation of the source
      pub operated : s.ending ≡ ending.Running → (late : Bool) (f : Frame) (below : List Frame) (o : Op) (left : List Op) → is_new m o ≡ false → old_of (is_new m) left ≡ left → f.visit ≡ None
          → EnteredIf (operate s t (with_frames th (with_work f (map item.Op (left ++ (posts f.last ++ pres f.last)) ++ go_to (q.next f.last) ∷ []) ∷ below)) late o)
      operated running late f below o left old lefts none =
          made (operate s t (with_frames th (with_work f (map item.Op (left ++ (posts f.last ++ pres f.last)) ++ go_to (q.next f.last) ∷ []) ∷ below)) late o)
          (operate_made s t (with_frames th (with_work f (map item.Op (left ++ (posts f.last ++ pres f.last)) ++ go_to (q.next f.last) ∷ []) ∷ below)) late o old)
        where
          made : (o : Made) → MadeOp s t (with_frames th (with_work f (map item.Op (left ++ (posts f.last ++ pres f.last)) ++ go_to (q.next f.last) ∷ []) ∷ below)) o → EnteredIf o
          made None h = tt
          made (Some (next, ev)) h =
              let here : Fresh next.ending f.visit f.last (map item.Op (left ++ (posts f.last ++ pres f.last)) ++ go_to (q.next f.last) ∷ []) =
              subst (λ v. Fresh next.ending v f.last (map item.Op (left ++ (posts f.last ++ pres f.last)) ++ go_to (q.next f.last) ∷ [])) (sym none) (left, refl, lefts, inl (h.ending ∙ running)) in
              put next h.new h.threads (subst (FreshTop next.ending) (sym h.frames) here) h.held

      -- the end of a visit leaves the run going
      abbrev Same : Made → Type 0
      Same None = Unit {0}
      Same (Some (next, ev)) = next.ending ≡ s.ending

      pass_same : (late : Bool) (f : Frame) (below : List Frame) (n : NodeId) (place : Place) (g : Move) (rest : List Item) → Passes n place g → Same (work_step q s t late th f below (item.Go g ∷ rest))
      pass_same true f below n place g rest h = tt
      pass_same false f below n place (move.Branch b) rest h = refl
      pass_same false f below n place (move.Edge b) rest h = refl
      pass_same false f below n place (move.Node b) rest h = absurd h
      pass_same false f below n place move.Exit rest h = absurd h

      -- an item of a visit
      pub visited : s.ending ≡ ending.Running → (late : Bool) (f : Frame) (below : List Frame) (n : NodeId) → th.frames ≡ f ∷ below → f.visit ≡ Some n
          → ((work : List Item) → f.work ≡ work → InVisit y n.number work) → (next : Configuration) (ev : Event) → step q s (record { thread = t; timeout = late }) ≡ Some (next, ev)
          → Change q s t late th f below next ev → Entered s t th next
      visited running late f below n top is does next ev goes change = by_change change
        where
          by_change : Change q s t late th f below next ev → Entered s t th next
          by_change (IsTrapped b plain) = record {
            thread = th;
            stands = ap (λ ths. slice_get ths t) b.threads ∙ at;
            fresh = subst (FreshTop next.ending) (sym top) (fresh_visit next.ending f.visit n f.last f.work is);
            held = λ k le. refl;
            others = λ u uh ne e. inl (uh, sym (ap (λ ths. slice_get ths u) b.threads) ∙ e, refl);
          }
          by_change (IsOperated o rest w e) = absurd (does (item.Op o ∷ rest) w)
          by_change (IsReduced r rest g w e b plain) =
              put next (with_frames th (g ∷ below)) b.threads (fresh_visit next.ending g.visit n g.last g.work ((reduced_follows q (with_work f rest) g r e).visit ∙ is)) (λ k le. refl)
          by_change (IsActed a rest vs w simple b plain) = put next _ b.threads (fresh_visit next.ending f.visit n f.last rest is) (λ k le. refl)
          by_change (IsJoined a rest vs i other w simple there b plain) =
              let gs : List Frame = with_values (with_work f rest) vs ∷ below in
              let one : List Thread = set s.threads i (record other { joined = true }) in
              let stood : (u : ℕ) (uh : Thread) → slice_get one u ≡ Some uh → Kept s u uh.frames = λ u uh e.
              ⊎_elim (λ (p : (eqb u i ≡ true) × (u ≡ i)).
              let q2 : ◌≡◌ {A = Option Thread} (Some (record other { joined = true })) (Some uh) =
              sym (get_set_same s.threads i other (record other { joined = true }) there) ∙ (ap (λ x. slice_get one x) (sym p.1) ∙ e) in
              let q3 : record other { joined = true } ≡ uh = cc in
              inl (other, ap (λ x. slice_get s.threads x) p.1 ∙ there, ap (λ x. x.frames) (sym q3)))
              (λ (p : (eqb u i ≡ false) × (u ≢ i)). inl (uh, sym (get_set_other s.threads i u (record other { joined = true }) p.1) ∙ e, refl)) (eqb_tells u i) in
              let mine : slice_get (set one t (with_frames th gs)) t ≡ Some (with_frames th gs) =
              ⊎_elim (λ (p : (eqb t i ≡ true) × (t ≡ i)).
              get_set_same one t (record other { joined = true }) (with_frames th gs) (ap (λ x. slice_get one x) p.1 ∙ get_set_same s.threads i other (record other { joined = true }) there))
              (λ (p : (eqb t i ≡ false) × (t ≢ i)). get_set_same one t th (with_frames th gs) (get_set_other s.threads i t (record other { joined = true }) p.1 ∙ at)) (eqb_tells t i) in
              record {
                thread = with_frames th gs;
                stands = ap (λ ths. slice_get ths t) b.threads ∙ mine;
                fresh = fresh_visit next.ending f.visit n f.last rest is;
                held = λ k le. refl;
                others = λ u uh ne e. stood u uh (sym (get_set_other one t u (with_frames th gs) ne) ∙ (sym (ap (λ ths. slice_get ths u) b.threads) ∙ e));
              }
          by_change (IsCreated target g rest vs hs args w b plain) =
              let up : Thread = with_frames th (record (with_work f rest) { values = vs; handles = hs } ∷ below) in
              let one : List Thread = set s.threads t up in
              let new : Thread = thread_of q (frame_of q s.made g.number args) in
              record {
                thread = up;
                stands = ap (λ ths. slice_get ths t) b.threads ∙ pushed one t up new (get_set_same s.threads t th up at);
                fresh = fresh_visit next.ending f.visit n f.last rest is;
                held = λ k le. refl;
                others = λ u uh ne e. by_push one u uh new (λ w. inl (uh, sym (get_set_other s.threads t u up ne) ∙ w, refl)) (λ w. inr (s.made, g.number, args, ap (λ x. x.frames) (sym w)))
                    (sym (ap (λ ths. slice_get ths u) b.threads) ∙ e);
              }
            where
              pushed : (ths : List Thread) (u : ℕ) (x new : Thread) → slice_get ths u ≡ Some x → slice_get (ths ++ new ∷ []) u ≡ Some x
              pushed [] u x new e = cc
              pushed (z ∷ ths) zero x new e = e
              pushed (z ∷ ths) (suc u) x new e = pushed ths u x new e

              by_push : {A : Type 0} (ths : List Thread) (u : ℕ) (x new : Thread) → (slice_get ths u ≡ Some x → A) → (new ≡ x → A) → slice_get (ths ++ new ∷ []) u ≡ Some x → A
              by_push [] zero x new old fresh e = fresh cc
              by_push [] (suc u) x new old fresh e = absurd cc
              by_push (z ∷ ths) zero x new old fresh e = old e
              by_push (z ∷ ths) (suc u) x new old fresh e = by_push ths u x new old fresh e
          by_change (IsCalled g rest args vs w b plain) =
              put next (with_frames th (frame_of q s.made g.number args ∷ with_values (with_work f rest) vs ∷ below)) b.threads
              (fresh_arrive next.ending (Start (record { number = g.number })) (inr (placed.starts (Start (record { number = g.number })) tt))) (λ k le. refl)
          by_change (IsBegun i rest w b e) = absurd (does (item.Go (move.Node i) ∷ rest) w)
          by_change (IsPassed i g place rest vs w passes b plain) =
              let how : next.ending ≡ s.ending = subst Same (sym (opens q s t late th f below (item.Go g ∷ rest) running at top w) ∙ goes) (pass_same late f below i place g rest passes) in
              put next (with_frames th (pass q (with_values (with_work f rest) vs) place ∷ below)) b.threads (fresh_arrive next.ending place (inl (how ∙ running))) (λ k le. refl)
          by_change (IsReturned rest g under v w e b plain) = absurd (does (item.Go move.Exit ∷ rest) w)
          by_change (IsExited rest w e b plain) = absurd (does (item.Go move.Exit ∷ rest) w)
