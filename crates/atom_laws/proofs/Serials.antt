-- Serial numbers fall down the stack; and what a step was that begins a visit.
use Rattle.std.proofs.Common.{◌≡◌, ℕ, ◌<◌, ℤ, Bool, true, false, ◌||◌, List, [], ◌∷◌, set, slice_get, Some, None, sym, ap, ◌∙◌, subst, arith}
use Rattle.std.specs.Prelude.{slice_index, slice_index_or}
use Rattle.cfix_base.specs.declared.entry.Entry.{Entry}
use Rattle.cfix_base.specs.declared.number.LockId.{LockId}
use Rattle.cfix_base.specs.declared.number.OrderId.{OrderId}
use Rattle.cfix_base.specs.declared.op.Op.{Op}
use Rattle.cfix_base.specs.declared.op.Op.TheVariants.{Leave, First, Done, Wait, Enter, Add}
use Rattle.step_state.specs.declared.event.Event.{Event}
use Rattle.step_state.specs.declared.event.Event.TheVariants as event
use Rattle.step_state.specs.declared.item.Item.{Item}
use Rattle.step_state.specs.declared.item.Item.TheVariants as item
use Rattle.step_state.specs.declared.item.Move.TheVariants as move
use Rattle.step_state.specs.declared.frame.Frame.{Frame}
use Rattle.step_state.specs.declared.thread.Thread.{Thread}
use Rattle.step_state.specs.declared.state.Configuration.{Configuration}
use Rattle.step_state.specs.Code.{Code, node}
use Rattle.step_state.specs.Changes.{Made, with_frames, with_work, frame_of, thread_of}
use Rattle.step_state.specs.Operate.{may_enter, no_token, enter, wait, operate}
use Rattle.step_state.specs.Run.{Seen, Begins, frames_at, top_serial}
use Rattle.step_state.specs.Start.{start}
use Rattle.step_state.specs.Step.{step}
use Rattle.frame_laws.proofs.Each.{each_push}
use Rattle.frame_laws.proofs.Frames.{Framed, Keeps, ThreadFrames}
use Rattle.frame_laws.proofs.Reduced.{reduced_follows}
use Rattle.frame_laws.proofs.Change.{Change, Told, IsTold, step_tells, IsTrapped, IsOperated, IsReduced, IsActed, IsJoined, IsCreated, IsCalled, IsBegun, IsPassed, IsReturned, IsExited}

-- the top frame of these has a number below the bound
abbrev pub above : ℕ → List Frame → Type 0
above bound [] = Unit {0}
above bound (f ∷ fs) = f.serial < bound

abbrev pub Falling : ℕ → ℕ → Frame → List Frame → Type 0
Falling m t f below = (f.serial < m) × above f.serial below

abbrev pub AnyStep : ℕ → List Frame → Event → Type 0
AnyStep t fs ev = Unit {0}

module _ (c : Code) where
  pub keeps_falling : Keeps c Falling AnyStep
  keeps_falling = record {
    later = λ m t f below h. (omega (arith, h.0), h.1);
    op = λ m t f below o rest ev at is good h. h;
    reduced = λ m t f g below r rest at is good h.
        let e = (reduced_follows c (with_work f rest) g r is).serial in
        subst (λ x. (x < m) × above x below) (sym e) h;
    acted = λ m t f below a rest vs hs ev at says good h. h;
    begun = λ m t f below n rest at good h. h;
    branched = λ m t f below n rest at good h. h;
    edged = λ m t f below n rest at good h. h;
    returned = λ m t f g below rest v at good h below_h. below_h;
    called = λ m t f below g rest args vs at good h. (omega arith, h.0);
    created = λ m t u f below target g rest args at good h. (omega arith, tt);
  }

  abbrev pub Falls : Configuration → Type 0
  Falls s = Framed c Falling AnyStep s

  pub falls_start : (input : List ℤ) → Falls (start c input)
  falls_start input =
      each_push (ThreadFrames c Falling AnyStep 1) [] (thread_of c (frame_of c 0 c.main [])) (record { at = λ t th e. cc }) ((omega arith, tt), tt)

-- an operation begins no visit
abbrev NoBegin : Event → Type 0
NoBegin (event.Begin n) = ⊥
NoBegin _ = Unit {0}

abbrev NoneBegins : Made → Type 0
NoneBegins None = Unit {0}
NoneBegins (Some (next, ev)) = NoBegin ev

enter_begins : (s : Configuration) (t : ℕ) (th : Thread) (k : LockId) (late may : Bool) → NoneBegins (enter s t th k late may)
enter_begins s t th k false true = tt
enter_begins s t th k true false = tt
enter_begins s t th k false false = tt
enter_begins s t th k true true = tt

wait_begins : (s : Configuration) (t : ℕ) (th : Thread) (j : OrderId) (late ready : Bool) → NoneBegins (wait s t th j late ready)
wait_begins s t th j false true = tt
wait_begins s t th j true false = tt
wait_begins s t th j false false = tt
wait_begins s t th j true true = tt

operate_begins : (s : Configuration) (t : ℕ) (th : Thread) (late : Bool) (o : Op) → NoneBegins (operate s t th late o)
operate_begins s t th late (Enter k) = enter_begins s t th k late (may_enter (slice_index_or s.locks k.number None) t)
operate_begins s t th late (Wait j) = wait_begins s t th j late (no_token (slice_index s.tokens j.number) || slice_index_or s.flags j.number false)
operate_begins s t th true (Leave k) = tt
operate_begins s t th true (First j) = tt
operate_begins s t th true (Done j) = tt
operate_begins s t th true (Add j) = tt
operate_begins s t th false (Leave k) = tt
operate_begins s t th false (First j) = tt
operate_begins s t th false (Done j) = tt
operate_begins s t th false (Add j) = tt

-- the step of a thread that begins a visit of this node
pub record Begun (c : Code) (s : Configuration) (t n : ℕ) (next : Configuration) : Type 0 where
  pub thread : Thread
  pub frame : Frame
  pub below : List Frame
  pub rest : List Item
  pub stands : slice_get s.threads t ≡ Some thread
  pub top : thread.frames ≡ frame ∷ below
  pub first : frame.work ≡ item.Go (move.Node (node n)) ∷ rest
  pub after : next.threads ≡ set s.threads t (with_frames thread (record (with_work frame rest) { visit = Some (node n); values = []; work = c.items n } ∷ below))
  pub made : next.made ≡ s.made

begun_told : (c : Code) (s : Configuration) (t n : ℕ) (late : Bool) (next : Configuration) → Told c s t late next (event.Begin (node n)) → Begun c s t n next
begun_told c s t n late next told = by_change told.change
  where
    by_change : Change c s t late told.thread told.frame told.below next (event.Begin (node n)) → Begun c s t n next
    by_change (IsTrapped b plain) = absurd plain
    by_change (IsOperated o rest at goes) = absurd (subst NoneBegins goes (operate_begins s t (with_frames told.thread (with_work told.frame rest ∷ told.below)) late o))
    by_change (IsReduced r rest g at is b plain) = absurd plain
    by_change (IsActed a rest vs at simple b plain) = absurd plain
    by_change (IsJoined a rest vs i other at simple there b plain) = absurd plain
    by_change (IsCreated target g rest vs hs args at b plain) = absurd plain
    by_change (IsCalled g rest args vs at b plain) = absurd plain
    by_change (IsBegun m rest at b is) =
        let same : m ≡ node n = cc in
        record {
          thread = told.thread;
          frame = told.frame;
          below = told.below;
          rest = rest;
          stands = told.stands;
          top = told.top;
          first = at ∙ ap (λ x. item.Go (move.Node x) ∷ rest) same;
          after = b.threads ∙ ap (λ x. set s.threads t (with_frames told.thread (record (with_work told.frame rest) { visit = Some x; values = []; work = c.items x.number } ∷ told.below))) same;
          made = b.made;
        }
    by_change (IsPassed m g place rest vs at passes b plain) = absurd plain
    by_change (IsReturned rest g under v at is b plain) = absurd plain
    by_change (IsExited rest at is b plain) = absurd plain

pub begun : (c : Code) (s next : Configuration) (e : Entry) (n : ℕ) → step c s e ≡ Some (next, event.Begin (node n)) → Begun c s e.thread n next
begun c s next e n goes = begun_told c s e.thread n e.timeout next (subst (IsTold c s e.thread e.timeout) goes (step_tells c s e))

-- a visit of the node begins in the frame with this number
pub record BegunAt (c : Code) (t serial n : ℕ) (s next : Configuration) : Type 0 where
  pub begun : Begun c s t n next
  pub mine : begun.frame.serial ≡ serial

pub begun_at : (c : Code) (t serial n : ℕ) (s next : Configuration) (m : Seen) → Begins t serial n m → step c s m.entry ≡ Some (next, m.event)
    → frames_at (slice_get s.threads m.entry.thread) ≡ m.before → BegunAt c t serial n s next
begun_at c t serial n s next m b goes same = subst (λ u. BegunAt c u serial n s next) b.thread (record { begun = here; mine = mine })
  where
    here : Begun c s m.entry.thread n next
    here = begun c s next m.entry n (goes ∙ ap (λ ev. Some (next, ev)) b.event)

    mine : here.frame.serial ≡ serial
    mine =
        let e : top_serial (frames_at (slice_get s.threads m.entry.thread)) ≡ Some serial = ap top_serial same ∙ b.frame in
        let e2 : top_serial (here.frame ∷ here.below) ≡ Some serial = sym (ap (λ o. top_serial (frames_at o)) here.stands ∙ ap top_serial here.top) ∙ e in
        cc
