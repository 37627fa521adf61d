-- A thread that can go on without what is new can go on.
use Rattle.std.proofs.Common.{◌≡◌, ℕ, Bool, true, false, List, [], ◌∷◌, map, Option, Some, None, refl, sym, subst}
use Rattle.std.specs.Prelude.{slice_get, slice_index, slice_index_or, ◌||◌, option_map}
use Rattle.std.proofs.lemmas.Option.{slice_get-map}
use Rattle.cfix_base.specs.declared.number.LockId.{LockId}
use Rattle.cfix_base.specs.declared.number.OrderId.{OrderId}
use Rattle.cfix_base.specs.declared.op.Op.{Op}
use Rattle.cfix_base.specs.declared.op.Op.TheVariants.{Leave, First, Done, Wait, Enter, Add}
use Rattle.step_state.specs.declared.event.Ending.{Ending}
use Rattle.step_state.specs.declared.event.Ending.TheVariants as ending
use Rattle.step_state.specs.declared.item.Item.{Item}
use Rattle.step_state.specs.declared.item.Item.TheVariants as item
use Rattle.step_state.specs.declared.frame.Frame.{Frame}
use Rattle.step_state.specs.declared.thread.Thread.{Thread}
use Rattle.step_state.specs.declared.state.Configuration.{Configuration}
use Rattle.step_state.specs.Code.{Code}
use Rattle.step_state.specs.Changes.{Made, with_frames, with_work}
use Rattle.step_state.specs.Reduce.{reduce, reduced}
use Rattle.step_state.specs.Act.{act}
use Rattle.step_state.specs.Operate.{may_enter, enter, no_token, wait, operate}
use Rattle.step_state.specs.Step.{go, work_step, frames_step, thread_step, unended_step, step}
use Rattle.step_state.specs.Run.{CanGo}
use Rattle.cfix_base.specs.declared.mark.Marks.{Marks}
use Rattle.c_prog.specs.Marks.{is_new, keep_old}
use Rattle.step_state.specs.Erase.{strip_code, strip_work, strip_frame, strip_thread, strip_configuration}
use Rattle.erase_laws.specs.Marked.{IsMarked}
use Rattle.erase_laws.proofs.Strips.{Strips, act_strips, go_strips, operate_strips, reduced_strips, strip_reduce}

-- there is a step
abbrev Goes : Made → Type 0
Goes None = ⊥
Goes (Some made) = Unit {0}

goes_old : (m : Marks) (made stripped : Made) → Strips m made stripped → Goes stripped → Goes made
goes_old m None stripped h goes = subst Goes h goes
goes_old m (Some made) stripped h goes = tt

abbrev InSomeMode : (Bool → Made) → Type 0
InSomeMode made = (late : Bool) × Goes (made late)

enter_goes : (s : Configuration) (t : ℕ) (th : Thread) (k : LockId) (may : Bool) → InSomeMode (λ late. enter s t th k late may)
enter_goes s t th k true = (false, tt)
enter_goes s t th k false = (true, tt)

wait_goes : (s : Configuration) (t : ℕ) (th : Thread) (j : OrderId) (ready : Bool) → InSomeMode (λ late. wait s t th j late ready)
wait_goes s t th j true = (false, tt)
wait_goes s t th j false = (true, tt)

-- an operation goes in some mode
operate_goes : (s : Configuration) (t : ℕ) (th : Thread) (o : Op) → InSomeMode (λ late. operate s t th late o)
operate_goes s t th (Enter k) = enter_goes s t th k (may_enter (slice_index_or s.locks k.number None) t)
operate_goes s t th (Wait j) = wait_goes s t th j (no_token (slice_index s.tokens j.number) || slice_index_or s.flags j.number false)
operate_goes s t th (Leave k) = (false, tt)
operate_goes s t th (First j) = (false, tt)
operate_goes s t th (Done j) = (false, tt)
operate_goes s t th (Add j) = (false, tt)

module _ (m : Marks) (c : Code) (marked : IsMarked m c) (s : Configuration) (t : ℕ) where
  abbrev S : Configuration
  S = strip_configuration m s

  abbrev d : Code
  d = strip_code m c

  op_goes : (late : Bool) (th : Thread) (f : Frame) (below : List Frame) (o : Op) (rest : List Item) (new : Bool) → is_new m o ≡ new
      → Goes (work_step d S t late (strip_thread m th) (strip_frame m f) (map (strip_frame m) below) (keep_old new (item.Op o) (strip_work m rest)))
      → InSomeMode (λ l. operate s t (with_frames th (with_work f rest ∷ below)) l o)
  op_goes late th f below o rest true is goes = operate_goes s t (with_frames th (with_work f rest ∷ below)) o
  op_goes late th f below o rest false is goes = (
    late,
    goes_old m (operate s t (with_frames th (with_work f rest ∷ below)) late o) _
        (operate_strips m c marked s t (with_frames th (with_work f rest ∷ below)) late o is) goes,
  )

  work_goes : (late : Bool) (th : Thread) (f : Frame) (below : List Frame) (work : List Item)
      → Goes (work_step d S t late (strip_thread m th) (strip_frame m f) (map (strip_frame m) below) (strip_work m work))
      → InSomeMode (λ l. work_step c s t l th f below work)
  work_goes late th f below [] goes = absurd goes
  work_goes late th f below (item.Op o ∷ rest) goes = op_goes late th f below o rest (is_new m o) refl goes
  work_goes true th f below (item.Reduce r ∷ rest) goes = absurd goes
  work_goes true th f below (item.Act a ∷ rest) goes = absurd goes
  work_goes true th f below (item.Go g ∷ rest) goes = absurd goes
  work_goes false th f below (item.Reduce r ∷ rest) goes =
      let fr : Frame = with_work f rest in (
        false,
        goes_old m (reduced s t th below (reduce c fr r)) _ (reduced_strips m c marked s t th below (reduce c fr r))
            (subst (λ x. Goes (reduced S t (strip_thread m th) (map (strip_frame m) below) x)) (strip_reduce m c marked fr r) goes),
      )
  work_goes false th f below (item.Act a ∷ rest) goes =
      (false, goes_old m (act c s t th (with_work f rest) below a) _ (act_strips m c marked s t th below (with_work f rest) a) goes)
  work_goes false th f below (item.Go g ∷ rest) goes =
      (false, goes_old m (go c s t th (with_work f rest) below g) _ (go_strips m c marked s t th below (with_work f rest) g) goes)

  frames_go : (late : Bool) (th : Thread) (fs : List Frame) → Goes (frames_step d S t late (strip_thread m th) (map (strip_frame m) fs))
      → InSomeMode (λ l. frames_step c s t l th fs)
  frames_go late th [] goes = absurd goes
  frames_go late th (f ∷ below) goes = work_goes late th f below f.work goes

  thread_goes : (late : Bool) (o : Option Thread) → Goes (thread_step d S t late (option_map (strip_thread m) o)) → InSomeMode (λ l. thread_step c s t l o)
  thread_goes late None goes = absurd goes
  thread_goes late (Some th) goes = frames_go late th th.frames goes

  unended_goes : (late : Bool) (how : Ending) → Goes (unended_step d S t late how) → InSomeMode (λ l. unended_step c s t l how)
  unended_goes late ending.Running goes =
      thread_goes late (slice_get s.threads t) (subst (λ o. Goes (thread_step d S t late o)) (slice_get-map (strip_thread m) s.threads t) goes)
  unended_goes late ending.End goes = absurd goes
  unended_goes late (ending.Trap x) goes = absurd goes

  some_goes : (late : Bool) (made : Made) → step c s (record { thread = t; timeout = late }) ≡ made → Goes made → CanGo c s t
  some_goes late None is goes = absurd goes
  some_goes late (Some (next, ev)) is goes = record { late = late; next = next; event = ev; goes = is }

  pub can_go : CanGo d S t → CanGo c s t
  can_go can =
      let mode = unended_goes can.late s.ending (subst Goes (sym can.goes) tt) in
      some_goes mode.0 (step c s (record { thread = t; timeout = mode.0 })) refl mode.1
