-- One step of a program, and the step of the program without its new operations.
use Rattle.std.proofs.Common.{◌≡◌, ℕ, zero, suc, ◌+◌, ℤ, pos, Bool, true, false, List, [], ◌∷◌, ◌++◌, map, take, set, drop, length, Option, Some, None, refl, sym, ap, ◌∙◌, subst}
use Rattle.std.specs.Prelude.{nat_le, slice_get, slice_index_or, slice_index, ◌||◌}
use Rattle.std.proofs.lemmas.Option.{slice_get-map, get_or_from_slice_get}
use Rattle.std.proofs.Math.Seq.{map-set_same}
use Rattle.std.proofs.lemmas.List.{map-set, map-append, length-map, take-replicate}
use Rattle.std.specs.Prelude.{option_map}
use Rattle.cfix_base.specs.declared.entry.Entry.{Entry}
use Rattle.cfix_base.specs.declared.number.VarId.{VarId}
use Rattle.cfix_base.specs.declared.number.FnId.{FnId}
use Rattle.cfix_base.specs.declared.number.LockId.{LockId}
use Rattle.cfix_base.specs.declared.number.OrderId.{OrderId}
use Rattle.cfix_base.specs.declared.op.Op.{Op}
use Rattle.cfix_base.specs.declared.op.Op.TheVariants.{Leave, First, Done, Wait, Enter, Add}
use Rattle.cfix_base.specs.declared.place.Place.{Place}
use Rattle.cfix_base.specs.declared.place.Place.TheVariants.{Start, After, True, False}
use Rattle.step_state.specs.declared.event.Event.{Event}
use Rattle.step_state.specs.declared.event.Event.TheVariants as event
use Rattle.step_state.specs.declared.event.Ending.{Ending}
use Rattle.step_state.specs.declared.event.Ending.TheVariants as ending
use Rattle.step_state.specs.declared.item.Item.{Item}
use Rattle.step_state.specs.declared.item.Item.TheVariants as item
use Rattle.step_state.specs.declared.item.Action.{Action}
use Rattle.step_state.specs.declared.item.Action.TheVariants as action
use Rattle.step_state.specs.declared.item.Move.{Move}
use Rattle.step_state.specs.declared.item.Move.TheVariants as move
use Rattle.step_state.specs.declared.item.Reduction.{Reduction}
use Rattle.step_state.specs.declared.item.Reduction.TheVariants as reduction
use Rattle.step_state.specs.declared.item.Operand.{Operand}
use Rattle.step_state.specs.declared.item.LocalSite.{LocalSite}
use Rattle.step_state.specs.declared.item.GlobalSite.{GlobalSite}
use Rattle.step_state.specs.declared.item.HandleSite.{HandleSite}
use Rattle.step_state.specs.declared.frame.Frame.{Frame}
use Rattle.step_state.specs.declared.thread.Thread.{Thread}
use Rattle.step_state.specs.declared.state.Configuration.{Configuration}
use Rattle.step_state.specs.Code.{Code}
use Rattle.step_state.specs.Values as values
use Rattle.step_state.specs.Values.{Computed, last_value, other_values, last_values, past_index, index_value, is_zero, unary, binary}
use Rattle.step_state.specs.Changes.{Made, with_frames, with_thread, with_top_frame, with_values, with_work, pass, frame_of, thread_of}
use Rattle.step_state.specs.Reduce.{Reduced, frame, trap, reduce, reduced, computed, loaded, stored, and_then, or_else, local_cell}
use Rattle.step_state.specs.Act.{act, fetched, written, taken, locked, unlocked, created, joined_ended, joined_once, joined_some, joined_number, joined_at, local_handles, global_handles, global_cell, handle_at, holds, shown, global_cells, slept, woken}
use Rattle.step_state.specs.Sleepers.{sleeps, sleepers_of, with_sleepers, with_sleeper, all_but_lowest}
use Rattle.step_state.specs.Operate.{may_enter, enter, owner_after, leave, no_token, wait, operate, token_taken}
use Rattle.step_state.specs.Step.{branch_place, leave_frame, ending_after, returned, go, work_step, frames_step, thread_step, unended_step}
use Rattle.cfix_base.specs.declared.mark.Marks.{Marks}
use Rattle.c_prog.specs.Marks.{is_new, keep_old}
use Rattle.step_state.specs.Erase.{strip_code, strip_work, strip_frame, strip_thread, strip_configuration, is_inserted}
use Rattle.erase_laws.specs.Follows.{ByEvent, Follows, StepFollows}
use Rattle.erase_laws.specs.Marked.{IsMarked}
use Rattle.erase_laws.proofs.Plain.{take_old, take_new, read_old, strip_append, strip_arrive}

-- what a step that is not new gives without what is new
abbrev pub Strips : Marks → Made → Made → Type 0
Strips m None stripped = stripped ≡ None
Strips m (Some (next, ev)) stripped = (is_inserted m ev ≡ false) × (stripped ≡ Some (strip_configuration m next, ev))

pub follows_old : (m : Marks) (s : Configuration) (made stripped : Made) → Strips m made stripped → Follows m s made stripped
follows_old m s None stripped h = tt
follows_old m s (Some (next, ev)) stripped h =
    subst (λ b. ByEvent b (strip_configuration m next ≡ strip_configuration m s) (stripped ≡ Some (strip_configuration m next, ev))) (sym h.0) h.1

module _ (m : Marks) (c : Code) (marked : IsMarked m c) where
  abbrev pub S : Configuration → Configuration
  S s = strip_configuration m s

  abbrev pub d : Code
  d = strip_code m c

  -- a thread or a top frame in its place
  strip_with : (s : Configuration) (t : ℕ) (th : Thread) → with_thread (S s) t (strip_thread m th) ≡ S (with_thread s t th)
  strip_with s t th = λ i. record (S s) { threads = sym (map-set (strip_thread m) s.threads t th) i }

  strip_top : (s : Configuration) (t : ℕ) (th : Thread) (f : Frame) (below : List Frame)
      → with_top_frame (S s) t (strip_thread m th) (strip_frame m f) (map (strip_frame m) below) ≡ S (with_top_frame s t th f below)
  strip_top s t th f below = strip_with s t (with_frames th (f ∷ below))

  -- items that touch nothing but their own frame
  abbrev pub strip_reduced : Reduced → Reduced
  strip_reduced (frame f) = frame (strip_frame m f)
  strip_reduced (trap x) = trap x

  strip_computed : (f : Frame) (vs : List ℤ) (r : Computed) → computed (strip_frame m f) vs r ≡ strip_reduced (computed f vs r)
  strip_computed f vs (values.value v) = refl
  strip_computed f vs (values.trap x) = refl

  strip_loaded : (f : Frame) (vs : List ℤ) (o : Option ℤ) → loaded (strip_frame m f) vs o ≡ strip_reduced (loaded f vs o)
  strip_loaded f vs None = refl
  strip_loaded f vs (Some v) = refl

  strip_stored : (f : Frame) (site : LocalSite) (vs : List ℤ) (v : ℤ) (o : Option ℤ) → stored (strip_frame m f) site vs v o ≡ strip_reduced (stored f site vs v o)
  strip_stored f site vs v None = refl
  strip_stored f site vs v (Some old) = refl

  strip_operand : (f : Frame) (r : Operand) (vs : List ℤ)
      → frame (with_work (with_values (strip_frame m f) vs) (c.operand r ++ item.Reduce reduction.Bool ∷ strip_work m f.work))
      ≡ frame (with_work (with_values f vs) (strip_work m (c.operand r ++ item.Reduce reduction.Bool ∷ f.work)))
  strip_operand f r vs = λ i. frame (with_work (with_values f vs)
      ((sym (strip_append m (c.operand r) (item.Reduce reduction.Bool ∷ f.work) ∙ ap (λ w. w ++ item.Reduce reduction.Bool ∷ strip_work m f.work) (marked.operand r))) i))

  strip_and : (f : Frame) (r : Operand) (vs : List ℤ) (nought : Bool) → and_then d (strip_frame m f) r vs nought ≡ strip_reduced (and_then c f r vs nought)
  strip_and f r vs true = refl
  strip_and f r vs false = strip_operand f r vs

  strip_or : (f : Frame) (r : Operand) (vs : List ℤ) (nought : Bool) → or_else d (strip_frame m f) r vs nought ≡ strip_reduced (or_else c f r vs nought)
  strip_or f r vs true = strip_operand f r vs
  strip_or f r vs false = refl

  pub strip_reduce : (f : Frame) (r : Reduction) → reduce d (strip_frame m f) r ≡ strip_reduced (reduce c f r)
  strip_reduce f (reduction.Push v) = refl
  strip_reduce f (reduction.Local site) = strip_loaded f (past_index site.indexed f.values) (local_cell f site f.values)
  strip_reduce f (reduction.LocalKeep site) = strip_loaded f f.values (local_cell f site f.values)
  strip_reduce f (reduction.Put site) =
      strip_stored f site (other_values f.values) (last_value f.values) (local_cell f site (other_values f.values))
  strip_reduce f (reduction.Un op) = strip_computed f (other_values f.values) (unary op (last_value f.values))
  strip_reduce f (reduction.Bin op) =
      strip_computed f (other_values (other_values f.values)) (binary op (last_value (other_values f.values)) (last_value f.values))
  strip_reduce f (reduction.And r) = strip_and f r (other_values f.values) (is_zero (last_value f.values))
  strip_reduce f (reduction.Or r) = strip_or f r (other_values f.values) (is_zero (last_value f.values))
  strip_reduce f reduction.Bool = refl
  strip_reduce f (reduction.Clear x) = refl

  module _ (s : Configuration) (t : ℕ) (th : Thread) (below : List Frame) where
    abbrev pub T : Thread
    T = strip_thread m th

    abbrev pub B : List Frame
    B = map (strip_frame m) below

    strip_some : (f : Frame) (ev : Event) → is_inserted m ev ≡ false
        → Strips m (Some (with_top_frame s t th f below, ev)) (Some (with_top_frame (S s) t T (strip_frame m f) B, ev))
    strip_some f ev old = (old, ap (λ x. Some (x, ev)) (strip_top s t th f below))

    pub reduced_strips : (r : Reduced) → Strips m (reduced s t th below r) (reduced (S s) t T B (strip_reduced r))
    reduced_strips (frame f) = strip_some f event.Silent refl
    reduced_strips (trap x) = (refl, refl)

    -- items that read or change what is outside their frame
    module _ (f : Frame) where
      abbrev pub F : Frame
      F = strip_frame m f

      fetched_strips : (site : GlobalSite) (i : ℤ) (vs : List ℤ) (o : Option ℤ)
          → Strips m (fetched s t th f below site i vs o) (fetched (S s) t T F B site i vs o)
      fetched_strips site i vs None = (refl, refl)
      fetched_strips site i vs (Some v) = strip_some (with_values f (v ∷ vs)) _ refl

      written_strips : (site : GlobalSite) (i : ℤ) (vs : List ℤ) (v : ℤ) (o : Option ℤ)
          → Strips m (written s t th f below site i vs v o) (written (S s) t T F B site i vs v o)
      written_strips site i vs v None = (refl, refl)
      written_strips site i vs v (Some old) = (
        refl,
        λ j. Some (
          record (strip_top s t th (with_values f vs) below j) {
            globals = values.with_cell s.globals site.var.number (global_cells s site.var) i v;
          },
          event.Write site.access (values.place_of i) v,
        ),
      )

      taken_strips : (input : List ℤ) → Strips m (taken s t th f below input) (taken (S s) t T F B input)
      taken_strips [] = strip_some (with_values f (pos 0 ∷ f.values)) _ refl
      taken_strips (v ∷ rest) = (refl, λ j. Some (record (strip_top s t th (with_values f (v ∷ f.values)) below j) { input = rest }, event.Take v))

      locked_strips : (v : VarId) (o : Option ℕ) → Strips m (locked s t th f below v o) (locked (S s) t T F B v o)
      locked_strips v None = (refl, λ j. Some (record (strip_top s t th f below j) { owners = set s.owners v.number (Some t) }, event.Lock v))
      locked_strips v (Some u) = refl

      unlocked_strips : (v : VarId) (own : Bool) → Strips m (unlocked s t th f below v own) (unlocked (S s) t T F B v own)
      unlocked_strips v true = (refl, λ j. Some (record (strip_top s t th f below j) { owners = set s.owners v.number None }, event.Unlock v))
      unlocked_strips v false = (refl, refl)

      slept_strips : (v w : VarId) (own : Bool) → Strips m (slept s t th f below v w own) (slept (S s) t T F B v w own)
      slept_strips v w true = (
        refl,
        λ j. Some (
          record (strip_top s t th f below j) {
            owners = set s.owners w.number None;
            sleepers = set s.sleepers v.number (with_sleeper t (sleepers_of s v));
          },
          event.Sleep v w,
        ),
      )
      slept_strips v w false = (refl, refl)

      woken_strips : (v w : VarId) (asleep : Bool) (o : Option ℕ) → Strips m (woken s t th f below v w asleep o) (woken (S s) t T F B v w asleep o)
      woken_strips v w true o = refl
      woken_strips v w false (Some u) = refl
      woken_strips v w false None = (refl, λ j. Some (record (strip_top s t th f below j) { owners = set s.owners w.number (Some t) }, event.Wake v w))

      signalled_strips : (v : VarId) (ts : List ℕ) (ev : Event) → is_inserted m ev ≡ false
          → Strips m (Some (with_sleepers (with_top_frame s t th f below) v ts, ev)) (Some (with_sleepers (with_top_frame (S s) t T F B) v ts, ev))
      signalled_strips v ts ev old = (old, λ j. Some (with_sleepers (strip_top s t th f below j) v ts, ev))

      pub strip_new : (fr : Frame) → thread_of d (strip_frame m fr) ≡ strip_thread m (thread_of c fr)
      strip_new fr = λ j. record {
        frames = strip_frame m fr ∷ [];
        joined = false;
        held = sym (take-replicate m.lock c.locks 0 marked.locks) j;
        missed = sym (take-replicate m.lock c.locks 0 marked.locks) j;
      }

      pub strip_frame_of : (serial g : ℕ) (args : List ℤ) → frame_of d serial g args ≡ strip_frame m (frame_of c serial g args)
      strip_frame_of serial g args = λ j. record (frame_of d serial g args) { work = sym (strip_arrive m c (Start (record { number = g }))) j }

      pushed_strips : (top fr : Frame) (fr' : Frame) → fr' ≡ strip_frame m fr
          → set (map (strip_thread m) s.threads) t (with_frames T (strip_frame m top ∷ B)) ++ thread_of d fr' ∷ []
          ≡ map (strip_thread m) (set s.threads t (with_frames th (top ∷ below)) ++ thread_of c fr ∷ [])
      pushed_strips top fr fr' same =
          ap (λ x. set (map (strip_thread m) s.threads) t (with_frames T (strip_frame m top ∷ B)) ++ thread_of d x ∷ []) same
          ∙ (ap (λ x. set (map (strip_thread m) s.threads) t (with_frames T (strip_frame m top ∷ B)) ++ x ∷ []) (strip_new fr)
          ∙ (ap (λ ths. ths ++ strip_thread m (thread_of c fr) ∷ []) (sym (map-set (strip_thread m) s.threads t (with_frames th (top ∷ below))))
          ∙ sym (map-append (strip_thread m) (set s.threads t (with_frames th (top ∷ below))) (thread_of c fr ∷ []))))

      created_strips : (target : HandleSite) (g : FnId) (i : ℤ) (vs : List ℤ) (arg : ℤ) (o : Option ℕ)
          → Strips m (created c s t th f below target g i vs arg o) (created d (S s) t T F B target g i vs arg o)
      created_strips target g i vs arg None = (refl, refl)
      created_strips target g i vs arg (Some old) =
          let n = length s.threads in
          let first : Made = created d (S s) t T F B target g i vs arg (Some old) in
          let at : ℕ → Made = λ k. Some (
            record (S s) {
              threads = set (map (strip_thread m) s.threads) t (with_frames T (record (with_values F vs) { handles = local_handles s f target.var i k } ∷ B))
                  ++ thread_of d (frame_of d s.made g.number (arg ∷ [])) ∷ [];
              handles = global_handles s f target.var i k;
              made = s.made + 1;
            },
            event.Create k,
          ) in
          let renamed : first ≡ at n = ap at (length-map s.threads (strip_thread m)) in (
            refl,
            renamed ∙ (λ j. Some (
              record (S s) {
                threads = pushed_strips (record (with_values f vs) { handles = local_handles s f target.var i n })
                    (frame_of c s.made g.number (arg ∷ [])) (frame_of d s.made g.number (arg ∷ [])) (strip_frame_of s.made g.number (arg ∷ [])) j;
                handles = global_handles s f target.var i n;
                made = s.made + 1;
              },
              event.Create n,
            )),
          )

      called_strips : (g : FnId) → Strips m (act c s t th f below (action.Call g)) (act d (S s) t T F B (action.Call g))
      called_strips g =
          let count = c.params g.number in
          let args = last_values count f.values in
          let caller : Frame = with_values f (drop count f.values) in (
            refl,
            (λ j. Some (record (with_thread (S s) t (with_frames T (strip_frame_of s.made g.number args j ∷ strip_frame m caller ∷ B))) { made = s.made + 1 }, event.Call g))
                ∙ (λ j. Some (record (strip_with s t (with_frames th (frame_of c s.made g.number args ∷ caller ∷ below)) j) { made = s.made + 1 }, event.Call g)),
          )

      ended_strips : (n : ℕ) (other : Thread) (fs : List Frame)
          → Strips m (joined_ended s t th f below n other fs) (joined_ended (S s) t T F B n (strip_thread m other) (map (strip_frame m) fs))
      ended_strips n other [] = (
        refl,
        (λ j. Some (with_thread (strip_with s n (record other { joined = true }) j) t (with_frames T (F ∷ B)), event.Join n))
            ∙ (λ j. Some (strip_with (with_thread s n (record other { joined = true })) t (with_frames th (f ∷ below)) j, event.Join n)),
      )
      ended_strips n other (g ∷ rest) = refl

      once_strips : (n : ℕ) (other : Thread) (joined : Bool)
          → Strips m (joined_once s t th f below n other joined) (joined_once (S s) t T F B n (strip_thread m other) joined)
      once_strips n other true = (refl, refl)
      once_strips n other false = ended_strips n other other.frames

      some_strips : (n : ℕ) (o : Option Thread)
          → Strips m (joined_some s t th f below n o) (joined_some (S s) t T F B n (option_map (strip_thread m) o))
      some_strips n None = (refl, refl)
      some_strips n (Some other) = once_strips n other other.joined

      number_strips : (n : ℕ) → Strips m (joined_number s t th f below n) (joined_number (S s) t T F B n)
      number_strips zero = (refl, refl)
      number_strips (suc n) =
          subst (λ o. Strips m (joined_some s t th f below (suc n) (slice_get s.threads (suc n))) (joined_some (S s) t T F B (suc n) o))
          (sym (slice_get-map (strip_thread m) s.threads (suc n))) (some_strips (suc n) (slice_get s.threads (suc n)))

      joined_strips : (o : Option ℕ) → Strips m (joined_at s t th f below o) (joined_at (S s) t T F B o)
      joined_strips None = (refl, refl)
      joined_strips (Some n) = number_strips n

    pub act_strips : (f : Frame) (a : Action) → Strips m (act c s t th f below a) (act d (S s) t T (strip_frame m f) B a)
    act_strips f (action.Get site) = fetched_strips f site (index_value site.indexed f.values) (past_index site.indexed f.values) (global_cell s site f.values)
    act_strips f (action.GetKeep site) = fetched_strips f site (index_value site.indexed f.values) f.values (global_cell s site f.values)
    act_strips f (action.Put site) =
        written_strips f site (index_value site.indexed (other_values f.values)) (past_index site.indexed (other_values f.values)) (last_value f.values)
        (global_cell s site (other_values f.values))
    act_strips f action.Take = taken_strips f s.input
    act_strips f (action.Lock v) = locked_strips f v (slice_index_or s.owners v.number None)
    act_strips f (action.Unlock v) = unlocked_strips f v (holds (slice_index_or s.owners v.number None) t)
    act_strips f (action.Create target g) =
        created_strips f target g (index_value target.indexed (other_values f.values)) (past_index target.indexed (other_values f.values)) (last_value f.values)
        (handle_at s f target (other_values f.values))
    act_strips f (action.Join target) = joined_strips (with_values f (past_index target.indexed f.values)) (handle_at s f target f.values)
    act_strips f (action.Print n args) = (
      refl,
      λ j. Some (
        record (strip_top s t th (with_values f (drop args f.values)) below j) {
          output = s.output ++ shown (c.text n.number) (last_values args f.values);
        },
        event.Print (shown (c.text n.number) (last_values args f.values)),
      ),
    )
    act_strips f (action.Call g) = called_strips f g
    act_strips f (action.Sleep v w) = slept_strips f v w (holds (slice_index_or s.owners w.number None) t)
    act_strips f (action.Wake v w) = woken_strips f v w (sleeps t (sleepers_of s v)) (slice_index_or s.owners w.number None)
    act_strips f (action.Signal v) = signalled_strips f v (all_but_lowest (sleepers_of s v)) (event.Signal v) refl
    act_strips f (action.Broadcast v) = signalled_strips f v [] (event.Broadcast v) refl

    -- items by which control goes on
    passed_strips : (f : Frame) (place : Place)
        → Strips m (Some (with_top_frame s t th (pass c f place) below, event.Silent)) (Some (with_top_frame (S s) t T (pass d (strip_frame m f) place) B, event.Silent))
    passed_strips f place = (
      refl,
      (λ j. Some (with_top_frame (S s) t T (record f { visit = None; last = place; work = sym (strip_arrive m c place) j }) B, event.Silent))
          ∙ (λ j. Some (strip_top s t th (pass c f place) below j, event.Silent)),
    )

    left_strips : (v : ℤ) (fs : List Frame) → Strips m (leave_frame s t th v fs) (leave_frame (S s) t T v (map (strip_frame m) fs))
    left_strips v [] = (refl, λ j. Some (record (strip_with s t (with_frames th []) j) { ending = ending_after t s.ending }, event.Exit))
    left_strips v (g ∷ fs) = (refl, λ j. Some (strip_top s t th (with_values g (v ∷ g.values)) fs j, event.Return v))

    returned_same : (f : Frame) (place : Place) → returned d (strip_frame m f) place ≡ returned c f place
    returned_same f (Start g) = refl
    returned_same f (After n) = refl
    returned_same f (True n) = refl
    returned_same f (False n) = refl

    pub go_strips : (f : Frame) (g : Move) → Strips m (go c s t th f below g) (go d (S s) t T (strip_frame m f) B g)
    go_strips f (move.Node n) = (
      refl,
      (λ j. Some (with_top_frame (S s) t T (record f { visit = Some n; values = []; work = sym (marked.items n.number) j }) B, event.Begin n))
          ∙ (λ j. Some (strip_top s t th (record f { visit = Some n; values = []; work = c.items n.number }) below j, event.Begin n)),
    )
    go_strips f (move.Branch n) = passed_strips (with_values f (other_values f.values)) (branch_place n (is_zero (last_value f.values)))
    go_strips f (move.Edge n) = passed_strips f (After n)
    go_strips f move.Exit =
        subst (λ v. Strips m (leave_frame s t th (returned c f f.last) below) (leave_frame (S s) t T v B)) (sym (returned_same f f.last)) (left_strips (returned c f f.last) below)

  -- an operation that is not new
  module _ (s : Configuration) (t : ℕ) (th : Thread) where
    abbrev pub U : Thread
    U = strip_thread m th

    -- a lock's depths and owner are cut off as they were changed
    held_old : (k h : ℕ) → nat_le m.lock k ≡ false → record U { held = set (take m.lock th.held) k h } ≡ strip_thread m (record th { held = set th.held k h })
    held_old k h old = λ j. record U { held = sym (take_old m.lock th.held k h old) j }

    missed_old : (k h : ℕ) → nat_le m.lock k ≡ false → record U { missed = set (take m.lock th.missed) k h } ≡ strip_thread m (record th { missed = set th.missed k h })
    missed_old k h old = λ j. record U { missed = sym (take_old m.lock th.missed k h old) j }

    enter_strips : (k : LockId) (late may : Bool) → nat_le m.lock k.number ≡ false → Strips m (enter s t th k late may) (enter (S s) t U k late may)
    enter_strips k false true old =
        let depth = slice_index th.held k.number + 1 in (
          old,
          (λ j. Some (
            record (with_thread (S s) t (record U { held = set (take m.lock th.held) k.number (read_old m.lock th.held k.number 0 old j + 1) })) {
              locks = set (take m.lock s.locks) k.number (Some t);
            },
            event.Enter k,
          ))
              ∙ ((λ j. Some (record (with_thread (S s) t (held_old k.number depth old j)) { locks = sym (take_old m.lock s.locks k.number (Some t) old) j }, event.Enter k))
              ∙ (λ j. Some (record (strip_with s t (record th { held = set th.held k.number depth }) j) { locks = take m.lock (set s.locks k.number (Some t)) }, event.Enter k))),
        )
    enter_strips k true false old =
        let depth = slice_index th.missed k.number + 1 in (
          old,
          (λ j. Some (with_thread (S s) t (record U { missed = set (take m.lock th.missed) k.number (read_old m.lock th.missed k.number 0 old j + 1) }), event.EnterMissed k))
              ∙ ((λ j. Some (with_thread (S s) t (missed_old k.number depth old j), event.EnterMissed k))
              ∙ (λ j. Some (strip_with s t (record th { missed = set th.missed k.number depth }) j, event.EnterMissed k))),
        )
    enter_strips k false false old = refl
    enter_strips k true true old = refl

    leave_strips : (k : LockId) (h g : ℕ) → nat_le m.lock k.number ≡ false → leave (S s) t U k h g ≡ S (leave s t th k h g)
    leave_strips k (suc h) g old =
        (λ j. record (with_thread (S s) t (held_old k.number h old j)) { locks = sym (take_old m.lock s.locks k.number (owner_after t h) old) j })
        ∙ (λ j. record (strip_with s t (record th { held = set th.held k.number h }) j) { locks = take m.lock (set s.locks k.number (owner_after t h)) })
    leave_strips k zero (suc g) old =
        (λ j. with_thread (S s) t (missed_old k.number g old j)) ∙ strip_with s t (record th { missed = set th.missed k.number g })
    leave_strips k zero zero old = strip_with s t th

    wait_strips : (o : OrderId) (late ready : Bool) → nat_le m.order o.number ≡ false → Strips m (wait s t th o late ready) (wait (S s) t U o late ready)
    wait_strips o false true old = (old, λ j. Some (strip_with s t th j, event.Wait o))
    wait_strips o true false old = (old, λ j. Some (strip_with s t th j, event.WaitMissed o))
    wait_strips o false false old = refl
    wait_strips o true true old = refl

    token_strips : (o : OrderId) (n : ℕ) → nat_le m.order o.number ≡ false
        → token_taken (with_thread (S s) t U) o n ≡ S (token_taken (with_thread s t th) o n)
    token_strips o zero old = strip_with s t th
    token_strips o (suc n) old =
        (λ j. record (with_thread (S s) t U) { tokens = sym (take_old m.order s.tokens o.number n old) j })
        ∙ (λ j. record (strip_with s t th j) { tokens = take m.order (set s.tokens o.number n) })

    pub operate_strips : (late : Bool) (o : Op) → is_new m o ≡ false → Strips m (operate s t th late o) (operate (S s) t U late o)
    operate_strips late (Enter k) old =
        subst (λ x. Strips m (operate s t th late (Enter k)) (enter (S s) t U k late (may_enter x t))) (sym (read_old m.lock s.locks k.number None old))
        (enter_strips k late (may_enter (slice_index_or s.locks k.number None) t) old)
    operate_strips late (Wait o) old =
        subst (λ x. Strips m (operate s t th late (Wait o)) (wait (S s) t U o late (no_token x || slice_index_or (take m.order s.flags) o.number false)))
        (sym (read_old m.order s.tokens o.number 0 old))
        (subst (λ x. Strips m (operate s t th late (Wait o)) (wait (S s) t U o late (no_token (slice_index s.tokens o.number) || x)))
        (sym (read_old m.order s.flags o.number false old))
        (wait_strips o late (no_token (slice_index s.tokens o.number) || slice_index_or s.flags o.number false) old))
    operate_strips true (Leave k) old = refl
    operate_strips true (First o) old = refl
    operate_strips true (Done o) old = refl
    operate_strips true (Add o) old = refl
    operate_strips false (Leave k) old =
        let h = slice_index th.held k.number in
        let g = slice_index th.missed k.number in (
          old,
          (λ j. Some (leave (S s) t U k (read_old m.lock th.held k.number 0 old j) (read_old m.lock th.missed k.number 0 old j), event.Leave k))
              ∙ ap (λ x. Some (x, event.Leave k)) (leave_strips k h g old),
        )
    operate_strips false (First o) old = (
      old,
      (λ j. Some (record (with_thread (S s) t U) { flags = sym (take_old m.order s.flags o.number true old) j }, event.First o))
          ∙ (λ j. Some (record (strip_with s t th j) { flags = take m.order (set s.flags o.number true) }, event.First o)),
    )
    operate_strips false (Done o) old = (
      old,
      (λ j. Some (token_taken (with_thread (S s) t U) o (read_old m.order s.tokens o.number 0 old j), event.Done o))
          ∙ ap (λ x. Some (x, event.Done o)) (token_strips o (slice_index s.tokens o.number) old),
    )
    operate_strips false (Add o) old =
        let n = slice_index s.tokens o.number + 1 in (
          old,
          (λ j. Some (record (with_thread (S s) t U) { tokens = set (take m.order s.tokens) o.number (read_old m.order s.tokens o.number 0 old j + 1) }, event.Add o))
              ∙ ((λ j. Some (record (with_thread (S s) t U) { tokens = sym (take_old m.order s.tokens o.number n old) j }, event.Add o))
              ∙ (λ j. Some (record (strip_with s t th j) { tokens = take m.order (set s.tokens o.number n) }, event.Add o))),
        )

  -- a new operation changes nothing that is not new
  module _ (s : Configuration) (t : ℕ) (was th : Thread) (stands : slice_get s.threads t ≡ Some was) (same : strip_thread m th ≡ strip_thread m was) where
    abbrev Unchanged : Made → Type 0
    Unchanged None = Unit {0}
    Unchanged (Some (next, ev)) = (is_inserted m ev ≡ true) × (S next ≡ S s)

    threads_same : (new : Thread) → strip_thread m new ≡ strip_thread m th → map (strip_thread m) (set s.threads t new) ≡ map (strip_thread m) s.threads
    threads_same new e =
        map-set_same (strip_thread m) s.threads t new was (e ∙ (same ∙ ap (strip_thread m) (sym (get_or_from_slice_get s.threads t was was stands))))

    thread_same : (new : Thread) → strip_thread m new ≡ strip_thread m th → S (with_thread s t new) ≡ S s
    thread_same new e = λ j. record (S s) { threads = threads_same new e j }

    held_new : (k h : ℕ) → nat_le m.lock k ≡ true → strip_thread m (record th { held = set th.held k h }) ≡ strip_thread m th
    held_new k h new = λ j. record (strip_thread m th) { held = take_new m.lock th.held k h new j }

    missed_new : (k h : ℕ) → nat_le m.lock k ≡ true → strip_thread m (record th { missed = set th.missed k h }) ≡ strip_thread m th
    missed_new k h new = λ j. record (strip_thread m th) { missed = take_new m.lock th.missed k h new j }

    enter_new : (k : LockId) (late may : Bool) → nat_le m.lock k.number ≡ true → Unchanged (enter s t th k late may)
    enter_new k false true new =
        let depth = slice_index th.held k.number + 1 in (
          new,
          λ j. record (S s) {
            threads = threads_same (record th { held = set th.held k.number depth }) (held_new k.number depth new) j;
            locks = take_new m.lock s.locks k.number (Some t) new j;
          },
        )
    enter_new k true false new =
        let depth = slice_index th.missed k.number + 1 in
        (new, thread_same (record th { missed = set th.missed k.number depth }) (missed_new k.number depth new))
    enter_new k false false new = tt
    enter_new k true true new = tt

    leave_new : (k : LockId) (h g : ℕ) → nat_le m.lock k.number ≡ true → S (leave s t th k h g) ≡ S s
    leave_new k (suc h) g new = λ j. record (S s) {
      threads = threads_same (record th { held = set th.held k.number h }) (held_new k.number h new) j;
      locks = take_new m.lock s.locks k.number (owner_after t h) new j;
    }
    leave_new k zero (suc g) new = thread_same (record th { missed = set th.missed k.number g }) (missed_new k.number g new)
    leave_new k zero zero new = thread_same th refl

    wait_new : (o : OrderId) (late ready : Bool) → nat_le m.order o.number ≡ true → Unchanged (wait s t th o late ready)
    wait_new o false true new = (new, thread_same th refl)
    wait_new o true false new = (new, thread_same th refl)
    wait_new o false false new = tt
    wait_new o true true new = tt

    token_new : (o : OrderId) (n : ℕ) → nat_le m.order o.number ≡ true → S (token_taken (with_thread s t th) o n) ≡ S s
    token_new o zero new = thread_same th refl
    token_new o (suc n) new = λ j. record (S s) { threads = threads_same th refl j; tokens = take_new m.order s.tokens o.number n new j }

    operate_new : (late : Bool) (o : Op) → is_new m o ≡ true → Unchanged (operate s t th late o)
    operate_new late (Enter k) new = enter_new k late (may_enter (slice_index_or s.locks k.number None) t) new
    operate_new late (Wait o) new = wait_new o late (no_token (slice_index s.tokens o.number) || slice_index_or s.flags o.number false) new
    operate_new true (Leave k) new = tt
    operate_new true (First o) new = tt
    operate_new true (Done o) new = tt
    operate_new true (Add o) new = tt
    operate_new false (Leave k) new = (new, leave_new k (slice_index th.held k.number) (slice_index th.missed k.number) new)
    operate_new false (First o) new =
        (new, λ j. record (S s) { threads = threads_same th refl j; flags = take_new m.order s.flags o.number true new j })
    operate_new false (Done o) new = (new, token_new o (slice_index s.tokens o.number) new)
    operate_new false (Add o) new =
        (new, λ j. record (S s) { threads = threads_same th refl j; tokens = take_new m.order s.tokens o.number (slice_index s.tokens o.number + 1) new j })

    follows_new : (made stripped : Made) → Unchanged made → Follows m s made stripped
    follows_new None stripped h = tt
    follows_new (Some (next, ev)) stripped h =
        subst (λ b. ByEvent b (S next ≡ S s) (stripped ≡ Some (S next, ev))) (sym h.0) h.1

  -- the first item of the work
  module _ (s : Configuration) (t : ℕ) where
    abbrev a_thread : Thread → Frame → List Frame → List Item → Thread
    a_thread th f below work = with_frames th (with_work f work ∷ below)

    op_follows : (late : Bool) (th : Thread) (f : Frame) (below : List Frame) (o : Op) (rest : List Item) (new : Bool) → is_new m o ≡ new
        → slice_get s.threads t ≡ Some (a_thread th f below (item.Op o ∷ rest))
        → Follows m s (operate s t (a_thread th f below rest) late o)
        (work_step d (S s) t late (strip_thread m th) (strip_frame m f) (map (strip_frame m) below) (keep_old new (item.Op o) (strip_work m rest)))
    op_follows late th f below o rest true is stands =
        let was = a_thread th f below (item.Op o ∷ rest) in
        let same : strip_thread m (a_thread th f below rest) ≡ strip_thread m was = λ j.
        with_frames (strip_thread m th) (with_work (strip_frame m f) (keep_old (sym is j) (item.Op o) (strip_work m rest)) ∷ map (strip_frame m) below) in
        follows_new s t was (a_thread th f below rest) stands same (operate s t (a_thread th f below rest) late o) _
        (operate_new s t was (a_thread th f below rest) stands same late o is)
    op_follows late th f below o rest false is stands =
        follows_old m s (operate s t (a_thread th f below rest) late o) _ (operate_strips s t (a_thread th f below rest) late o is)

    work_follows : (late : Bool) (th : Thread) (f : Frame) (below : List Frame) (work : List Item)
        → slice_get s.threads t ≡ Some (a_thread th f below work)
        → Follows m s (work_step c s t late th f below work)
        (work_step d (S s) t late (strip_thread m th) (strip_frame m f) (map (strip_frame m) below) (strip_work m work))
    work_follows late th f below [] stands = tt
    work_follows late th f below (item.Op o ∷ rest) stands = op_follows late th f below o rest (is_new m o) refl stands
    work_follows true th f below (item.Reduce r ∷ rest) stands = tt
    work_follows true th f below (item.Act a ∷ rest) stands = tt
    work_follows true th f below (item.Go g ∷ rest) stands = tt
    work_follows false th f below (item.Reduce r ∷ rest) stands =
        follows_old m s (reduced s t th below (reduce c (with_work f rest) r)) _
        (subst (λ x. Strips m (reduced s t th below (reduce c (with_work f rest) r)) (reduced (S s) t (strip_thread m th) (map (strip_frame m) below) x))
        (sym (strip_reduce (with_work f rest) r)) (reduced_strips s t th below (reduce c (with_work f rest) r)))
    work_follows false th f below (item.Act a ∷ rest) stands =
        follows_old m s (act c s t th (with_work f rest) below a) _ (act_strips s t th below (with_work f rest) a)
    work_follows false th f below (item.Go g ∷ rest) stands =
        follows_old m s (go c s t th (with_work f rest) below g) _ (go_strips s t th below (with_work f rest) g)

    frames_follow : (late : Bool) (th : Thread) (fs : List Frame) → slice_get s.threads t ≡ Some (with_frames th fs)
        → Follows m s (frames_step c s t late th fs) (frames_step d (S s) t late (strip_thread m th) (map (strip_frame m) fs))
    frames_follow late th [] stands = tt
    frames_follow late th (f ∷ below) stands = work_follows late th f below f.work stands

    thread_follows : (late : Bool) (o : Option Thread) → slice_get s.threads t ≡ o
        → Follows m s (thread_step c s t late o) (thread_step d (S s) t late (option_map (strip_thread m) o))
    thread_follows late None stands = tt
    thread_follows late (Some th) stands = frames_follow late th th.frames stands

    unended_follows : (late : Bool) (how : Ending) → Follows m s (unended_step c s t late how) (unended_step d (S s) t late how)
    unended_follows late ending.Running =
        subst (λ o. Follows m s (thread_step c s t late (slice_get s.threads t)) (thread_step d (S s) t late o))
        (sym (slice_get-map (strip_thread m) s.threads t)) (thread_follows late (slice_get s.threads t) refl)
    unended_follows late ending.End = tt
    unended_follows late (ending.Trap x) = tt

  -- One step.
  pub step_follows : (s : Configuration) (e : Entry) → StepFollows m c s e
  step_follows s e = unended_follows s e.thread e.timeout s.ending
