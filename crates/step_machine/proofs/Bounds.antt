-- Each step keeps the counts of a run within the number of its steps.
use Rattle.std.proofs.Common.{◌≡◌, ◌⊎◌, inl, inr, ⊎_elim, ℕ, zero, suc, ◌+◌, ◌-◌, ◌<◌, ◌≤◌, ℤ, pos, Bool, true, false, List, [], ◌∷◌, ◌++◌, length, get_or, set, replicate, Option, Some, None, refl, ap, sym, ◌∙◌, subst, arith}
use Rattle.std.proofs.lemmas.List.{length-set, length-append}
use Rattle.std.specs.Prelude.{slice_get, slice_index, slice_index_or, ◌||◌}
use Rattle.cfix_base.specs.declared.number.LockId.{LockId}
use Rattle.cfix_base.specs.declared.number.OrderId.{OrderId}
use Rattle.cfix_base.specs.declared.number.VarId.{VarId}
use Rattle.cfix_base.specs.declared.number.FnId.{FnId}
use Rattle.cfix_base.specs.declared.op.Op.{Op}
use Rattle.cfix_base.specs.declared.op.Op.TheVariants as op
use Rattle.step_state.specs.declared.event.Event.{Event}
use Rattle.step_state.specs.declared.item.Item.{Item}
use Rattle.step_state.specs.declared.item.Item.TheVariants as item
use Rattle.step_state.specs.declared.item.Action.{Action}
use Rattle.step_state.specs.declared.item.Action.TheVariants as action
use Rattle.step_state.specs.declared.item.Move.{Move}
use Rattle.step_state.specs.declared.item.Move.TheVariants as move
use Rattle.step_state.specs.declared.item.GlobalSite.{GlobalSite}
use Rattle.step_state.specs.declared.item.HandleSite.{HandleSite}
use Rattle.step_state.specs.declared.frame.Frame.{Frame}
use Rattle.step_state.specs.declared.thread.Thread.{Thread}
use Rattle.step_state.specs.declared.state.Configuration.{Configuration}
use Rattle.step_state.specs.Code.{Code}
use Rattle.step_state.specs.Counts.{IsBounded, IsCounted, max_steps}
use Rattle.step_state.specs.Changes.{Made, with_frames, with_values, with_work, thread_of, frame_of}
use Rattle.step_state.specs.Reduce.{Reduced, frame, trap, reduced, reduce}
use Rattle.step_state.specs.Values.{index_value, last_value, other_values, past_index}
use Rattle.step_state.specs.Act.{global_cell, handle_at, holds, fetched, written, taken, locked, unlocked, created, joined_at, joined_number, joined_some, joined_once, joined_ended, slept, woken, act}
use Rattle.step_state.specs.Sleepers.{sleepers_of, sleeps}
use Rattle.step_state.specs.Operate.{enter, wait, leave, token_taken, operate, may_enter, no_token}
use Rattle.step_state.specs.Start.{initial_tokens, start}
use Rattle.step_state.specs.Step.{go, leave_frame, work_step, frames_step, thread_step}
use Rattle.step_machine.specs.Rooms.{HasRoom}

-- numbers that are at most m, in a list where what is not kept is 0
abbrev Below : ℕ → List ℕ → Type 0
Below m xs = (i : ℕ) → get_or xs i 0 ≤ m

set_below : (xs : List ℕ) (k v m : ℕ) → Below m xs → v ≤ m → Below m (set xs k v)
set_below [] k v m h e i = h i
set_below (x ∷ xs) zero v m h e zero = e
set_below (x ∷ xs) zero v m h e (suc i) = h (suc i)
set_below (x ∷ xs) (suc k) v m h e zero = h 0
set_below (x ∷ xs) (suc k) v m h e (suc i) = set_below xs k v m (λ j. h (suc j)) e i

zeros : (n i : ℕ) → ◌≡◌ {A = ℕ} (get_or (replicate n 0) i 0) 0
zeros zero i = refl
zeros (suc n) zero = refl
zeros (suc n) (suc i) = zeros n i

-- what is read in a list that was changed, or is longer by one
get_set : {X : Type 0} (xs : List X) (t u : ℕ) (x y : X) → slice_get (set xs t x) u ≡ Some y → (y ≡ x) ⊎ (slice_get xs u ≡ Some y)
get_set [] t u x y h = inr h
get_set (z ∷ xs) zero zero x y h = inl (let e : x ≡ y = cc in sym e)
get_set (z ∷ xs) zero (suc u) x y h = inr h
get_set (z ∷ xs) (suc t) zero x y h = inr h
get_set (z ∷ xs) (suc t) (suc u) x y h = get_set xs t u x y h

get_push : {X : Type 0} (xs : List X) (u : ℕ) (x y : X) → slice_get (xs ++ x ∷ []) u ≡ Some y → (y ≡ x) ⊎ (slice_get xs u ≡ Some y)
get_push [] zero x y h = inl (let e : x ≡ y = cc in sym e)
get_push [] (suc u) x y h = cc
get_push (z ∷ xs) zero x y h = inr h
get_push (z ∷ xs) (suc u) x y h = get_push xs u x y h

-- the counts of a configuration after so many steps
record Bounds (n made : ℕ) (threads : List Thread) (tokens : List ℕ) : Type 0 where
  pub frames_made : made ≤ n + 1
  pub threads_made : length threads ≤ n + 1
  pub each : (t : ℕ) (th : Thread) → slice_get threads t ≡ Some th → IsBounded n th
  pub few_tokens : Below (n + 1) tokens

abbrev BoundsOf : ℕ → Configuration → Type 0
BoundsOf n s = Bounds n s.made s.threads s.tokens

thread_later : (n : ℕ) (th : Thread) → IsBounded n th → IsBounded (n + 1) th
thread_later n th b = record {
  frames = omega (arith, b.frames);
  held = λ k. omega (arith, b.held k);
  missed = λ k. omega (arith, b.missed k);
}

later : (n made : ℕ) (ths : List Thread) (tokens : List ℕ) → Bounds n made ths tokens → Bounds (n + 1) made ths tokens
later n made ths tokens b = record {
  frames_made = omega (arith, b.frames_made);
  threads_made = omega (arith, b.threads_made);
  each = λ t th h. thread_later n th (b.each t th h);
  few_tokens = λ j. omega (arith, b.few_tokens j);
}

-- the thread with other frames
framed : (n : ℕ) (th : Thread) (fs : List Frame) → IsBounded n th → length fs ≤ n + 2 → IsBounded (n + 1) (with_frames th fs)
framed n th fs b l = record { frames = omega (arith, l); held = λ k. omega (arith, b.held k); missed = λ k. omega (arith, b.missed k) }

-- one thread has changed
one_set : (n made made' : ℕ) (ths : List Thread) (tokens : List ℕ) (t : ℕ) (new : Thread) → Bounds n made ths tokens → made' ≤ n + 2 → IsBounded (n + 1) new → Bounds (n + 1) made' (set ths t new) tokens
one_set n made made' ths tokens t new b m i = record {
  frames_made = omega (arith, m);
  threads_made = omega (arith, b.threads_made, length-set ths t new);
  each = λ u th h. ⊎_elim (λ e. subst (IsBounded (n + 1)) (sym e) i) (λ g. thread_later n th (b.each u th g)) (get_set ths t u new th h);
  few_tokens = λ j. omega (arith, b.few_tokens j);
}

set_one : (n made : ℕ) (ths : List Thread) (tokens : List ℕ) (t : ℕ) (new : Thread) → Bounds n made ths tokens → IsBounded (n + 1) new → Bounds (n + 1) made (set ths t new) tokens
set_one n made ths tokens t new b i = one_set n made made ths tokens t new b (omega (arith, b.frames_made)) i

-- one thread has changed, and one was made
push_one : (n made : ℕ) (ths : List Thread) (tokens : List ℕ) (t : ℕ) (new more : Thread) → Bounds n made ths tokens → IsBounded (n + 1) new → IsBounded (n + 1) more → Bounds (n + 1) (made + 1) (set ths t new ++ more ∷ []) tokens
push_one n made ths tokens t new more b i j = record {
  frames_made = omega (arith, b.frames_made);
  threads_made = omega (arith, b.threads_made, length-set ths t new, length-append (set ths t new) (more ∷ []));
  each = λ u th h. ⊎_elim (λ e. subst (IsBounded (n + 1)) (sym e) j) (λ g. (set_one n made ths tokens t new b i).each u th g) (get_push (set ths t new) u more th h);
  few_tokens = λ k. omega (arith, b.few_tokens k);
}

-- the tokens have changed
with_tokens : (n made : ℕ) (ths : List Thread) (tokens new : List ℕ) → Bounds (n + 1) made ths tokens → Below (n + 2) new → Bounds (n + 1) made ths new
with_tokens n made ths tokens new b h = record {
  frames_made = b.frames_made;
  threads_made = b.threads_made;
  each = b.each;
  few_tokens = λ j. omega (arith, h j);
}

-- what a step leaves
abbrev Kept : ℕ → Made → Type 0
Kept n None = Unit {0}
Kept n (Some (s, ev)) = BoundsOf (n + 1) s

-- a configuration that differs in nothing that is counted
trapped_keeps : (n : ℕ) (s : Configuration) → BoundsOf n s → BoundsOf (n + 1) s
trapped_keeps n s b = later n s.made s.threads s.tokens b

top_keeps : (n : ℕ) (s : Configuration) (t : ℕ) (th : Thread) (f : Frame) (below : List Frame) → BoundsOf n s → IsBounded n th → suc (length below) ≤ n + 1 → Bounds (n + 1) s.made (set s.threads t (with_frames th (f ∷ below))) s.tokens
top_keeps n s t th f below b i l =
    set_one n s.made s.threads s.tokens t (with_frames th (f ∷ below)) b (framed n th (f ∷ below) i (omega (arith, l)))

reduced_keeps : (n : ℕ) (s : Configuration) (t : ℕ) (th : Thread) (below : List Frame) (r : Reduced) → BoundsOf n s → IsBounded n th → suc (length below) ≤ n + 1 → Kept n (reduced s t th below r)
reduced_keeps n s t th below (frame f) b i l = top_keeps n s t th f below b i l
reduced_keeps n s t th below (trap x) b i l = trapped_keeps n s b

leave_frame_keeps : (n : ℕ) (s : Configuration) (t : ℕ) (th : Thread) (v : ℤ) (below : List Frame) → BoundsOf n s → IsBounded n th → suc (length below) ≤ n + 1 → Kept n (leave_frame s t th v below)
leave_frame_keeps n s t th v [] b i l =
    set_one n s.made s.threads s.tokens t (with_frames th []) b (framed n th [] i (omega arith))
leave_frame_keeps n s t th v (g ∷ below) b i l = top_keeps n s t th _ below b i (omega (arith, l))

go_keeps : (c : Code) (n : ℕ) (s : Configuration) (t : ℕ) (th : Thread) (f : Frame) (below : List Frame) (m : Move) → BoundsOf n s → IsBounded n th → suc (length below) ≤ n + 1 → Kept n (go c s t th f below m)
go_keeps c n s t th f below (move.Node v) b i l = top_keeps n s t th _ below b i l
go_keeps c n s t th f below (move.Branch v) b i l = top_keeps n s t th _ below b i l
go_keeps c n s t th f below (move.Edge v) b i l = top_keeps n s t th _ below b i l
go_keeps c n s t th f below move.Exit b i l = leave_frame_keeps n s t th _ below b i l

fetched_keeps : (n : ℕ) (s : Configuration) (t : ℕ) (th : Thread) (f : Frame) (below : List Frame) (site : GlobalSite) (x : ℤ) (vs : List ℤ) (o : Option ℤ) → BoundsOf n s → IsBounded n th → suc (length below) ≤ n + 1 → Kept n (fetched s t th f below site x vs o)
fetched_keeps n s t th f below site x vs None b i l = trapped_keeps n s b
fetched_keeps n s t th f below site x vs (Some v) b i l = top_keeps n s t th _ below b i l

written_keeps : (n : ℕ) (s : Configuration) (t : ℕ) (th : Thread) (f : Frame) (below : List Frame) (site : GlobalSite) (x : ℤ) (vs : List ℤ) (v : ℤ) (o : Option ℤ) → BoundsOf n s → IsBounded n th → suc (length below) ≤ n + 1 → Kept n (written s t th f below site x vs v o)
written_keeps n s t th f below site x vs v None b i l = trapped_keeps n s b
written_keeps n s t th f below site x vs v (Some old) b i l = top_keeps n s t th _ below b i l

taken_keeps : (n : ℕ) (s : Configuration) (t : ℕ) (th : Thread) (f : Frame) (below : List Frame) (input : List ℤ) → BoundsOf n s → IsBounded n th → suc (length below) ≤ n + 1 → Kept n (taken s t th f below input)
taken_keeps n s t th f below [] b i l = top_keeps n s t th _ below b i l
taken_keeps n s t th f below (v ∷ rest) b i l = top_keeps n s t th _ below b i l

locked_keeps : (n : ℕ) (s : Configuration) (t : ℕ) (th : Thread) (f : Frame) (below : List Frame) (m : VarId) (o : Option ℕ) → BoundsOf n s → IsBounded n th → suc (length below) ≤ n + 1 → Kept n (locked s t th f below m o)
locked_keeps n s t th f below m None b i l = top_keeps n s t th f below b i l
locked_keeps n s t th f below m (Some u) b i l = tt

unlocked_keeps : (n : ℕ) (s : Configuration) (t : ℕ) (th : Thread) (f : Frame) (below : List Frame) (m : VarId) (h : Bool) → BoundsOf n s → IsBounded n th → suc (length below) ≤ n + 1 → Kept n (unlocked s t th f below m h)
unlocked_keeps n s t th f below m true b i l = top_keeps n s t th f below b i l
unlocked_keeps n s t th f below m false b i l = trapped_keeps n s b

slept_keeps : (n : ℕ) (s : Configuration) (t : ℕ) (th : Thread) (f : Frame) (below : List Frame) (v m : VarId) (h : Bool) → BoundsOf n s → IsBounded n th → suc (length below) ≤ n + 1 → Kept n (slept s t th f below v m h)
slept_keeps n s t th f below v m true b i l = top_keeps n s t th f below b i l
slept_keeps n s t th f below v m false b i l = trapped_keeps n s b

woken_keeps : (n : ℕ) (s : Configuration) (t : ℕ) (th : Thread) (f : Frame) (below : List Frame) (v m : VarId) (h : Bool) (o : Option ℕ) → BoundsOf n s → IsBounded n th → suc (length below) ≤ n + 1 → Kept n (woken s t th f below v m h o)
woken_keeps n s t th f below v m true o b i l = tt
woken_keeps n s t th f below v m false (Some u) b i l = tt
woken_keeps n s t th f below v m false None b i l = top_keeps n s t th f below b i l

new_thread : (c : Code) (n : ℕ) (f : Frame) → IsBounded (n + 1) (thread_of c f)
new_thread c n f = record { frames = omega arith; held = λ k. omega (arith, zeros c.locks k); missed = λ k. omega (arith, zeros c.locks k) }

created_keeps : (c : Code) (n : ℕ) (s : Configuration) (t : ℕ) (th : Thread) (f : Frame) (below : List Frame) (target : HandleSite) (of : FnId) (x : ℤ) (vs : List ℤ) (arg : ℤ) (o : Option ℕ) → BoundsOf n s → IsBounded n th → suc (length below) ≤ n + 1 → Kept n (created c s t th f below target of x vs arg o)
created_keeps c n s t th f below target of x vs arg None b i l = trapped_keeps n s b
created_keeps c n s t th f below target of x vs arg (Some old) b i l =
    push_one n s.made s.threads s.tokens t _ _ b (framed n th (_ ∷ below) i (omega (arith, l))) (new_thread c n _)

ended_keeps : (n : ℕ) (s : Configuration) (t : ℕ) (th : Thread) (f : Frame) (below : List Frame) (m : ℕ) (other : Thread) (fs : List Frame) → BoundsOf n s → IsBounded n th → suc (length below) ≤ n + 1 → IsBounded n other → Kept n (joined_ended s t th f below m other fs)
ended_keeps n s t th f below m other [] b i l o =
    let joined : IsBounded n (record other { joined = true }) = record { frames = o.frames; held = o.held; missed = o.missed } in
    twice n s.made s.threads s.tokens m t (record other { joined = true }) (with_frames th (f ∷ below)) b (thread_later n (record other { joined = true }) joined) (framed n th (f ∷ below) i (omega (arith, l)))
  where
    twice : (n made : ℕ) (ths : List Thread) (tokens : List ℕ) (m t : ℕ) (x y : Thread) → Bounds n made ths tokens → IsBounded (n + 1) x → IsBounded (n + 1) y → Bounds (n + 1) made (set (set ths m x) t y) tokens
    twice n made ths tokens m t x y b i j =
        let first = set_one n made ths tokens m x b i in
        record {
          frames_made = first.frames_made;
          threads_made = omega (arith, first.threads_made, length-set (set ths m x) t y);
          each = λ u th h. ⊎_elim (λ e. subst (IsBounded (n + 1)) (sym e) j) (λ g. first.each u th g) (get_set (set ths m x) t u y th h);
          few_tokens = first.few_tokens;
        }
ended_keeps n s t th f below m other (g ∷ rest) b i l o = tt

once_keeps : (n : ℕ) (s : Configuration) (t : ℕ) (th : Thread) (f : Frame) (below : List Frame) (m : ℕ) (other : Thread) (h : Bool) → BoundsOf n s → IsBounded n th → suc (length below) ≤ n + 1 → IsBounded n other → Kept n (joined_once s t th f below m other h)
once_keeps n s t th f below m other true b i l o = trapped_keeps n s b
once_keeps n s t th f below m other false b i l o = ended_keeps n s t th f below m other other.frames b i l o

some_keeps : (n : ℕ) (s : Configuration) (t : ℕ) (th : Thread) (f : Frame) (below : List Frame) (m : ℕ) (o : Option Thread) → slice_get s.threads m ≡ o → BoundsOf n s → IsBounded n th → suc (length below) ≤ n + 1 → Kept n (joined_some s t th f below m o)
some_keeps n s t th f below m None e b i l = trapped_keeps n s b
some_keeps n s t th f below m (Some other) e b i l =
    once_keeps n s t th f below m other other.joined b i l (b.each m other e)

number_keeps : (n : ℕ) (s : Configuration) (t : ℕ) (th : Thread) (f : Frame) (below : List Frame) (m : ℕ) → BoundsOf n s → IsBounded n th → suc (length below) ≤ n + 1 → Kept n (joined_number s t th f below m)
number_keeps n s t th f below zero b i l = trapped_keeps n s b
number_keeps n s t th f below (suc m) b i l =
    some_keeps n s t th f below (suc m) (slice_get s.threads (suc m)) refl b i l

at_keeps : (n : ℕ) (s : Configuration) (t : ℕ) (th : Thread) (f : Frame) (below : List Frame) (o : Option ℕ) → BoundsOf n s → IsBounded n th → suc (length below) ≤ n + 1 → Kept n (joined_at s t th f below o)
at_keeps n s t th f below None b i l = trapped_keeps n s b
at_keeps n s t th f below (Some m) b i l = number_keeps n s t th f below m b i l

act_keeps : (c : Code) (n : ℕ) (s : Configuration) (t : ℕ) (th : Thread) (f : Frame) (below : List Frame) (a : Action) → BoundsOf n s → IsBounded n th → suc (length below) ≤ n + 1 → Kept n (act c s t th f below a)
act_keeps c n s t th f below (action.Get site) b i l =
    fetched_keeps n s t th f below site (index_value site.indexed f.values) (past_index site.indexed f.values) (global_cell s site f.values) b i l
act_keeps c n s t th f below (action.GetKeep site) b i l =
    fetched_keeps n s t th f below site (index_value site.indexed f.values) f.values (global_cell s site f.values) b i l
act_keeps c n s t th f below (action.Put site) b i l =
    written_keeps n s t th f below site (index_value site.indexed (other_values f.values)) (past_index site.indexed (other_values f.values)) (last_value f.values) (global_cell s site (other_values f.values)) b i l
act_keeps c n s t th f below action.Take b i l = taken_keeps n s t th f below s.input b i l
act_keeps c n s t th f below (action.Lock m) b i l = locked_keeps n s t th f below m (slice_index_or s.owners m.number None) b i l
act_keeps c n s t th f below (action.Unlock m) b i l = unlocked_keeps n s t th f below m (holds (slice_index_or s.owners m.number None) t) b i l
act_keeps c n s t th f below (action.Create target of) b i l =
    created_keeps c n s t th f below target of (index_value target.indexed (other_values f.values)) (past_index target.indexed (other_values f.values)) (last_value f.values) (handle_at s f target (other_values f.values)) b i l
act_keeps c n s t th f below (action.Join target) b i l =
    at_keeps n s t th (with_values f (past_index target.indexed f.values)) below (handle_at s f target f.values) b i l
act_keeps c n s t th f below (action.Print m args) b i l = top_keeps n s t th _ below b i l
act_keeps c n s t th f below (action.Call g) b i l =
    one_set n s.made (s.made + 1) s.threads s.tokens t _ b (omega (arith, b.frames_made)) (framed n th (_ ∷ _ ∷ below) i (omega (arith, l)))
act_keeps c n s t th f below (action.Sleep v m) b i l = slept_keeps n s t th f below v m (holds (slice_index_or s.owners m.number None) t) b i l
act_keeps c n s t th f below (action.Wake v m) b i l =
    woken_keeps n s t th f below v m (sleeps t (sleepers_of s v)) (slice_index_or s.owners m.number None) b i l
act_keeps c n s t th f below (action.Signal v) b i l = top_keeps n s t th f below b i l
act_keeps c n s t th f below (action.Broadcast v) b i l = top_keeps n s t th f below b i l

-- an operation of a thread; th is that thread without the operation
enter_keeps : (n : ℕ) (s : Configuration) (t : ℕ) (th : Thread) (k : LockId) (late may : Bool) → BoundsOf n s → IsBounded n th → Kept n (enter s t th k late may)
enter_keeps n s t th k false true b i =
    set_one n s.made s.threads s.tokens t _ b (record {
      frames = omega (arith, i.frames);
      held = set_below th.held k.number (slice_index th.held k.number + 1) (n + 1) (λ j. omega (arith, i.held j)) (omega (arith, i.held k.number));
      missed = λ j. omega (arith, i.missed j);
    })
enter_keeps n s t th k true false b i =
    set_one n s.made s.threads s.tokens t _ b (record {
      frames = omega (arith, i.frames);
      held = λ j. omega (arith, i.held j);
      missed = set_below th.missed k.number (slice_index th.missed k.number + 1) (n + 1) (λ j. omega (arith, i.missed j)) (omega (arith, i.missed k.number));
    })
enter_keeps n s t th k false false b i = tt
enter_keeps n s t th k true true b i = tt

wait_keeps : (n : ℕ) (s : Configuration) (t : ℕ) (th : Thread) (j : OrderId) (late ready : Bool) → BoundsOf n s → IsBounded n th → Kept n (wait s t th j late ready)
wait_keeps n s t th j false true b i = set_one n s.made s.threads s.tokens t th b (thread_later n th i)
wait_keeps n s t th j true false b i = set_one n s.made s.threads s.tokens t th b (thread_later n th i)
wait_keeps n s t th j false false b i = tt
wait_keeps n s t th j true true b i = tt

leave_keeps : (n : ℕ) (s : Configuration) (t : ℕ) (th : Thread) (k : LockId) (h m : ℕ) → h ≤ n → m ≤ n → BoundsOf n s → IsBounded n th → BoundsOf (n + 1) (leave s t th k h m)
leave_keeps n s t th k (suc d) m x y b i =
    set_one n s.made s.threads s.tokens t _ b (record {
      frames = omega (arith, i.frames);
      held = set_below th.held k.number d (n + 1) (λ j. omega (arith, i.held j)) (omega (arith, x));
      missed = λ j. omega (arith, i.missed j);
    })
leave_keeps n s t th k zero (suc m) x y b i =
    set_one n s.made s.threads s.tokens t _ b (record {
      frames = omega (arith, i.frames);
      held = λ j. omega (arith, i.held j);
      missed = set_below th.missed k.number m (n + 1) (λ j. omega (arith, i.missed j)) (omega (arith, y));
    })
leave_keeps n s t th k zero zero x y b i = set_one n s.made s.threads s.tokens t th b (thread_later n th i)

taken_token_keeps : (n : ℕ) (s : Configuration) (j : OrderId) (tokens : ℕ) → tokens ≤ n + 1 → BoundsOf (n + 1) s → BoundsOf (n + 1) (token_taken s j tokens)
taken_token_keeps n s j zero x b = b
taken_token_keeps n s j (suc m) x b =
    with_tokens n s.made s.threads s.tokens _ b (set_below s.tokens j.number m (n + 2) (λ i. omega (arith, b.few_tokens i)) (omega (arith, x)))

operate_keeps : (n : ℕ) (s : Configuration) (t : ℕ) (th : Thread) (late : Bool) (o : Op) → BoundsOf n s → IsBounded n th → Kept n (operate s t th late o)
operate_keeps n s t th late (op.Enter k) b i = enter_keeps n s t th k late (may_enter (slice_index_or s.locks k.number None) t) b i
operate_keeps n s t th late (op.Wait j) b i =
    wait_keeps n s t th j late (no_token (slice_index s.tokens j.number) || slice_index_or s.flags j.number false) b i
operate_keeps n s t th true (op.Leave k) b i = tt
operate_keeps n s t th true (op.First j) b i = tt
operate_keeps n s t th true (op.Done j) b i = tt
operate_keeps n s t th true (op.Add j) b i = tt
operate_keeps n s t th false (op.Leave k) b i =
    leave_keeps n s t th k (slice_index th.held k.number) (slice_index th.missed k.number) (i.held k.number) (i.missed k.number) b i
operate_keeps n s t th false (op.First j) b i = set_one n s.made s.threads s.tokens t th b (thread_later n th i)
operate_keeps n s t th false (op.Done j) b i =
    taken_token_keeps n (record s { threads = set s.threads t th }) j (slice_index s.tokens j.number) (b.few_tokens j.number) (set_one n s.made s.threads s.tokens t th b (thread_later n th i))
operate_keeps n s t th false (op.Add j) b i =
    with_tokens n s.made (set s.threads t th) s.tokens _ (set_one n s.made s.threads s.tokens t th b (thread_later n th i)) (set_below s.tokens j.number (slice_index s.tokens j.number + 1) (n + 2) (λ k. omega (arith, b.few_tokens k)) (omega (arith, b.few_tokens j.number)))

same_frames : (n : ℕ) (th : Thread) (fs : List Frame) → IsBounded n th → length fs ≤ n + 1 → IsBounded n (with_frames th fs)
same_frames n th fs b l = record { frames = l; held = b.held; missed = b.missed }

work_keeps : (c : Code) (n : ℕ) (s : Configuration) (t : ℕ) (late : Bool) (th : Thread) (f : Frame) (below : List Frame) (work : List Item) → BoundsOf n s → IsBounded n th → suc (length below) ≤ n + 1 → Kept n (work_step c s t late th f below work)
work_keeps c n s t late th f below [] b i l = tt
work_keeps c n s t late th f below (item.Op o ∷ rest) b i l =
    operate_keeps n s t (with_frames th (with_work f rest ∷ below)) late o b (same_frames n th (with_work f rest ∷ below) i l)
work_keeps c n s t true th f below (item.Reduce r ∷ rest) b i l = tt
work_keeps c n s t true th f below (item.Act a ∷ rest) b i l = tt
work_keeps c n s t true th f below (item.Go m ∷ rest) b i l = tt
work_keeps c n s t false th f below (item.Reduce r ∷ rest) b i l =
    reduced_keeps n s t th below (reduce c (with_work f rest) r) b i l
work_keeps c n s t false th f below (item.Act a ∷ rest) b i l = act_keeps c n s t th (with_work f rest) below a b i l
work_keeps c n s t false th f below (item.Go m ∷ rest) b i l = go_keeps c n s t th (with_work f rest) below m b i l

frames_keep : (c : Code) (n : ℕ) (s : Configuration) (t : ℕ) (late : Bool) (th : Thread) (fs : List Frame) → BoundsOf n s → IsBounded n th → length fs ≤ n + 1 → Kept n (frames_step c s t late th fs)
frames_keep c n s t late th [] b i l = tt
frames_keep c n s t late th (f ∷ below) b i l = work_keeps c n s t late th f below f.work b i l

thread_keeps : (c : Code) (n : ℕ) (s : Configuration) (t : ℕ) (late : Bool) (o : Option Thread) → slice_get s.threads t ≡ o → BoundsOf n s → Kept n (thread_step c s t late o)
thread_keeps c n s t late None e b = tt
thread_keeps c n s t late (Some th) e b =
    let i : IsBounded n th = b.each t th e in
    frames_keep c n s t late th th.frames b i i.frames

-- a step from a counted configuration leaves a counted one
pub counted_next : (c : Code) (s next : Configuration) (n t : ℕ) (late : Bool) (event : Event) → IsCounted (record { configuration = s; steps = n }) → n < max_steps → thread_step c s t late (slice_get s.threads t) ≡ Some (next, event) → IsCounted (record { configuration = next; steps = n + 1 })
counted_next c s next n t late event i few e =
    let b : Bounds n s.made s.threads s.tokens = record { frames_made = i.made; threads_made = i.threads; each = i.each; few_tokens = i.tokens } in
    let k : Kept n (Some (next, event)) = subst (Kept n) e (thread_keeps c n s t late (slice_get s.threads t) refl b) in
    record { few = omega (arith, few); made = k.frames_made; threads = k.threads_made; each = k.each; tokens = k.few_tokens }

-- its counts can be raised by one
pub has_room : (s : Configuration) (n : ℕ) → IsCounted (record { configuration = s; steps = n }) → n < max_steps → HasRoom s
has_room s n i few = record {
  made = omega (arith, few, i.made);
  threads = omega (arith, few, i.threads);
  each = λ t th h. (let b : IsBounded n th = i.each t th h in record { held = λ k. omega (arith, few, b.held k); missed = λ k. omega (arith, few, b.missed k) });
  tokens = λ j. omega (arith, few, i.tokens j);
}

-- the start is counted
token_below : (n : ℕ) (orders : List OrderId) → Below 1 (initial_tokens n orders)
token_below n [] i = omega (arith, zeros n i)
token_below n (j ∷ rest) i = set_below (initial_tokens n rest) j.number 1 1 (token_below n rest) (omega arith) i

pub counted_start : (c : Code) (input : List ℤ) → IsCounted (record { configuration = start c input; steps = 0 })
counted_start c input = record {
  few = omega arith;
  made = omega arith;
  threads = omega arith;
  each = λ t th h. at_start t th h;
  tokens = token_below c.orders c.starts;
}
  where
    at_start : (t : ℕ) (th : Thread) → slice_get (thread_of c (frame_of c 0 c.main []) ∷ []) t ≡ Some th → IsBounded 0 th
    at_start zero th h =
        subst (IsBounded 0) (let e : thread_of c (frame_of c 0 c.main []) ≡ th = cc in e) (record { frames = omega arith; held = λ k. omega (arith, zeros c.locks k); missed = λ k. omega (arith, zeros c.locks k) })
    at_start (suc t) th h = absurd (let e : None ≡ Some th = h in cc)
