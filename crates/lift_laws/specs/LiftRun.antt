-- Runs as lists of steps between two configurations, and what is asked of a source run that is lifted.
use Rattle.std.specs.Prelude.{◌≡◌, ℕ, Bool, true, false, ◌==◌, ◌||◌, List, [], ◌∷◌, Some, None, slice_index, slice_index_or}
use Rattle.cfix_base.specs.declared.entry.Entry.{Entry}
use Rattle.step_state.specs.declared.event.Event.{Event}
use Rattle.step_state.specs.declared.state.Configuration.{Configuration}
use Rattle.step_state.specs.Code.{Code}
use Rattle.step_state.specs.Changes.{Made}
use Rattle.cfix_base.specs.declared.mark.Marks.{Marks}
use Rattle.step_state.specs.Erase.{is_inserted, kept_if}
use Rattle.step_state.specs.Operate.{no_token}
use Rattle.step_state.specs.Run.{Seen, is_missed}
use Rattle.step_state.specs.Step.{step}
use Rattle.lift_laws.specs.Lift.{Clear, ats}
use Rattle.step_state.specs.Reads.{frames_of}

-- the entries of the steps that are not of new operations
abbrev pub old_entries : Marks → List Seen → List Entry
old_entries m [] = []
old_entries m (k ∷ ks) = kept_if (is_inserted m k.event) k.entry (old_entries m ks)

-- no new operation timed out
abbrev pub NotLate : Marks → Event → Type 0
NotLate m ev = is_inserted m ev ≡ true → is_missed ev ≡ false

-- no new operation of these steps timed out
abbrev pub NoneLate : Marks → List Seen → Type 0
NoneLate m [] = Unit {0}
NoneLate m (k ∷ ks) = NotLate m k.event × NoneLate m ks

-- a wait for the order passes
abbrev pub Ready : Configuration → ℕ → Type 0
Ready s j = (no_token (slice_index s.tokens j) || slice_index_or s.flags j false) ≡ true

-- how many frames of a thread were at nodes of K before its latest step, after one more step
abbrev pub pick : Bool → ℕ → ℕ → ℕ
pick true x y = x
pick false x y = y

-- how many frames of thread u were at nodes of K k before its latest step, once thread t has made a step
abbrev pub was_after : (ℕ → ℕ → Bool) → (ℕ → ℕ → ℕ) → Configuration → ℕ → ℕ → ℕ → ℕ
was_after K was s t u k = pick (u == t) (ats (K k) (frames_of s t)) (was u k)

-- what holds of the next configuration, if there is one
abbrev pub clear_next : Made → (Configuration → Event → Type 0) → Type 0
clear_next None rest = Unit {0}
clear_next (Some (next, ev)) rest = rest next ev

-- each step of the source run p has no stranger and finds its orders ready; past: the steps before, the latest first
abbrev pub AllClear : Code → (ℕ → ℕ → Bool) → (ℕ → ℕ → Bool) → (ℕ → ℕ) → ℕ → ℕ → (List Seen → ℕ → Type 0) → (ℕ → ℕ → ℕ) → List Seen → Configuration → List Entry → Type 0
AllClear p K comes b locks orders passed was past s [] = Unit {0}
AllClear p K comes b locks orders passed was past s (e ∷ es) =
    Clear p K comes b locks orders was (passed past) s e.thread
    × clear_next (step p s e) (λ next ev. AllClear p K comes b locks orders passed (was_after K was s e.thread) (record { entry = e; before = frames_of s e.thread; event = ev } ∷ past) next es)

-- at the start no frame was anywhere before
abbrev pub never : ℕ → ℕ → ℕ
never u k = 0
