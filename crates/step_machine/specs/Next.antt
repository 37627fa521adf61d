-- What a thread does next, and what its entry makes while the run goes on.
use Rattle.std.specs.Prelude.{◌≡◌, ℕ, Bool, List, [], ◌∷◌, Option, Some, None, slice_get}
use Rattle.step_state.specs.declared.event.Event.{Event}
use Rattle.step_state.specs.declared.item.Item.{Item}
use Rattle.step_state.specs.declared.frame.Frame.{Frame}
use Rattle.step_state.specs.declared.thread.Thread.{Thread}
use Rattle.step_state.specs.declared.state.Configuration.{Configuration}
use Rattle.step_state.specs.Code.{Code}
use Rattle.step_state.specs.Changes.{Made, with_frames}
use Rattle.step_state.specs.Step.{thread_step}
use Rattle.step_values.specs.Popped.{popped}

-- the item is the first of the work of the thread's top frame
pub record IsNext (s : Configuration) (t : ℕ) (item : Item) : Type 0 where
  pub thread : Thread
  pub frame : Frame
  pub below : List Frame
  pub rest : List Item
  pub stands : slice_get s.threads t ≡ Some thread
  pub top : thread.frames ≡ frame ∷ below
  pub first : frame.work ≡ item ∷ rest

-- what an entry of the thread makes while the run goes on
abbrev pub made : Code → Configuration → ℕ → Bool → Made
made c s t late = thread_step c s t late (slice_get s.threads t)

-- an entry of the thread makes this step
abbrev pub Steps : Code → Configuration → ℕ → Bool → Configuration → Event → Type 0
Steps c s t late next event = made c s t late ≡ Some (next, event)

-- the thread makes no step
pub record IsOver (c : Code) (s : Configuration) (t : ℕ) : Type 0 where
  pub none : (late : Bool) → made c s t late ≡ None

-- the thread without the first item of its top frame's work
abbrev pub popped_top : List Frame → List Frame
popped_top [] = []
popped_top (f ∷ below) = popped f ∷ below

abbrev pub popped_thread : Thread → Thread
popped_thread th = with_frames th (popped_top th.frames)
