-- Frames without the item that is done, and what came of it.
use Rattle.std.specs.Prelude.{◌≡◌, drop, Option, Some, None}
use Rattle.step_state.specs.declared.event.Trap.{Trap}
use Rattle.step_state.specs.declared.frame.Frame.{Frame}
use Rattle.step_state.specs.Changes.{with_work}
use Rattle.step_state.specs.Reduce.{Reduced, frame, trap}

-- the frame without the first item of its work
abbrev pub popped : Frame → Frame
popped f = with_work f (drop 1 f.work)

-- the frame becomes this one
abbrev pub Becomes : Reduced → Frame → Type 0
Becomes r after = r ≡ frame after

-- the frame becomes this one; or there is a trap, and the frame is as before
abbrev pub Does : Reduced → (before after : Frame) → Option Trap → Type 0
Does r before after None = r ≡ frame after
Does r before after (Some t) = (r ≡ trap t) × (after ≡ before)
