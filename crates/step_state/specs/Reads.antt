-- What can be read of a frame.
use Rattle.std.specs.Prelude.{ℕ, Bool, true, false, ◌+◌, List, [], ◌∷◌, reverse, slice_get, Option, Some, None}
use Rattle.cfix_base.specs.declared.number.NodeId.{NodeId}
use Rattle.step_state.specs.declared.item.Item.{Item}
use Rattle.step_state.specs.declared.item.Item.TheVariants as item
use Rattle.step_state.specs.declared.frame.Frame.{Frame}
use Rattle.step_state.specs.declared.frame.FrameView.{FrameView}
use Rattle.step_state.specs.declared.state.Configuration.{Configuration}
use Rattle.step_state.specs.Run.{frames_at}

-- how many operations the work begins with
abbrev pub leading_ops : List Item → ℕ
leading_ops [] = 0
leading_ops (item.Op op ∷ work) = leading_ops work + 1
leading_ops (item.Reduce r ∷ work) = 0
leading_ops (item.Act a ∷ work) = 0
leading_ops (item.Go m ∷ work) = 0

-- whether an item is an operation
abbrev pub op_at : Option Item → Bool
op_at None = false
op_at (Some (item.Op op)) = true
op_at (Some (item.Reduce r)) = false
op_at (Some (item.Act a)) = false
op_at (Some (item.Go m)) = false

-- how many operations of the place passed last are still to be made: none during a visit
abbrev pub pending : Option NodeId → List Item → ℕ
pending None work = leading_ops work
pending (Some n) work = 0

-- what is read of a frame
abbrev pub view_of : Frame → FrameView
view_of f = record { serial = f.serial; of = f.of; visit = f.visit; place = f.last; pending = pending f.visit f.work }

-- the frames of a thread, the top one first; none where there is no such thread
abbrev pub frames_of : Configuration → ℕ → List Frame
frames_of s t = frames_at (slice_get s.threads t)

-- a frame of a thread, where the bottom frame is 0
abbrev pub frame_from_bottom : Configuration → ℕ → ℕ → Option Frame
frame_from_bottom s t at = slice_get (reverse (frames_of s t)) at
