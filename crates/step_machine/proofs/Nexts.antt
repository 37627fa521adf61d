-- What a step is, where the thread's next item is known.
use Rattle.std.proofs.Common.{◌≡◌, ℕ, Bool, List, [], ◌∷◌, drop, Option, Some, None, refl, ap, sym, ◌∙◌}
use Rattle.std.specs.Prelude.{slice_get}
use Rattle.cfix_base.specs.declared.op.Op.{Op}
use Rattle.step_state.specs.declared.event.Event.{Event}
use Rattle.step_state.specs.declared.item.Item.{Item}
use Rattle.step_state.specs.declared.item.Item.TheVariants as item
use Rattle.step_state.specs.declared.frame.Frame.{Frame}
use Rattle.step_state.specs.declared.thread.Thread.{Thread}
use Rattle.step_state.specs.declared.state.Configuration.{Configuration}
use Rattle.step_state.specs.Code.{Code}
use Rattle.step_state.specs.Changes.{with_frames, with_work}
use Rattle.step_state.specs.Operate.{operate}
use Rattle.step_state.specs.Step.{thread_step, frames_step, work_step}
use Rattle.step_values.specs.Popped.{popped}
use Rattle.step_machine.specs.Next.{made, popped_top, popped_thread, IsNext}

pub next_is : (c : Code) (s : Configuration) (t : ℕ) (late : Bool) (item : Item) (h : IsNext s t item) → made c s t late ≡ work_step c s t late h.thread h.frame h.below (item ∷ h.rest)
next_is c s t late item h =
    ap (thread_step c s t late) h.stands ∙ ap (frames_step c s t late h.thread) h.top ∙ ap (work_step c s t late h.thread h.frame h.below) h.first

-- the thread that a body has in hand is the one that goes on
pub thread_is : (s : Configuration) (t : ℕ) (item : Item) (h : IsNext s t item) (th : Thread) → slice_get s.threads t ≡ Some th → th ≡ h.thread
thread_is s t item h th at = let e : Some th ≡ Some h.thread = sym at ∙ h.stands in cc

-- its frames without the item
pub popped_frames : (s : Configuration) (t : ℕ) (item : Item) (h : IsNext s t item) → popped_top h.thread.frames ≡ with_work h.frame h.rest ∷ h.below
popped_frames s t item h = ap popped_top h.top ∙ ap (λ w. with_work h.frame (drop 1 w) ∷ h.below) h.first

-- an operation
pub op_steps : (c : Code) (s next : Configuration) (t : ℕ) (late : Bool) (op : Op) (event : Event) (h : IsNext s t (item.Op op)) (th : Thread) → slice_get s.threads t ≡ Some th → operate s t (popped_thread th) late op ≡ Some (next, event) → made c s t late ≡ Some (next, event)
op_steps c s next t late op event h th at goes =
    let same = thread_is s t (item.Op op) h th at in
    next_is c s t late (item.Op op) h ∙ sym (ap (λ x. operate s t (popped_thread x) late op) same ∙ ap (λ fs. operate s t (with_frames h.thread fs) late op) (popped_frames s t (item.Op op) h)) ∙ goes
