-- Configurations, threads and frames with something changed.
use Rattle.std.specs.Prelude.{ℕ, ◌+◌, ◌-◌, ℤ, pos, false, List, [], ◌∷◌, ◌++◌, map, length, replicate, slice_set, Option, Some, None}
use Rattle.cfix_base.specs.declared.place.Place.{Place}
use Rattle.cfix_base.specs.declared.place.Place.TheVariants.{Start}
use Rattle.c_prog.specs.declared.act.LocalKind.{LocalKind}
use Rattle.c_prog.specs.declared.act.LocalKind.TheVariants as kind
use Rattle.step_state.specs.declared.event.Trap.{Trap}
use Rattle.step_state.specs.declared.event.Event.{Event}
use Rattle.step_state.specs.declared.event.Event.TheVariants as event
use Rattle.step_state.specs.declared.event.Ending.TheVariants as ending
use Rattle.step_state.specs.declared.item.Item.{Item}
use Rattle.step_state.specs.declared.frame.Frame.{Frame}
use Rattle.step_state.specs.declared.thread.Thread.{Thread}
use Rattle.step_state.specs.declared.state.Configuration.{Configuration}
use Rattle.step_state.specs.Code.{Code, arrive, fn_id}

-- what a step is: the configuration after it and its event, or nothing
abbrev pub Made : Type 0
Made = Option (Configuration × Event)

-- the configuration where this thread is so
abbrev pub with_thread : Configuration → ℕ → Thread → Configuration
with_thread s t th = record s { threads = slice_set s.threads t th }

-- the thread where its frames are these
abbrev pub with_frames : Thread → List Frame → Thread
with_frames th fs = record th { frames = fs }

-- the configuration where the thread's top frame is so
abbrev pub with_top_frame : Configuration → ℕ → Thread → Frame → List Frame → Configuration
with_top_frame s t th f below = with_thread s t (with_frames th (f ∷ below))

-- the frame where its values, or its work, are these
abbrev pub with_values : Frame → List ℤ → Frame
with_values f vs = record f { values = vs }

abbrev pub with_work : Frame → List Item → Frame
with_work f work = record f { work = work }

-- a trap ends the run and changes nothing else
abbrev pub trapped : Configuration → Trap → Made
trapped s t = Some (record s { ending = ending.Trap t }, event.Trap t)

-- the frame passes the place
abbrev pub pass : Code → Frame → Place → Frame
pass c f place = record f { visit = None; last = place; work = arrive c place }

-- how many cells a local has for numbers, and how many for threads
abbrev pub int_cells : LocalKind → ℕ
int_cells kind.Int = 1
int_cells (kind.IntArray n) = n
int_cells _ = 0

abbrev pub handle_cells : LocalKind → ℕ
handle_cells kind.Thread = 1
handle_cells (kind.ThreadArray n) = n
handle_cells _ = 0

-- the cells of a function's locals: the parameters have these values, and all else is 0
abbrev pub new_locals : List LocalKind → List ℤ → List (List ℤ)
new_locals kinds args = map (λ v. v ∷ []) args ++ map (λ k. replicate (int_cells k) (pos 0)) kinds

abbrev pub new_handles : List LocalKind → List ℤ → List (List ℕ)
new_handles kinds args = map (λ v. []) args ++ map (λ k. replicate (handle_cells k) 0) kinds

-- a frame of a function that begins with these arguments
abbrev pub frame_of : Code → ℕ → ℕ → List ℤ → Frame
frame_of c serial f args = record {
  serial = serial;
  of = fn_id f;
  visit = None;
  last = Start (fn_id f);
  locals = new_locals (c.locals f) args;
  handles = new_handles (c.locals f) args;
  values = [];
  work = arrive c (Start (fn_id f));
}

-- a thread that begins with this frame, in no lock
abbrev pub thread_of : Code → Frame → Thread
thread_of c f = record { frames = f ∷ []; joined = false; held = replicate c.locks 0; missed = replicate c.locks 0 }
