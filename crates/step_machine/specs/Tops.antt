-- The top frame of a thread, and what calls and creations change in it.
use Rattle.std.specs.Prelude.{ℕ, zero, suc, ◌+◌, ℤ, pos, Bool, true, false, ◌||◌, List, [], ◌∷◌, ◌++◌, drop, length, slice_get, slice_set, slice_index_or, Option, Some, None}
use Rattle.c_prog.specs.declared.expr.Var.{Var}
use Rattle.c_prog.specs.declared.expr.Var.TheVariants as var
use Rattle.step_state.specs.declared.item.HandleSite.{HandleSite}
use Rattle.step_state.specs.declared.frame.Frame.{Frame}
use Rattle.step_state.specs.declared.thread.Thread.{Thread}
use Rattle.step_state.specs.declared.state.Configuration.{Configuration}
use Rattle.step_state.specs.Values.{index_value, other_values, past_index, with_cell}
use Rattle.step_state.specs.Changes.{with_frames, with_values}
use Rattle.step_values.specs.Popped.{popped}

-- the top frame of a thread, if there is one
abbrev pub thread_top : Option Thread → Option Frame
thread_top None = None
thread_top (Some th) = slice_get th.frames 0

abbrev pub top_of : Configuration → ℕ → Option Frame
top_of s t = thread_top (slice_get s.threads t)

-- the frames where the top one has made a call with so many arguments
abbrev pub calling : ℕ → List Frame → List Frame
calling count [] = []
calling count (f ∷ below) = with_values (popped f) (drop count f.values) ∷ below

-- the thread numbers in a variable, global or of the frame
abbrev pub numbers_of : List (List ℕ) → Frame → Var → List ℕ
numbers_of handles f (var.Global v) = slice_index_or handles v.number []
numbers_of handles f (var.Local x) = slice_index_or f.handles x []

-- the numbers in global variables, and in those of a frame, where this one is stored
abbrev pub global_numbers : List (List ℕ) → Var → ℤ → ℕ → List (List ℕ)
global_numbers handles (var.Global v) i n = with_cell handles v.number (slice_index_or handles v.number []) i n
global_numbers handles (var.Local x) i n = handles

abbrev pub local_numbers : List (List ℕ) → Var → ℤ → ℕ → List (List ℕ)
local_numbers handles (var.Global v) i n = handles
local_numbers handles (var.Local x) i n = with_cell handles x (slice_index_or handles x []) i n

-- the index that a creation stores at, behind its argument
abbrev pub created_index : HandleSite → Frame → ℤ
created_index site f = index_value site.indexed (other_values f.values)

-- the frame whose creation has stored a number
abbrev pub creating : Frame → HandleSite → ℕ → Frame
creating f site n = record (with_values (popped f) (past_index site.indexed (other_values f.values))) {
  handles = local_numbers f.handles site.var (created_index site f) n;
}

-- the frames where the top one has made a creation, and the configuration after it
abbrev pub creating_top : List Frame → HandleSite → ℕ → List Frame
creating_top [] site n = []
creating_top (f ∷ below) site n = creating f site n ∷ below

abbrev pub top_index : HandleSite → List Frame → ℤ
top_index site [] = pos 0
top_index site (f ∷ below) = created_index site f

abbrev pub creation : Configuration → ℕ → HandleSite → Thread → Option Thread → Configuration
creation s t site new None = s
creation s t site new (Some th) = record s {
  threads =
      slice_set s.threads t (with_frames th (creating_top th.frames site (length s.threads))) ++ new ∷ [];
  handles = global_numbers s.handles site.var (top_index site th.frames) (length s.threads);
  made = s.made + 1;
}

-- whether a join of the thread with this number traps: it is 0, no thread's, or that of one that was joined
abbrev pub joins_none : Option Thread → Bool
joins_none None = true
joins_none (Some other) = other.joined

abbrev pub is_bad_join : Configuration → ℕ → Bool
is_bad_join s zero = true
is_bad_join s (suc n) = joins_none (slice_get s.threads (suc n))

-- whether a thread has ended
abbrev pub no_frames : List Frame → Bool
no_frames [] = true
no_frames (f ∷ below) = false

abbrev pub thread_over : Option Thread → Bool
thread_over None = true
thread_over (Some th) = no_frames th.frames

abbrev pub has_ended : Configuration → ℕ → Bool
has_ended s n = thread_over (slice_get s.threads n)

-- whether a join of this number goes on or traps
abbrev pub may_join_thread : Bool → Bool → Bool
may_join_thread bad ended = bad || ended

abbrev pub may_join : Configuration → Option ℕ → Bool
may_join s None = true
may_join s (Some n) = may_join_thread (is_bad_join s n) (has_ended s n)
