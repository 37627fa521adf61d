-- Runs of a program, and of the program without its new operations.
use Rattle.std.specs.Prelude.{◌≡◌, ℕ, ℤ, Bool, true, false, List, [], ◌∷◌, map, Some}
use Rattle.cfix_base.specs.declared.entry.Entry.{Entry}
use Rattle.step_state.specs.declared.state.Configuration.{Configuration}
use Rattle.step_state.specs.Code.{Code}
use Rattle.cfix_base.specs.declared.mark.Marks.{Marks}
use Rattle.step_state.specs.Erase.{strip_code, strip_configuration, strip_frame, is_inserted, erased}
use Rattle.step_state.specs.Run.{Seen, run, CanGo}

-- a step without what is new in the frames before it
abbrev pub strip_seen : Marks → Seen → Seen
strip_seen m seen = record { entry = seen.entry; before = map (strip_frame m) seen.before; event = seen.event }

-- a step is kept, unless it is of a new operation
abbrev pub kept_seen : Bool → Seen → List Seen → List Seen
kept_seen true seen rest = rest
kept_seen false seen rest = seen ∷ rest

-- the steps without those of new operations
abbrev pub strip_steps : Marks → List Seen → List Seen
strip_steps m [] = []
strip_steps m (seen ∷ rest) = kept_seen (is_inserted m seen.event) (strip_seen m seen) (strip_steps m rest)

-- Where a schedule is a run of the program, the schedule without the new operations is a run of the program without them: its
-- steps and its last configuration are those of the run without what is new.
pub record Erases (m : Marks) (c : Code) (input : List ℤ) (es : List Entry) : Type 0 where
  pub erases : (steps : List Seen) (last : Configuration) → run c input es ≡ Some (steps, last)
      → run (strip_code m c) input (erased m c input es) ≡ Some (strip_steps m steps, strip_configuration m last)
  pub goes_on : (steps : List Seen) (last : Configuration) → run c input es ≡ Some (steps, last)
      → (t : ℕ) → CanGo (strip_code m c) (strip_configuration m last) t → CanGo c last t
