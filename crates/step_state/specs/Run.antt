-- Runs: what the entries of a schedule make, one after another.
use Rattle.std.specs.Prelude.{◌≡◌, ℕ, ℤ, Bool, true, false, List, [], ◌∷◌, slice_get, Option, Some, None}
use Rattle.cfix_base.specs.declared.entry.Entry.{Entry}
use Rattle.cfix_base.specs.declared.number.NodeId.{NodeId}
use Rattle.step_state.specs.declared.event.Event.{Event}
use Rattle.step_state.specs.declared.event.Event.TheVariants as event
use Rattle.step_state.specs.declared.item.Item.{Item}
use Rattle.step_state.specs.declared.item.Item.TheVariants as item
use Rattle.step_state.specs.declared.item.Move.TheVariants as move
use Rattle.step_state.specs.declared.frame.Frame.{Frame}
use Rattle.step_state.specs.declared.thread.Thread.{Thread}
use Rattle.step_state.specs.declared.state.Configuration.{Configuration}
use Rattle.step_state.specs.Code.{Code}
use Rattle.step_state.specs.Changes.{Made}
use Rattle.step_state.specs.Start.{start}
use Rattle.step_state.specs.Step.{step}

-- a step of a run: its entry, the frames of its thread before it, and its event
pub record Seen : Type 0 where
  pub entry : Entry
  pub before : List Frame
  pub event : Event

-- what a run is: its steps and its last configuration, or nothing
abbrev pub Ran : Type 0
Ran = Option (List Seen × Configuration)

-- the frames of a thread; none where there is no such thread
abbrev pub frames_at : Option Thread → List Frame
frames_at None = []
frames_at (Some th) = th.frames

-- a run with one more step at its front
abbrev pub add_seen : Seen → Ran → Ran
add_seen m None = None
add_seen m (Some (ms, s)) = Some (m ∷ ms, s)

-- a run that goes on from its first step
abbrev pub go_on : Entry → List Frame → Made → (Configuration → Ran) → Ran
go_on e before None go = None
go_on e before (Some (s, ev)) go = add_seen (record { entry = e; before = before; event = ev }) (go s)

-- the run from this configuration on, where each entry makes a step
abbrev pub run_from : Code → Configuration → List Entry → Ran
run_from c s [] = Some ([], s)
run_from c s (e ∷ es) = go_on e (frames_at (slice_get s.threads e.thread)) (step c s e) (λ next. run_from c next es)

-- the run of a program from its start
abbrev pub run : Code → List ℤ → List Entry → Ran
run c input es = run_from c (start c input) es

-- some entry of the thread makes a step
pub record CanGo (c : Code) (s : Configuration) (t : ℕ) : Type 0 where
  pub late : Bool
  pub next : Configuration
  pub event : Event
  pub goes : step c s (record { thread = t; timeout = late }) ≡ Some (next, event)

-- whether a step is a timeout
abbrev pub is_missed : Event → Bool
is_missed (event.EnterMissed k) = true
is_missed (event.WaitMissed j) = true
is_missed _ = false

-- no step of a run is a timeout
abbrev pub NoTimeout : List Seen → Type 0
NoTimeout [] = Unit {0}
NoTimeout (m ∷ ms) = (is_missed m.event ≡ false) × NoTimeout ms

-- the node that work begins behind its operations; none where the exit is next
abbrev pub next_node : List Item → Option NodeId
next_node [] = None
next_node (item.Op op ∷ work) = next_node work
next_node (item.Reduce r ∷ work) = None
next_node (item.Act a ∷ work) = None
next_node (item.Go (move.Node n) ∷ work) = Some n
next_node (item.Go (move.Branch n) ∷ work) = None
next_node (item.Go (move.Edge n) ∷ work) = None
next_node (item.Go move.Exit ∷ work) = None

-- the serial number of the top frame
abbrev pub top_serial : List Frame → Option ℕ
top_serial [] = None
top_serial (f ∷ below) = Some f.serial

-- the step begins a visit of this node in this frame of this thread
pub record Begins (t serial n : ℕ) (m : Seen) : Type 0 where
  pub thread : m.entry.thread ≡ t
  pub frame : top_serial m.before ≡ Some serial
  pub event : m.event ≡ event.Begin (record { number = n })

-- the work begins with the end of the visit
abbrev pub at_end : List Item → Bool
at_end (item.Go (move.Branch n) ∷ work) = true
at_end (item.Go (move.Edge n) ∷ work) = true
at_end _ = false

abbrev pub top_at_end : List Frame → Bool
top_at_end [] = false
top_at_end (f ∷ below) = at_end f.work

abbrev pub top_visit : List Frame → Option NodeId
top_visit [] = None
top_visit (f ∷ below) = f.visit

-- the step ends a visit of this node in this frame of this thread
pub record Ends (t serial n : ℕ) (m : Seen) : Type 0 where
  pub thread : m.entry.thread ≡ t
  pub frame : top_serial m.before ≡ Some serial
  pub visit : top_visit m.before ≡ Some (record { number = n })
  pub last : top_at_end m.before ≡ true
