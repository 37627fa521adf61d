-- One step of a replay, and what is so before each entry.
use Rattle.std.specs.Prelude.{◌≡◌, ℕ, ℤ, ◌+◌, ◌<◌, Bool, List, ◌++◌, drop, length, Option, Some, None}
use Rattle.cfix_base.specs.declared.entry.Entry.{Entry}
use Rattle.cfix_outside.specs.Faults.{Rose}
use Rattle.cfix_outside.specs.Sinks.{Gained, GainedFront}
use Rattle.c_prog.specs.declared.tree.Tree.{Tree}
use Rattle.step_state.specs.declared.event.Event.{Event}
use Rattle.step_state.specs.declared.state.Configuration.{Configuration}
use Rattle.step_state.specs.declared.state.Counted.{Counted}
use Rattle.step_state.specs.Code.{Code}
use Rattle.step_state.specs.Start.{start}
use Rattle.step_state.specs.Step.{step}
use Rattle.step_state.specs.Run.{Seen}
use Rattle.step_tables.specs.TreeCode.{tree_code}
use Rattle.trace_text.specs.Events.{event_line}
use Rattle.run_replay.specs.declared.fault.ReplayFault.{ReplayFault}
use Rattle.run_replay.specs.declared.fault.ReplayFault.TheVariants as fault
use Rattle.run_replay.specs.Trace.{Closes, last_from, refused, refused_from, seen, seen_from, step_lines}

-- no entry of the threads below this one makes a step
abbrev pub NoneBelow : Code → Configuration → ℕ → Type 0
NoneBelow c s n = (t : ℕ) → t < n → (late : Bool) → step c s (record { thread = t; timeout = late }) ≡ None

-- why no step was made
abbrev pub NoStep : ReplayFault → Code → Counted → Entry → Type 0
NoStep fault.NoMemory c s e = Unit {0}
NoStep (fault.NotEnabled n) c s e = (n ≡ s.steps + 1) × (step c s.configuration e ≡ None)
NoStep fault.Write c s e = ⊥

-- a step was made, and its line came
pub record IsPut (tree : Tree) (s : Counted) (e : Entry) (next : Counted) (old new : Option (List ℕ)) : Type 0 where
  pub event : Event
  pub goes : step (tree_code tree) s.configuration e ≡ Some (next.configuration, event)
  pub counted : next.steps ≡ s.steps + 1
  pub gained : Gained old new (event_line tree (s.steps + 1) e.thread event)

-- a step was made, and a front of its line came
pub record IsPutInPart (tree : Tree) (s : Counted) (e : Entry) (old new : Option (List ℕ)) : Type 0 where
  pub event : Event
  pub next : Configuration
  pub goes : step (tree_code tree) s.configuration e ≡ Some (next, event)
  pub gained : GainedFront old new (event_line tree (s.steps + 1) e.thread event)

-- why no line came
abbrev pub NoLine : ReplayFault → Tree → Counted → Entry → (old new : Option (List ℕ)) → (before now : ℕ) → Type 0
NoLine fault.NoMemory tree s e old new before now = new ≡ old
NoLine (fault.NotEnabled n) tree s e old new before now = (n ≡ s.steps + 1) × (step (tree_code tree) s.configuration e ≡ None) × (new ≡ old)
NoLine fault.Write tree s e old new before now = Rose before now × IsPutInPart tree s e old new

-- what is so once the first entries, so many, have made their steps
pub record IsUnderWay (tree : Tree) (input : List ℤ) (es : List Entry) (i : ℕ) (s : Counted) (old new : Option (List ℕ)) : Type 0 where
  pub steps : List Seen
  pub front : seen tree input es ≡ steps ++ seen_from (tree_code tree) s.configuration (drop i es)
  pub count : length steps ≡ i
  pub counted : s.steps ≡ i
  pub first : refused tree input es ≡ refused_from (tree_code tree) s.configuration (i + 1) (drop i es)
  pub last : last_from (tree_code tree) (start (tree_code tree) input) es ≡ last_from (tree_code tree) s.configuration (drop i es)
  pub gained : Gained old new (step_lines tree 1 steps)

-- the last line, or a front of it, came
pub record IsClosed (tree : Tree) (s : Configuration) (old new : Option (List ℕ)) : Type 0 where
  pub line : List ℕ
  pub closes : Closes (tree_code tree) s line
  pub gained : Gained old new line

pub record IsClosedInPart (tree : Tree) (s : Configuration) (old new : Option (List ℕ)) : Type 0 where
  pub line : List ℕ
  pub closes : Closes (tree_code tree) s line
  pub gained : GainedFront old new line
