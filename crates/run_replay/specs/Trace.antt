-- The trace of a run: a line for each step, and the line that says how the run stands.
use Rattle.std.specs.Prelude.{◌≡◌, ℕ, ℤ, ◌+◌, Bool, true, ◌↔◌, List, [], ◌∷◌, ◌++◌, slice_get, Option, Some, None}
use Rattle.cfix_base.specs.declared.entry.Entry.{Entry}
use Rattle.c_prog.specs.declared.tree.Tree.{Tree}
use Rattle.step_state.specs.declared.frame.Frame.{Frame}
use Rattle.step_state.specs.declared.state.Configuration.{Configuration}
use Rattle.step_state.specs.Code.{Code}
use Rattle.step_state.specs.Changes.{Made}
use Rattle.step_state.specs.Start.{start}
use Rattle.step_state.specs.Step.{step}
use Rattle.step_state.specs.Run.{Seen, frames_at, run}
use Rattle.step_tables.specs.TreeCode.{tree_code}
use Rattle.trace_text.specs.Events.{event_line}
use Rattle.trace_text.specs.Closings.{closing_line}

-- the lines of steps, from the number of the first one
abbrev pub step_lines : Tree → ℕ → List Seen → List ℕ
step_lines tree n [] = []
step_lines tree n (m ∷ rest) = event_line tree n m.entry.thread m.event ++ step_lines tree (n + 1) rest

-- no entry makes a step
abbrev pub IsStuck : Code → Configuration → Type 0
IsStuck c s = (e : Entry) → step c s e ≡ None

-- the last line of a trace that ends in this configuration
pub record Closes (c : Code) (s : Configuration) (line : List ℕ) : Type 0 where
  pub stuck : Bool
  pub tells : (stuck ≡ true) ↔ IsStuck c s
  pub is_line : line ≡ closing_line s.ending stuck

-- the trace of a run that each entry of the schedule goes on
pub record IsTrace (tree : Tree) (input : List ℤ) (es : List Entry) (text : List ℕ) : Type 0 where
  pub steps : List Seen
  pub last : Configuration
  pub closing : List ℕ
  pub ran : run (tree_code tree) input es ≡ Some (steps, last)
  pub closes : Closes (tree_code tree) last closing
  pub is_text : text ≡ step_lines tree 1 steps ++ closing

-- the steps that entries make, up to the first that makes none
abbrev pub seen_on : Entry → List Frame → Made → (Configuration → List Seen) → List Seen
seen_on e before None go = []
seen_on e before (Some (s, ev)) go = record { entry = e; before = before; event = ev } ∷ go s

abbrev pub seen_from : Code → Configuration → List Entry → List Seen
seen_from c s [] = []
seen_from c s (e ∷ es) = seen_on e (frames_at (slice_get s.threads e.thread)) (step c s e) (λ next. seen_from c next es)

abbrev pub seen : Tree → List ℤ → List Entry → List Seen
seen tree input es = seen_from (tree_code tree) (start (tree_code tree) input) es

-- the configuration behind these steps
abbrev pub last_on : Configuration → Made → (Configuration → Configuration) → Configuration
last_on s None go = s
last_on s (Some (next, ev)) go = go next

abbrev pub last_from : Code → Configuration → List Entry → Configuration
last_from c s [] = s
last_from c s (e ∷ es) = last_on s (step c s e) (λ next. last_from c next es)

-- the number of the first entry that makes no step, where the entries are numbered from n on
abbrev pub refused_on : ℕ → Made → (Configuration → Option ℕ) → Option ℕ
refused_on n None go = Some n
refused_on n (Some (s, ev)) go = go s

abbrev pub refused_from : Code → Configuration → ℕ → List Entry → Option ℕ
refused_from c s n [] = None
refused_from c s n (e ∷ es) = refused_on n (step c s e) (λ next. refused_from c next (n + 1) es)

abbrev pub refused : Tree → List ℤ → List Entry → Option ℕ
refused tree input es = refused_from (tree_code tree) (start (tree_code tree) input) 1 es
