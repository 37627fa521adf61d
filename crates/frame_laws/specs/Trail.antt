-- Runs as lists of steps between two configurations.
use Rattle.std.specs.Prelude.{◌≡◌, ◌⊎◌, List, [], ◌∷◌, Some, slice_get}
use Rattle.cfix_base.specs.declared.entry.Entry.{Entry}
use Rattle.step_state.specs.declared.state.Configuration.{Configuration}
use Rattle.step_state.specs.Code.{Code}
use Rattle.step_state.specs.Run.{Seen, frames_at}
use Rattle.step_state.specs.Step.{step}

-- the configuration makes this step, and of the next one the rest holds
pub record Stepped (c : Code) (s : Configuration) (m : Seen) (Rest : Configuration → Type 0) : Type 0 where
  pub next : Configuration
  pub goes : step c s m.entry ≡ Some (next, m.event)
  pub frames : frames_at (slice_get s.threads m.entry.thread) ≡ m.before
  pub rest : Rest next

-- these steps lead from one configuration to the other
abbrev pub Trail : Code → Configuration → List Seen → Configuration → Type 0
Trail c s [] last = s ≡ last
Trail c s (m ∷ ms) last = Stepped c s m (λ next. Trail c next ms last)

-- a moment between two parts of a run
pub record Moment (c : Code) (s : Configuration) (a b : List Seen) (last : Configuration) : Type 0 where
  pub now : Configuration
  pub past : Trail c s a now
  pub future : Trail c now b last

-- the schedule of these steps
abbrev pub entries : List Seen → List Entry
entries [] = []
entries (m ∷ ms) = m.entry ∷ entries ms

-- the fact holds of each step
abbrev pub Every : (Seen → Type 0) → List Seen → Type 0
Every Q [] = Unit {0}
Every Q (m ∷ ms) = Q m × Every Q ms

-- the fact holds of some step
abbrev pub SomeStep : (Seen → Type 0) → List Seen → Type 0
SomeStep Q [] = ⊥
SomeStep Q (m ∷ ms) = Q m ⊎ SomeStep Q ms
