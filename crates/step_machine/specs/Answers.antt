-- The answers of a step and their causes.
use Rattle.std.specs.Prelude.{◌≡◌, ℕ, ◌+◌, ◌<◌, Bool, true, false, Option, Some, None, IsSome}
use Rattle.cfix_base.specs.declared.entry.Entry.{Entry}
use Rattle.step_state.specs.declared.event.Event.{Event}
use Rattle.step_state.specs.declared.event.Ending.{Ending}
use Rattle.step_state.specs.declared.event.Ending.TheVariants.{Running, End, Trap}
use Rattle.step_state.specs.declared.item.Item.{Item}
use Rattle.step_state.specs.declared.state.Configuration.{Configuration}
use Rattle.step_state.specs.declared.state.Counted.{Counted}
use Rattle.step_state.specs.Code.{Code}
use Rattle.step_state.specs.Counts.{max_steps}
use Rattle.step_state.specs.Step.{step}
use Rattle.step_machine.specs.declared.fault.StepFault.{StepFault}
use Rattle.step_machine.specs.declared.fault.StepFault.TheVariants as fault
use Rattle.step_machine.specs.Next.{made, IsNext}
use Rattle.step_machine.specs.Goes.{may_do}

-- whether a run goes on
abbrev pub is_running : Ending → Bool
is_running Running = true
is_running End = false
is_running (Trap x) = false

-- one more step was made, with this event
pub record IsStep (c : Code) (s : Counted) (e : Entry) (next : Counted) (event : Event) : Type 0 where
  pub few : s.steps < max_steps
  pub goes : step c s.configuration e ≡ Some (next.configuration, event)
  pub counted : next.steps ≡ s.steps + 1

-- the run goes on, and may have one step more
pub record HasMore (s : Counted) : Type 0 where
  pub running : is_running s.configuration.ending ≡ true
  pub few : s.steps < max_steps

-- the run goes on, and has had all its steps
pub record IsFull (s : Counted) : Type 0 where
  pub running : is_running s.configuration.ending ≡ true
  pub full : s.steps ≡ max_steps

-- the run goes on, and may have one step more, but the entry makes none
pub record IsDisabled (c : Code) (s : Counted) (e : Entry) : Type 0 where
  pub more : HasMore s
  pub none : step c s.configuration e ≡ None

-- the run goes on, and may have one step more, and the entry makes one
pub record IsEnabled (c : Code) (s : Counted) (e : Entry) : Type 0 where
  pub more : HasMore s
  pub some : IsSome (step c s.configuration e)

-- the cause of each fault; memory is wanted for a step alone
abbrev pub IsCause : Code → Counted → Entry → StepFault → Type 0
IsCause c s e fault.NoMemory = IsEnabled c s e
IsCause c s e fault.Over = is_running s.configuration.ending ≡ false
IsCause c s e fault.TooMany = IsFull s
IsCause c s e fault.NotEnabled = IsDisabled c s e

-- the next item of the entry's thread is this one, and may be done
pub record MayDo (s : Configuration) (e : Entry) (item : Item) : Type 0 where
  pub next : IsNext s e.thread item
  pub may : may_do s e.thread e.timeout item ≡ true

-- the entry makes no step
pub record IsStuck (c : Code) (s : Configuration) (e : Entry) : Type 0 where
  pub none : made c s e.thread e.timeout ≡ None
