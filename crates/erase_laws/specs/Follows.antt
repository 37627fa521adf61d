-- What a step of a program is for the program without its new operations.
use Rattle.std.specs.Prelude.{◌≡◌, Bool, true, false, Some, None}
use Rattle.cfix_base.specs.declared.entry.Entry.{Entry}
use Rattle.step_state.specs.declared.state.Configuration.{Configuration}
use Rattle.step_state.specs.Code.{Code}
use Rattle.step_state.specs.Changes.{Made}
use Rattle.cfix_base.specs.declared.mark.Marks.{Marks}
use Rattle.step_state.specs.Erase.{strip_code, strip_configuration, is_inserted}
use Rattle.step_state.specs.Step.{step}

-- the step without what is new
abbrev pub strip_made : Marks → Made → Made
strip_made m None = None
strip_made m (Some (s, ev)) = Some (strip_configuration m s, ev)

-- a step of a new operation changes nothing that is not new, and any other step is one of the stripped program
abbrev pub ByEvent : Bool → Type 0 → Type 0 → Type 0
ByEvent true A B = A
ByEvent false A B = B

-- what a step is for the stripped step beside it
abbrev pub Follows : Marks → Configuration → Made → Made → Type 0
Follows m old None stripped = Unit {0}
Follows m old (Some (next, ev)) stripped =
    ByEvent (is_inserted m ev) (strip_configuration m next ≡ strip_configuration m old) (stripped ≡ Some (strip_configuration m next, ev))

-- and of the step of an entry
abbrev pub StepFollows : Marks → Code → Configuration → Entry → Type 0
StepFollows m c s e = Follows m s (step c s e) (step (strip_code m c) (strip_configuration m s) e)
