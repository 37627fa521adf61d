-- What replaying and erasing make of the bytes of the three files of a run, and why they refuse them.
use Rattle.std.specs.Prelude.{ℕ, ℤ, ◌≡◌, ◌⊎◌, List, Option, Some, None}
use Rattle.cfix_base.specs.declared.entry.Entry.{Entry}
use Rattle.cfix_base.specs.declared.mark.Marks.{Marks}
use Rattle.c_prog.specs.Lines.{SourceTree}
use Rattle.c_read.specs.Reading.{Reads}
use Rattle.sched_text.specs.Inputs.{SpellsInput, ExplainsInputFault}
use Rattle.sched_text.specs.Schedules.{SpellsSchedule, ExplainsSchedFault, written}
use Rattle.sched_text.specs.declared.input_reader.InputFault.{InputFault}
use Rattle.sched_text.specs.declared.input_reader.InputFault.TheVariants as input_fault
use Rattle.sched_text.specs.declared.schedule_reader.SchedFault.{SchedFault}
use Rattle.sched_text.specs.declared.schedule_reader.SchedFault.TheVariants as sched_fault
use Rattle.step_state.specs.Erase.{erased}
use Rattle.step_tables.specs.TreeCode.{tree_code}
use Rattle.run_replay.specs.Trace.{IsTrace, refused}
use Rattle.run_replay.specs.Replays.{IsRefused, IsBegun, IsCut, IsCutTrace}
use Rattle.cfix_core.specs.declared.failure.Refusal.{Refusal}
use Rattle.cfix_core.specs.declared.failure.Refusal.TheVariants.{BadNumber, BadEntry, TooManyEntries, NotEnabled}
use Rattle.cfix_core.specs.declared.failure.Failure.{Failure}
use Rattle.cfix_core.specs.declared.failure.Failure.TheVariants as failure
use Rattle.cfix_core.specs.NamedFiles.{Contents}
use Rattle.cfix_core.specs.Sources.{IsRefusedSource}

-- what the program, the input and the schedule are read as
pub record IsRun (contents : Contents) : Type 0 where
  pub source : SourceTree
  pub reads : Reads contents.program source
  pub values : List ℤ
  pub is_input : SpellsInput contents.input values
  pub entries : List Entry
  pub is_schedule : SpellsSchedule contents.schedule entries

-- each entry makes a step
pub record GoesOn (contents : Contents) : Type 0 where
  pub is_run : IsRun contents
  pub none : refused is_run.source.tree is_run.values is_run.entries ≡ None

-- each entry makes a step, and `text` is the trace
pub record IsReplayed (contents : Contents) (text : List ℕ) : Type 0 where
  pub is_run : IsRun contents
  pub none : refused is_run.source.tree is_run.values is_run.entries ≡ None
  pub trace : IsTrace is_run.source.tree is_run.values is_run.entries text

-- the entries of the run whose steps were no new operations
abbrev pub erased_run : Marks → (contents : Contents) → IsRun contents → List Entry
erased_run m contents is_run = erased m (tree_code is_run.source.tree) is_run.values is_run.entries

-- each entry makes a step, and `text` is the schedule without those of new operations, as it is read again
pub record IsErasedText (m : Marks) (contents : Contents) (text : List ℕ) : Type 0 where
  pub is_run : IsRun contents
  pub none : refused is_run.source.tree is_run.values is_run.entries ≡ None
  pub is_text : text ≡ written (erased_run m contents is_run)
  pub again : SpellsSchedule text (erased_run m contents is_run)

-- the refusal for a fault of the text of the input; want of memory is none
abbrev pub input_refusal : InputFault → Option Refusal
input_refusal input_fault.NoMemory = None
input_refusal (input_fault.BadNumber start) = Some (BadNumber start)

-- the refusal for a fault of the text of the schedule
abbrev pub sched_refusal : SchedFault → Option Refusal
sched_refusal sched_fault.NoMemory = None
sched_refusal (sched_fault.BadLine number) = Some (BadEntry number)
sched_refusal sched_fault.TooMany = Some TooManyEntries

-- the text of the input has this fault
pub record IsBadInput (refusal : Refusal) (text : List ℕ) : Type 0 where
  pub fault : InputFault
  pub is_refusal : input_refusal fault ≡ Some refusal
  pub explained : ExplainsInputFault text fault

-- the text of the schedule has this fault
pub record IsBadSchedule (refusal : Refusal) (text : List ℕ) : Type 0 where
  pub fault : SchedFault
  pub is_refusal : sched_refusal fault ≡ Some refusal
  pub explained : ExplainsSchedFault text fault

-- the source is read, and the input is malformed
pub record RefusesInput (refusal : Refusal) (contents : Contents) : Type 0 where
  pub source : SourceTree
  pub reads : Reads contents.program source
  pub bad : IsBadInput refusal contents.input

-- the source and the input are read, and the schedule is malformed or too long
pub record RefusesSchedule (refusal : Refusal) (contents : Contents) : Type 0 where
  pub source : SourceTree
  pub reads : Reads contents.program source
  pub values : List ℤ
  pub is_input : SpellsInput contents.input values
  pub bad : IsBadSchedule refusal contents.schedule

-- the three files are read, and this is the first entry that makes no step
pub record RefusesEntry (refusal : Refusal) (contents : Contents) : Type 0 where
  pub is_run : IsRun contents
  pub number : ℕ
  pub is_refusal : refusal ≡ NotEnabled number
  pub first : refused is_run.source.tree is_run.values is_run.entries ≡ Some number

-- why the texts of the files are refused, whatever the entries do
abbrev pub RefusesTexts : Refusal → Contents → Type 0
RefusesTexts refusal contents =
    IsRefusedSource refusal contents.program ⊎ (RefusesInput refusal contents ⊎ RefusesSchedule refusal contents)

-- why the files are refused
abbrev pub RefusesRun : Refusal → Contents → Type 0
RefusesRun refusal contents = RefusesTexts refusal contents ⊎ RefusesEntry refusal contents

-- ---- what came to the output of a replay that stopped

-- the lines of the first steps, up to some step
pub record HasBegun (contents : Contents) (old new : Option (List ℕ)) : Type 0 where
  pub is_run : IsRun contents
  pub begun : IsBegun is_run.source.tree is_run.values is_run.entries old new

-- the lines of the steps before this entry, which is the first that makes no step
pub record StandsBefore (number : ℕ) (contents : Contents) (old new : Option (List ℕ)) : Type 0 where
  pub is_run : IsRun contents
  pub stands : IsRefused is_run.source.tree is_run.values is_run.entries number old new

-- some first bytes of the lines of the steps made, or of the whole trace where each entry made one
pub record IsCutRun (contents : Contents) (old new : Option (List ℕ)) : Type 0 where
  pub is_run : IsRun contents
  pub cut : IsCut is_run.source.tree is_run.values is_run.entries old new ⊎ IsCutTrace is_run.source.tree is_run.values is_run.entries old new

-- ---- failures

abbrev pub input_failure : InputFault → Failure
input_failure input_fault.NoMemory = failure.NoMemory
input_failure (input_fault.BadNumber start) = failure.Refused (BadNumber start)

abbrev pub sched_failure : SchedFault → Failure
sched_failure sched_fault.NoMemory = failure.NoMemory
sched_failure (sched_fault.BadLine number) = failure.Refused (BadEntry number)
sched_failure sched_fault.TooMany = failure.Refused TooManyEntries
