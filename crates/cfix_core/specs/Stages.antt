-- What the stages of a command answer: reading its files, and what it makes of their bytes.
use Rattle.std.specs.Prelude.{ℕ, ℤ, ◌≡◌, ◌≤◌, ◌⊎◌, List, length, Option, Some}
use Rattle.cfix_base.specs.declared.entry.Entry.{Entry}
use Rattle.cfix_base.specs.declared.mark.Marks.{Marks}
use Rattle.cfix_outside.specs.Faults.{Rose}
use Rattle.cfix_outside.specs.Shelves.{Files}
use Rattle.cfix_outside.specs.Sinks.{Gained}
use Rattle.c_prog.specs.declared.tree.Tree.{Tree}
use Rattle.c_read.specs.Reading.{Reads}
use Rattle.sched_text.specs.Inputs.{SpellsInput}
use Rattle.sched_text.specs.Schedules.{SpellsSchedule}
use Rattle.run_erase.specs.Erases.{IsErased}
use Rattle.run_replay.specs.Trace.{refused}
use Rattle.run_replay.specs.Replays.{IsRefused, IsBegun, IsCut, IsCutTrace}
use Rattle.cfix_core.specs.declared.failure.Refusal.{Refusal}
use Rattle.cfix_core.specs.declared.failure.Refusal.TheVariants.{NotEnabled}
use Rattle.cfix_core.specs.declared.stop.NamedFile.{NamedFile}
use Rattle.cfix_core.specs.declared.stop.Stop.{Stop}
use Rattle.cfix_core.specs.declared.stop.Stop.TheVariants.{NoMemory, CannotRead, TooLong, CannotWrite, Refused}
use Rattle.cfix_core.specs.declared.run_files.RunFiles.{RunFiles}
use Rattle.cfix_core.specs.declared.texts.Texts.{Texts}
use Rattle.cfix_core.specs.Words.{Asked, patch, show, replay, erase}
use Rattle.cfix_core.specs.NamedFiles.{Contents, HasRisen, IsLong, LongFor, UnreadFor, limit_of}
use Rattle.cfix_core.specs.Replay.{IsReplayed, RefusesRun, HasBegun, StandsBefore, IsCutRun}
use Rattle.cfix_core.specs.Answers.{Answered, RefusedIn, IsCutText}

-- the bytes of the files that were read
abbrev pub contents_of : Texts → Contents
contents_of texts = record {
  program = texts.program.items;
  reports = texts.reports.items;
  input = texts.input.items;
  schedule = texts.schedule.items;
}

-- the files that are read as programs and inputs are within their limits
pub record AreWithin (contents : Contents) : Type 0 where
  pub program : length contents.program ≤ 4194304
  pub input : length contents.input ≤ 1048576

-- ---- reading

-- what the read of a file of this name stops with
abbrev pub ReadCause : Stop → NamedFile → Option (List ℕ) → Option Files → (List ℕ → ℕ) → (List ℕ → ℕ) → Type 0
ReadCause NoMemory file name files before now = Unit {0}
ReadCause (CannotRead other) file name files before now = (other ≡ file) × HasRisen before now name
ReadCause (TooLong other) file name files before now = (other ≡ file) × IsLong files (limit_of file) name
ReadCause _ file name files before now = ⊥

-- what the reads of all files stop with
abbrev pub ReadsStop : Stop → Asked → Option Files → (List ℕ → ℕ) → (List ℕ → ℕ) → Type 0
ReadsStop NoMemory asked files before now = Unit {0}
ReadsStop (CannotRead file) asked files before now = UnreadFor file asked files before now
ReadsStop (TooLong file) asked files before now = LongFor file asked files
ReadsStop _ asked files before now = ⊥

-- ---- a command that builds its text and then puts it

abbrev pub BuildsText : Asked → Type 0
BuildsText (patch source reports) = Unit {0}
BuildsText (show source) = Unit {0}
BuildsText (replay source input schedule) = ⊥
BuildsText (erase source input schedule marks) = Unit {0}

-- the text came to the output
pub record IsPut (asked : Asked) (contents : Contents) (old new : Option (List ℕ)) : Type 0 where
  pub text : List ℕ
  pub answered : Answered asked contents text
  pub gained : Gained old new text

abbrev pub PutStops : Stop → Asked → Contents → Option (List ℕ) → Option (List ℕ) → ℕ → ℕ → Type 0
PutStops NoMemory asked contents old new before now = (new ≡ old) × (now ≡ before)
PutStops CannotWrite asked contents old new before now = IsCutText asked contents old new × Rose before now
PutStops (Refused refusal) asked contents old new before now = RefusedIn asked refusal contents × (new ≡ old) × (now ≡ before)
PutStops _ asked contents old new before now = ⊥

-- ---- the three files of a run

-- what they are read as
pub record AreRead (contents : Contents) (files : RunFiles) : Type 0 where
  pub reads : Reads contents.program files.source
  pub is_input : SpellsInput contents.input files.values.items
  pub is_schedule : SpellsSchedule contents.schedule files.entries

-- ---- erasing

-- each entry of a schedule made a step, and these are the entries that were no new operations
pub record ErasesTo (m : Marks) (tree : Tree) (input : List ℤ) (es kept : List Entry) : Type 0 where
  pub erases : IsErased m tree input es kept
  pub shorter : length kept ≤ length es

abbrev pub EraseFails : Refusal → Tree → List ℤ → List Entry → Type 0
EraseFails (NotEnabled number) tree input es = refused tree input es ≡ Some number
EraseFails _ tree input es = ⊥

-- ---- a replay

pub record IsPutRun (contents : Contents) (old new : Option (List ℕ)) : Type 0 where
  pub text : List ℕ
  pub replayed : IsReplayed contents text
  pub gained : Gained old new text

-- what a replay that is refused has put
abbrev pub RunLeft : Refusal → Contents → Option (List ℕ) → Option (List ℕ) → ℕ → ℕ → Type 0
RunLeft (NotEnabled number) contents old new before now = StandsBefore number contents old new
RunLeft _ contents old new before now = (new ≡ old) × (now ≡ before)

abbrev pub RunStops : Stop → Contents → Option (List ℕ) → Option (List ℕ) → ℕ → ℕ → Type 0
RunStops NoMemory contents old new before now = (new ≡ old) ⊎ HasBegun contents old new
RunStops CannotWrite contents old new before now = IsCutRun contents old new × Rose before now
RunStops (Refused refusal) contents old new before now = RefusesRun refusal contents × RunLeft refusal contents old new before now
RunStops _ contents old new before now = ⊥

-- the same of a schedule and an input that were read
abbrev pub EntryStops : Refusal → Tree → List ℤ → List Entry → Option (List ℕ) → Option (List ℕ) → Type 0
EntryStops (NotEnabled number) tree input es old new = IsRefused tree input es number old new
EntryStops _ tree input es old new = ⊥

abbrev pub EntriesStop : Stop → Tree → List ℤ → List Entry → Option (List ℕ) → Option (List ℕ) → ℕ → ℕ → Type 0
EntriesStop NoMemory tree input es old new before now = (new ≡ old) ⊎ IsBegun tree input es old new
EntriesStop CannotWrite tree input es old new before now = Rose before now × (IsCut tree input es old new ⊎ IsCutTrace tree input es old new)
EntriesStop (Refused refusal) tree input es old new before now = EntryStops refusal tree input es old new
EntriesStop _ tree input es old new before now = ⊥
