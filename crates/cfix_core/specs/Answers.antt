-- What `run` answers, and when.
use Rattle.std.specs.Prelude.{ℕ, ◌≡◌, ◌≢◌, ◌⊎◌, List, Option, Some, None}
use Rattle.cfix_outside.specs.Faults.{Rose}
use Rattle.cfix_outside.specs.Shelves.{Files}
use Rattle.cfix_outside.specs.Sinks.{Gained, GainedFront}
use Rattle.cfix_core.specs.Words.{Asked, patch, show, replay, erase}
use Rattle.cfix_core.specs.NamedFiles.{Contents, Holds, HasRisen, LongFor, UnreadFor, file_name}
use Rattle.cfix_core.specs.Stops.{refusal_status, status_of, line_of, words_line}
use Rattle.c_names.specs.Texts.{Accepts}
use Rattle.cfix_core.specs.Sources.{Shown, IsRefusedSource}
use Rattle.cfix_core.specs.Repair.{Repaired, RefusedBy, IsAccepted}
use Rattle.cfix_core.specs.Replay.{IsReplayed, IsErasedText, GoesOn, RefusesRun, HasBegun, StandsBefore, IsCutRun}
use Rattle.cfix_core.specs.declared.failure.Refusal.{Refusal}
use Rattle.cfix_core.specs.declared.failure.Refusal.TheVariants.{NotEnabled}
use Rattle.cfix_core.specs.declared.stop.NamedFile.{NamedFile}
use Rattle.cfix_core.specs.declared.stop.NamedFile.TheVariants as named
use Rattle.cfix_core.specs.declared.stop.Stop.{Stop}
use Rattle.cfix_core.specs.declared.stop.Stop.TheVariants.{NoMemory, CannotRead, TooLong, CannotWrite, Refused}

-- ---- what each command makes of the bytes of its files

-- the text that it writes
abbrev pub Answered : Asked → Contents → List ℕ → Type 0
Answered (patch source reports) contents text = Repaired contents.program contents.reports text
Answered (show source) contents text = Shown contents.program text
Answered (replay source input schedule) contents text = IsReplayed contents text
Answered (erase source input schedule marks) contents text = IsErasedText marks contents text

-- why it refuses them
abbrev pub RefusedIn : Asked → Refusal → Contents → Type 0
RefusedIn (patch source reports) refusal contents = RefusedBy refusal contents.program contents.reports
RefusedIn (show source) refusal contents = IsRefusedSource refusal contents.program
RefusedIn (replay source input schedule) refusal contents = RefusesRun refusal contents
RefusedIn (erase source input schedule marks) refusal contents = RefusesRun refusal contents

-- nothing refuses them
abbrev pub AcceptedIn : Asked → Contents → Type 0
AcceptedIn (patch source reports) contents = IsAccepted contents.program contents.reports
AcceptedIn (show source) contents = Accepts contents.program
AcceptedIn (replay source input schedule) contents = GoesOn contents
AcceptedIn (erase source input schedule marks) contents = GoesOn contents

-- some first bytes of the text came to the output
pub record IsCutText (asked : Asked) (contents : Contents) (old new : Option (List ℕ)) : Type 0 where
  pub text : List ℕ
  pub answered : Answered asked contents text
  pub gained : GainedFront old new text

-- What came to the output where a put failed: a front of the text, and for a replay a front of the
-- lines of the steps that were made.
abbrev pub CutIn : Asked → Contents → Option (List ℕ) → Option (List ℕ) → Type 0
CutIn (patch source reports) contents old new = IsCutText (patch source reports) contents old new
CutIn (show source) contents old new = IsCutText (show source) contents old new
CutIn (replay source input schedule) contents old new = IsCutRun contents old new
CutIn (erase source input schedule marks) contents old new = IsCutText (erase source input schedule marks) contents old new

-- ---- what a command does

-- Below, `files` are those of the shelf, where it tells them, `before` and `now` its counts of faults
-- by name, `old` and `new` the bytes that a sink has taken, where it tells them.

-- this text is what the command writes for its files
pub record Writes (files : Option Files) (asked : Asked) (text : List ℕ) : Type 0 where
  pub contents : Contents
  pub holds : Holds files asked contents
  pub answered : Answered asked contents text

pub record DoneFor (asked : Asked) (files : Option Files) (old new : Option (List ℕ)) : Type 0 where
  pub text : List ℕ
  pub writes : Writes files asked text
  pub gained : Gained old new text

pub record CutFor (asked : Asked) (files : Option Files) (old new : Option (List ℕ)) : Type 0 where
  pub contents : Contents
  pub holds : Holds files asked contents
  pub cut : CutIn asked contents old new

-- the bytes of the files are refused for this reason
pub record RefusedFor (refusal : Refusal) (asked : Asked) (files : Option Files) : Type 0 where
  pub contents : Contents
  pub holds : Holds files asked contents
  pub refused : RefusedIn asked refusal contents

-- The cause of each stop of a command.
abbrev pub Cause : Stop → Asked → Option Files → (List ℕ → ℕ) → (List ℕ → ℕ) → Option (List ℕ) → Option (List ℕ) → ℕ → ℕ → Type 0
Cause NoMemory asked files before now old new out_before out_now = Unit {0}
Cause (CannotRead file) asked files before now old new out_before out_now = UnreadFor file asked files before now
Cause (TooLong file) asked files before now old new out_before out_now = LongFor file asked files
Cause CannotWrite asked files before now old new out_before out_now = CutFor asked files old new × Rose out_before out_now
Cause (Refused refusal) asked files before now old new out_before out_now = RefusedFor refusal asked files

-- the lines of the first steps of a replay came, up to some step
pub record BegunFor (asked : Asked) (files : Option Files) (old new : Option (List ℕ)) : Type 0 where
  pub contents : Contents
  pub holds : Holds files asked contents
  pub begun : HasBegun contents old new

-- the lines of the steps before this entry came
pub record BeforeFor (number : ℕ) (asked : Asked) (files : Option Files) (old new : Option (List ℕ)) : Type 0 where
  pub contents : Contents
  pub holds : Holds files asked contents
  pub stands : StandsBefore number contents old new

-- where there was no memory: nothing came, but for a replay that had begun
abbrev pub LeftShort : Asked → Option Files → Option (List ℕ) → Option (List ℕ) → Type 0
LeftShort (patch source reports) files old new = new ≡ old
LeftShort (show source) files old new = new ≡ old
LeftShort (replay source input schedule) files old new = (new ≡ old) ⊎ BegunFor (replay source input schedule) files old new
LeftShort (erase source input schedule marks) files old new = new ≡ old

-- where a replay is refused: nothing came, but for the steps before an entry that makes none
abbrev pub LeftRun : Refusal → Asked → Option Files → Option (List ℕ) → Option (List ℕ) → Type 0
LeftRun (NotEnabled number) asked files old new = BeforeFor number asked files old new
LeftRun _ asked files old new = new ≡ old

abbrev pub LeftRefused : Asked → Refusal → Option Files → Option (List ℕ) → Option (List ℕ) → Type 0
LeftRefused (patch source reports) refusal files old new = new ≡ old
LeftRefused (show source) refusal files old new = new ≡ old
LeftRefused (replay source input schedule) refusal files old new = LeftRun refusal (replay source input schedule) files old new
LeftRefused (erase source input schedule marks) refusal files old new = new ≡ old

-- what came to the output of a command that stopped, but for a put that failed
abbrev pub Left : Stop → Asked → Option Files → Option (List ℕ) → Option (List ℕ) → Type 0
Left NoMemory asked files old new = LeftShort asked files old new
Left CannotWrite asked files old new = Unit {0}
Left (Refused refusal) asked files old new = LeftRefused asked refusal files old new
Left _ asked files old new = new ≡ old

-- No put of it was tried that could fail: its count of faults stands still. A replay puts before it stops.
abbrev pub UntriedRun : Refusal → ℕ → ℕ → Type 0
UntriedRun (NotEnabled number) before now = Unit {0}
UntriedRun _ before now = now ≡ before

abbrev pub UntriedRefused : Asked → Refusal → ℕ → ℕ → Type 0
UntriedRefused (patch source reports) refusal before now = now ≡ before
UntriedRefused (show source) refusal before now = now ≡ before
UntriedRefused (replay source input schedule) refusal before now = UntriedRun refusal before now
UntriedRefused (erase source input schedule marks) refusal before now = now ≡ before

abbrev pub UntriedShort : Asked → ℕ → ℕ → Type 0
UntriedShort (patch source reports) before now = now ≡ before
UntriedShort (show source) before now = now ≡ before
UntriedShort (replay source input schedule) before now = Unit {0}
UntriedShort (erase source input schedule marks) before now = now ≡ before

abbrev pub Untried : Stop → Asked → ℕ → ℕ → Type 0
Untried NoMemory asked before now = UntriedShort asked before now
Untried CannotWrite asked before now = Unit {0}
Untried (Refused refusal) asked before now = UntriedRefused asked refusal before now
Untried _ asked before now = now ≡ before

-- nothing is put before this status is known
abbrev pub PutsNothing : ℕ → Asked → Type 0
PutsNothing status (patch source reports) = Unit {0}
PutsNothing status (show source) = Unit {0}
PutsNothing status (replay source input schedule) = (status ≢ 3) × (status ≢ 9)
PutsNothing status (erase source input schedule marks) = Unit {0}

abbrev pub NothingPut : ℕ → Option Asked → Type 0
NothingPut status None = Unit {0}
NothingPut status (Some asked) = PutsNothing status asked

-- this line came to the notes, or their count rose and the front of it came
abbrev pub Noted : List ℕ → Option (List ℕ) → Option (List ℕ) → ℕ → ℕ → Type 0
Noted line old new before now = Gained old new line ⊎ (Rose before now × GainedFront old new line)

-- Below, the command is that of the words, where these are a row.

-- the text came to the output
abbrev pub Done : Option Asked → Option Files → Option (List ℕ) → Option (List ℕ) → Type 0
Done None files old new = ⊥
Done (Some asked) files old new = DoneFor asked files old new

abbrev pub Cut : Option Asked → Option Files → Option (List ℕ) → Option (List ℕ) → Type 0
Cut None files old new = ⊥
Cut (Some asked) files old new = CutFor asked files old new

-- the count of a named file rose, or a named file is longer than its limit
abbrev pub ReadFails : Option Asked → Option Files → (List ℕ → ℕ) → (List ℕ → ℕ) → Type 0
ReadFails None files before now = ⊥
ReadFails (Some asked) files before now = (file : NamedFile) × (UnreadFor file asked files before now ⊎ LongFor file asked files)

-- the files are refused for a reason of this status
abbrev pub RefusedAs : ℕ → Option Asked → Option Files → Type 0
RefusedAs status None files = ⊥
RefusedAs status (Some asked) files = (refusal : Refusal) × (status ≡ refusal_status refusal) × RefusedFor refusal asked files

-- the files are told, within their limits, and nothing refuses them
pub record AcceptedFor (asked : Asked) (files : Files) : Type 0 where
  pub contents : Contents
  pub holds : Holds (Some files) asked contents
  pub accepted : AcceptedIn asked contents

abbrev pub Accepted : Option Asked → Option Files → Type 0
Accepted None files = ⊥
Accepted (Some asked) None = ⊥
Accepted (Some asked) (Some files) = AcceptedFor asked files

-- no count of a named file rose
pub record StillFor (asked : Asked) (before now : List ℕ → ℕ) : Type 0 where
  pub program : HasRisen before now (file_name named.Program asked) → ⊥
  pub reports : HasRisen before now (file_name named.Reports asked) → ⊥
  pub input : HasRisen before now (file_name named.Input asked) → ⊥
  pub schedule : HasRisen before now (file_name named.Schedule asked) → ⊥

abbrev pub Still : Option Asked → (List ℕ → ℕ) → (List ℕ → ℕ) → Type 0
Still None before now = Unit {0}
Still (Some asked) before now = StillFor asked before now

-- by the told files alone the command must stop so
abbrev pub MustFor : Stop → Asked → Files → Type 0
MustFor NoMemory asked files = ⊥
MustFor (CannotRead file) asked files = ⊥
MustFor (TooLong file) asked files = LongFor file asked (Some files)
MustFor CannotWrite asked files = ⊥
MustFor (Refused refusal) asked files = RefusedFor refusal asked (Some files)

abbrev pub Must : Stop → Option Asked → Option Files → Type 0
Must stop None files = ⊥
Must stop (Some asked) None = ⊥
Must stop (Some asked) (Some files) = MustFor stop asked files

-- a put failed before the entry that makes no step was come to
abbrev pub CutBefore : Stop → ℕ → Type 0
CutBefore (Refused (NotEnabled number)) status = status ≡ 5
CutBefore _ status = ⊥

-- the status is that of this stop, and its line came to the notes
abbrev pub Told : Stop → ℕ → Option Asked → Option (List ℕ) → Option (List ℕ) → ℕ → ℕ → Type 0
Told stop status None old new before now = ⊥
Told stop status (Some asked) old new before now = (status ≡ status_of stop) × Noted (line_of asked stop) old new before now

-- the command ended for want of memory, or with this stop, or a put failed before it was come to
abbrev pub Ends : Stop → ℕ → Option Asked → Option (List ℕ) → Option (List ℕ) → ℕ → ℕ → Type 0
Ends stop status words old new before now =
    (status ≡ 3) ⊎ (Told stop status words old new before now ⊎ CutBefore stop status)

-- a stop of this status, its cause, what it left in the output, and its line to the notes
pub record SpokenFor (status : ℕ) (asked : Asked) (files : Option Files) (before now : List ℕ → ℕ) (old new : Option (List ℕ)) (out_before out_now : ℕ) (note_old note_new : Option (List ℕ)) (note_before note_now : ℕ) : Type 0 where
  pub stop : Stop
  pub is_status : status ≡ status_of stop
  pub cause : Cause stop asked files before now old new out_before out_now
  pub left : Left stop asked files old new
  pub untried : Untried stop asked out_before out_now
  pub noted : Noted (line_of asked stop) note_old note_new note_before note_now

abbrev pub Spoken : ℕ → Option Asked → Option Files → (List ℕ → ℕ) → (List ℕ → ℕ) → Option (List ℕ) → Option (List ℕ) → ℕ → ℕ → Option (List ℕ) → Option (List ℕ) → ℕ → ℕ → Type 0
Spoken status None files before now old new out_before out_now note_old note_new note_before note_now = (status ≡ 2) × Noted words_line note_old note_new note_before note_now
Spoken status (Some asked) files before now old new out_before out_now note_old note_new note_before note_now =
    SpokenFor status asked files before now old new out_before out_now note_old note_new note_before note_now
