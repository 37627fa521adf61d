-- The text of a schedule.
use Rattle.std.specs.Prelude.{◌≡◌, ℕ, ◌+◌, ◌<◌, ◌≤◌, ◌^◌, Bool, true, false, List, [], ◌∷◌, ◌++◌, length, map}
use Rattle.std.specs.List.{All}
use Rattle.std.specs.Fmt.{decimal}
use Rattle.cfix_base.specs.declared.entry.Entry.{Entry}
use Rattle.cfix_base.specs.declared.limits.TheConstants.{MAX_SCHEDULE_ENTRIES}
use Rattle.sched_text.specs.Lines.{lines}
use Rattle.sched_text.specs.declared.schedule_reader.SchedFault.{SchedFault}
use Rattle.sched_text.specs.declared.schedule_reader.SchedFault.TheVariants.{NoMemory, BadLine, TooMany}

-- what stands behind the thread's number: `!` for the mode timeout, nothing for the mode normal
abbrev pub mark : Bool → List ℕ
mark true = 33 ∷ []
mark false = []

-- an entry's line: the thread's number in decimal without leading zeros, and the mark
abbrev pub entry_line : Entry → List ℕ
entry_line entry = decimal entry.thread ++ mark entry.timeout

-- a thread's number is at most 4294967295
abbrev pub IsEntry : Entry → Type 0
IsEntry entry = entry.thread < 2 ^ 32

-- a line that is no entry's
abbrev pub IsMalformedLine : List ℕ → Type 0
IsMalformedLine line = (entry : Entry) → IsEntry entry → line ≡ entry_line entry → ⊥

-- a text is read as these entries: its lines are theirs, and there are not too many
pub record SpellsSchedule (text : List ℕ) (entries : List Entry) : Type 0 where
  pub ranges : All IsEntry entries
  pub lines : lines text ≡ map entry_line entries
  pub few : length entries ≤ MAX_SCHEDULE_ENTRIES

-- line `number`, counted from 1, is the first malformed one, and not past the limit
pub record IsFirstBadLine (text : List ℕ) (number : ℕ) : Type 0 where
  pub good : List Entry
  pub bad : List ℕ
  pub more : List (List ℕ)
  pub ranges : All IsEntry good
  pub lines : lines text ≡ map entry_line good ++ bad ∷ more
  pub malformed : IsMalformedLine bad
  pub counted : number ≡ length good + 1
  pub within : number ≤ MAX_SCHEDULE_ENTRIES

-- as many lines as may be are well formed, and another one follows
pub record HasTooManyLines (text : List ℕ) : Type 0 where
  pub good : List Entry
  pub line : List ℕ
  pub more : List (List ℕ)
  pub ranges : All IsEntry good
  pub lines : lines text ≡ map entry_line good ++ line ∷ more
  pub full : length good ≡ MAX_SCHEDULE_ENTRIES

-- why a text of a schedule is not read
abbrev pub ExplainsSchedFault : List ℕ → SchedFault → Type 0
ExplainsSchedFault text NoMemory = Unit {0}
ExplainsSchedFault text (BadLine number) = IsFirstBadLine text number
ExplainsSchedFault text TooMany = HasTooManyLines text

-- the written text: each entry's line, ended by a line feed
abbrev pub written : List Entry → List ℕ
written [] = []
written (entry ∷ more) = entry_line entry ++ 10 ∷ written more
