-- The files that the words of a command name.
use Rattle.std.specs.Prelude.{ℕ, ◌≡◌, List, [], Option, Some, None}
use Rattle.cfix_outside.specs.Faults.{Rose}
use Rattle.cfix_outside.specs.Shelves.{Files, Gives, Passes}
use Rattle.cfix_core.specs.Words.{Asked, patch, show, replay, erase}
use Rattle.cfix_core.specs.declared.stop.NamedFile.{NamedFile}
use Rattle.cfix_core.specs.declared.stop.NamedFile.TheVariants as named

-- a file's name among the words, if they name it
abbrev pub file_name : NamedFile → Asked → Option (List ℕ)
file_name named.Program (patch source reports) = Some source
file_name named.Program (show source) = Some source
file_name named.Program (replay source input schedule) = Some source
file_name named.Program (erase source input schedule marks) = Some source
file_name named.Reports (patch source reports) = Some reports
file_name named.Reports _ = None
file_name named.Input (replay source input schedule) = Some input
file_name named.Input (erase source input schedule marks) = Some input
file_name named.Input _ = None
file_name named.Schedule (replay source input schedule) = Some schedule
file_name named.Schedule (erase source input schedule marks) = Some schedule
file_name named.Schedule _ = None

-- the greatest length of it in bytes
abbrev pub limit_of : NamedFile → ℕ
limit_of named.Program = 4194304
limit_of named.Reports = 1048576
limit_of named.Input = 1048576
limit_of named.Schedule = 8388608

-- the file of this name has these bytes, within the limit; a file that the words do not name has none
abbrev pub Has : Option Files → ℕ → Option (List ℕ) → List ℕ → Type 0
Has files limit None bytes = bytes ≡ []
Has files limit (Some name) bytes = Gives files name limit bytes

-- a file that the words name has these bytes
abbrev pub HasFile : Option Files → Asked → NamedFile → List ℕ → Type 0
HasFile files asked file bytes = Has files (limit_of file) (file_name file asked) bytes

-- the bytes of the files
pub record Contents : Type 0 where
  pub program : List ℕ
  pub reports : List ℕ
  pub input : List ℕ
  pub schedule : List ℕ

pub record Holds (files : Option Files) (asked : Asked) (contents : Contents) : Type 0 where
  pub program : HasFile files asked named.Program contents.program
  pub reports : HasFile files asked named.Reports contents.reports
  pub input : HasFile files asked named.Input contents.input
  pub schedule : HasFile files asked named.Schedule contents.schedule

-- the file was read
pub record WasRead (files : Option Files) (asked : Asked) (file : NamedFile) : Type 0 where
  pub bytes : List ℕ
  pub has : HasFile files asked file bytes

-- the files that are read before this one were read
abbrev pub Reached : Option Files → Asked → NamedFile → Type 0
Reached files asked named.Program = Unit {0}
Reached files asked named.Reports = WasRead files asked named.Program
Reached files asked named.Input = WasRead files asked named.Program × WasRead files asked named.Reports
Reached files asked named.Schedule =
    WasRead files asked named.Program × WasRead files asked named.Reports × WasRead files asked named.Input

-- the file of this name is longer than the limit
abbrev pub IsLong : Option Files → ℕ → Option (List ℕ) → Type 0
IsLong files limit None = ⊥
IsLong files limit (Some name) = Passes files name limit

-- this file is the first that is longer than its limit
pub record LongFor (file : NamedFile) (asked : Asked) (files : Option Files) : Type 0 where
  pub reached : Reached files asked file
  pub passes : IsLong files (limit_of file) (file_name file asked)

-- the count of faults of this name rose
abbrev pub HasRisen : (List ℕ → ℕ) → (List ℕ → ℕ) → Option (List ℕ) → Type 0
HasRisen before now None = ⊥
HasRisen before now (Some name) = Rose (before name) (now name)

-- the count of this file's name rose
pub record UnreadFor (file : NamedFile) (asked : Asked) (files : Option Files) (before now : List ℕ → ℕ) : Type 0 where
  pub reached : Reached files asked file
  pub rose : HasRisen before now (file_name file asked)
