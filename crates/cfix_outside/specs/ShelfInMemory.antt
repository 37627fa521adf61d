-- The files in memory, their faults, and what a read changes.
use Rattle.std.specs.Prelude.{ℕ, ◌+◌, ◌⊎◌, min, List, [], ◌∷◌, Option, Some, None, if◌then◌else◌, Vec, String, string_bytes}
use Rattle.std.specs.Str.{bytes_eq}
use Rattle.std.specs.declared.alloc.Global.{Global}
use Rattle.cfix_outside.specs.declared.memory_shelf.MemoryShelf.{MemoryShelf}
use Rattle.cfix_outside.specs.Faults.{last_count, risen}
use Rattle.cfix_outside.specs.Plan.{named, IsNamed}

-- the bytes of the first file of a name
abbrev pub find : List (String Global × Vec ℕ Global) → List ℕ → Option (List ℕ)
find [] name = None
find (file ∷ rest) name = if bytes_eq (string_bytes file.0) name then Some file.1.items else find rest name

-- the files of a shelf in memory
abbrev pub files_of : MemoryShelf → List ℕ → Option (List ℕ)
files_of shelf = find shelf.files.items

abbrev pub IsMissing : Option (List ℕ) → Type 0
IsMissing None = Unit {0}
IsMissing (Some bytes) = ⊥

-- a read of this name fails: the plan names this call, or there is no such file
abbrev pub Fails : MemoryShelf → List ℕ → Type 0
Fails shelf name = IsNamed (named shelf.plan.calls shelf.calls) ⊎ IsMissing (files_of shelf name)

abbrev pub count_of : Option (List ℕ) → MemoryShelf → ℕ
count_of None shelf = shelf.planned + shelf.missing
count_of (Some bytes) shelf = shelf.planned

-- the faults of a name: the calls that the plan made fail, and of a missing name also the other calls on missing names
abbrev pub faults_of : MemoryShelf → List ℕ → ℕ
faults_of shelf name = min (count_of (files_of shelf name) shelf) last_count

abbrev pub count_read : Option ℕ → Option (List ℕ) → MemoryShelf → MemoryShelf
count_read (Some most) file shelf = record shelf { calls = risen shelf.calls; planned = risen shelf.planned }
count_read None None shelf = record shelf { calls = risen shelf.calls; missing = risen shelf.missing }
count_read None (Some bytes) shelf = record shelf { calls = risen shelf.calls }

-- the shelf after a read of this name: one more call, and where it failed one more planned fault or else one more on a missing name
abbrev pub after_read : MemoryShelf → List ℕ → MemoryShelf
after_read shelf name = count_read (named shelf.plan.calls shelf.calls) (files_of shelf name) shelf
