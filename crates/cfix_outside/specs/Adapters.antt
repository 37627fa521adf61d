-- The real shelf and sinks: they tell no content, and count each failure. What they do with readers and
-- writers that tell theirs.
use Rattle.std.specs.Prelude.{ℕ, List, take, Option, Some, None, Result, Ok, Err, Vec}
use Rattle.std.specs.Io.KnownBytes.{Appends}
use Rattle.std.specs.declared.alloc.Global.{Global}
use Rattle.cfix_outside.specs.declared.shelf.ShelfFault.{ShelfFault}
use Rattle.cfix_outside.specs.declared.shelf.ShelfFault.TheVariants.{Failed, TooLong, NoMemory}
use Rattle.cfix_outside.specs.Shelves.{Files}
use Rattle.cfix_outside.specs.Faults.{risen}

-- no files are told
abbrev pub untold_files : Option Files
untold_files = None

-- no bytes are told
abbrev pub untold_bytes : Option (List ℕ)
untold_bytes = None

-- the count of a shelf after an answer: it rises at each failure, and stands otherwise
abbrev pub count_after : Result (Vec ℕ Global) ShelfFault → ℕ → ℕ
count_after (Ok bytes) count = count
count_after (Err Failed) count = risen count
count_after (Err (TooLong most)) count = count
count_after (Err NoMemory) count = count

-- a shelf that has, under each name, what a reader will give, where that tells it
abbrev pub given_by : Option (List ℕ) → Option Files
given_by None = None
given_by (Some bytes) = Some (λ name. Some bytes)

-- a writer that tells what it holds has some first bytes of these more
abbrev pub AppendsFront : Option (List ℕ) → Option (List ℕ) → List ℕ → Type 0
AppendsFront old new bytes = (n : ℕ) × Appends old new (take n bytes)
