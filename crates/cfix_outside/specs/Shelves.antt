-- What a read of a shelf answers.
use Rattle.std.specs.Prelude.{ℕ, ◌≤◌, ◌<◌, ◌≡◌, List, length, ⊤, Option, Some, None, Result, Ok, Err, Vec}
use Rattle.std.specs.declared.alloc.Global.{Global}
use Rattle.cfix_outside.specs.declared.shelf.ShelfFault.{ShelfFault}
use Rattle.cfix_outside.specs.declared.shelf.ShelfFault.TheVariants.{Failed, TooLong, NoMemory}

-- the files of a shelf: for a name its bytes, where the shelf has that file
abbrev pub Files : Type 0
Files = List ℕ → Option (List ℕ)

-- these are a file's bytes and within the limit; of a shelf that tells no files, the length alone
abbrev pub Gives : Option Files → List ℕ → ℕ → List ℕ → Type 0
Gives None name limit bytes = length bytes ≤ limit
Gives (Some files) name limit bytes = (files name ≡ Some bytes) × (length bytes ≤ limit)

-- there is such a file, and it has more bytes than the limit
abbrev pub IsLonger : Option (List ℕ) → ℕ → Type 0
IsLonger None limit = ⊥
IsLonger (Some bytes) limit = limit < length bytes

-- the same of a file of a shelf, where that tells its files
abbrev pub Passes : Option Files → List ℕ → ℕ → Type 0
Passes None name limit = ⊤
Passes (Some files) name limit = IsLonger (files name) limit

-- each answer of a read of this name with this limit
abbrev pub Answers : Option Files → List ℕ → ℕ → Result (Vec ℕ Global) ShelfFault → Type 0
Answers files name limit (Ok bytes) = Gives files name limit bytes.items
Answers files name limit (Err Failed) = ⊤
Answers files name limit (Err (TooLong most)) = (most ≡ limit) × Passes files name limit
Answers files name limit (Err NoMemory) = ⊤
