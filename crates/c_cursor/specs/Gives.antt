-- What a reader in code answers, in the terms of the grammar's readers.
use Rattle.std.specs.Prelude.{◌≡◌, ℕ, List, drop, Result, Ok, Err}
use Rattle.c_reading.specs.Reader.{Unexpected, Deep, Out, Got, Stop}
use Rattle.c_grammar.specs.Token.{Token}
use Rattle.c_cursor.specs.declared.fault.ReadFault.{ReadFault}
use Rattle.c_cursor.specs.declared.fault.ReadFault.TheVariants as f

-- the reader stops with this fault at its place; want of memory says nothing
abbrev pub Stops : {A : Type 0} → List Token → ReadFault → Out Token A → Type 0
Stops ts f.NoMemory read = Unit {0}
Stops ts (f.Unexpected at) read = read ≡ Stop Unexpected (drop at ts)
Stops ts (f.Deep at) read = read ≡ Stop Deep (drop at ts)

-- The reader gives this value and goes on at this place, or stops with this fault.
abbrev pub Gives : {X A : Type 0} → (X → A) → List Token → Result (X × ℕ) ReadFault → Out Token A → Type 0
Gives view ts (Ok x) read = read ≡ Got (view x.0) (drop x.1 ts)
Gives view ts (Err e) read = Stops ts e read
