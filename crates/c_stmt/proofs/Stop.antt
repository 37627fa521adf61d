-- A fault of a part is one of the whole.
use Rattle.std.proofs.Common.{◌≡◌, List, drop}
use Rattle.c_reading.specs.Reader.{Fault, Unexpected, Deep, Out, Stop}
use Rattle.c_grammar.specs.Token.{Token}
use Rattle.c_cursor.specs.declared.fault.ReadFault.{ReadFault}
use Rattle.c_cursor.specs.declared.fault.ReadFault.TheVariants as f
use Rattle.c_cursor.specs.Gives.{Stops}

pub stops_by : {A B : Type 0} (ts : List Token) (o : Out Token A) (o' : Out Token B) (e : ReadFault) → ((x : Fault) (r : List Token) → o ≡ Stop x r → o' ≡ Stop x r) → Stops ts e o → Stops ts e o'
stops_by ts o o' f.NoMemory h x = tt
stops_by ts o o' (f.Unexpected at) h x = h Unexpected (drop at ts) x
stops_by ts o o' (f.Deep at) h x = h Deep (drop at ts) x
