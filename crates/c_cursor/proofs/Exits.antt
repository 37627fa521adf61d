-- The exit by `?`: what stops a part stops the whole at the same token.
use Rattle.std.proofs.Common.{◌≡◌, List, drop}
use Rattle.c_reading.specs.Reader.{Fault, Unexpected, Deep, Out, Stop}
use Rattle.c_grammar.specs.Token.{Token}
use Rattle.c_cursor.specs.declared.fault.ReadFault.{ReadFault}
use Rattle.c_cursor.specs.declared.fault.ReadFault.TheVariants as f
use Rattle.c_cursor.specs.Gives.{Stops}

pub stops-by : {A B : Type 0} (ts : List Token) (e : ReadFault) (part : Out Token A) (all : Out Token B)
    → ((f : Fault) (rest : List Token) → part ≡ Stop f rest → all ≡ Stop f rest) → Stops ts e part → Stops ts e all
stops-by ts f.NoMemory part all h x = tt
stops-by ts (f.Unexpected at) part all h x = h Unexpected (drop at ts) x
stops-by ts (f.Deep at) part all h x = h Deep (drop at ts) x
