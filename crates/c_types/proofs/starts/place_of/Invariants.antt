use Rattle.std.proofs.Common.{◌≡◌, ◌+◌, drop}
use Rattle.c_types.specs.Starting.{place}
use Rattle.c_types.proofs.starts.place_of.Given as goal

abbrev pub invariant-loop-place : goal.invariant-loop-place
invariant-loop-place l = l.place + place l.number (drop l.place l.orders) ≡ place l.number l.orders
