use Rattle.std.proofs.Common.{◌≡◌, ◌++◌, take}
use Rattle.c_access.proofs.numbering.add_accesses.Given as goal

abbrev pub invariant-loop-item : goal.invariant-loop-item
invariant-loop-item l = l.items ≡ l.initial.items ++ take l.item-index l.item-items
