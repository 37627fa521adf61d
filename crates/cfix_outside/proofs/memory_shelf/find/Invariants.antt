use Rattle.std.proofs.Common.{◌≡◌, drop}
use Rattle.cfix_outside.specs.ShelfInMemory.{find}
use Rattle.cfix_outside.proofs.memory_shelf.find.Given as goal

abbrev pub invariant-loop-file : goal.invariant-loop-file
invariant-loop-file l = find (drop l.file-index l.files) l.name ≡ find l.files l.name
