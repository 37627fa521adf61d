use Rattle.std.proofs.Common.{◌≡◌, take}
use Rattle.c_raw.specs.Ops.{ops_view}
use Rattle.c_names.specs.SpelledStatements.{ops_of}
use Rattle.c_body.proofs.ops.ops_of.Given as goal

abbrev pub invariant-loop-next : goal.invariant-loop-next
invariant-loop-next l = l.ops ≡ ops_of (ops_view (take l.next-index l.raw))
