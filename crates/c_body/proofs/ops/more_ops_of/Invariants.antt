use Rattle.std.proofs.Common.{◌≡◌, take}
use Rattle.c_raw.specs.Ops.{more_ops_view}
use Rattle.c_names.specs.SpelledStatements.{more_ops_of}
use Rattle.c_body.proofs.ops.more_ops_of.Given as goal

abbrev pub invariant-loop-next : goal.invariant-loop-next
invariant-loop-next l = l.ops ≡ more_ops_of (more_ops_view (take l.next-index l.raw))
