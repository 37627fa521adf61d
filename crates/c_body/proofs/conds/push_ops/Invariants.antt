use Rattle.std.proofs.Common.{◌≡◌, ◌++◌, drop}
use Rattle.c_raw.specs.Ops.{ops_view}
use Rattle.c_names.specs.SpelledStatements.{ops_of}
use Rattle.c_body.proofs.conds.push_ops.Given as goal

abbrev pub invariant-loop-next : goal.invariant-loop-next
invariant-loop-next l = l.ops ++ ops_of (ops_view (drop l.next-index l.raw)) ≡ l.initial.ops ++ ops_of (ops_view l.raw)
