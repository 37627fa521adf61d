use Rattle.std.proofs.Common.{◌≡◌, drop}
use Rattle.c_raw.specs.Ops.{ops_view}
use Rattle.c_names.specs.Faults.{noted_all}
use Rattle.c_names.specs.Simples.{ops_faults}
use Rattle.c_body.proofs.ops.note_ops.Given as goal

abbrev pub invariant-loop-next : goal.invariant-loop-next
invariant-loop-next l = noted_all l.least (ops_faults (ops_view (drop l.next-index l.raw))) ≡ noted_all l.initial.least (ops_faults (ops_view l.raw))
