use Rattle.std.proofs.Common.{◌≡◌, drop, slice_get}
use Rattle.std.specs.Prelude.{filter}
use Rattle.c_prog.specs.Rising.{keys}
use Rattle.report_bind.specs.Stacks.{is_call}
use Rattle.report_bind.proofs.stacks.find_call.Given as goal

abbrev pub invariant-loop-entry : goal.invariant-loop-entry
invariant-loop-entry l =
    slice_get (filter (is_call l.source l.between.0 l.between.1 l.call.line) (keys (drop l.entry-index l.entries))) l.left
    ≡ slice_get (filter (is_call l.source l.between.0 l.between.1 l.call.line) (keys l.entries)) l.call.nth
