use Rattle.cfix_core.proofs.Repaired.{repaired_whole, fails_whole}
use Rattle.cfix_core.proofs.patch.patched.Goals as goal

pub returns-in-Ok-clause-done : goal.returns-in-Ok-clause-done
returns-in-Ok-clause-done c =
    repaired_whole c.args.source.now c.args.reports.now c.in-Ok.text.items c.in_ok-program.program c.in_ok-list.list
    c.in_ok-program.ensures.read c.in_ok-list.ensures.read c.in-Ok.ensures.done

pub returns-clause-refused : goal.returns-clause-refused
returns-clause-refused c =
    fails_whole c.args.source.now c.args.reports.now c.in_ok-program.program c.in_ok-list.list c.in-Err.failure
    c.in_ok-program.ensures.read c.in_ok-list.ensures.read c.in-Err.ensures.refused
