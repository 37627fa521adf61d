-- The three files are read as a run, whose entries are kept or not.
use Rattle.std.proofs.lemmas.Result.{err_from_is_err_and}
use Rattle.cfix_core.specs.Stages.{contents_of}
use Rattle.cfix_core.proofs.Erasing.{erased_whole, erase_fails}
use Rattle.cfix_core.proofs.erase.erased_text.Goals as goal

pub returns-in_err-kept-clause-refused : goal.returns-in_err-kept-clause-refused
returns-in_err-kept-clause-refused c =
    let p = err_from_is_err_and c.from_residual-in_err-kept.result c.from_residual-in_err-kept.ensures.1 in
    rw (p.1, p.2) (erase_fails (contents_of c.args.texts.now) c.in_ok-files.files c.in_ok-files.ensures.read c.program.result.now c.deref.result.now
    c.program.ensures c.deref.ensures.value c.in_err-kept.field-0.0 c.in_err-kept.ensures.refused)

pub returns-clause-done : goal.returns-clause-done
returns-clause-done c =
    erased_whole (contents_of c.args.texts.now) c.in_ok-files.files c.in_ok-files.ensures.read c.program.result.now c.deref.result.now
    c.program.ensures c.deref.ensures.value c.args.marks c.in_ok-kept.kept c.in_ok-schedule_text.field-0.items c.in_ok-kept.ensures.done
    c.in_ok-schedule_text.ensures.text c.in_ok-schedule_text.ensures.reads_again
