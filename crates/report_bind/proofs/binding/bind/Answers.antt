use Rattle.std.proofs.Common.{Ok, Err}
use Rattle.report_bind.proofs.Rules.{same-answer, bound-fits}
use Rattle.report_bind.proofs.binding.bind.Goals as goal

pub returns-clause-fits : goal.returns-clause-fits
returns-clause-fits c = bound-fits c.args.source.now c.args.report.now c.answer.result c.answer.ensures

pub returns-clause-binds : goal.returns-clause-binds
returns-clause-binds c = λ bound is. same-answer c.args.source.now c.args.report.now c.answer.result (Ok bound) c.answer.ensures is

pub returns-clause-refuses : goal.returns-clause-refuses
returns-clause-refuses c = λ fault is. same-answer c.args.source.now c.args.report.now c.answer.result (Err fault) c.answer.ensures is
