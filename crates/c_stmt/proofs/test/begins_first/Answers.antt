use Rattle.std.proofs.Common.{ap, ◌∙◌}
use Rattle.c_stmt.specs.Tests.{look_first}
use Rattle.c_stmt.proofs.Tests.{first_is}
use Rattle.c_stmt.proofs.test.begins_first.Goals as goal

pub returns : goal.returns
returns c = c.is_first_look.ensures ∙ ap look_first c.look.ensures ∙ first_is _
