use Rattle.std.proofs.Common.{ap, ◌∙◌}
use Rattle.c_stmt.specs.Tests.{look_plain}
use Rattle.c_stmt.proofs.Tests.{plain_is}
use Rattle.c_stmt.proofs.test.begins_plain.Goals as goal

pub returns : goal.returns
returns c = c.is_plain_look.ensures ∙ ap look_plain c.look.ensures ∙ plain_is _
