use Rattle.std.proofs.Common.{ap, ◌∙◌}
use Rattle.c_stmt.specs.Tests.{look_jump}
use Rattle.c_stmt.proofs.Tests.{jump_is}
use Rattle.c_stmt.proofs.test.begins_jump.Goals as goal

pub returns : goal.returns
returns c = c.is_jump_look.ensures ∙ ap look_jump c.look.ensures ∙ jump_is _
