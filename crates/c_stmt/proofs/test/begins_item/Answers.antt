use Rattle.std.proofs.Common.{ap, ◌∙◌}
use Rattle.c_reading.specs.ReadStmt.{begins_item_kind}
use Rattle.c_cursor.specs.Seen.{passes}
use Rattle.c_stmt.proofs.Tests.{item_is}
use Rattle.c_stmt.proofs.test.begins_item.Goals as goal

pub returns : goal.returns
returns c = c.is_item_look.ensures ∙ ap (passes begins_item_kind) c.look.ensures ∙ item_is _
