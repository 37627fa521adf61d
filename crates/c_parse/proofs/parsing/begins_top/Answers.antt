use Rattle.std.proofs.Common.{ap, ◌∙◌}
use Rattle.c_reading.specs.ReadFile.{begins_top_kind}
use Rattle.c_cursor.specs.Seen.{passes}
use Rattle.c_parse.proofs.Readings.{top_look}
use Rattle.c_parse.proofs.parsing.begins_top.Goals as goal

pub returns : goal.returns
returns c = c.is_top_look.ensures ∙ ap (passes begins_top_kind) c.look.ensures ∙ top_look _
