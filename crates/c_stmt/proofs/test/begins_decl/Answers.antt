use Rattle.std.proofs.Common.{ap, ◌∙◌}
use Rattle.c_stmt.specs.Tests.{look_decl}
use Rattle.c_stmt.proofs.Tests.{decl_is}
use Rattle.c_stmt.proofs.test.begins_decl.Goals as goal

pub returns : goal.returns
returns c = c.is_decl_look.ensures ∙ ap look_decl c.look.ensures ∙ decl_is _
