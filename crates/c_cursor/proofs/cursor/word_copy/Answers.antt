use Rattle.std.proofs.Common.{sym, ◌∙◌}
use Rattle.c_cursor.proofs.Known.{word_known}
use Rattle.c_cursor.proofs.cursor.word_copy.Goals as goal

pub returns-in-Word : goal.returns-in-Word
returns-in-Word c = word_known c.args.text.now c.in-Word.word (sym c.in-Word.is ∙ c.requires)
