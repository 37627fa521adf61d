use Rattle.std.proofs.Common.{◌∙◌, drop}
use Rattle.c_cursor.proofs.Looks.{word-is}
use Rattle.c_cursor.proofs.cursor.Cursor.is_word.Goals as goal

pub returns-in-Some-Word : goal.returns-in-Some-Word
returns-in-Some-Word c = c.eq.ensures ∙ word-is (drop c.args.at c.args.self.now.tokens) c.in-Some-Word.found c.args.word cc
