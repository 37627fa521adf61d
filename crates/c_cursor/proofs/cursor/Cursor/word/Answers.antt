use Rattle.c_cursor.proofs.Looks.{word-got}
use Rattle.c_cursor.proofs.cursor.Cursor.word.Goals as goal

pub returns : goal.returns
returns c = rw (c.spot.ensures, c.behind.ensures) (word-got c.args.self.now.tokens c.args.at c.args.self.now.end c.args.word cc)
