use Rattle.c_cursor.proofs.Looks.{sign-got}
use Rattle.c_cursor.proofs.cursor.Cursor.sign.Goals as goal

pub returns : goal.returns
returns c = rw (c.spot.ensures, c.behind.ensures) (sign-got c.args.self.now.tokens c.args.at c.args.self.now.end c.args.sign cc)
