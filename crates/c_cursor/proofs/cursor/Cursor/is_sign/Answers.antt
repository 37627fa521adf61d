use Rattle.std.proofs.Common.{◌∙◌, drop}
use Rattle.c_cursor.proofs.Looks.{sign-is}
use Rattle.c_cursor.proofs.cursor.Cursor.is_sign.Goals as goal

pub returns-in-Some-Sign : goal.returns-in-Some-Sign
returns-in-Some-Sign c = c.eq.ensures ∙ sign-is (drop c.args.at c.args.self.now.tokens) c.in-Some-Sign.found c.args.sign cc
