use Rattle.std.proofs.Common.{sym, ◌∙◌}
use Rattle.c_cursor.proofs.Known.{sign_known}
use Rattle.c_cursor.proofs.cursor.sign_copy.Goals as goal

pub returns-in-Sign : goal.returns-in-Sign
returns-in-Sign c = sign_known c.args.text.now c.in-Sign.sign (sym c.in-Sign.is ∙ c.requires)
