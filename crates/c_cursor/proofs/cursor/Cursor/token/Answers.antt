use Rattle.std.proofs.Common.{refl}
use Rattle.c_cursor.proofs.Looks.{seen-here}
use Rattle.c_cursor.proofs.cursor.Cursor.token.Goals as goal

pub returns : goal.returns
returns c =
    let all = c.self.inside.tokens.now.tokens in
    let h = seen-here all c.args.at c.at-token.result.now c.at-token.ensures in
    rw (← c.self.view_is) (rw h (rw c.in_ok-kind.ensures refl))
