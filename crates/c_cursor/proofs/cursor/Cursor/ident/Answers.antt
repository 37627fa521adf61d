use Rattle.std.proofs.Common.{refl}
use Rattle.c_cursor.proofs.Looks.{seen-here, no-ident}
use Rattle.c_cursor.proofs.cursor.Cursor.ident.Goals as goal

pub returns-in_ok-text-in-Name : goal.returns-in_ok-text-in-Name
returns-in_ok-text-in-Name c =
    let all = c.self.inside.tokens.now.tokens in
    let h = seen-here all c.args.at c.at-token.result.now c.at-token.ensures in
    rw (← c.self.view_is) (rw h (rw (c.in-Name.is, c.in_ok-text-in-Name.ensures) refl))

pub returns-in_default : goal.returns-in_default
returns-in_default c =
    let all = c.self.inside.tokens.now.tokens in
    let t = c.at-token.result.now in
    let h = seen-here all c.args.at t c.at-token.ensures in
    rw (← c.self.view_is) (rw h (rw (no-ident t.kind t.spot c.in_default.not-Name) refl))
