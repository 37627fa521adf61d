use Rattle.std.proofs.Common.{refl}
use Rattle.c_cursor.proofs.Looks.{seen-here, no-text}
use Rattle.c_cursor.proofs.cursor.Cursor.text.Goals as goal

pub returns-in_ok-bytes-in-Quoted : goal.returns-in_ok-bytes-in-Quoted
returns-in_ok-bytes-in-Quoted c =
    let all = c.self.inside.tokens.now.tokens in
    let h = seen-here all c.args.at c.at-token.result.now c.at-token.ensures in
    rw (← c.self.view_is) (rw h (rw (c.in-Quoted.is, c.in_ok-bytes-in-Quoted.ensures) refl))

pub returns-in_default : goal.returns-in_default
returns-in_default c =
    let all = c.self.inside.tokens.now.tokens in
    let t = c.at-token.result.now in
    let h = seen-here all c.args.at t c.at-token.ensures in
    rw (← c.self.view_is) (rw h (rw (no-text t.kind t.spot c.in_default.not-Quoted) refl))
