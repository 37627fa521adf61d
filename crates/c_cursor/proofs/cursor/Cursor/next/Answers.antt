use Rattle.std.proofs.Common.{◌≡◌, ◌∙◌, ap, sym, List, map, slice_get}
use Rattle.c_cursor.specs.declared.cursor.Mark.{Mark}
use Rattle.c_grammar.specs.Lexical.{token_read}
use Rattle.c_cursor.specs.Seen.{Source}
use Rattle.c_cursor.proofs.Looks.{next-mark}
use Rattle.c_cursor.proofs.cursor.Cursor.next.Goals as goal

pub returns : goal.returns
returns c =
    let ts = c.self.inside.tokens.now.tokens in
    let m = c.at-mark.result.now in
    let n = next-mark ts c.args.at m (ap (λ (z : List Mark). slice_get z c.args.at) (sym c.self.invariant.0) ∙ c.at-mark.ensures) in
    let e : map token_read ts ≡ c.args.self.now.tokens = ap (λ (z : Source). z.tokens) c.self.view_is in
    (n.0, rw (← e) n.1, n.2, n.3)
