use Rattle.std.proofs.Common.{◌∙◌, ap, sym, List, drop, slice_get}
use Rattle.c_cursor.specs.declared.cursor.Mark.{Mark}
use Rattle.c_cursor.specs.Seen.{Source, spot_at}
use Rattle.c_cursor.proofs.Looks.{spot-mark}
use Rattle.c_cursor.proofs.cursor.Cursor.spot.Goals as goal

pub returns-then-at-len : goal.returns-then-at-len
returns-then-at-len c =
    spot-mark c.self.inside.tokens.now.end c.self.inside.tokens.now.tokens c.args.at c.at.result.now (ap (λ (z : List Mark). slice_get z c.args.at) (sym c.self.invariant.0) ∙ c.at.ensures)
    ∙ ap (λ (z : Source). spot_at z.end (drop c.args.at z.tokens)) c.self.view_is
