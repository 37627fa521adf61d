use Rattle.std.proofs.Common.{◌≡◌, ap, length, map, arith}
use Rattle.std.proofs.lemmas.List.{length-map}
use Rattle.c_grammar.specs.Lexical.{token_read}
use Rattle.c_cursor.specs.Seen.{Source}
use Rattle.c_cursor.proofs.cursor.Cursor.behind.Goals as goal

pub overflow_add-result : goal.overflow_add-result
overflow_add-result c =
    let ts = c.self.inside.tokens.now.tokens in
    let e : length (map token_read ts) ≡ length c.args.self.now.tokens = ap (λ (z : Source). length z.tokens) c.self.view_is in
    let n : length (map token_read ts) ≡ length ts = length-map ts token_read in
    omega (arith, c.self.invariant.1)
