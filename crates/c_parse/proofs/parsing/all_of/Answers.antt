use Rattle.std.proofs.Common.{◌≡◌, ◌≢◌, drop, arith}
use Rattle.std.proofs.lemmas.Result.{err_from_is_err_and}
use Rattle.c_reading.specs.Reader.{size, many}
use Rattle.c_reading.specs.ReadFile.{begins_top, checked, top_at}
use Rattle.c_parse.specs.Parsed.{tops_view}
use Rattle.c_parse.proofs.Readings.{file_got, file_more, file_stop}
use Rattle.c_stmt.proofs.Stop.{stops_by}
use Rattle.c_parse.proofs.parsing.all_of.Goals as goal

pub returns-in_err-tops : goal.returns-in_err-tops
returns-in_err-tops c =
    let ts = c.args.cursor.now.tokens in
    let p = err_from_is_err_and c.from_residual.result c.from_residual.ensures.1 in
    rw (p.1, p.2) (stops_by ts (many begins_top (checked (top_at 200)) ts) _ c.in_err-tops.field-0.0 (λ f r e. file_stop ts r f e) c.in_err-tops.ensures)

pub returns-then-left-ne0 : goal.returns-then-left-ne0
returns-then-left-ne0 c =
    let ts = c.args.cursor.now.tokens in
    let some : size (drop c.in_ok-tops.at ts) ≢ 0 = omega (arith, c.left.ensures) in
    file_more ts (drop c.in_ok-tops.at ts) (tops_view c.in_ok-tops.tops) c.in_ok-tops.ensures some

pub returns : goal.returns
returns c =
    let ts = c.args.cursor.now.tokens in
    let none : size (drop c.in_ok-tops.at ts) ≡ 0 = omega (arith, c.left.ensures) in
    file_got ts (drop c.in_ok-tops.at ts) (tops_view c.in_ok-tops.tops) c.in_ok-tops.ensures none
