use Rattle.std.proofs.Common.{◌≡◌, ◌-◌, false, drop, ap, ◌∙◌}
use Rattle.std.proofs.lemmas.Result.{err_from_is_err_and}
use Rattle.c_grammar.specs.declared.word.Word.TheVariants as w
use Rattle.c_reading.specs.Reader.{map_out, begins}
use Rattle.c_reading.specs.Read.{is_word}
use Rattle.c_cursor.proofs.Exits.{stops-by}
use Rattle.c_expr.specs.Parts.{inside_at}
use Rattle.c_expr.proofs.CallSteps.{no_long, cast-inside}
use Rattle.c_expr.proofs.headers.cast_tail.Goals as goal

pub returns-in_err-operand : goal.returns-in_err-operand
returns-in_err-operand c =
    let ts = c.args.cursor.now.tokens in
    let behind = drop c.in_ok-before.at ts in
    let no_word : begins (is_word w.Long) behind ≡ false = cc in
    let p = err_from_is_err_and c.from_residual-in_err-operand.result c.from_residual-in_err-operand.ensures.1 in
    rw (p.1, p.2) (stops-by ts c.in_err-operand.field-0.0 (inside_at c.in_ok-before.before (c.args.depth - 1) 200 behind) _
    (λ f r h. cast-inside 200 (drop c.args.at ts) c.args.depth c.if-depth-eq0.false c.in_ok-before.before behind c.in_ok-before.ensures no_word ∙ ap (map_out no_long) h)
    c.in_err-operand.ensures.read)

pub returns-then-not-is_word : goal.returns-then-not-is_word
returns-then-not-is_word c =
    let ts = c.args.cursor.now.tokens in
    let behind = drop c.in_ok-before.at ts in
    let no_word : begins (is_word w.Long) behind ≡ false = cc in
    cast-inside 200 (drop c.args.at ts) c.args.depth c.if-depth-eq0.false c.in_ok-before.before behind c.in_ok-before.ensures no_word ∙ ap (map_out no_long) c.in_ok-operand.ensures.read
