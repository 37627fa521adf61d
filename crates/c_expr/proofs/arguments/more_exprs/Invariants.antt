use Rattle.std.proofs.Common.{◌≡◌, ◌-◌, drop}
use Rattle.c_grammar.specs.declared.sign.Sign.TheVariants as s
use Rattle.c_reading.specs.Reader.{seq, size, many_by}
use Rattle.c_reading.specs.Read.{is_sign, read_sign, commas}
use Rattle.c_reading.specs.ReadExpr.{expr_at}
use Rattle.c_raw.specs.Simples.{more_view}
use Rattle.c_cursor.proofs.Loops.{with_front}
use Rattle.c_expr.proofs.arguments.more_exprs.Given as goal

abbrev pub invariant-loop-turn : goal.invariant-loop-turn
invariant-loop-turn l =
    with_front (more_view l.more) (many_by (size (drop l.fn.at l.cursor.tokens) - l._turn) (is_sign s.Comma) (seq (read_sign s.Comma) (expr_at l.depth 200)) (drop l.at l.cursor.tokens))
    ≡ commas (expr_at l.depth 200) (drop l.fn.at l.cursor.tokens)
