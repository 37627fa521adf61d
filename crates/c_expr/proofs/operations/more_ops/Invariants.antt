use Rattle.std.proofs.Common.{◌≡◌, ◌-◌, drop}
use Rattle.c_grammar.specs.declared.sign.Sign.TheVariants as s
use Rattle.c_reading.specs.Reader.{seq, size, many_by}
use Rattle.c_reading.specs.Read.{is_sign, read_sign, commas}
use Rattle.c_reading.specs.ReadOp.{read_op}
use Rattle.c_raw.specs.Ops.{more_ops_view}
use Rattle.c_cursor.proofs.Loops.{with_front}
use Rattle.c_expr.proofs.operations.more_ops.Given as goal

abbrev pub invariant-loop-turn : goal.invariant-loop-turn
invariant-loop-turn l =
    with_front (more_ops_view l.ops) (many_by (size (drop l.fn.at l.cursor.tokens) - l._turn) (is_sign s.Comma) (seq (read_sign s.Comma) read_op) (drop l.at l.cursor.tokens))
    ≡ commas read_op (drop l.fn.at l.cursor.tokens)
