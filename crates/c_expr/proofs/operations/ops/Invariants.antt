use Rattle.std.proofs.Common.{◌≡◌, ◌-◌, drop}
use Rattle.c_grammar.specs.declared.sign.Sign.TheVariants as s
use Rattle.c_reading.specs.Reader.{seq, size, many_by}
use Rattle.c_reading.specs.Read.{read_sign}
use Rattle.c_reading.specs.ReadOp.{is_verb, read_op, read_ops}
use Rattle.c_raw.specs.Ops.{ops_view}
use Rattle.c_cursor.proofs.Loops.{with_front}
use Rattle.c_expr.proofs.operations.ops.Given as goal

abbrev pub invariant-loop-turn : goal.invariant-loop-turn
invariant-loop-turn l =
    with_front (ops_view l.ops) (many_by (size (drop l.fn.at l.cursor.tokens) - l._turn) is_verb (seq read_op (read_sign s.Semicolon)) (drop l.at l.cursor.tokens))
    ≡ read_ops (drop l.fn.at l.cursor.tokens)
