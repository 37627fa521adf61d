use Rattle.std.proofs.Common.{◌≡◌, ◌-◌, ◌<◌, true, List, ◌∷◌, ◌++◌, [], drop, refl, sym, ap, ◌∙◌, arith}
use Rattle.std.proofs.lemmas.Result.{err_from_is_err_and}
use Rattle.c_grammar.specs.declared.sign.Sign.TheVariants as s
use Rattle.c_reading.specs.Reader.{Out, Got, begins, seq, size}
use Rattle.c_grammar.specs.Token.{Token}
use Rattle.c_reading.specs.Read.{is_sign, read_sign}
use Rattle.c_reading.specs.ReadOp.{read_op}
use Rattle.c_raw.specs.Ops.{op_view, more_ops_view}
use Rattle.cfix_base.specs.declared.Spot.{Spot}
use Rattle.c_cursor.proofs.Exits.{stops-by}
use Rattle.std.proofs.lemmas.List.{map_push}
use Rattle.c_grammar.specs.Op as go
use Rattle.c_raw.specs.declared.op.Op.{Op}
use Rattle.c_cursor.proofs.Loops.{many-end, turn-start, turn-step, turn-stop, turn-out}
use Rattle.c_expr.proofs.operations.more_ops.Goals as goal

abbrev item : List Token → Out Token (Spot × go.Op)
item = seq (read_sign s.Comma) read_op

abbrev placed : Spot × Op → Spot × go.Op
placed x = (x.0, op_view x.1)

pub loop-turn-init : goal.loop-turn-init
loop-turn-init c = rw c.new-ops.ensures (turn-start (is_sign s.Comma) item (drop c.args.at c.args.cursor.now.tokens))

pub returns-then-not-is_sign : goal.returns-then-not-is_sign
returns-then-not-is_sign c =
    let ts = c.args.cursor.now.tokens in
    sym c.loop-turn.invariant ∙ many-end (is_sign s.Comma) item (more_ops_view c.loop-turn.ops) (size (drop c.args.at ts) - c.loop-turn._turn) (drop c.loop-turn.at ts) (cc)

pub returns-in_err-op : goal.returns-in_err-op
returns-in_err-op c =
    let ts = c.args.cursor.now.tokens in
    let here = drop c.loop-turn.at ts in
    let behind = drop c.in_ok-comma.next ts in
    let n = size (drop c.args.at ts) in
    let inside : c.loop-turn._turn < n = omega (arith, c.left-turn-end.ensures) in
    let begun : begins (is_sign s.Comma) here ≡ true = cc in
    let first : read_sign s.Comma here ≡ Got c.in_ok-comma.comma behind = c.in_ok-comma.ensures in
    let p = err_from_is_err_and c.from_residual-in_err-op.result c.from_residual-in_err-op.ensures.1 in
    rw (p.1, p.2) (stops-by ts c.in_err-op.field-0.0 (read_op behind) _
    (λ f r h. sym c.loop-turn.invariant ∙ turn-stop (is_sign s.Comma) item n c.loop-turn._turn inside (more_ops_view c.loop-turn.ops) here r f begun (rw (first, h) refl))
    c.in_err-op.ensures)

pub loop-turn-preserved : goal.loop-turn-preserved
loop-turn-preserved c =
    let ts = c.args.cursor.now.tokens in
    let here = drop c.loop-turn.at ts in
    let behind = drop c.in_ok-comma.next ts in
    let after = drop c.in_ok-op.next ts in
    let n = size (drop c.args.at ts) in
    let x = op_view c.in_ok-op.op in
    let inside : c.loop-turn._turn < n = omega (arith, c.left-turn-end.ensures) in
    let begun : begins (is_sign s.Comma) here ≡ true = cc in
    let first : read_sign s.Comma here ≡ Got c.in_ok-comma.comma behind = c.in_ok-comma.ensures in
    let second : read_op behind ≡ Got x after = c.in_ok-op.ensures in
    let pushed : more_ops_view c.push.new.self ≡ more_ops_view c.loop-turn.ops ++ (c.in_ok-comma.comma, x) ∷ [] =
    ap more_ops_view c.in_ok-push.ensures.pushed ∙ map_push placed c.loop-turn.ops (c.in_ok-comma.comma, c.in_ok-op.op) in
    rw pushed (sym (turn-step (is_sign s.Comma) item n c.loop-turn._turn inside (more_ops_view c.loop-turn.ops) here after (c.in_ok-comma.comma, x) begun (rw (first, second) refl)) ∙ c.loop-turn.invariant)

pub returns : goal.returns
returns c =
    let ts = c.args.cursor.now.tokens in
    sym c.loop-turn.invariant ∙ turn-out (is_sign s.Comma) item (size (drop c.args.at ts)) c.loop-turn._turn (omega (arith, c.left-turn-end.ensures)) (more_ops_view c.loop-turn.ops) (drop c.loop-turn.at ts)
