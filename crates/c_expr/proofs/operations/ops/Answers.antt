use Rattle.std.proofs.Common.{◌≡◌, ◌-◌, ◌<◌, true, List, ◌∷◌, ◌++◌, [], drop, refl, sym, ap, ◌∙◌, arith}
use Rattle.std.proofs.lemmas.Result.{err_from_is_err_and}
use Rattle.c_grammar.specs.declared.sign.Sign.TheVariants as s
use Rattle.c_reading.specs.Reader.{Out, Got, begins, seq, size}
use Rattle.c_grammar.specs.Token.{Token}
use Rattle.c_reading.specs.Read.{read_sign}
use Rattle.c_reading.specs.ReadOp.{is_verb, read_op}
use Rattle.c_raw.specs.Ops.{op_view, ops_view}
use Rattle.cfix_base.specs.declared.Spot.{Spot}
use Rattle.c_cursor.proofs.Exits.{stops-by}
use Rattle.std.proofs.lemmas.List.{map_push}
use Rattle.c_grammar.specs.Op as go
use Rattle.c_raw.specs.declared.op.Op.{Op}
use Rattle.c_cursor.proofs.Loops.{many-end, turn-start, turn-step, turn-stop, turn-out}
use Rattle.c_expr.proofs.operations.ops.Goals as goal

abbrev item : List Token → Out Token (go.Op × Spot)
item = seq read_op (read_sign s.Semicolon)

abbrev placed : Op × Spot → go.Op × Spot
placed x = (op_view x.0, x.1)

pub loop-turn-init : goal.loop-turn-init
loop-turn-init c = rw c.new-ops.ensures (turn-start is_verb item (drop c.args.at c.args.cursor.now.tokens))

pub returns-then-not-is_verb : goal.returns-then-not-is_verb
returns-then-not-is_verb c =
    let ts = c.args.cursor.now.tokens in
    sym c.loop-turn.invariant ∙ many-end is_verb item (ops_view c.loop-turn.ops) (size (drop c.args.at ts) - c.loop-turn._turn) (drop c.loop-turn.at ts) (cc)

pub returns-in_err-op : goal.returns-in_err-op
returns-in_err-op c =
    let ts = c.args.cursor.now.tokens in
    let here = drop c.loop-turn.at ts in
    let n = size (drop c.args.at ts) in
    let inside : c.loop-turn._turn < n = omega (arith, c.left-turn-end.ensures) in
    let begun : begins is_verb here ≡ true = cc in
    let p = err_from_is_err_and c.from_residual.result c.from_residual.ensures.1 in
    rw (p.1, p.2) (stops-by ts c.in_err-op.field-0.0 (read_op here) _
    (λ f r h. sym c.loop-turn.invariant ∙ turn-stop is_verb item n c.loop-turn._turn inside (ops_view c.loop-turn.ops) here r f begun (rw h refl))
    c.in_err-op.ensures)

pub returns-in_err-end : goal.returns-in_err-end
returns-in_err-end c =
    let ts = c.args.cursor.now.tokens in
    let here = drop c.loop-turn.at ts in
    let behind = drop c.in_ok-op.next ts in
    let n = size (drop c.args.at ts) in
    let inside : c.loop-turn._turn < n = omega (arith, c.left-turn-end.ensures) in
    let begun : begins is_verb here ≡ true = cc in
    let first : read_op here ≡ Got (op_view c.in_ok-op.op) behind = c.in_ok-op.ensures in
    let p = err_from_is_err_and c.from_residual-in_err-end.result c.from_residual-in_err-end.ensures.1 in
    rw (p.1, p.2) (stops-by ts c.in_err-end.field-0.0 (read_sign s.Semicolon behind) _
    (λ f r h. sym c.loop-turn.invariant ∙ turn-stop is_verb item n c.loop-turn._turn inside (ops_view c.loop-turn.ops) here r f begun (rw (first, h) refl))
    c.in_err-end.ensures)

pub loop-turn-preserved : goal.loop-turn-preserved
loop-turn-preserved c =
    let ts = c.args.cursor.now.tokens in
    let here = drop c.loop-turn.at ts in
    let behind = drop c.in_ok-op.next ts in
    let after = drop c.in_ok-end.next ts in
    let n = size (drop c.args.at ts) in
    let x = op_view c.in_ok-op.op in
    let inside : c.loop-turn._turn < n = omega (arith, c.left-turn-end.ensures) in
    let begun : begins is_verb here ≡ true = cc in
    let first : read_op here ≡ Got x behind = c.in_ok-op.ensures in
    let second : read_sign s.Semicolon behind ≡ Got c.in_ok-end.end after = c.in_ok-end.ensures in
    let pushed : ops_view c.push.new.self ≡ ops_view c.loop-turn.ops ++ (x, c.in_ok-end.end) ∷ [] =
    ap ops_view c.in_ok-push.ensures.pushed ∙ map_push placed c.loop-turn.ops (c.in_ok-op.op, c.in_ok-end.end) in
    rw pushed (sym (turn-step is_verb item n c.loop-turn._turn inside (ops_view c.loop-turn.ops) here after (x, c.in_ok-end.end) begun (rw (first, second) refl)) ∙ c.loop-turn.invariant)

pub returns : goal.returns
returns c =
    let ts = c.args.cursor.now.tokens in
    sym c.loop-turn.invariant ∙ turn-out is_verb item (size (drop c.args.at ts)) c.loop-turn._turn (omega (arith, c.left-turn-end.ensures)) (ops_view c.loop-turn.ops) (drop c.loop-turn.at ts)
