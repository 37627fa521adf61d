use Rattle.std.proofs.Common.{◌≡◌, ℕ, ◌-◌, ◌<◌, true, List, ◌∷◌, ◌++◌, [], drop, refl, sym, ap, ◌∙◌, arith}
use Rattle.std.proofs.lemmas.Result.{err_from_is_err_and}
use Rattle.c_grammar.specs.declared.sign.Sign.TheVariants as s
use Rattle.c_reading.specs.Reader.{Out, Got, begins, seq, size}
use Rattle.c_grammar.specs.Token.{Token}
use Rattle.c_grammar.specs.Expr as g
use Rattle.c_reading.specs.Read.{is_sign, read_sign}
use Rattle.c_reading.specs.ReadExpr.{expr_at}
use Rattle.c_raw.specs.Exprs.{expr_view}
use Rattle.c_raw.specs.Simples.{next_view, more_view}
use Rattle.cfix_base.specs.declared.Spot.{Spot}
use Rattle.c_cursor.proofs.Exits.{stops-by}
use Rattle.std.proofs.lemmas.List.{map_push}
use Rattle.c_cursor.proofs.Loops.{many-end, turn-start, turn-step, turn-stop, turn-out}
use Rattle.c_expr.proofs.arguments.more_exprs.Goals as goal

abbrev item : ℕ → List Token → Out Token (Spot × g.Expr)
item d = seq (read_sign s.Comma) (expr_at d 200)

pub loop-turn-init : goal.loop-turn-init
loop-turn-init c = rw c.new-more.ensures (turn-start (is_sign s.Comma) (item c.args.depth) (drop c.args.at c.args.cursor.now.tokens))

pub returns-then-not-is_sign : goal.returns-then-not-is_sign
returns-then-not-is_sign c =
    let ts = c.args.cursor.now.tokens in
    sym c.loop-turn.invariant ∙ many-end (is_sign s.Comma) (item c.args.depth) (more_view c.loop-turn.more) (size (drop c.args.at ts) - c.loop-turn._turn) (drop c.loop-turn.at ts) (cc)

pub returns-in_err-item : goal.returns-in_err-item
returns-in_err-item c =
    let ts = c.args.cursor.now.tokens in
    let here = drop c.loop-turn.at ts in
    let behind = drop c.in_ok-comma.next ts in
    let n = size (drop c.args.at ts) in
    let inside : c.loop-turn._turn < n = omega (arith, c.left-turn-end.ensures) in
    let begun : begins (is_sign s.Comma) here ≡ true = cc in
    let first : read_sign s.Comma here ≡ Got c.in_ok-comma.comma behind = c.in_ok-comma.ensures in
    let p = err_from_is_err_and c.from_residual-in_err-item.result c.from_residual-in_err-item.ensures.1 in
    rw (p.1, p.2) (stops-by ts c.in_err-item.field-0.0 (expr_at c.args.depth 200 behind) _
    (λ f r h. sym c.loop-turn.invariant ∙ turn-stop (is_sign s.Comma) (item c.args.depth) n c.loop-turn._turn inside (more_view c.loop-turn.more) here r f begun (rw (first, h) refl))
    c.in_err-item.ensures)

pub loop-turn-preserved : goal.loop-turn-preserved
loop-turn-preserved c =
    let ts = c.args.cursor.now.tokens in
    let here = drop c.loop-turn.at ts in
    let behind = drop c.in_ok-comma.next ts in
    let after = drop c.in_ok-item.next ts in
    let n = size (drop c.args.at ts) in
    let x = expr_view c.in_ok-item.item in
    let inside : c.loop-turn._turn < n = omega (arith, c.left-turn-end.ensures) in
    let begun : begins (is_sign s.Comma) here ≡ true = cc in
    let first : read_sign s.Comma here ≡ Got c.in_ok-comma.comma behind = c.in_ok-comma.ensures in
    let second : expr_at c.args.depth 200 behind ≡ Got x after = c.in_ok-item.ensures in
    let pushed : more_view c.push.new.self ≡ more_view c.loop-turn.more ++ (c.in_ok-comma.comma, x) ∷ [] =
    ap more_view c.in_ok-push.ensures.pushed ∙ map_push next_view c.loop-turn.more (c.in_ok-comma.comma, c.in_ok-item.item) in
    rw pushed (sym (turn-step (is_sign s.Comma) (item c.args.depth) n c.loop-turn._turn inside (more_view c.loop-turn.more) here after (c.in_ok-comma.comma, x) begun (rw (first, second) refl)) ∙ c.loop-turn.invariant)

pub returns : goal.returns
returns c =
    let ts = c.args.cursor.now.tokens in
    sym c.loop-turn.invariant ∙ turn-out (is_sign s.Comma) (item c.args.depth) (size (drop c.args.at ts)) c.loop-turn._turn (omega (arith, c.left-turn-end.ensures)) (more_view c.loop-turn.more) (drop c.loop-turn.at ts)
