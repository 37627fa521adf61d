use Rattle.std.proofs.Common.{◌≡◌, suc, ◌+◌, ◌-◌, true, false, drop, sym, ap, ◌∙◌, arith}
use Rattle.std.proofs.lemmas.Result.{err_from_is_err_and}
use Rattle.c_reading.specs.Reader.{Got, map_out, begins}
use Rattle.c_grammar.specs.Expr as g
use Rattle.c_grammar.specs.declared.sign.Sign.TheVariants as s
use Rattle.c_reading.specs.Read.{is_name, is_number, read_sign}
use Rattle.c_reading.specs.ReadExpr.{is_prefix, operators, append, unary_at, expr_at}
use Rattle.c_reading.specs.ReadSimple.{is_bracket}
use Rattle.c_raw.specs.declared.expr.Expr.{Expr}
use Rattle.c_raw.specs.declared.expr.Expr.TheVariants as raw
use Rattle.c_raw.specs.Exprs.{prefix_view, binary_view, expr_view}
use Rattle.c_raw.proofs.Equations.{expr-Number, expr-Unary}
use Rattle.c_cursor.proofs.Exits.{stops-by}
use Rattle.c_expr.proofs.Steps
use Rattle.c_expr.proofs.Chains.{operators-append, chain-end, chain-step, chain-stop, expr-got, expr-stop}
use Rattle.c_expr.proofs.expressions.+expr.Goals as goal

-- ---- chains

pub chain-returns-in_default-clause-read : goal.chain-returns-in_default-clause-read
chain-returns-in_default-clause-read t c =
    sym c.links.invariant.so_far ∙ chain-end (expr_view c.links.expr) c.args.depth c.links.left (drop c.links.at c.args.cursor.now.tokens) c.in_default.ensures.0

pub chain-returns-in_err-operand-clause-read : goal.chain-returns-in_err-operand-clause-read
chain-returns-in_err-operand-clause-read t c =
    let ts = c.args.cursor.now.tokens in
    let here = drop c.links.at ts in
    let behind = drop c.in-Some.next ts in
    let p = err_from_is_err_and c.from_residual.result c.from_residual.ensures.1 in
    rw (p.1, p.2) (stops-by ts c.in_err-operand.field-0.0 (unary_at c.args.depth (c.links.left - 1) behind) _
    (λ f r h. sym c.links.invariant.so_far ∙ chain-stop (expr_view c.links.expr) c.args.depth here behind (binary_view c.in-Some.op, c.in-Some.spot) c.in-Some.ensures.0 c.in-Some.ensures.1 c.links.left f r c.if-left-eq0.false h)
    c.in_err-operand.ensures.read)

pub chain-links-preserved : goal.chain-links-preserved
chain-links-preserved t c =
    let ts = c.args.cursor.now.tokens in
    let here = drop c.links.at ts in
    let behind = drop c.in-Some.next ts in
    let e = expr_view c.links.expr in
    let u = expr_view c.in_ok-operand.operand.expr in
    let op = binary_view c.in-Some.op in
    let grown : expr_view c.in_ok-expr.expr ≡ append e op c.in-Some.spot u = c.in_ok-expr.ensures in
    let left : c.in_ok-operand.operand.left ≡ c.links.left - 1 - operators u = c.in_ok-operand.ensures.left in
    record {
      so_far = rw (grown, left) (sym (chain-step e c.args.depth here behind (op, c.in-Some.spot) c.in-Some.ensures.0 c.in-Some.ensures.1 c.links.left u (drop c.in_ok-operand.next ts) c.if-left-eq0.false c.in_ok-operand.ensures.read) ∙ c.links.invariant.so_far);
      fewer = λ n h.
          let before = c.links.invariant.fewer n h in
          let more : operators (expr_view c.in_ok-expr.expr) ≡ operators e + suc (operators u) = ap operators grown ∙ operators-append e op c.in-Some.spot u in
          omega (arith, before, more, left);
    }

-- ---- whole expressions

pub expr_within-returns-in_err-first-clause-read : goal.expr_within-returns-in_err-first-clause-read
expr_within-returns-in_err-first-clause-read t c =
    let ts = c.args.cursor.now.tokens in
    let here = drop c.args.at ts in
    let p = err_from_is_err_and c.from_residual.result c.from_residual.ensures.1 in
    rw (p.1, p.2) (stops-by ts c.in_err-first.field-0.0 (unary_at c.args.depth c.args.budget here) _ (λ f r h. expr-stop c.args.depth c.args.budget here r f h) c.in_err-first.ensures.read)

pub expr_within-returns-clause-read : goal.expr_within-returns-clause-read
expr_within-returns-clause-read t c =
    let ts = c.args.cursor.now.tokens in
    rw (expr-got c.args.depth c.args.budget c.in_ok-first.first.left (drop c.args.at ts) (drop c.in_ok-first.at ts) (expr_view c.in_ok-first.first.expr) c.in_ok-first.ensures.read c.in_ok-first.ensures.left) c.chain.ensures.read

-- ---- an index

pub indexed-returns-then-depth-eq0-clause-read : goal.indexed-returns-then-depth-eq0-clause-read
indexed-returns-then-depth-eq0-clause-read t c = Steps.indexed-deep c.args.depth c.args.budget (drop c.args.at c.args.cursor.now.tokens) (cc) c.if-depth-eq0.true

pub indexed-returns-in_err-inner-clause-read : goal.indexed-returns-in_err-inner-clause-read
indexed-returns-in_err-inner-clause-read t c =
    let ts = c.args.cursor.now.tokens in
    let here = drop c.args.at ts in
    let behind = drop c.in_ok-before.at ts in
    let begun : begins is_bracket here ≡ true = cc in
    let p = err_from_is_err_and c.from_residual-in_err-inner.result c.from_residual-in_err-inner.ensures.1 in
    rw (p.1, p.2) (stops-by ts c.in_err-inner.field-0.0 (expr_at (c.args.depth - 1) c.args.budget behind) _
    (Steps.indexed-stop c.args.depth c.args.budget here behind begun c.if-depth-eq0.false c.in_ok-before.before c.in_ok-before.ensures) c.in_err-inner.ensures.read)

pub indexed-returns-in_err-after-clause-read : goal.indexed-returns-in_err-after-clause-read
indexed-returns-in_err-after-clause-read t c =
    let ts = c.args.cursor.now.tokens in
    let here = drop c.args.at ts in
    let behind = drop c.in_ok-before.at ts in
    let begun : begins is_bracket here ≡ true = cc in
    let p = err_from_is_err_and c.from_residual-in_err-after.result c.from_residual-in_err-after.ensures.1 in
    rw (p.1, p.2) (stops-by ts c.in_err-after.field-0.0 (read_sign s.CloseBracket (drop c.in_ok-inner.at ts)) _
    (Steps.indexed-unclosed c.args.depth c.args.budget here behind begun c.if-depth-eq0.false c.in_ok-before.before c.in_ok-before.ensures (expr_view c.in_ok-inner.inner.expr) (drop c.in_ok-inner.at ts) c.in_ok-inner.ensures.read) c.in_err-after.ensures)

pub indexed-returns-clause-read : goal.indexed-returns-clause-read
indexed-returns-clause-read t c =
    let ts = c.args.cursor.now.tokens in
    let here = drop c.args.at ts in
    let begun : begins is_bracket here ≡ true = cc in
    Steps.indexed-got c.args.depth c.args.budget here (drop c.in_ok-before.at ts) begun c.if-depth-eq0.false c.in_ok-before.before c.in_ok-before.ensures (expr_view c.in_ok-inner.inner.expr) (drop c.in_ok-inner.at ts) c.in_ok-inner.ensures.read
    c.in_ok-after.after (drop c.in_ok-after.at ts) c.in_ok-after.ensures

-- ---- a parenthesis

pub parenthesised-returns-then-not-is_sign-clause-read : goal.parenthesised-returns-then-not-is_sign-clause-read
parenthesised-returns-then-not-is_sign-clause-read t c = Steps.parenthesised-none c.args.depth c.args.budget (drop c.args.at c.args.cursor.now.tokens) cc

pub parenthesised-returns-then-depth-eq0-clause-read : goal.parenthesised-returns-then-depth-eq0-clause-read
parenthesised-returns-then-depth-eq0-clause-read t c = Steps.parenthesised-deep c.args.depth c.args.budget (drop c.args.at c.args.cursor.now.tokens) (cc) c.if-depth-eq0.true

pub parenthesised-returns-clause-read : goal.parenthesised-returns-clause-read
parenthesised-returns-clause-read t c =
    let ts = c.args.cursor.now.tokens in
    rw (Steps.parenthesised-in c.args.depth c.args.budget (drop c.args.at ts) c.if-depth-eq0.false c.in_ok-before.before (drop c.in_ok-before.at ts) c.in_ok-before.ensures) c.inside.ensures.read

-- ---- a unary operator

pub prefixed-returns-in_default-clause-read : goal.prefixed-returns-in_default-clause-read
prefixed-returns-in_default-clause-read t c = Steps.prefixed-none c.args.depth c.args.budget (drop c.args.at c.args.cursor.now.tokens) c.in_default.ensures.0 c.in_default.ensures.1

pub prefixed-returns-then-depth-eq0-clause-read : goal.prefixed-returns-then-depth-eq0-clause-read
prefixed-returns-then-depth-eq0-clause-read t c = Steps.prefixed-deep c.args.depth c.args.budget (drop c.args.at c.args.cursor.now.tokens) c.in-Some.ensures.0 c.if-depth-eq0.true

pub prefixed-returns-in_err-inner-clause-read : goal.prefixed-returns-in_err-inner-clause-read
prefixed-returns-in_err-inner-clause-read t c =
    let ts = c.args.cursor.now.tokens in
    let behind = drop c.in-Some.next ts in
    let p = err_from_is_err_and c.from_residual.result c.from_residual.ensures.1 in
    rw (p.1, p.2) (stops-by ts c.in_err-inner.field-0.0 (unary_at (c.args.depth - 1) c.args.budget behind) _
    (Steps.prefixed-stop c.args.depth c.args.budget (drop c.args.at ts) behind c.if-depth-eq0.false (prefix_view c.in-Some.op, c.in-Some.spot) c.in-Some.ensures.1) c.in_err-inner.ensures.read)

pub prefixed-returns-clause-read : goal.prefixed-returns-clause-read
prefixed-returns-clause-read t c =
    let ts = c.args.cursor.now.tokens in
    let behind = drop c.in-Some.next ts in
    let got = Steps.prefixed-got c.args.depth c.args.budget (drop c.args.at ts) behind c.if-depth-eq0.false (prefix_view c.in-Some.op, c.in-Some.spot) c.in-Some.ensures.1 (expr_view c.in_ok-inner.inner.expr) (drop c.in_ok-inner.next ts) c.in_ok-inner.ensures.read in
    let made : expr_view (raw.Unary c.in-Some.op c.in-Some.spot c.in_ok-operand.operand) ≡ g.Unary (prefix_view c.in-Some.op) c.in-Some.spot (expr_view c.in_ok-inner.inner.expr) =
    expr-Unary c.in-Some.op c.in-Some.spot c.in_ok-operand.operand ∙ ap (λ (z : Expr). g.Unary (prefix_view c.in-Some.op) c.in-Some.spot (expr_view z)) c.in_ok-operand.ensures in
    got ∙ ap (λ (x : g.Expr). Got x (drop c.in_ok-inner.next ts)) (sym made)

-- ---- operands

pub unary-returns-then-is_prefix-clause-read : goal.unary-returns-then-is_prefix-clause-read
unary-returns-then-is_prefix-clause-read t c = rw (Steps.unary-prefix c.args.depth c.args.budget (drop c.args.at c.args.cursor.now.tokens) cc) c.prefixed.ensures.read

pub unary-returns-then-is_number-clause-read : goal.unary-returns-then-is_number-clause-read
unary-returns-then-is_number-clause-read t c =
    let ts = c.args.cursor.now.tokens in
    let here = drop c.args.at ts in
    let no_prefix : begins is_prefix here ≡ false = cc in
    let number : begins is_number here ≡ true = cc in
    Steps.unary-number c.args.depth c.args.budget here no_prefix number ∙ ap (map_out (λ x. g.Number x)) c.in_ok-number.ensures
    ∙ ap (λ (x : g.Expr). Got x (drop c.in_ok-number.at ts)) (sym (expr-Number c.in_ok-number.number))

pub unary-returns-then-is_name-clause-read : goal.unary-returns-then-is_name-clause-read
unary-returns-then-is_name-clause-read t c =
    let here = drop c.args.at c.args.cursor.now.tokens in
    let no_prefix : begins is_prefix here ≡ false = cc in
    let no_number : begins is_number here ≡ false = cc in
    let name : begins is_name here ≡ true = cc in
    rw (Steps.unary-name c.args.depth c.args.budget here no_prefix no_number name) c.named.ensures.read

pub unary-returns-clause-read : goal.unary-returns-clause-read
unary-returns-clause-read t c =
    let here = drop c.args.at c.args.cursor.now.tokens in
    let no_prefix : begins is_prefix here ≡ false = cc in
    let no_number : begins is_number here ≡ false = cc in
    let no_name : begins is_name here ≡ false = cc in
    rw (Steps.unary-paren c.args.depth c.args.budget here no_prefix no_number no_name) c.parenthesised.ensures.read
