use Rattle.std.proofs.Common.{◌≡◌, ◌<◌, ℕ, true, false, drop, map, sym, ap, ◌∙◌, arith, rules}
use Rattle.std.proofs.lemmas.Result.{err_from_is_err_and}
use Rattle.std.proofs.lemmas.List.{map_push}
use Rattle.c_reading.specs.Reader.{begins, size, map_out}
use Rattle.c_reading.specs.ReadStmt.{begins_item, items_from, stmt_at}
use Rattle.c_raw.specs.Stmts.{item_view}
use Rattle.c_stmt.specs.Stmts.{item_at, items_at}
use Rattle.c_stmt.proofs.Loop as loop
use Rattle.c_stmt.proofs.Stop.{stops_by}
use Rattle.c_stmt.proofs.Statements.{brace_deep, brace_here, if_deep, if_here, while_deep, while_here, for_deep, for_here, flat_is}
use Rattle.c_stmt.proofs.+statement.Goals as goal

-- ---- items

pub block::items_of-returns-then-not-begins_item : goal.block::items_of-returns-then-not-begins_item
unfolding items_at item_at
block::items_of-returns-then-not-begins_item t c =
    let none : begins begins_item (drop c.items.place c.args.cursor.now.tokens) ≡ false = first_of (cc, search rules) in
    ap (map_out items_from) (loop.ends begins_item (item_at c.args.depth) (drop c.args.at c.args.cursor.now.tokens) (map item_view c.items.items) c.items.counter (drop c.items.place c.args.cursor.now.tokens) c.items.invariant none)

pub block::items_of-returns-in_err-item : goal.block::items_of-returns-in_err-item
unfolding items_at item_at
block::items_of-returns-in_err-item t c =
    let p = err_from_is_err_and c.from_residual.result c.from_residual.ensures.1 in
    let room : c.items.counter < size (drop c.args.at c.args.cursor.now.tokens) = omega (arith, c.left-end.ensures, c.items-test.true) in
    let more : begins begins_item (drop c.items.place c.args.cursor.now.tokens) ≡ true = first_of (cc, search rules) in
    rw (p.1, p.2) (stops_by c.args.cursor.now.tokens (item_at c.args.depth (drop c.items.place c.args.cursor.now.tokens)) _ c.in_err-item.field-0.0 (λ f r e. ap (map_out items_from) (loop.stops begins_item (item_at c.args.depth) (drop c.args.at c.args.cursor.now.tokens) (map item_view c.items.items) c.items.counter (drop c.items.place c.args.cursor.now.tokens) c.items.invariant room more f r e)) c.in_err-item.ensures)

pub block::items_of-items-preserved : goal.block::items_of-items-preserved
block::items_of-items-preserved t c =
    let room : c.items.counter < size (drop c.args.at c.args.cursor.now.tokens) = omega (arith, c.left-end.ensures, c.items-test.true) in
    let more : begins begins_item (drop c.items.place c.args.cursor.now.tokens) ≡ true = first_of (cc, search rules) in
    rw (c.in_ok-push.ensures.ok, map_push item_view c.items.items c.in_ok-item.item) (loop.turns begins_item (item_at c.args.depth) (drop c.args.at c.args.cursor.now.tokens) (map item_view c.items.items) c.items.counter (drop c.items.place c.args.cursor.now.tokens) c.items.invariant room more _ _ c.in_ok-item.ensures)

pub block::items_of-returns : goal.block::items_of-returns
unfolding items_at item_at
block::items_of-returns t c =
    let all : c.items.counter ≡ size (drop c.args.at c.args.cursor.now.tokens) = omega (arith, c.left-end.ensures, c.items-test.false, c.items.auto.counter-end) in
    ap (map_out items_from) (loop.used begins_item (item_at c.args.depth) (drop c.args.at c.args.cursor.now.tokens) (map item_view c.items.items) c.items.counter (drop c.items.place c.args.cursor.now.tokens) c.items.invariant all)

-- ---- statements

pub stmt::stmt_of-returns-then-depth-eq0 : goal.stmt::stmt_of-returns-then-depth-eq0
stmt::stmt_of-returns-then-depth-eq0 t c = ap (λ (k : ℕ). stmt_at 200 k (drop c.args.at c.args.cursor.now.tokens)) c.if-depth-eq0.true ∙ brace_deep (drop c.args.at c.args.cursor.now.tokens) (sym c.is_sign.ensures ∙ c.if-is_sign.true)

pub stmt::stmt_of-returns-then-depth-eq0-2 : goal.stmt::stmt_of-returns-then-depth-eq0-2
stmt::stmt_of-returns-then-depth-eq0-2 t c = ap (λ (k : ℕ). stmt_at 200 k (drop c.args.at c.args.cursor.now.tokens)) c.if-depth-eq0-2.true ∙ if_deep (drop c.args.at c.args.cursor.now.tokens) (sym c.is_sign.ensures ∙ c.if-is_sign.false) (sym c.is_word.ensures ∙ c.if-is_word.true)

pub stmt::stmt_of-returns-then-depth-eq0-3 : goal.stmt::stmt_of-returns-then-depth-eq0-3
stmt::stmt_of-returns-then-depth-eq0-3 t c = ap (λ (k : ℕ). stmt_at 200 k (drop c.args.at c.args.cursor.now.tokens)) c.if-depth-eq0-3.true ∙ while_deep (drop c.args.at c.args.cursor.now.tokens) (sym c.is_sign.ensures ∙ c.if-is_sign.false) (sym c.is_word.ensures ∙ c.if-is_word.false) (sym c.is_word-else-is_word.ensures ∙ c.if-is_word-2.true)

pub stmt::stmt_of-returns-then-depth-lt2 : goal.stmt::stmt_of-returns-then-depth-lt2
stmt::stmt_of-returns-then-depth-lt2 t c = for_deep (drop c.args.at c.args.cursor.now.tokens) (sym c.is_sign.ensures ∙ c.if-is_sign.false) (sym c.is_word.ensures ∙ c.if-is_word.false) (sym c.is_word-else-is_word.ensures ∙ c.if-is_word-2.false) (sym c.is_word-else-is_word-2.ensures ∙ c.if-is_word-3.true) c.args.depth c.if-depth-lt2.true

pub stmt::stmt_of-returns-else-depth-eq0 : goal.stmt::stmt_of-returns-else-depth-eq0
stmt::stmt_of-returns-else-depth-eq0 t c = rw (brace_here c.args.depth (drop c.args.at c.args.cursor.now.tokens) c.if-depth-eq0.false (sym c.is_sign.ensures ∙ c.if-is_sign.true)) c.brace_of.ensures

pub stmt::stmt_of-returns-else-depth-eq0-2 : goal.stmt::stmt_of-returns-else-depth-eq0-2
stmt::stmt_of-returns-else-depth-eq0-2 t c = rw (if_here c.args.depth (drop c.args.at c.args.cursor.now.tokens) (sym c.is_sign.ensures ∙ c.if-is_sign.false) c.if-depth-eq0-2.false (sym c.is_word.ensures ∙ c.if-is_word.true)) c.if_of.ensures

pub stmt::stmt_of-returns-else-depth-eq0-3 : goal.stmt::stmt_of-returns-else-depth-eq0-3
stmt::stmt_of-returns-else-depth-eq0-3 t c = rw (while_here c.args.depth (drop c.args.at c.args.cursor.now.tokens) (sym c.is_sign.ensures ∙ c.if-is_sign.false) (sym c.is_word.ensures ∙ c.if-is_word.false) c.if-depth-eq0-3.false (sym c.is_word-else-is_word.ensures ∙ c.if-is_word-2.true)) c.while_of.ensures

pub stmt::stmt_of-returns-else-depth-lt2 : goal.stmt::stmt_of-returns-else-depth-lt2
stmt::stmt_of-returns-else-depth-lt2 t c = rw (for_here c.args.depth (drop c.args.at c.args.cursor.now.tokens) (sym c.is_sign.ensures ∙ c.if-is_sign.false) (sym c.is_word.ensures ∙ c.if-is_word.false) (sym c.is_word-else-is_word.ensures ∙ c.if-is_word-2.false) c.if-depth-lt2.false (sym c.is_word-else-is_word-2.ensures ∙ c.if-is_word-3.true)) c.for_of.ensures

pub stmt::stmt_of-returns-else-is_word-3 : goal.stmt::stmt_of-returns-else-is_word-3
stmt::stmt_of-returns-else-is_word-3 t c = rw (flat_is (drop c.args.at c.args.cursor.now.tokens) (sym c.is_sign.ensures ∙ c.if-is_sign.false) (sym c.is_word.ensures ∙ c.if-is_word.false) (sym c.is_word-else-is_word.ensures ∙ c.if-is_word-2.false) (sym c.is_word-else-is_word-2.ensures ∙ c.if-is_word-3.false) c.args.depth) c.flat_of.ensures
