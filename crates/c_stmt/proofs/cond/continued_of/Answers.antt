use Rattle.std.proofs.Common.{drop}
use Rattle.c_raw.specs.Exprs.{expr_view}
use Rattle.c_stmt.proofs.Conds.{continued_end, continued_deep, continued_link}
use Rattle.c_stmt.proofs.cond.continued_of.Goals as goal

pub returns-in_default-clause-reads : goal.returns-in_default-clause-reads
returns-in_default-clause-reads c = rw c.in_ok-test.ensures.expr (continued_end c.args.top c.args.depth c.args.parens.before (expr_view c.args.parens.test) c.args.parens.after (drop c.args.at c.args.cursor.now.tokens) c.args.parens.left c.in_default.ensures.0)

pub returns-then-parens-eq0-clause-reads : goal.returns-then-parens-eq0-clause-reads
returns-then-parens-eq0-clause-reads c = continued_deep c.args.top c.args.depth c.args.parens.before (expr_view c.args.parens.test) c.args.parens.after (drop c.args.at c.args.cursor.now.tokens) c.args.parens.left c.if-parens-eq0.true c.in-Some.ensures.0

pub returns-clause-reads : goal.returns-clause-reads
returns-clause-reads c = rw (continued_link c.args.top c.args.depth c.args.parens.before (expr_view c.args.parens.test) c.args.parens.after (drop c.args.at c.args.cursor.now.tokens) c.args.parens.left c.if-parens-eq0.false c.in-Some.ensures.0, c.in-Some.ensures.1) c.linked_of.ensures.reads
