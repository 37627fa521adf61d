use Rattle.std.proofs.Common.{◌≡◌, true, false, drop, inl, inr, rules}
use Rattle.c_reading.specs.Reader.{begins}
use Rattle.c_reading.specs.ReadSimple.{is_paren}
use Rattle.c_stmt.proofs.Conds.{second_plain, second_paren}
use Rattle.c_stmt.proofs.cond.second_of.Goals as goal

pub returns-then-depth-eq0-clause-reads : goal.returns-then-depth-eq0-clause-reads
returns-then-depth-eq0-clause-reads c = rw (c.in-Some.is, second_plain c.in-Some.digit c.args.depth c.args.budget (drop c.args.at c.args.cursor.now.tokens) (inl c.if-depth-eq0.true)) c.plain_second_of-then-depth-eq0.ensures.reads

pub returns-then-is_sign-clause-reads : goal.returns-then-is_sign-clause-reads
returns-then-is_sign-clause-reads c =
    let more : begins is_paren (drop c.args.at c.args.cursor.now.tokens) ≡ true = first_of (cc, search rules) in
    rw (c.in-Some.is, second_paren c.in-Some.digit c.args.depth c.args.budget (drop c.args.at c.args.cursor.now.tokens) c.if-depth-eq0.false more) c.paren_second_of.ensures.reads

pub returns-clause-reads : goal.returns-clause-reads
returns-clause-reads c =
    let none : begins is_paren (drop c.args.at c.args.cursor.now.tokens) ≡ false = first_of (cc, search rules) in
    rw (c.in-Some.is, second_plain c.in-Some.digit c.args.depth c.args.budget (drop c.args.at c.args.cursor.now.tokens) (inr none)) c.plain_second_of-2.ensures.reads
