use Rattle.std.proofs.Common.{◌≡◌, true, false, drop, inl, inr, rules}
use Rattle.c_reading.specs.Reader.{begins}
use Rattle.c_reading.specs.ReadSimple.{is_paren}
use Rattle.c_stmt.proofs.Conds.{inner_plain, inner_paren}
use Rattle.c_stmt.proofs.cond.inner_of.Goals as goal

pub returns-then-depth-eq0-clause-reads : goal.returns-then-depth-eq0-clause-reads
returns-then-depth-eq0-clause-reads c = rw (inner_plain c.args.depth (drop c.args.at c.args.cursor.now.tokens) (inl c.if-depth-eq0.true)) c.plain_inner_of.ensures.reads

pub returns-then-is_sign-clause-reads : goal.returns-then-is_sign-clause-reads
returns-then-is_sign-clause-reads c =
    let more : begins is_paren (drop c.args.at c.args.cursor.now.tokens) ≡ true = first_of (cc, search rules) in
    rw (inner_paren c.args.depth (drop c.args.at c.args.cursor.now.tokens) c.if-depth-eq0.false more) c.paren_inner_of.ensures.reads

pub returns-clause-reads : goal.returns-clause-reads
returns-clause-reads c =
    let none : begins is_paren (drop c.args.at c.args.cursor.now.tokens) ≡ false = first_of (cc, search rules) in
    rw (inner_plain c.args.depth (drop c.args.at c.args.cursor.now.tokens) (inr none)) c.plain_inner_of-2.ensures.reads
