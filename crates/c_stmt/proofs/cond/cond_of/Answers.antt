use Rattle.std.proofs.Common.{◌≡◌, true, false, drop, inl, inr, rules}
use Rattle.c_reading.specs.Reader.{begins}
use Rattle.c_reading.specs.ReadSimple.{is_paren}
use Rattle.c_stmt.proofs.Conds.{cond_plain, cond_paren}
use Rattle.c_stmt.proofs.cond.cond_of.Goals as goal

pub returns-then-depth-eq0 : goal.returns-then-depth-eq0
returns-then-depth-eq0 c = rw (cond_plain c.args.depth (drop c.args.at c.args.cursor.now.tokens) (inl c.if-depth-eq0.true)) c.plain_cond_of.ensures

pub returns-then-is_sign : goal.returns-then-is_sign
returns-then-is_sign c =
    let more : begins is_paren (drop c.args.at c.args.cursor.now.tokens) ≡ true = first_of (cc, search rules) in
    rw (cond_paren c.args.depth (drop c.args.at c.args.cursor.now.tokens) c.if-depth-eq0.false more) c.paren_cond_of.ensures

pub returns : goal.returns
returns c =
    let none : begins is_paren (drop c.args.at c.args.cursor.now.tokens) ≡ false = first_of (cc, search rules) in
    rw (cond_plain c.args.depth (drop c.args.at c.args.cursor.now.tokens) (inr none)) c.plain_cond_of-2.ensures
