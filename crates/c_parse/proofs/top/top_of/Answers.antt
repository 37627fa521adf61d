use Rattle.std.proofs.Common.{◌≡◌, true, false, drop, rules}
use Rattle.c_grammar.specs.declared.sign.Sign.TheVariants as s
use Rattle.c_reading.specs.Reader.{begins}
use Rattle.c_reading.specs.Read.{is_sign}
use Rattle.c_parse.proofs.Tops.{top_directive, top_declared}
use Rattle.c_parse.proofs.top.top_of.Goals as goal

pub returns-then-is_sign : goal.returns-then-is_sign
returns-then-is_sign c =
    let more : begins (is_sign s.Hash) (drop c.args.at c.args.cursor.now.tokens) ≡ true = first_of (cc, search rules) in
    rw (top_directive (drop c.args.at c.args.cursor.now.tokens) more) c.directive_of.ensures

pub returns : goal.returns
returns c =
    let none : begins (is_sign s.Hash) (drop c.args.at c.args.cursor.now.tokens) ≡ false = first_of (cc, search rules) in
    rw (top_declared (drop c.args.at c.args.cursor.now.tokens) none) c.declared_top_of.ensures
