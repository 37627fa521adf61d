use Rattle.std.proofs.Common.{◌≡◌, true, false, drop, rules}
use Rattle.c_reading.specs.Reader.{begins}
use Rattle.c_reading.specs.ReadFile.{is_inside}
use Rattle.c_parse.proofs.Directives.{inside_more, inside_end}
use Rattle.c_parse.proofs.directive.inside_token.Goals as goal

pub returns-then-not-is_inside : goal.returns-then-not-is_inside
returns-then-not-is_inside c =
    let none : begins (is_inside c.args.line) (drop c.args.at c.args.cursor.now.tokens) ≡ false = first_of (cc, search rules) in
    inside_end c.args.line (drop c.args.at c.args.cursor.now.tokens) none

pub returns : goal.returns
returns c =
    let more : begins (is_inside c.args.line) (drop c.args.at c.args.cursor.now.tokens) ≡ true = first_of (cc, search rules) in
    rw (inside_more c.args.line (drop c.args.at c.args.cursor.now.tokens) more) c.token.ensures
