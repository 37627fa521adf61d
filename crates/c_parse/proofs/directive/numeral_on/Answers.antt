use Rattle.std.proofs.Common.{◌≡◌, eqb, true, false, drop, rules}
use Rattle.c_reading.specs.Read.{numeral_of}
use Rattle.c_cursor.specs.Seen.{spot_at}
use Rattle.c_parse.proofs.Directives.{on, off}
use Rattle.c_parse.proofs.directive.numeral_on.Goals as goal

pub returns-then-not-is_on : goal.returns-then-not-is_on
returns-then-not-is_on c =
    let none : eqb (spot_at c.args.cursor.now.end (drop c.args.at c.args.cursor.now.tokens)).line c.args.line ≡ false = first_of (cc, search rules) in
    off c.args.line numeral_of c.args.cursor.now.end (drop c.args.at c.args.cursor.now.tokens) none

pub returns : goal.returns
returns c =
    let here : eqb (spot_at c.args.cursor.now.end (drop c.args.at c.args.cursor.now.tokens)).line c.args.line ≡ true = first_of (cc, search rules) in
    rw (on c.args.line numeral_of c.args.cursor.now.end (drop c.args.at c.args.cursor.now.tokens) here) c.numeral.ensures
